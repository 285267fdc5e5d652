use Rattle.std.proofs.Common.{◌≡◌, ◌+◌, ◌-◌, ◌*◌, length, refl, sym, ap, ◌∙◌, arith}
use Rattle.std.proofs.lemmas.List.{take_all}
use Rattle.hex.specs.Hex.{encode_lower, encode_with}
use Rattle.digits.proofs.Written.{block_written}
use Rattle.digits.proofs.writing.write_blocks.Goals as goal

pub loop-at-init : goal.loop-at-init
unfolding encode_with
loop-at-init c = record { within = omega arith; long = c.requires.room; written = refl }

pub loop-at-preserved : goal.loop-at-preserved
loop-at-preserved c =
    let i = c.loop-at.invariant in
    let at = c.loop-at.at in
    record {
      within = omega (arith, c.loop-at-test.true);
      long = c.write_block.ensures.long ∙ i.long;
      written = block_written c.args.octets.now c.loop-at.digits c.write_block.new.digits at at (omega arith) i.written c.write_block.ensures.written;
    }

pub returns : goal.returns
returns c =
    let octets = c.args.octets.now in
    let digits = c.write_block-2.new.digits in
    let last = length octets - 16 in
    let end : last + 16 ≡ length octets = omega (arith, c.requires.some) in
    let long : length digits ≡ 2 * length octets = c.write_block-2.ensures.long ∙ c.loop-at.invariant.long in
    let written = rw end at (block_written octets c.loop-at.digits digits last c.loop-at.at (omega (arith, c.loop-at-test.false)) c.loop-at.invariant.written c.write_block-2.ensures.written) in
    sym (take_all (2 * length octets) digits (omega (arith, long))) ∙ written ∙ ap encode_lower (take_all (length octets) octets (omega arith))
