use Rattle.std.proofs.Common.{◌≡◌, ◌+◌, ◌≤◌, true, false, take, drop, length, is_ok, Result, Ok, Err, refl, sym, ◌∙◌, arith}
use Rattle.std.proofs.lemmas.Simd.{length-chunk}
use Rattle.std.specs.Result.{is_err}
use Rattle.hex.proofs.HexLemmas.{decode_of-ok}
use Rattle.digits.proofs.Runs.{block_read, nothing_read, read_on}
use Rattle.digits.proofs.reading.read_blocks.Goals as goal

appends : {A B : Type 0} (r : Result A B) → is_err r ≡ false → is_ok r ≡ true
appends (Ok x) e = refl
appends (Err x) e = cc e

pub loop-at-init : goal.loop-at-init
loop-at-init c = record {
  from = omega arith;
  within = c.requires.from;
  few = c.requires.few;
  room = omega arith;
  read = nothing_read c.args.text.now c.args.from c.args.octets.now.items;
}

pub loop-at-preserved : goal.loop-at-preserved
loop-at-preserved c =
    let text = c.args.text.now in
    let i = c.loop-at.invariant in
    let at = c.loop-at.at in
    let within : at + 32 ≤ length text = omega (arith, c.loop-at-test.true) in
    let read = c.in-Some.ensures in
    let sizes = decode_of-ok (take 32 (drop at text)) c.in-Some.block read in
    let size : length c.in-Some.block ≡ 16 = omega (arith, sizes.2, length-chunk at 32 text within) in
    let ok = appends c.extend_from_slice.result (sym c.is_err.ensures.value ∙ c.if-is_err.false) in
    record {
      from = omega (arith, i.from);
      within = within;
      few = omega (arith, i.few, size, rw ok at c.extend_from_slice.ensures.len);
      room = omega (arith, i.room, c.extend_from_slice.ensures.capacity);
      read = rw (rw ok at c.extend_from_slice.ensures.items) (read_on text c.args.from at (at + 32) _ c.loop-at.octets.items _ i.read (block_read text at c.loop-at.octets.items c.in-Some.block read));
    }
