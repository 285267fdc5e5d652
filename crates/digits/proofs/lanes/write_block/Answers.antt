use Rattle.std.proofs.Common.{◌≡◌, ◌+◌, ◌*◌, ◌++◌, arith}
use Rattle.std.proofs.lemmas.Simd.{length-chunk, take_more_put_chunk}
use Rattle.std.specs.Simd.Lanes.{chunk, pick_l}
use Rattle.hex.specs.Hex.{encode_lower, lower_digits}
use Rattle.hex.proofs.HexLemmas.{length-encode_with}
use Rattle.digits.proofs.Written.{both_are, in_turn}
use Rattle.digits.proofs.lanes.write_block.Goals as goal

pub returns-clause-written : goal.returns-clause-written
returns-clause-written c =
    let at = c.args.at in
    let block = chunk at 16 c.args.octets.now in
    let both : pick_l 0 (c.high_digits.result ++ c.low_digits.result) in_turn ≡ encode_lower block =
    rw (c.high_digits.ensures, c.low_digits.ensures) (both_are block (length-chunk at 16 c.args.octets.now c.requires.within)) in
    rw both (take_more_put_chunk (2 * at) c.args.digits.now (encode_lower block) (2 * (at + 16)) (omega (arith, length-encode_with lower_digits block, length-chunk at 16 c.args.octets.now c.requires.within)) c.requires.room)
