use Rattle.std.proofs.Common.{w8}
use Rattle.std.proofs.lemmas.Simd.{chunk-fits, length-chunk}
use Rattle.std.specs.Simd.Lanes.{chunk}
use Rattle.digits.proofs.Blocks.{block_gives}
use Rattle.digits.proofs.lanes.octets_at.Goals as goal

pub returns : goal.returns
returns c =
    let text = c.args.text.now in
    block_gives (chunk c.args.at 32 text) (length-chunk c.args.at 32 text c.requires) (chunk-fits w8 c.args.at 32 text c.type_inv.text) c.if-is_bad-ne0.false
