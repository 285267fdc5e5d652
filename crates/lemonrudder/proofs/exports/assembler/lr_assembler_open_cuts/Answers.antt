use Rattle.std.proofs.Common.{Ok, Err, refl, rules}
use Rattle.std.proofs.lemmas.Int.{to_z-of_z}
use mir.Syntax.{w64}
use mir.Val.{SFits}
use Rattle.lemonrudder.proofs.Opening.{in_use, opens_made}
use Rattle.lemonrudder.proofs.exports.assembler.lr_assembler_open_cuts.Goals as goal

pub returns-then-not-is_empty : goal.returns-then-not-is_empty
returns-then-not-is_empty c = let fits : SFits w64 c.number.result = search rules in in_use _ _ _ _ _ _ (to_z-of_z w64 c.number.result fits) c.is_empty.ensures c.if-not-is_empty.true c.number.ensures

pub returns-in-Ok : goal.returns-in-Ok
returns-in-Ok c = let fits : SFits w64 c.open.result = search rules in opens_made _ _ _ _ _ _ _ (Ok c.in-Ok.assembling) (to_z-of_z w64 c.open.result fits) c.is_empty.ensures c.if-not-is_empty.false c.in-Ok.ensures c.open.ensures

pub returns-in-Err : goal.returns-in-Err
returns-in-Err c = let fits : SFits w64 c.number-in-Err.result = search rules in opens_made _ _ _ _ _ _ _ (Err c.in-Err.refusal) (to_z-of_z w64 c.number-in-Err.result fits) c.is_empty.ensures c.if-not-is_empty.false c.in-Err.ensures (c.number-in-Err.ensures, refl)
