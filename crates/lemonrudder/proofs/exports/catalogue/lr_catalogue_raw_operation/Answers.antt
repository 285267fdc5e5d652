use Rattle.std.proofs.Common.{rules, subst}
use Rattle.lemonrudder.specs.Fills.{OnRawOperation}
use Rattle.lemonrudder.proofs.Doors.{by_catalogue}
use Rattle.lemonrudder.proofs.exports.catalogue.lr_catalogue_raw_operation.Goals as goal

pub returns : goal.returns
returns c = by_catalogue (OnRawOperation c.args.key.now c.args.name.now) _ _ _ _ c.catalogue.ensures (search rules) (λ s t r did. subst (λ y. OnRawOperation c.args.key.now c.args.name.now y t r) did.shows (subst (λ y. OnRawOperation c.args.key.now c.args.name.now did.shown.now y r) did.leaves (search rules)))
