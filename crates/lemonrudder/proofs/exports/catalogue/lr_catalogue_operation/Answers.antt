use Rattle.std.proofs.Common.{rules, subst}
use Rattle.lemonrudder.specs.Declares.{OnOperation}
use Rattle.lemonrudder.proofs.Doors.{by_catalogue}
use Rattle.lemonrudder.proofs.exports.catalogue.lr_catalogue_operation.Goals as goal

pub returns : goal.returns
returns c = by_catalogue (OnOperation c.args.key.now c.args.name.now c.args.arguments.now c.args.results.now) _ _ _ _ c.catalogue.ensures (search rules) (λ s t r did. subst (λ y. OnOperation c.args.key.now c.args.name.now c.args.arguments.now c.args.results.now y t r) did.shows (subst (λ y. OnOperation c.args.key.now c.args.name.now c.args.arguments.now c.args.results.now did.shown.now y r) did.leaves (search rules)))
