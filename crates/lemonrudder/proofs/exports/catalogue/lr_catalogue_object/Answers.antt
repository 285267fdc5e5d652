use Rattle.std.proofs.Common.{rules, subst}
use Rattle.lemonrudder.specs.Fills.{OnObject}
use Rattle.lemonrudder.proofs.Doors.{by_catalogue}
use Rattle.lemonrudder.proofs.exports.catalogue.lr_catalogue_object.Goals as goal

pub returns : goal.returns
returns c = by_catalogue (OnObject c.args.key.now) _ _ _ _ c.catalogue.ensures (search rules) (λ s t r did. subst (λ y. OnObject c.args.key.now y t r) did.shows (subst (λ y. OnObject c.args.key.now did.shown.now y r) did.leaves (search rules)))
