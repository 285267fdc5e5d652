use Rattle.std.proofs.Common.{rules, subst}
use Rattle.lemonrudder.specs.Fills.{OnRawObject}
use Rattle.lemonrudder.proofs.Doors.{by_catalogue}
use Rattle.lemonrudder.proofs.exports.catalogue.lr_catalogue_raw_object.Goals as goal

pub returns : goal.returns
returns c = by_catalogue (OnRawObject c.args.key.now) _ _ _ _ c.catalogue.ensures (search rules) (λ s t r did. subst (λ y. OnRawObject c.args.key.now y t r) did.shows (subst (λ y. OnRawObject c.args.key.now did.shown.now y r) did.leaves (search rules)))
