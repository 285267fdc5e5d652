use Rattle.std.proofs.Common.{rules, subst}
use Rattle.lemonrudder.specs.Families.{OnDefault}
use Rattle.lemonrudder.proofs.Doors.{by_catalogue}
use Rattle.lemonrudder.proofs.exports.catalogue.lr_catalogue_default.Goals as goal

pub returns : goal.returns
returns c = by_catalogue OnDefault _ _ _ _ c.catalogue.ensures (search rules) (λ s t r did. subst (λ y. OnDefault y t r) did.shows (subst (λ y. OnDefault did.shown.now y r) did.leaves (search rules)))
