use Rattle.std.proofs.Common.{rules, subst}
use Rattle.lemonrudder.specs.Identifies.{OnRepositoryIds}
use Rattle.lemonrudder.proofs.Doors.{by_catalogue}
use Rattle.lemonrudder.proofs.exports.catalogue.lr_catalogue_repository_ids.Goals as goal

pub returns : goal.returns
returns c = by_catalogue (OnRepositoryIds c.args.key.now c.args.ids.now) _ _ _ _ c.catalogue.ensures (search rules) (λ s t r did. subst (λ y. OnRepositoryIds c.args.key.now c.args.ids.now y t r) did.shows (subst (λ y. OnRepositoryIds c.args.key.now c.args.ids.now did.shown.now y r) did.leaves (search rules)))
