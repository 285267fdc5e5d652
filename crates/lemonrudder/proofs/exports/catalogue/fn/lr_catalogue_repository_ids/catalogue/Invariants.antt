use Rattle.lemonrudder.specs.Identifies.{OnRepositoryIds}
use Rattle.lemonrudder.proofs.exports.catalogue.fn.lr_catalogue_repository_ids.catalogue.Given as goal

abbrev pub ensures : goal.ensures
ensures l r = OnRepositoryIds l.key.entry.now l.ids.entry.now l.catalogue.entry.now l.catalogue.exit.now r
