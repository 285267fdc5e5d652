use Rattle.lemonrudder.specs.Declares.{OnOperation}
use Rattle.lemonrudder.proofs.exports.catalogue.fn.lr_catalogue_operation.catalogue.Given as goal

abbrev pub ensures : goal.ensures
ensures l r = OnOperation l.key.entry.now l.name.entry.now l.arguments.entry.now l.results.entry.now l.catalogue.entry.now l.catalogue.exit.now r
