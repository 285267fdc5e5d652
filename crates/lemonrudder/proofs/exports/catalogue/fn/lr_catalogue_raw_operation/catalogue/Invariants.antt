use Rattle.lemonrudder.specs.Fills.{OnRawOperation}
use Rattle.lemonrudder.proofs.exports.catalogue.fn.lr_catalogue_raw_operation.catalogue.Given as goal

abbrev pub ensures : goal.ensures
ensures l r = OnRawOperation l.key.entry.now l.name.entry.now l.catalogue.entry.now l.catalogue.exit.now r
