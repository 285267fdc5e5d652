use Rattle.lemonrudder.specs.Fills.{OnRawObject}
use Rattle.lemonrudder.proofs.exports.catalogue.fn.lr_catalogue_raw_object.catalogue.Given as goal

abbrev pub ensures : goal.ensures
ensures l r = OnRawObject l.key.entry.now l.catalogue.entry.now l.catalogue.exit.now r
