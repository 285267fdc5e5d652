use Rattle.lemonrudder.specs.Fills.{OnObject}
use Rattle.lemonrudder.proofs.exports.catalogue.fn.lr_catalogue_object.catalogue.Given as goal

abbrev pub ensures : goal.ensures
ensures l r = OnObject l.key.entry.now l.catalogue.entry.now l.catalogue.exit.now r
