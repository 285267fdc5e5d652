use Rattle.lemonrudder.specs.Families.{OnDefault}
use Rattle.lemonrudder.proofs.exports.catalogue.fn.lr_catalogue_default.catalogue.Given as goal

abbrev pub ensures : goal.ensures
ensures l r = OnDefault l.catalogue.entry.now l.catalogue.exit.now r
