use Rattle.std.proofs.Common.{rules}
use Rattle.lemonrudder.specs.Families.{OnFamilies}
use Rattle.lemonrudder.proofs.Pairs.{on_catalogues}
use Rattle.lemonrudder.proofs.paired.families.Goals as goal

pub returns : goal.returns
returns c = on_catalogues OnFamilies _ _ _ _ _ _ _ _ c.in-Catalogue.is c.in-Catalogue-other.is (search rules) c.take_families.ensures
