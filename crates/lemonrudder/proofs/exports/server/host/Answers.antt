use Rattle.lemonrudder.proofs.Hosting.{hosts_new}
use Rattle.lemonrudder.proofs.exports.server.host.Goals as goal

pub returns : goal.returns
returns c = hosts_new _ _ _ _ _ _ c.in-Catalogue.is c.replace-families.ensures.value c.new-2.ensures.limited c.new-2.ensures.seed c.new-3.ensures
