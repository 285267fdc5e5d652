use Rattle.std.proofs.Common.{rules}
use Rattle.lemonrudder.specs.Swapping.{OnSwap}
use Rattle.lemonrudder.proofs.Pairs.{on_server_and_catalogue}
use Rattle.lemonrudder.proofs.paired.swap.Goals as goal

pub returns : goal.returns
returns c = on_server_and_catalogue OnSwap _ _ _ _ _ _ _ _ c.in-Server.is c.in-Catalogue.is (search rules) c.swap.ensures
