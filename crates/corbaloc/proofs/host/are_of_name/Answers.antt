use Rattle.std.proofs.Common.{rules, tests}
use Rattle.std.proofs.lemmas.Iterator.{YieldsList-from_slice}
use Rattle.std.proofs.lemmas.Iterator.Search.{all_from_yields_List}
use Rattle.corbaloc.specs.Grammar.{is_of_name}
use Rattle.corbaloc.proofs.host.are_of_name.Goals as goal

pub returns : goal.returns
returns c = all_from_yields_List is_of_name _ _ c.all.result c.all.ensures.ran (YieldsList-from_slice c.args.octets.now cc) (λ x b q k. search (rules, tests))
