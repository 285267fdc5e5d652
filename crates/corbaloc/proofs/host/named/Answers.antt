use Rattle.std.proofs.Common.{subst, sym, ◌∙◌}
use Rattle.std.proofs.lemmas.Bool.{false≢true}
use Rattle.corbaloc.specs.Grammar.{is_of_name, IsHostOf}
use Rattle.corbaloc.proofs.Cuts.{until_once}
use Rattle.corbaloc.proofs.Exits.{unless}
use Rattle.corbaloc.proofs.host.named.Goals as goal

pub returns-clause-none : goal.returns-clause-none
returns-clause-none c =
    unless c.is_name.result c.until.result c.then_some.result c.then_some.ensures (λ no host behind until h.
    let same = (until_once 58 c.args.text.now host behind c.until.result.0.now c.until.result.1.now until c.until.ensures).0 in
    false≢true (sym no ∙ c.is_name.ensures.1 (subst (IsHostOf is_of_name) same h)))
