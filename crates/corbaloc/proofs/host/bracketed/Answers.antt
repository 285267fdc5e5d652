use Rattle.std.proofs.Common.{subst, sym, ◌∙◌}
use Rattle.std.proofs.lemmas.Bool.{false≢true}
use Rattle.corbaloc.specs.Grammar.{is_of_ipv6, IsHostOf}
use Rattle.corbaloc.proofs.Cuts.{cut_once, free_not_cut}
use Rattle.corbaloc.proofs.Exits.{at_none, unless}
use Rattle.corbaloc.proofs.host.bracketed.Goals as goal

pub returns-in_err-host-clause-none : goal.returns-in_err-host-clause-none
returns-in_err-host-clause-none c =
    at_none c.from_residual.result (λ host behind cut h. free_not_cut 93 c.args.inside.now host behind c.in_err-host.ensures cut)

pub returns-clause-none : goal.returns-clause-none
returns-clause-none c =
    unless c.is_ipv6.result (c.in_ok-host.host, c.in_ok-host.behind) c.then_some.result c.then_some.ensures (λ no host behind cut h.
    let same = (cut_once 93 c.args.inside.now host behind c.in_ok-host.host.now c.in_ok-host.behind.now cut c.in_ok-host.ensures).0 in
    false≢true (sym no ∙ c.is_ipv6.ensures.1 (subst (IsHostOf is_of_ipv6) same h)))
