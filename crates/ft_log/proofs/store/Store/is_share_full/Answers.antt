use Rattle.std.proofs.Common.{◌∙◌, sym, arith}
use Rattle.std.proofs.lemmas.Bool.Decides.{nat_tests}
use Rattle.ft_log.specs.Logged.{logged}
use Rattle.ft_log.proofs.store.Store.is_share_full.Goals as goal

pub returns-then-counts_clients-clause-no : goal.returns-then-counts_clients-clause-no
unfolding logged
returns-then-counts_clients-clause-no c = λ no.
    let s = c.args.self.now in
    let held = c.count_of.ensures ∙ s.counted (sym c.counts_clients.ensures ∙ c.if-counts_clients.true) c.args.client_id.now in
    let within = s.shared c.args.client_id.now in
    grind (arith, nat_tests)
