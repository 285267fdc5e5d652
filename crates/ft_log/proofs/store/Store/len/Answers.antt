use Rattle.std.proofs.Common.{◌∙◌, sym, arith}
use Rattle.std.proofs.lemmas.List.{length-map}
use Rattle.ft_log.specs.Dues.{dues}
use Rattle.ft_log.specs.Logged.{logged}
use Rattle.ft_log.specs.View.{entry_in}
use Rattle.ft_log.proofs.Entries.{length_sum}
use Rattle.ft_log.proofs.store.Store.len.Goals as goal

pub returns-clause-length : goal.returns-clause-length
unfolding logged
returns-clause-length c =
    let s = c.args.self.now in
    c.len.ensures ∙ sym (length_sum (dues s.order)) ∙ s.dated (λ _. 1) ∙ length_sum s.story.entries ∙ sym (length-map s.story.entries entry_in)

pub returns-clause-bound : goal.returns-clause-bound
unfolding logged
returns-clause-bound c =
    let s = c.args.self.now in
    let same = sym (length_sum (dues s.order)) ∙ s.dated (λ _. 1) ∙ length_sum s.story.entries in
    omega (arith, c.len.ensures, same, s.within)
