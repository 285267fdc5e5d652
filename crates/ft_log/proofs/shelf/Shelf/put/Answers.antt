use Rattle.std.proofs.Common.{◌+◌, ℕ, ap, ◌∙◌}
use Rattle.std.specs.List.{sum_by}
use Rattle.std.proofs.lemmas.List.Sums.{sum_by_push}
use Rattle.ft_log.specs.Maps.{due_at}
use Rattle.ft_log.specs.declared.name.Name.{Name}
use Rattle.ft_log.specs.declared.shelf.Kept.{Kept}
use Rattle.ft_log.proofs.shelf.Shelf.put.Goals as goal

pub returns-clause-sums : goal.returns-clause-sums
returns-clause-sums c = λ f.
    let last = c.insert.ensures.last in
    let g : Name × Kept → ℕ = λ p. f (due_at p) in
    ap (sum_by g) last.is ∙ sum_by_push g c.args.self.now.outcomes.entries _ ∙ ap (λ k. sum_by g c.args.self.now.outcomes.entries + f (c.args.kept.until, k)) last.of_key
