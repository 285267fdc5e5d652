use Rattle.std.proofs.Common.{ℕ, ◌+◌, cond, map, sym, ap, ◌∙◌}
use Rattle.cdr_core.specs.Numbers.{padding}
use Rattle.giop_core.specs.Items.{item_at}
use Rattle.ft_client.specs.Keeping.{after_contexts}
use Rattle.ft_client.proofs.Contexts.{end_is}
use Rattle.ft_client.proofs.requests.id_place.Goals as goal

pub returns : goal.returns
returns c = λ order.
    let xs = map item_at c.args.contexts.now in
    let at = after_contexts order xs in
    c.next_multiple_of.ensures.value
    ∙ ap (λ (n : ℕ). n + padding n 4) (c.contexts_end.ensures ∙ end_is order xs)
    ∙ sym (ap (λ b. cond b 12 (at + padding at 4)) (sym c.has_id_first.ensures.is ∙ c.if-has_id_first.false))
