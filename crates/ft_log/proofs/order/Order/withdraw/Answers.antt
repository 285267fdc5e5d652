use Rattle.std.proofs.Common.{◌+◌, ap, ◌∙◌}
use Rattle.ft_log.proofs.order.Order.withdraw.Goals as goal

pub returns-clause-out : goal.returns-clause-out
returns-clause-out c =
    let out = c.withdraw.ensures.out in
    record { due = out.due; of_key = out.of_key; sums = λ f. ap (λ n. n + f out.due) (c.tidy.ensures.sums f) ∙ out.sums f }
