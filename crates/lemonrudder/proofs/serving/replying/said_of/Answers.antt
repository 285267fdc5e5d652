use Rattle.std.proofs.Common.{inr, map, refl}
use Rattle.std.proofs.lemmas.Result.{err_from_is_err_and}
use Rattle.giop_core.specs.Items.{item_at}
use Rattle.lemonrudder.proofs.Handing.{said-is, unsaid-by}
use Rattle.lemonrudder.proofs.serving.replying.said_of.Goals as goal

pub returns : goal.returns
returns c = (
  (map item_at c.in_ok-_contexts._contexts.items, c.in_ok-_contexts.ensures),
  said-is c.args.ticket c.args.order c.args.octets.now _ c.is_empty.result c.is_empty.ensures c.if-is_empty.false refl refl c.in_ok-kept.ensures,
)

pub returns-in_err-_contexts : goal.returns-in_err-_contexts
returns-in_err-_contexts c =
    let p = err_from_is_err_and c.from_residual.result c.from_residual.ensures.1 in
    rw (p.1, p.2) (unsaid-by c.args.order c.args.octets.now c.in_err-_contexts.field-0.0 c.is_empty.result c.is_empty.ensures c.if-is_empty.false c.in_err-_contexts.ensures)

pub returns-in_err-kept : goal.returns-in_err-kept
returns-in_err-kept c =
    let p = err_from_is_err_and c.from_residual-in_err-kept.result c.from_residual-in_err-kept.ensures.1 in
    rw (p.1, p.2) (inr (c.in_err-kept.ensures.0, c.in_err-kept.ensures.1, map item_at c.in_ok-_contexts._contexts.items, c.in_ok-_contexts.ensures))
