use Rattle.std.proofs.Common.{sym, ◌∙◌}
use Rattle.giop_proxy.proofs.Requesting.{principal-none, principal-some}
use Rattle.giop_proxy.proofs.fields.principal_size.Goals as goal

pub returns-then-is_empty-clause-size : goal.returns-then-is_empty-clause-size
returns-then-is_empty-clause-size c = principal-none c.args.place c.args.body.now (sym c.is_empty.ensures ∙ c.if-is_empty.true)

pub returns-clause-size : goal.returns-clause-size
returns-clause-size c = principal-some c.args.place c.args.body.now (sym c.is_empty.ensures ∙ c.if-is_empty.false)
