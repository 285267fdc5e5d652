use Rattle.std.proofs.Common.{sym, ◌∙◌}
use Rattle.giop_proxy.proofs.Ending.{begun-none, begun-some}
use Rattle.giop_proxy.proofs.finishing.begun_at.Goals as goal

pub returns-then-is_empty : goal.returns-then-is_empty
returns-then-is_empty c = begun-none c.args.version c.args.end c.args.body.now (sym c.is_empty.ensures ∙ c.if-is_empty.true)

pub returns : goal.returns
returns c = c.begins_at.ensures ∙ begun-some c.args.version c.args.end c.args.body.now (sym c.is_empty.ensures ∙ c.if-is_empty.false)
