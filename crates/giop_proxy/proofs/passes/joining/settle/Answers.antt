use Rattle.std.proofs.Common.{sym, ◌∙◌, arith}
use Rattle.std.proofs.lemmas.Result.{IfOk-weaker}
use Rattle.giop_proxy.specs.PassingMessages.{has_id}
use Rattle.giop_proxy.specs.PassingPrivate.{entries}
use Rattle.giop_proxy.proofs.PassingJoins.{long-at, settles-by, settles-short}
use Rattle.giop_proxy.proofs.passes.joining.settle.Goals as goal

pub returns-then-lacks_id-clause-step : goal.returns-then-lacks_id-clause-step
returns-then-lacks_id-clause-step c =
    settles-short c.args.limits.now c.args.message (entries c.args.parts.now.items) c.args.passed.now.items c.role_of-role.result c.as_slice.result.now c.lacks_id.result c.at_fault.result c.role_of-role.ensures c.requires.fresh c.as_slice.ensures.value c.lacks_id.ensures c.if-lacks_id.true c.at_fault.ensures.told

pub settle_as-requires-clause-long : goal.settle_as-requires-clause-long
settle_as-requires-clause-long c = λ t. omega (arith, long-at c.args.message.octets.items c.as_slice.result.now (has_id c.role_of-role.result c.args.message.header.version) c.as_slice.ensures.value (sym c.if-lacks_id.false ∙ c.lacks_id.ensures) t)

pub returns-clause-step : goal.returns-clause-step
returns-clause-step c =
    IfOk-weaker c.settle_as.result _ _
    (λ t s. settles-by c.args.limits.now c.args.message (entries c.args.parts.now.items) c.args.passed.now.items c.role_of-role.result c.as_slice.result.now c.lacks_id.result t (entries c.settle_as.new.parts.items) c.settle_as.new.passed.items c.role_of-role.ensures c.as_slice.ensures.value c.lacks_id.ensures c.if-lacks_id.false s)
    c.settle_as.ensures.step
