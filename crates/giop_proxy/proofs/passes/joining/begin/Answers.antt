use Rattle.std.proofs.Common.{refl, arith}
use Rattle.giop_proxy.specs.PassingPrivate.{entries}
use Rattle.giop_proxy.proofs.PassingJoins.{begins-fault, begins-quiet}
use Rattle.giop_proxy.proofs.passes.joining.begin.Goals as goal

pub returns-in_ok-add-in-Some-clause-step : goal.returns-in_ok-add-in-Some-clause-step
returns-in_ok-add-in-Some-clause-step c =
    begins-fault c.args.limits.now c.args.message (entries c.args.parts.now.items) c.args.passed.now.items c.forget.new.passed.items c.take_from.new.parts.items c.key_of-key.result c.len.result c.key_of-key.ensures c.requires.fresh c.take_from.ensures.rest c.forget.ensures (omega (arith, c.len.ensures))
    c.at_fault.result c.in-Some.fault c.add.new.passed.items c.in-Some.ensures c.in_ok-add-in-Some.ensures c.at_fault.ensures.told

pub returns-in_ok-push-in-None-clause-step : goal.returns-in_ok-push-in-None-clause-step
returns-in_ok-push-in-None-clause-step c =
    begins-quiet c.args.limits.now c.args.message (entries c.args.parts.now.items) c.args.passed.now.items c.forget.new.passed.items c.take_from.new.parts.items c.key_of-key.result c.len.result c.key_of-key.ensures c.requires.fresh c.take_from.ensures.rest c.forget.ensures (omega (arith, c.len.ensures))
    c.push.new.self.items _ c.in-None.ensures c.in_ok-push-in-None.ensures.items refl refl
