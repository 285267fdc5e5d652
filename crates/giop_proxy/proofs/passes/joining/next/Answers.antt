use Rattle.std.proofs.lemmas.Result.{IfOk-weaker}
use Rattle.giop_proxy.specs.PassingPrivate.{entries}
use Rattle.giop_proxy.proofs.PassingJoins.{next-goes, next-over, next-over-last, next-stray}
use Rattle.giop_proxy.proofs.passes.joining.next.Goals as goal

pub returns-then-fragment-clause-step : goal.returns-then-fragment-clause-step
returns-then-fragment-clause-step c =
    next-over c.args.limits.now c.args.fragment (entries c.args.parts.now.items) c.args.passed.now.items c.as_slice.result.now c.key_of-key.result c.is_passed.result c.key_of-key.ensures c.requires.fresh c.as_slice.ensures.value c.is_passed.ensures
    c.if-is_passed.true c.if-fragment.true

pub returns-then-is_passed-clause-step : goal.returns-then-is_passed-clause-step
returns-then-is_passed-clause-step c =
    next-over-last c.args.limits.now c.args.fragment (entries c.args.parts.now.items) c.args.passed.now.items c.as_slice.result.now c.key_of-key.result c.is_passed.result c.key_of-key.ensures c.requires.fresh c.as_slice.ensures.value c.is_passed.ensures
    c.forget.new.passed.items c.if-is_passed.true c.if-fragment.false c.forget.ensures

pub returns-in-Some-clause-step : goal.returns-in-Some-clause-step
returns-in-Some-clause-step c =
    IfOk-weaker c.go_on.result _ _
    (λ t s. next-goes c.args.limits.now c.args.fragment (entries c.args.parts.now.items) c.args.passed.now.items c.as_slice.result.now c.key_of-key.result c.is_passed.result c.key_of-key.ensures c.requires.fresh c.as_slice.ensures.value c.is_passed.ensures
    c.in-Some.message (entries c.take_from.new.parts.items) t (entries c.go_on.new.parts.items) c.go_on.new.passed.items c.if-is_passed.false c.in-Some.ensures.found c.in-Some.ensures.rest s) c.go_on.ensures.step

pub returns-in-None-clause-step : goal.returns-in-None-clause-step
returns-in-None-clause-step c =
    next-stray c.args.limits.now c.args.fragment (entries c.args.parts.now.items) c.args.passed.now.items c.as_slice.result.now c.key_of-key.result c.is_passed.result c.key_of-key.ensures c.requires.fresh c.as_slice.ensures.value c.is_passed.ensures
    c.at_fault.result (entries c.take_from.new.parts.items) c.if-is_passed.false c.in-None.ensures.found c.in-None.ensures.rest c.at_fault.ensures.told
