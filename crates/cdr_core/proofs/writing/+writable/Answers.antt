use Rattle.std.proofs.Common.{rules, ap, ◌∙◌}
use Rattle.cdr_core.proofs.Tests.{each_failed, each_held, each_passed, same}
use Rattle.cdr_core.proofs.Views.{value_of-Struct}
use Rattle.cdr_core.specs.View.{value_of, values_of}
use Rattle.cdr_core.specs.Writing.{AreWritable, IsWritable}
use Rattle.cdr_core.specs.declared.values.Val.{Val}
use Rattle.cdr_core.specs.declared.values.Val.{the_lemmas}
use Rattle.cdr_core.proofs.writing.+writable.Goals as goal

pub are_writable-loop-value-init : goal.are_writable-loop-value-init
are_writable-loop-value-init t c = same (AreWritable (values_of c.args.all.now))

pub are_writable-loop-value-preserved : goal.are_writable-loop-value-preserved
are_writable-loop-value-preserved t c =
    each_passed Val (AreWritable (values_of c.args.all.now)) (λ v. IsWritable (value_of v)) (λ vs. AreWritable (values_of vs)) c.args.all.now c.loop-value.value-index c.value-item.result c.writable.result
    (λ vs. same (IsWritable (value_of c.value-item.result) × AreWritable (values_of vs))) c.loop-value-test.true c.value-item.is c.writable.ensures c.if-not-writable.false c.loop-value.invariant

pub are_writable-returns-then-not-writable : goal.are_writable-returns-then-not-writable
are_writable-returns-then-not-writable t c =
    each_failed Val (AreWritable (values_of c.args.all.now)) (λ v. IsWritable (value_of v)) (λ vs. AreWritable (values_of vs)) c.args.all.now c.loop-value.value-index c.value-item.result c.writable.result
    (λ vs. same (IsWritable (value_of c.value-item.result) × AreWritable (values_of vs))) c.loop-value-test.true c.value-item.is c.writable.ensures c.if-not-writable.true c.loop-value.invariant

pub are_writable-returns : goal.are_writable-returns
are_writable-returns t c =
    each_held Val (AreWritable (values_of c.args.all.now)) (λ vs. AreWritable (values_of vs)) c.args.all.now c.loop-value.value-index tt c.loop-value-test.false c.loop-value.invariant

pub writable-returns-in-Struct : goal.writable-returns-in-Struct
writable-returns-in-Struct t c =
    rw (ap value_of c.in-Struct.is ∙ value_of-Struct c.in-Struct.all) (rw c.deref-in-Struct.ensures.value at c.are_writable.ensures)

pub are_writable-writable-requires : goal.are_writable-writable-requires
are_writable-writable-requires t c = search (rules, the_lemmas)

pub writable-are_writable-requires : goal.writable-are_writable-requires
writable-are_writable-requires t c = search (rules, the_lemmas)

pub writable-writable-requires : goal.writable-writable-requires
writable-writable-requires t c = search (rules, the_lemmas)

pub writable-writable-requires-in-Union-default-Some : goal.writable-writable-requires-in-Union-default-Some
writable-writable-requires-in-Union-default-Some t c = search (rules, the_lemmas)

pub writable-writable-requires-then-writable : goal.writable-writable-requires-then-writable
writable-writable-requires-then-writable t c = search (rules, the_lemmas)

pub writable-are_writable-requires-then-is_countable : goal.writable-are_writable-requires-then-is_countable
writable-are_writable-requires-then-is_countable t c = search (rules, the_lemmas)

pub writable-returns-then-len : goal.writable-returns-then-len
writable-returns-then-len t c = search (rules, the_lemmas)

pub writable-returns-else-len : goal.writable-returns-else-len
writable-returns-else-len t c = search (rules, the_lemmas)

pub writable-returns-in-Octets : goal.writable-returns-in-Octets
writable-returns-in-Octets t c = search (rules, the_lemmas)

pub writable-returns-in-Union-default-None : goal.writable-returns-in-Union-default-None
writable-returns-in-Union-default-None t c = search (rules, the_lemmas)

pub writable-returns-then-writable : goal.writable-returns-then-writable
writable-returns-then-writable t c = search (rules, the_lemmas)

pub writable-returns-else-writable : goal.writable-returns-else-writable
writable-returns-else-writable t c = search (rules, the_lemmas)

pub writable-returns-in_default : goal.writable-returns-in_default
writable-returns-in_default t c = search (rules, the_lemmas)

pub writable-returns-then-is_countable : goal.writable-returns-then-is_countable
writable-returns-then-is_countable t c = search (rules, the_lemmas)

pub writable-returns-else-is_countable : goal.writable-returns-else-is_countable
writable-returns-else-is_countable t c = search (rules, the_lemmas)
