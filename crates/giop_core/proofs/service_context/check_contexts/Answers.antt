use Rattle.std.proofs.Common.{ℕ, List, [], get_or, map, arith, sym, subst}
use Rattle.std.proofs.lemmas.List.{drop_all}
use Rattle.std.proofs.lemmas.Result.{err_from_is_err_and}
use Rattle.std.specs.Borrow.{Bor}
use Rattle.cdr_core.specs.Value as value
use Rattle.cdr_core.specs.Value.{values}
use Rattle.cdr_core.specs.Writing.{AreWritable}
use Rattle.giop_core.specs.Items.{item_at, list_value}
use Rattle.giop_core.specs.Private.{lent_value}
use Rattle.giop_core.proofs.Longs.{all_long, all_writable, context_long, contexts_long, long_on}
use Rattle.giop_core.proofs.service_context.check_contexts.Goals as goal

pub returns-then-all-gt-LONGEST : goal.returns-then-all-gt-LONGEST
returns-then-all-gt-LONGEST c = contexts_long c.args.all.now c.if-all-gt-LONGEST.true

pub returns-in_err-check_octets : goal.returns-in_err-check_octets
returns-in_err-check_octets c =
    let p = err_from_is_err_and c.from_residual.result c.from_residual.ensures.1 in
    let all = c.args.all.now in
    let n = c.loop-one.one-index in
    let none : ℕ × Bor (List ℕ) = (0, record { ref_ptr = (0, 0); now = [] }) in
    rw (p.1, p.2) (long_on c.in_err-check_octets.field-0.0 (value.octets (get_or all n none).1.now) (list_value (map item_at all)) (λ long. all_long all (c.loop-one.invariant.long (context_long all n none c.loop-one-test.true long))) c.in_err-check_octets.ensures)

pub returns : goal.returns
returns c =
    let all = c.args.all.now in
    let none = drop_all c.loop-one.one-index all c.loop-one-test.false in
    all_writable all (omega (arith, c.if-all-gt-LONGEST.false)) (c.loop-one.invariant.short (subst (λ xs. AreWritable (values (map lent_value xs))) (sym none) tt))
