use Rattle.std.proofs.Common.{◌≡◌, ◌+◌, ◌-◌, ◌≤◌, ◌++◌, length, take, refl, ap, arith, length-append}
use Rattle.cdr_core.specs.Private.{basic_size}
use Rattle.cdr_core.specs.View.{value_of, values_of}
use Rattle.cdr_core.specs.Writing.{octets_of, octets_of_all}
use Rattle.cdr_core.proofs.Following.{run_next}
use Rattle.cdr_core.proofs.Here.{padding_next}
use Rattle.cdr_core.proofs.runs.put_run.Goals as goal

pub loop-value-preserved : goal.loop-value-preserved
loop-value-preserved c =
    let a = c.args in
    let l = c.loop-value in
    let i = l.invariant in
    let old = a.out.now.items in
    let mid = l.out.items in
    let new = c.put.new.out.items in
    let v = c.value-item.result in
    let lt = c.loop-value-test.true in
    let p = a.place + (length mid - length old) in
    let e : new ≡ mid ++ octets_of a.order (value_of v) p = c.if-not-put.ensures.put p i.aligned refl in
    let long : length new ≡ length mid + basic_size a.kind = c.if-not-put.ensures.long refl in
    let kept : length old ≤ length mid = omega (arith, ap length i.whole, length-append old (octets_of_all a.order (values_of (take l.value-index a.all.now)) a.place)) in
    let place : a.place + (length new - length old) ≡ p + basic_size a.kind = omega (arith, long, kept) in
    record {
      done = omega (arith, i.done);
      within = omega (arith, lt);
      aligned = rw place (padding_next a.kind p i.aligned);
      whole = run_next a.order a.place a.all.now l.value-index v old mid new lt c.value-item.is i.whole e;
      capacity = omega (arith, i.capacity, c.put.ensures.capacity);
    }
