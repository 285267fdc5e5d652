use Rattle.std.proofs.Common.{◌++◌, sym, ap, ◌∙◌}
use Rattle.std.proofs.lemmas.List.{append-nil, drop_all}
use Rattle.std.proofs.lemmas.Result.{err_from_is_err_and}
use Rattle.cdr_core.proofs.Appending.{begins, keeps_both, keeps_more, list_left, list_next}
use Rattle.cdr_core.specs.Writing.{octets_of, octets_of_all, place_in}
use Rattle.ior_core.specs.View.{tagged_value, tagged_values}
use Rattle.ior_core.proofs.tagged.put_each.Goals as goal

pub put-requires-clause-start : goal.put-requires-clause-start
put-requires-clause-start c = begins c.args.writer.now.start c.args.out.now.items c.loop-one.out.items c.requires.start c.loop-one.invariant.keeps

pub put-requires-clause-long : goal.put-requires-clause-long
put-requires-clause-long c =
    let writable = rw (list_next tagged_value c.args.all.now c.loop-one.one-index c.one-item.result c.loop-one-test.true c.one-item.is) at c.loop-one.invariant.writable in
    writable.0.1.0

pub returns-in_err-put : goal.returns-in_err-put
returns-in_err-put c =
    let p = err_from_is_err_and c.from_residual.result c.from_residual.ensures.1 in
    rw (p.1) (keeps_both c.args.out.now.items c.loop-one.out.items c.put.new.out.items c.loop-one.invariant.keeps c.in_err-put.ensures)

pub loop-one-preserved : goal.loop-one-preserved
loop-one-preserved c =
    let w = c.args.writer.now in
    let all = c.args.all.now in
    let i = c.loop-one.one-index in
    let one = c.one-item.result in
    let old = c.args.out.now.items in
    let mid = c.loop-one.out.items in
    let new = c.put.new.out.items in
    let inv = c.loop-one.invariant in
    let writable = rw (list_next tagged_value all i one c.loop-one-test.true c.one-item.is) at inv.writable in
    record {
      keeps = keeps_more old mid new (octets_of w.order (tagged_value one) (place_in w mid)) inv.keeps c.in_ok-put.ensures;
      writable = writable.1;
      whole = list_left tagged_value w all i one mid new c.loop-one-test.true c.one-item.is (begins w.start old mid c.requires.start inv.keeps) c.in_ok-put.ensures ∙ inv.whole;
    }

pub returns : goal.returns
returns c =
    let w = c.args.writer.now in
    let out = c.loop-one.out.items in
    let none = drop_all c.loop-one.one-index c.args.all.now c.loop-one-test.false in
    sym (append-nil out) ∙ sym (ap (λ xs. out ++ octets_of_all w.order (tagged_values xs) (place_in w out)) none) ∙ c.loop-one.invariant.whole
