use Rattle.std.proofs.Common.{◌≡◌, ◌+◌, drop, ap, ◌∙◌, arith}
use Rattle.cdr_core.specs.Private.{basic_form, basic_size}
use Rattle.cdr_core.proofs.Here.{on_one, padding_next}
use Rattle.cdr_core.proofs.runs.run.Goals as goal

pub loop-preserved : goal.loop-preserved
loop-preserved c =
    let a = c.args in
    let l = c.loop in
    let i = l.invariant in
    let n = basic_size a.kind in
    let size = c.size-in-loop.ensures.is in
    let back : c.split_at.result.1.now ≡ drop n l.rest.now = c.split_at.ensures.back ∙ ap (λ m. drop m l.rest.now) c.size-in-loop-2.ensures.is in
    let place : l.place + c.size-in-loop.result ≡ l.place + n = ap (λ m. l.place + m) size in
    let lt = c.loop-test.true in
    record {
      aligned = rw place (padding_next a.kind l.place i.aligned);
      bound = omega (arith, i.bound, c.split_at.ensures.back_len, size, c.size-in-loop-2.ensures.is);
      long = omega (arith, i.long, c.push_reserved.ensures.len);
      room = omega (arith, i.room, c.push_reserved.ensures.capacity);
      reads = λ m h. rw (c.push_reserved.ensures.items, place, back)
          (on_one (basic_form a.kind) a.order m a.others.items a.place a.octets.now l.all.items l.place l.rest.now c.in-Some.value (l.place + n) (drop n l.rest.now) (i.reads m h) (omega (arith, i.long, lt, h)) (c.in-Some.ensures l.place i.aligned));
    }
