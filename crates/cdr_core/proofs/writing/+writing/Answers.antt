use Rattle.std.proofs.Common.{rules, ◌≡◌, ◌+◌, ◌≤◌, ◌++◌, length, take, drop, refl, sym, ap, subst, ◌∙◌, arith, length-append, vec_capacity}
use Rattle.std.proofs.lemmas.List.{append-nil}
use Rattle.cdr_core.specs.Value as value
use Rattle.cdr_core.specs.View.{held, value_of, values_of}
use Rattle.cdr_core.specs.Writing.{number_octets, octets_of, octets_of_all, place_in, AreWritable}
use Rattle.cdr_core.proofs.Appending.{appended, keeps_both, keeps_more}
use Rattle.cdr_core.proofs.Following.{on_ok, room_two, run_left, run_room, writable_behind}
use Rattle.cdr_core.proofs.Lengths.{left_over, room_left, values_next}
use Rattle.cdr_core.proofs.Views.{count_values_of, value_of-Union}
use Rattle.cdr_core.proofs.writing.+writing.Goals as goal

pub append-returns-in-Some-clause-ok : goal.append-returns-in-Some-clause-ok
append-returns-in-Some-clause-ok t c =
    let w = c.args.writer.now in
    let old = c.args.out.now.items in
    let u = c.in-Union in
    let m = c.in-Some in
    let o = place_in w old in
    let d = value_of u.discriminator.value in
    let ms = value.value (value_of m.member.value) value.no_values in
    let mid = c.append.new.out.items in
    let p = place_in w mid in
    let is : value_of c.args.value.now ≡ value.union d ms = ap value_of u.is ∙ value_of-Union u.discriminator u.member ∙ rw m.is refl in
    let first : mid ≡ old ++ octets_of w.order d o = c.in_ok-append-in-Union.ensures.ok ∙ ap (λ v. old ++ octets_of w.order (value_of v) o) c.deref-in-Union.ensures in
    rw is (on_ok c.append-in-Some.result (λ e.
    let second : c.append-in-Some.new.out.items ≡ mid ++ octets_of_all w.order ms p =
    e ∙ ap (λ v. mid ++ octets_of w.order (value_of v) p) c.deref-in-Some.ensures ∙ ap (λ xs. mid ++ xs) (sym (append-nil (octets_of w.order (value_of m.member.value) p))) in
    appended w.at w.start old (octets_of w.order d o) mid c.append-in-Some.new.out.items (octets_of_all w.order ms) c.requires.start first second) c.append-in-Some.ensures.ok)

pub append-returns-in-Some-clause-succeeds : goal.append-returns-in-Some-clause-succeeds
append-returns-in-Some-clause-succeeds t c le =
    let w = c.args.writer.now in
    let old = c.args.out.now.items in
    let u = c.in-Union in
    let m = c.in-Some in
    let o = place_in w old in
    let d = value_of u.discriminator.value in
    let ms = value.value (value_of m.member.value) value.no_values in
    let mid = c.append.new.out.items in
    let p = place_in w mid in
    let is : value_of c.args.value.now ≡ value.union d ms = ap value_of u.is ∙ value_of-Union u.discriminator u.member ∙ rw m.is refl in
    let first : mid ≡ old ++ octets_of w.order d o = c.in_ok-append-in-Union.ensures.ok ∙ ap (λ v. old ++ octets_of w.order (value_of v) o) c.deref-in-Union.ensures in
    let le' = rw is at le in
    let two : length mid + length (octets_of_all w.order ms p) ≤ vec_capacity c.append.new.out = room_two w.at w.start (vec_capacity c.args.out.now) (vec_capacity c.append.new.out) old (octets_of w.order d o) mid (octets_of_all w.order ms) c.requires.start first c.append.ensures.capacity le' in
    let one : length (octets_of_all w.order ms p) ≡ length (octets_of w.order (value_of m.member.value) p) = ap length (append-nil (octets_of w.order (value_of m.member.value) p)) in
    let same : length (octets_of w.order (value_of c.deref-in-Some.result.now) p) ≡ length (octets_of w.order (value_of m.member.value) p) = ap (λ v. length (octets_of w.order (value_of v) p)) c.deref-in-Some.ensures in
    c.append-in-Some.ensures.succeeds (omega (arith, two, one, same))

pub append_sequence-returns-clause-ok : goal.append_sequence-returns-clause-ok
append_sequence-returns-clause-ok t c =
    let w = c.args.writer.now in
    let old = c.args.out.now.items in
    let vs = values_of c.args.all.now in
    let first : c.add_number.new.out.items ≡ old ++ number_octets w.order 4 (place_in w old) (value.count vs) = search (rules, count_values_of) in
    on_ok c.append_elements.result (appended w.at w.start old (number_octets w.order 4 (place_in w old) (value.count vs)) c.add_number.new.out.items c.append_elements.new.out.items (octets_of_all w.order vs) c.requires.start first) c.append_elements.ensures.ok

pub append_sequence-returns-clause-succeeds : goal.append_sequence-returns-clause-succeeds
append_sequence-returns-clause-succeeds t c le =
    let w = c.args.writer.now in
    let old = c.args.out.now.items in
    let vs = values_of c.args.all.now in
    let first : c.add_number.new.out.items ≡ old ++ number_octets w.order 4 (place_in w old) (value.count vs) = search (rules, count_values_of) in
    c.append_elements.ensures.succeeds (room_two w.at w.start (vec_capacity c.args.out.now) (vec_capacity c.add_number.new.out) old (number_octets w.order 4 (place_in w old) (value.count vs)) c.add_number.new.out.items (octets_of_all w.order vs) c.requires.start first c.add_number.ensures.capacity le)

pub append_elements-loop-next-preserved : goal.append_elements-loop-next-preserved
append_elements-loop-next-preserved t c =
    let w = c.args.writer.now in
    let all = c.args.all.now in
    let i = c.loop-next.invariant in
    let n = c.loop-next.next in
    let v = c.index-all-next.result in
    let old = c.loop-next.out.items in
    let mid = c.append.new.out.items in
    let new = c.follow-next.new.out.items in
    let lt = c.loop-next-test.true in
    let is = c.index-all-next.is in
    let front = octets_of w.order (value_of v) (place_in w old) in
    let e : mid ≡ old ++ front = c.in_ok-append.ensures.ok in
    let room = room_left w all n v old mid lt is i.start e in
    let left : AreWritable (value.value (value_of v) (values_of (drop (n + 1) all))) = subst AreWritable (values_next all n v lt is) i.writable in
    let start : w.start ≤ length mid = omega (arith, i.start, ap length e, length-append old front) in
    let k = c.follow-next.result in
    let run = octets_of_all w.order (values_of (take k (drop (n + 1) all))) (place_in w mid) in
    let more : new ≡ mid ++ run =
    c.follow-next.ensures.items ∙ ap (λ xs. mid ++ octets_of_all c.order.result (values_of (take k xs)) c.place.result) c.split_at.ensures.back
    ∙ ap (λ o. mid ++ octets_of_all o (values_of (take k (drop (n + 1) all))) c.place.result) c.order.ensures
    ∙ ap (λ p. mid ++ octets_of_all w.order (values_of (take k (drop (n + 1) all))) p) c.place.ensures in
    let room' = run_room w all (n + 1) k mid new start more in
    record {
      start = omega (arith, start, ap length more, length-append mid run);
      within = omega (arith, c.follow-next.ensures.within, c.split_at.ensures.back_len);
      writable = writable_behind (n + 1) k all left.1;
      keeps = keeps_more c.args.out.now.items mid new run (keeps_more c.args.out.now.items old mid front i.keeps e) more;
      room = λ h. omega (arith, room, room', i.room h, c.append.ensures.capacity, c.follow-next.ensures.capacity);
      whole = run_left w all (n + 1) k mid new start more ∙ left_over w all n v old mid lt is i.start e ∙ i.whole;
      capacity = omega (arith, i.capacity, c.append.ensures.capacity, c.follow-next.ensures.capacity);
    }

pub append_all-returns-in_err-append-clause-err : goal.append_all-returns-in_err-append-clause-err
append_all-returns-in_err-append-clause-err t c =
    let k = keeps_both c.args.out.now.items c.loop-value.out.items c.append.new.out.items c.loop-value.invariant.keeps c.in_err-append.ensures.err in
    search rules

pub append_all-loop-value-preserved : goal.append_all-loop-value-preserved
append_all-loop-value-preserved t c =
    let w = c.args.writer.now in
    let all = c.args.all.now in
    let i = c.loop-value.invariant in
    let n = c.loop-value.value-index in
    let v = c.value-item.result in
    let old = c.loop-value.out.items in
    let new = c.append.new.out.items in
    let lt = c.loop-value-test.true in
    let is = c.value-item.is in
    let front = octets_of w.order (value_of v) (place_in w old) in
    let e : new ≡ old ++ front = c.in_ok-append.ensures.ok in
    let room = room_left w all n v old new lt is i.start e in
    let left : AreWritable (value.value (value_of v) (values_of (drop (n + 1) all))) = subst AreWritable (values_next all n v lt is) i.writable in
    record {
      start = omega (arith, i.start, ap length e, length-append old front);
      writable = left.1;
      keeps = keeps_more c.args.out.now.items old new front i.keeps e;
      room = λ h. omega (arith, room, i.room h, c.append.ensures.capacity);
      whole = left_over w all n v old new lt is i.start e ∙ i.whole;
      capacity = omega (arith, i.capacity, c.append.ensures.capacity);
    }
