use Rattle.std.proofs.Common.{◌≡◌, ℕ, suc, ◌<◌, ◌≤◌, List, ◌++◌, length, map, take, drop, slice_get, slice_index_or, Some, refl, sym, ap, ◌∙◌, subst, add-one, arith, length-append}
use Rattle.std.proofs.Math.Seq.{take-length}
use Rattle.std.proofs.lemmas.List.{append-nil, take-append-le}
use Rattle.giop_link.specs.ClientLinking.{ClientLinked}
use Rattle.ft_client.specs.Keeping.{Kept, ids_after_sending, ids_awaited, kept_by, octets_again, sent_again, unmarked}
use Rattle.ft_client.specs.Standing.{waiting_ids}
use Rattle.ft_client.proofs.Marking.{drop_ends, drop_here, kept_at, length_kept, sent_step, take_ends, unmarked_marked}
use Rattle.ft_client.proofs.Sent.{IsAwaiting, await_start, await_step, on_err_of, some_are_written}
use Rattle.ft_client.proofs.sending.send_again.Goals as goal

front_more : (n : ℕ) (a b more old : List ℕ) → b ≡ a ++ more → n ≤ length a → take n a ≡ old → take n b ≡ old
front_more n a b more old is le e = ap (take n) is ∙ take-append-le n a more le ∙ e

long_more : (n : ℕ) (a b more : List ℕ) → b ≡ a ++ more → n ≤ length a → n ≤ length b
long_more n a b more is le = let e = ap length is ∙ length-append a more in omega arith

pub loop-place-init : goal.loop-place-init
loop-place-init c = record {
  same = refl;
  again = refl;
  given = refl;
  octets = refl;
  link = refl;
  waits = λ is h. await_start c.args.now c.args.link.now.ids (map kept_by c.args.pending.now) is h;
  front = take-length c.args.out.now.items;
  long = omega arith;
  kept = refl;
}

pub loop-place-preserved : goal.loop-place-preserved
loop-place-preserved c =
    let l = c.loop-place in
    let inv = l.invariant in
    let ks = map kept_by l.pending in
    let k = kept_by (slice_index_or l.pending l.place c.index-pending-place.result) in
    let s = c.in_ok-sent.sent in
    let h = c.in_ok-sent.ensures.ok in
    let lt : l.place < length l.pending = omega arith in
    let is : slice_get ks l.place ≡ Some k = kept_at l.pending l.place c.index-pending-place.result lt in
    let d = drop_here ks l.place k s is in
    let g = l.link.ids.given in
    let g' = c.send_one.new.link.ids.given in
    let rest = drop (suc l.place) ks in
    record {
      same = c.mark.auto.pending ∙ inv.same;
      again = rw (add-one, c.mark.ensures) (sent_step c.args.now g g' s k ks l.place is h.again ∙ inv.again);
      given = rw (add-one, c.mark.ensures) (ap (λ (qs : List Kept). ids_after_sending c.args.now g' qs) d.1 ∙ sym (h.given rest) ∙ ap (λ (qs : List Kept). ids_after_sending c.args.now g qs) (sym d.0) ∙ inv.given);
      octets = rw (add-one, c.mark.ensures) (ap (λ (qs : List Kept). c.send_one.new.out.items ++ octets_again c.args.now g' qs) d.1 ∙ sym (h.octets rest) ∙ ap (λ (qs : List Kept). l.out.items ++ octets_again c.args.now g qs) (sym d.0) ∙ inv.octets);
      link = h.link ∙ ap (λ (x : ClientLinked). record x { ids = c.send_one.new.link.ids }) inv.link;
      waits = λ js w. rw (add-one, c.mark.ensures) (subst (λ (qs : List Kept). IsAwaiting c.args.now c.args.link.now.ids.given c.send_one.new.link.ids (map kept_by c.args.pending.now) qs js) (sym d.1) (await_step c.args.now c.args.link.now.ids.given k l.link c.send_one.new.link s l.out.items c.send_one.new.out.items (map kept_by c.args.pending.now) (drop l.place ks) rest js h d.0 (inv.waits js w)));
      front = front_more (length c.args.out.now.items) l.out.items c.send_one.new.out.items h.more c.args.out.now.items h.written inv.long inv.front;
      long = long_more (length c.args.out.now.items) l.out.items c.send_one.new.out.items h.more h.written inv.long;
      kept = ap unmarked c.mark.ensures ∙ unmarked_marked l.place s ks ∙ inv.kept;
    }

pub returns-in_err-sent-clause-front : goal.returns-in_err-sent-clause-front
returns-in_err-sent-clause-front c = ap (take (length c.args.out.now.items)) c.in_err-sent.ensures.err ∙ c.loop-place.invariant.front

pub returns-in_err-sent-clause-needed : goal.returns-in_err-sent-clause-needed
returns-in_err-sent-clause-needed c =
    let l = c.loop-place in
    let ks = map kept_by l.pending in
    let x = slice_index_or l.pending l.place c.index-pending-place.result in
    let k = kept_by x in
    let lt : l.place < length l.pending = omega arith in
    let is : slice_get ks l.place ≡ Some k = kept_at l.pending l.place c.index-pending-place.result lt in
    let d = drop_here ks l.place k x.sent is in
    on_err_of c.from_residual.result (some_are_written c.args.now l.link.ids.given k (drop l.place ks) (drop (suc l.place) ks) l.out.items c.args.out.now.items (octets_again c.args.now c.args.link.now.ids.given (map kept_by c.args.pending.now)) d.0 c.in_err-sent.ensures.due l.invariant.octets l.invariant.long)

pub returns-clause-pending : goal.returns-clause-pending
returns-clause-pending c =
    let l = c.loop-place in
    let ks = map kept_by l.pending in
    let e : l.place ≡ length ks = omega (arith, length_kept l.pending) in
    sym ((λ i. take_ends ks l.place e i ++ sent_again c.args.now l.link.ids.given (drop_ends ks l.place e i)) ∙ append-nil ks) ∙ l.invariant.again

pub returns-clause-out : goal.returns-clause-out
returns-clause-out c =
    let l = c.loop-place in
    let ks = map kept_by l.pending in
    let e : l.place ≡ length ks = omega (arith, length_kept l.pending) in
    sym ((λ i. l.out.items ++ octets_again c.args.now l.link.ids.given (drop_ends ks l.place e i)) ∙ append-nil l.out.items) ∙ l.invariant.octets

pub returns-clause-link : goal.returns-clause-link
returns-clause-link c = λ is h.
    let l = c.loop-place in
    let ks = map kept_by l.pending in
    let old = map kept_by c.args.pending.now in
    let g = c.args.link.now.ids.given in
    let e : l.place ≡ length ks = omega (arith, length_kept l.pending) in
    let given : l.link.ids.given ≡ ids_after_sending c.args.now g old = ap (λ (qs : List Kept). ids_after_sending c.args.now l.link.ids.given qs) (sym (drop_ends ks l.place e)) ∙ l.invariant.given in
    let w = l.invariant.waits is h in
    let done : w.done ≡ ids_awaited c.args.now g old = sym (append-nil w.done) ∙ ap (λ (qs : List Kept). w.done ++ ids_awaited c.args.now l.link.ids.given qs) (sym (drop_ends ks l.place e)) ∙ w.all in
    let ids = w.waits ∙ (λ i. waiting_ids (given i) (is ++ done i)) in
    l.invariant.link ∙ ap (λ x. record c.args.link.now { ids = x }) ids
