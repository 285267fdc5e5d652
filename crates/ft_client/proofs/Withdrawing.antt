-- A pending call that is taken out: the ids of the link without its own.
use Rattle.std.proofs.Common.{◌≡◌, ℕ, zero, suc, ◌+◌, ◌<◌, ◌==◌, true, false, cond, List, [], ◌∷◌, ◌++◌, slice_get, Option, Some, None, refl, sym, ap, ◌∙◌, arith, ◌||◌}
use Rattle.std.specs.List.{list_any, remove}
use Rattle.std.proofs.lemmas.Bool.{true≢false}
use Rattle.std.proofs.lemmas.Bool.Decides.{nat_tests}
use Rattle.giop_link.specs.Ids as ids
use Rattle.giop_core.specs.declared.request.ReplyWish.TheVariants.{Full}
use Rattle.giop_link.specs.ClientLinking.{ClientLinked}
use Rattle.giop_link.specs.Ids.{Ids, given_up, is_outstanding, wanted_by}
use Rattle.ft_client.specs.Clients.{Client, Ended, Linked, Pending, completed, without}
use Rattle.ft_client.specs.Lives.{one_if}
use Rattle.ft_client.specs.Standing.{IsLinked, exchange_of, sent_ids, terms_of, times, waiting_ids}
use Rattle.ft_client.proofs.Counts.{ascending_dropped, dropped, dropped_times, times_removed, wished_without}
use Rattle.ft_client.proofs.Joining.{with_ids}
use Rattle.ft_client.proofs.Models.{waiting_given}

same_id : (n : ℕ) → (n == n) ≡ true
same_id n = grind (arith, nat_tests)

some_none : {A : Type 0} (x y : A) (xs : List A) → slice_get (x ∷ xs) 0 ≡ Some y → x ≡ y
some_none x y xs e = cc

-- a call among those of which none was sent was not sent
pub none_sent : (ps : List Pending) (i : ℕ) (p : Pending) → slice_get ps i ≡ Some p → sent_ids ps ≡ [] → p.sent ≡ None
none_sent [] i p at e = cc
none_sent (q ∷ ps) zero p at e = let same = some_none q p ps at in ap (λ (x : Pending). x.sent) (sym same) ∙ head q.sent refl e
  where
    head : (o : Option ℕ) → q.sent ≡ o → sent_ids (record q { sent = o } ∷ ps) ≡ [] → q.sent ≡ None
    head None is e = is
    head (Some n) is e = cc
none_sent (q ∷ ps) (suc i) p at e = none_sent ps i p at (rest q.sent e)
  where
    rest : (o : Option ℕ) → sent_ids (record q { sent = o } ∷ ps) ≡ [] → sent_ids ps ≡ []
    rest None e = e
    rest (Some n) e = cc

-- a call that was not sent
pub removed_unsent : (ps : List Pending) (i : ℕ) (p : Pending) → slice_get ps i ≡ Some p → p.sent ≡ None → sent_ids (remove ps i) ≡ sent_ids ps
removed_unsent [] i p at e = absurd (cc)
removed_unsent (q ∷ ps) zero p at e = head q.sent (ap (λ (x : Pending). x.sent) (some_none q p ps at) ∙ e)
  where
    head : (o : Option ℕ) → o ≡ None → sent_ids ps ≡ sent_ids (record q { sent = o } ∷ ps)
    head None is = refl
    head (Some n) is = cc
removed_unsent (q ∷ ps) (suc i) p at e = both q.sent (removed_unsent ps i p at e)
  where
    both : (o : Option ℕ) → sent_ids (remove ps i) ≡ sent_ids ps → sent_ids (record q { sent = o } ∷ remove ps i) ≡ sent_ids (record q { sent = o } ∷ ps)
    both None h = h
    both (Some n) h = ap (λ (js : List ℕ). n ∷ js) h

-- The ids that wait, without one.

pub outs_dropped : (r g : ℕ) (is : List ℕ) → ids.without (ids.is_of r None) (waiting_ids g is).outstanding ≡ (waiting_ids g (dropped r is)).outstanding
outs_dropped r g [] = refl
outs_dropped r g (j ∷ js) =
    elim (j == r) as (λ b. cond b (waiting_ids g js).outstanding (ids.entered (wanted_by Full) j [] ++ ids.without (ids.is_of r None) (waiting_ids g js).outstanding) ≡ (waiting_ids g (cond b js (j ∷ dropped r js))).outstanding)
    [ true ↦ refl | false ↦ ap (λ os. ids.entered (wanted_by Full) j [] ++ os) (outs_dropped r g js) ]

pub any_some : (r g : ℕ) (is : List ℕ) → 0 < times r is → is_outstanding r (waiting_ids g is).outstanding ≡ true
any_some r g [] h = absurd (omega arith)
any_some r g (j ∷ js) h =
    elim (j == r) as (λ b. 0 < one_if b + times r js → (b || list_any (ids.is_of r None) (waiting_ids g js).outstanding) ≡ true)
    [ true ↦ λ k. refl | false ↦ λ k. any_some r g js (omega (arith, k)) ] h

pub any_none : (r g : ℕ) (is : List ℕ) → is_outstanding r (waiting_ids g is).outstanding ≡ false → times r is ≡ 0
any_none r g [] h = refl
any_none r g (j ∷ js) h =
    elim (j == r) as (λ b. (b || list_any (ids.is_of r None) (waiting_ids g js).outstanding) ≡ false → one_if b + times r js ≡ 0)
    [ true ↦ λ k. absurd (true≢false k) | false ↦ λ k. (let z = any_none r g js k in omega (arith, z)) ] h

waiting_parts : (g : ℕ) (js : List ℕ) → waiting_ids g js ≡ record { given = g; outstanding = (waiting_ids g js).outstanding }
waiting_parts g [] = refl
waiting_parts g (j ∷ js) = refl

given_up_is : (g r : ℕ) (is : List ℕ) → given_up r (waiting_ids g is) ≡ waiting_ids g (dropped r is)
given_up_is g r is = (λ j. record { given = waiting_given g is j; outstanding = outs_dropped r g is j }) ∙ sym (waiting_parts g (dropped r is))

-- a call that was sent waits on the link
there : (m : Client) (l : Linked) (link : ClientLinked) (r i : ℕ) (p : Pending) → (h : IsLinked link m l) → slice_get m.pending i ≡ Some p → p.sent ≡ Some r → 0 < times r h.ids
there m l link r i p h at e =
    let t = times_removed r r m.pending i p at e in
    let one : one_if (r == r) ≡ 1 = ap one_if (same_id r) in
    let same = h.same r in
    omega (arith, t, one, same)

pub outstanding_is : (m : Client) (l : Linked) (link : ClientLinked) (r i : ℕ) (p : Pending) → IsLinked link m l → slice_get m.pending i ≡ Some p → p.sent ≡ Some r → is_outstanding r link.ids.outstanding ≡ true
outstanding_is m l link r i p h at e = ap (λ (x : Ids). is_outstanding r x.outstanding) h.stands.ids_are ∙ any_some r l.given h.ids (there m l link r i p h at e)

-- the link of a client from which a call was taken
pub link_without : (m : Client) (l : Linked) (link new : ClientLinked) (r : ℕ) (i : ℕ) (p : Pending) (ended : Ended) → IsLinked link m l → slice_get m.pending i ≡ Some p → p.sent ≡ Some r → remove m.pending i ≡ without p.id m.pending → new ≡ record link { ids = given_up r link.ids }
    → IsLinked new (completed p.id ended m) l
link_without m l link new r i p ended h at e left is =
    let js : sent_ids (remove m.pending i) ≡ sent_ids (without p.id m.pending) = ap sent_ids left in
    let up : given_up r link.ids ≡ waiting_ids l.given (dropped r h.ids) = ap (given_up r) h.stands.ids_are ∙ given_up_is l.given r h.ids in
    record {
      ids = dropped r h.ids;
      stands = with_ids (terms_of m) link new (exchange_of l h.ids) (waiting_ids l.given (dropped r h.ids)) h.stands (is ∙ ap (λ (x : Ids). record link { ids = x }) up);
      going = h.going;
      ascending = ascending_dropped r l.given h.ids h.ascending;
      same = λ q.
          let a = dropped_times r q h.ids (there m l link r i p h at e) in
          let b = times_removed q r m.pending i p at e in
          let c : times q (sent_ids (remove m.pending i)) ≡ times q (sent_ids (without p.id m.pending)) = ap (times q) js in
          let was = h.same q in
          omega (arith, a, b, c, was);
      wished = wished_without p.id m.pending h.wished;
    }

pub same_link_without : (m : Client) (l : Linked) (link : ClientLinked) (i : ℕ) (p : Pending) (ended : Ended) → IsLinked link m l → slice_get m.pending i ≡ Some p → p.sent ≡ None → remove m.pending i ≡ without p.id m.pending → IsLinked link (completed p.id ended m) l
same_link_without m l link i p ended h at e left =
    let js : sent_ids m.pending ≡ sent_ids (without p.id m.pending) = sym (removed_unsent m.pending i p at e) ∙ ap sent_ids left in
    record { ids = h.ids; stands = h.stands; going = h.going; ascending = h.ascending; same = λ q. h.same q ∙ ap (times q) js; wished = wished_without p.id m.pending h.wished }
