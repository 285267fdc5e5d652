-- How often ids are among ids, and among those of pending calls.
use Rattle.std.proofs.Common.{◌≡◌, ℕ, zero, suc, ◌+◌, ◌<◌, ◌==◌, ◌&&◌, not, Bool, true, false, cond, List, [], ◌∷◌, ◌++◌, map, slice_get, Option, Some, None, is_some, refl, sym, ap, ◌∙◌, subst, arith}
use Rattle.std.specs.List.{AllByRecursion, remove}
use Rattle.std.proofs.lemmas.Bool.{and_parts, eqb-true, true≢false}
use Rattle.std.proofs.lemmas.Bool.Decides.{nat_tests}
use Rattle.std.proofs.lemmas.Option.{none-some, same_Some}
use Rattle.giop_core.specs.Content.{Rest}
use Rattle.giop_core.specs.declared.header.Version.{Version}
use Rattle.ft_client.specs.Clients.{Pending, is_due, is_sent_as, is_unsettled, put_off, resent, staying, waiting, without}
use Rattle.ft_client.specs.Keeping.{Kept, awaited, ids_awaited, kept_of}
use Rattle.ft_client.specs.Lives.{AreRising, one_if}
use Rattle.ft_client.specs.Messages.{is_oneway, wish_of}
use Rattle.ft_client.specs.Standing.{AreAscending, sent_ids, times}
use Rattle.ft_client.proofs.Living.{each-append, without-each}

other_id : (m n : ℕ) → m < n → (m == n) ≡ false
other_id m n lt = grind (arith, nat_tests)

same_id : (n : ℕ) → (n == n) ≡ true
same_id n = grind (arith, nat_tests)

pub times_append : (q : ℕ) (is js : List ℕ) → times q (is ++ js) ≡ times q is + times q js
times_append q [] js = omega arith
times_append q (i ∷ is) js = let rest = times_append q is js in omega (arith, rest)

-- Without the first of an id.

abbrev pub dropped : ℕ → List ℕ → List ℕ
dropped r [] = []
dropped r (i ∷ is) = cond (i == r) is (i ∷ dropped r is)

pub dropped_times : (r q : ℕ) (is : List ℕ) → 0 < times r is → times q is ≡ one_if (r == q) + times q (dropped r is)
dropped_times r q [] h = absurd (omega arith)
dropped_times r q (i ∷ is) h =
    elim (i == r) as (λ b. (i == r) ≡ b → 0 < one_if b + times r is → one_if (i == q) + times q is ≡ one_if (r == q) + times q (cond b is (i ∷ dropped r is))) [
      | true ↦ λ e some. ap (λ n. one_if (n == q) + times q is) (eqb-true i r e)
      | false ↦ λ e some. let rest = dropped_times r q is (omega arith) in omega (arith, rest)
    ] refl h

pub dropped_none : (r : ℕ) (is : List ℕ) → times r is ≡ 0 → dropped r is ≡ is
dropped_none r [] h = refl
dropped_none r (i ∷ is) h =
    elim (i == r) as (λ b. one_if b + times r is ≡ 0 → cond b is (i ∷ dropped r is) ≡ i ∷ is)
    [ true ↦ λ e. absurd (omega (arith, e)) | false ↦ λ e. ap (λ (js : List ℕ). i ∷ js) (dropped_none r is (omega (arith, e))) ] h

each_dropped : (P : ℕ → Type 0) (r : ℕ) (is : List ℕ) → AllByRecursion P is → AllByRecursion P (dropped r is)
each_dropped P r [] h = tt
each_dropped P r (i ∷ is) h = elim (i == r) as (λ b. AllByRecursion P (cond b is (i ∷ dropped r is))) [ true ↦ h.1 | false ↦ (h.0, each_dropped P r is h.1) ]

pub ascending_dropped : (r g : ℕ) (is : List ℕ) → AreAscending g is → AreAscending g (dropped r is)
ascending_dropped r g [] h = tt
ascending_dropped r g (i ∷ is) h =
    elim (i == r) as (λ b. AreAscending g (cond b is (i ∷ dropped r is)))
    [ true ↦ h.2 | false ↦ (h.0, each_dropped (λ j. i < j) r is h.1, ascending_dropped r g is h.2) ]

-- The ids of pending calls.

pub sent_times : (q : ℕ) (p : Pending) (ps : List Pending) → times q (sent_ids (p ∷ ps)) ≡ one_if (is_sent_as q p.sent) + times q (sent_ids ps)
sent_times q p ps = elim p.sent as (λ o. times q (sent_ids (record p { sent = o } ∷ ps)) ≡ one_if (is_sent_as q o) + times q (sent_ids ps)) [ None ↦ omega arith | Some j ↦ refl ]

-- one that was sent as r was sent as no other
sent_same : (r q : ℕ) (o : Option ℕ) → is_sent_as r o ≡ true → is_sent_as q o ≡ (r == q)
sent_same r q None e = absurd (true≢false (sym e))
sent_same r q (Some i) e = ap (λ n. n == q) (eqb-true i r e)

pub times_none : (r : ℕ) (ps : List Pending) → waiting r ps ≡ None → times r (sent_ids ps) ≡ 0
times_none r [] is = refl
times_none r (p ∷ ps) is =
    let t = sent_times r p ps in
    elim (is_sent_as r p.sent) as (λ b. is_sent_as r p.sent ≡ b → cond b (Some p.id) (waiting r ps) ≡ None → times r (sent_ids (p ∷ ps)) ≡ 0) [
      | true ↦ λ e some. absurd (let k : Some p.id ≡ None = some in cc)
      | false ↦ λ e none. let rest = times_none r ps none in let z : one_if (is_sent_as r p.sent) ≡ 0 = ap one_if e in omega (arith, t, rest, z)
    ] refl is

waiting_above : (b r id : ℕ) (ps : List Pending) → AllByRecursion (λ q. b < q.id) ps → waiting r ps ≡ Some id → b < id
waiting_above b r id [] h is = absurd (none-some id is)
waiting_above b r id (p ∷ ps) h is =
    elim (is_sent_as r p.sent) as (λ t. cond t (Some p.id) (waiting r ps) ≡ Some id → b < id)
    [ true ↦ λ e. subst (λ n. b < n) (same_Some p.id id e) h.0 | false ↦ λ e. waiting_above b r id ps h.1 e ] is

-- one that waits, completed
pub times_without : (q r id last : ℕ) (ps : List Pending) → AreRising last ps → waiting r ps ≡ Some id → times q (sent_ids ps) ≡ one_if (r == q) + times q (sent_ids (without id ps))
times_without q r id last [] h is = absurd (none-some id is)
times_without q r id last (p ∷ ps) h is =
    let t = sent_times q p ps in
    elim (is_sent_as r p.sent) as (λ b. is_sent_as r p.sent ≡ b → cond b (Some p.id) (waiting r ps) ≡ Some id → times q (sent_ids (p ∷ ps)) ≡ one_if (r == q) + times q (sent_ids (without id (p ∷ ps)))) [
      | true ↦ λ e some.
          let here : (p.id == id) ≡ true = ap (λ n. p.id == n) (sym (same_Some p.id id some)) ∙ same_id p.id in
          let one : one_if (is_sent_as q p.sent) ≡ one_if (r == q) = ap one_if (sent_same r q p.sent e) in
          let left : times q (sent_ids (without id (p ∷ ps))) ≡ times q (sent_ids ps) = ap (λ b. times q (sent_ids (cond b ps (p ∷ without id ps)))) here in
          omega (arith, t, one, left)
      | false ↦ λ e later.
          let rest = times_without q r id last ps h.2 later in
          let off = other_id p.id id (waiting_above p.id r id ps h.1 later) in
          let left : times q (sent_ids (without id (p ∷ ps))) ≡ times q (sent_ids (p ∷ without id ps)) = ap (λ b. times q (sent_ids (cond b ps (p ∷ without id ps)))) off in
          let u = sent_times q p (without id ps) in
          omega (arith, t, rest, left, u)
    ] refl is

-- one that waits, put off
pub times_put_off : (q r id : ℕ) (led : Option Rest) (ps : List Pending) → waiting r ps ≡ Some id → times q (sent_ids ps) ≡ one_if (r == q) + times q (sent_ids (put_off r led ps))
times_put_off q r id led [] is = absurd (none-some id is)
times_put_off q r id led (p ∷ ps) is =
    let t = sent_times q p ps in
    elim (is_sent_as r p.sent) as (λ b. is_sent_as r p.sent ≡ b → cond b (Some p.id) (waiting r ps) ≡ Some id → times q (sent_ids (p ∷ ps)) ≡ one_if (r == q) + times q (sent_ids (cond b (record p { sent = None; led = led } ∷ ps) (p ∷ put_off r led ps)))) [
      | true ↦ λ e some. let one : one_if (is_sent_as q p.sent) ≡ one_if (r == q) = ap one_if (sent_same r q p.sent e) in omega (arith, t, one)
      | false ↦ λ e later.
          let rest = times_put_off q r id led ps later in
          let u = sent_times q p (put_off r led ps) in
          omega (arith, t, rest, u)
    ] refl is

pub put_off_none : (r : ℕ) (led : Option Rest) (ps : List Pending) → waiting r ps ≡ None → put_off r led ps ≡ ps
put_off_none r led [] is = refl
put_off_none r led (p ∷ ps) is =
    elim (is_sent_as r p.sent) as (λ b. cond b (Some p.id) (waiting r ps) ≡ None → cond b (record p { sent = None; led = led } ∷ ps) (p ∷ put_off r led ps) ≡ p ∷ ps)
    [ true ↦ λ e. absurd (let k : Some p.id ≡ None = e in cc) | false ↦ λ e. ap (λ (qs : List Pending). p ∷ qs) (put_off_none r led ps e) ] is

-- one at a place
pub times_removed : (q r : ℕ) (ps : List Pending) (i : ℕ) (p : Pending) → slice_get ps i ≡ Some p → p.sent ≡ Some r → times q (sent_ids ps) ≡ one_if (r == q) + times q (sent_ids (remove ps i))
times_removed q r [] i p at e = absurd (cc)
times_removed q r (x ∷ ps) zero p at e =
    let same : x ≡ p = cc in
    let t = sent_times q x ps in
    let one : one_if (is_sent_as q x.sent) ≡ one_if (r == q) = ap (λ (y : Pending). one_if (is_sent_as q y.sent)) same ∙ ap (λ o. one_if (is_sent_as q o)) e in
    omega (arith, t, one)
times_removed q r (x ∷ ps) (suc i) p at e =
    let rest = times_removed q r ps i p at e in
    let t = sent_times q x ps in
    let u = sent_times q x (remove ps i) in
    omega (arith, t, u, rest)

-- Calls that were sent and wish for a reply.

abbrev pub AreWished : List Pending → Type 0
AreWished ps = AllByRecursion (λ p. is_unsettled p ≡ true) ps

pub wished_staying : (ps : List Pending) → AreWished (staying is_unsettled ps)
wished_staying [] = tt
wished_staying (p ∷ ps) =
    elim (is_unsettled p) as (λ b. is_unsettled p ≡ b → AreWished (cond b (p ∷ staying is_unsettled ps) (staying is_unsettled ps)))
    [ true ↦ λ e. (e, wished_staying ps) | false ↦ λ e. wished_staying ps ] refl

unsent_wished : (b : Bool) → not (b && false) ≡ true
unsent_wished true = refl
unsent_wished false = refl

pub wished_put_off : (r : ℕ) (led : Option Rest) (ps : List Pending) → AreWished ps → AreWished (put_off r led ps)
wished_put_off r led [] h = tt
wished_put_off r led (p ∷ ps) h =
    elim (is_sent_as r p.sent) as (λ b. AreWished (cond b (record p { sent = None; led = led } ∷ ps) (p ∷ put_off r led ps)))
    [ true ↦ (unsent_wished (is_oneway (wish_of p.call.form)), h.1) | false ↦ (h.0, wished_put_off r led ps h.1) ]

pub wished_without : (id : ℕ) (ps : List Pending) → AreWished ps → AreWished (without id ps)
wished_without id ps h = without-each (λ p. is_unsettled p ≡ true) id ps h

pub wished_push : (ps : List Pending) (p : Pending) → is_unsettled p ≡ true → AreWished ps → AreWished (ps ++ p ∷ [])
wished_push ps p e h = each-append (λ p. is_unsettled p ≡ true) ps (p ∷ []) h (e, tt)

-- Calls that are sent.

not_some : (o : Option ℕ) → not (is_some o) ≡ true → o ≡ None
not_some None e = refl
not_some (Some i) e = absurd (let k : false ≡ true = e in cc)

module _ (version : Version) (client_id : List ℕ) (now q : ℕ) where
  abbrev kept : List Pending → List Kept
  kept ps = map (kept_of version client_id) ps

  -- one that is sent now waits, or has ended
  sent_now : (p : Pending) (n : ℕ) (later qs : List Pending) (more : List ℕ) → p.sent ≡ None → times q (sent_ids later) ≡ times q (sent_ids qs) + times q more
      → times q (sent_ids (cond (is_unsettled (record p { sent = Some n })) (record p { sent = Some n } ∷ later) later)) ≡ times q (sent_ids (p ∷ qs)) + times q (awaited (wish_of p.call.form) n ++ more)
  sent_now p n later qs more none rest = by (is_oneway (wish_of p.call.form)) (sent_times q p qs) (ap (λ o. one_if (is_sent_as q o)) none)
    where
      by : (w : Bool) → times q (sent_ids (p ∷ qs)) ≡ one_if (is_sent_as q p.sent) + times q (sent_ids qs) → one_if (is_sent_as q p.sent) ≡ 0
          → times q (sent_ids (cond (not (w && true)) (record p { sent = Some n } ∷ later) later)) ≡ times q (sent_ids (p ∷ qs)) + times q (cond w [] (n ∷ []) ++ more)
      by true t z = omega (arith, t, z, rest)
      by false t z = omega (arith, t, z, rest)

  pub times_resent : (n : ℕ) (ps : List Pending) → AreWished ps → times q (sent_ids (staying is_unsettled (resent now n ps))) ≡ times q (sent_ids ps) + times q (ids_awaited now n (kept ps))
  times_resent n [] h = refl
  times_resent n (p ∷ ps) h =
      elim (is_due now n p) as (λ b. is_due now n p ≡ b
      → times q (sent_ids (staying is_unsettled (cond b (record p { sent = Some (suc n) } ∷ resent now (suc n) ps) (p ∷ resent now n ps))))
      ≡ times q (sent_ids (p ∷ ps)) + times q (cond b (awaited (wish_of p.call.form) (suc n) ++ ids_awaited now (suc n) (kept ps)) (ids_awaited now n (kept ps)))) [
        | true ↦ λ e. sent_now p (suc n) (staying is_unsettled (resent now (suc n) ps)) ps (ids_awaited now (suc n) (kept ps)) (not_some p.sent (and_parts (not (is_some p.sent)) _ e).0) (times_resent (suc n) ps h.1)
        | false ↦ λ e.
            let rest = times_resent n ps h.1 in
            let stays : times q (sent_ids (cond (is_unsettled p) (p ∷ staying is_unsettled (resent now n ps)) (staying is_unsettled (resent now n ps)))) ≡ times q (sent_ids (p ∷ staying is_unsettled (resent now n ps))) =
            ap (λ b. times q (sent_ids (cond b (p ∷ staying is_unsettled (resent now n ps)) (staying is_unsettled (resent now n ps))))) h.0 in
            let t = sent_times q p ps in
            let u = sent_times q p (staying is_unsettled (resent now n ps)) in
            omega (arith, stays, t, u, rest)
      ] refl
