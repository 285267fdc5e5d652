-- A client with all that ever was: each call is pending or was completed once.
use Rattle.std.proofs.Common.{◌≡◌, ℕ, suc, ◌+◌, ◌<◌, ◌≤◌, ◌==◌, ◌&&◌, nat_le, nat_lt, not, is_some, ℤ, pos, Bool, true, false, cond, List, [], ◌∷◌, ◌++◌, drop, length, take, Option, Some, None, refl, sym, ap, ◌∙◌, subst, arith}
use Rattle.std.specs.List.{AllByRecursion}
use Rattle.std.specs.Ordering.{int_eq}
use Rattle.std.proofs.lemmas.Bool.{and_parts, eq-eqb, eqb-true, leb-true, ltb-true}
use Rattle.std.proofs.lemmas.Bool.Decides.{nat_tests}
use Rattle.std.proofs.lemmas.List.{append-nil, take-append-drop}
use Rattle.std.proofs.lemmas.Option.{none-some, same_Some}
use Rattle.giop_core.specs.Content.{Rest}
use Rattle.giop_core.specs.declared.header.Version.{Version}
use Rattle.giop_frames.specs.declared.limits.Limits.{Limits}
use Rattle.giop_link.specs.Hearing.{Ending, Hearing, news}
use Rattle.ft_client.specs.Clients.{Called, Cancelled, Client, Ended, Expired, Fed, Happening, Joined, Kept, KeptForwards, Linked, Parted, Pending, Recalled, Redirected, Resent, Resumed, Sent, Skipped, Taken, Ticked, after, answered, asked_at, begun, completed, completed_if, ended_by, ending_of, fed_on, find_pending, fits, gives, ids_after, is_due, is_in_time, is_kept, is_redirected, is_resumed, is_sent_as, is_taken, is_unsettled, joined, leaving, led_by, made, parted, parted_at, placed, placed_on, put_off, recalled, resent, resent_if, resent_on, says, says_again, says_placed, says_recalled, says_resent, settled, settled_all, skipped, stands_in, told_of, transmission_to, unsent, waiting, withdrawn, without}
use Rattle.ft_client.specs.Laws.{CallsCompleteOnce}
use Rattle.ft_client.specs.Lives.{AreRising, IsAlive, IsLife, IsOfCall, Life, call_at, called_count, ended_count, goes_on, lived, moment_of, new_life, one_if, pending_count, sent_at}
use Rattle.ft_client.specs.Messages.{Answer, Asked, Call, Transmission, has_no_ft, is_oneway, located, replied, version_in, wish_of}
use Rattle.ft_client.proofs.Leaving.{left_by, staying-count, staying-each, staying-rising}

-- Lists.

-- what holds of each of two lists holds of both together
pub each-append : {X : Type 0} (P : X → Type 0) (xs ys : List X) → AllByRecursion P xs → AllByRecursion P ys → AllByRecursion P (xs ++ ys)
each-append P [] ys h k = k
each-append P (x ∷ xs) ys h k = (h.0, each-append P xs ys h.1 k)

pub each-weaker : {X : Type 0} (P Q : X → Type 0) → ((x : X) → P x → Q x) → (xs : List X) → AllByRecursion P xs → AllByRecursion Q xs
each-weaker P Q f [] h = tt
each-weaker P Q f (x ∷ xs) h = (f x h.0, each-weaker P Q f xs h.1)

-- The calls of numbers.

-- a call keeps its number
pub call_at-append : (calls more : List (ℕ × Call)) (r : ℕ) (c : Call) → call_at calls r ≡ Some c → call_at (calls ++ more) r ≡ Some c
call_at-append [] more r c h = absurd (none-some c h)
call_at-append (x ∷ calls) more r c h =
    elim (x.0 == r) as (λ b. cond b (Some x.1) (call_at calls r) ≡ Some c → cond b (Some x.1) (call_at (calls ++ more) r) ≡ Some c)
    [ true ↦ λ is. is | false ↦ λ is. call_at-append calls more r c is ] h

-- numbers from 1 up to the last one
abbrev pub AreNumbers : ℕ → List (ℕ × Call) → Type 0
AreNumbers last calls = AllByRecursion (λ x. (0 < x.0) × (x.0 ≤ last)) calls

other-number : (n id last : ℕ) → n ≤ last → last < id → (n == id) ≡ false
other-number n id last le lt = grind (arith, nat_tests)

-- a call with a greater number
pub call_at-push : (calls : List (ℕ × Call)) (id : ℕ) (c : Call) (last : ℕ) → AreNumbers last calls → last < id → call_at (calls ++ (id, c) ∷ []) id ≡ Some c
call_at-push [] id c last are lt = ap (λ b. cond b (Some c) None) (eq-eqb id id refl)
call_at-push (x ∷ calls) id c last are lt =
    ap (λ b. cond b (Some x.1) (call_at (calls ++ (id, c) ∷ []) id)) (other-number x.0 id last are.0.1 lt) ∙ call_at-push calls id c last are.1 lt

numbers-later : (last next : ℕ) (calls : List (ℕ × Call)) → last ≤ next → AreNumbers last calls → AreNumbers next calls
numbers-later last next [] le h = tt
numbers-later last next (x ∷ calls) le h = let low = h.0.1 in ((h.0.0, omega (arith, low, le)), numbers-later last next calls le h.1)

pub called-append : (r : ℕ) (calls more : List (ℕ × Call)) → called_count r (calls ++ more) ≡ called_count r calls + called_count r more
called-append r [] more = omega arith
called-append r (x ∷ calls) more = let rest = called-append r calls more in omega (arith, rest)

-- no call has a greater number
called-none : (id last : ℕ) (calls : List (ℕ × Call)) → AreNumbers last calls → last < id → called_count id calls ≡ 0
called-none id last [] h lt = refl
called-none id last (x ∷ calls) h lt =
    let off : one_if (x.0 == id) ≡ 0 = ap one_if (other-number x.0 id last h.0.1 lt) in
    let rest = called-none id last calls h.1 lt in
    omega (arith, off, rest)

called-single : (r id last : ℕ) (calls : List (ℕ × Call)) → AreNumbers last calls → last < id → called_count r calls ≤ 1 → called_count r calls + (one_if (id == r) + 0) ≤ 1
called-single r id last calls are lt few =
    elim (id == r) as (λ b. (id == r) ≡ b → called_count r calls + (one_if b + 0) ≤ 1) [
      | true ↦ λ is. let none : called_count r calls ≡ 0 = ap (λ (n : ℕ). called_count n calls) (sym (eqb-true id r is)) ∙ called-none id last calls are lt in omega (arith, none)
      | false ↦ λ is. omega (arith, few)
    ] refl

-- Counts.

pub pending-append : (r : ℕ) (ps qs : List Pending) → pending_count r (ps ++ qs) ≡ pending_count r ps + pending_count r qs
pending-append r [] qs = omega arith
pending-append r (p ∷ ps) qs = let rest = pending-append r ps qs in omega (arith, rest)

pub ended-append : (r : ℕ) (xs ys : List (ℕ × Ended)) → ended_count r (xs ++ ys) ≡ ended_count r xs + ended_count r ys
ended-append r [] ys = omega arith
ended-append r (x ∷ xs) ys = let rest = ended-append r xs ys in omega (arith, rest)

-- of a number that is pending, one less is pending without it, and of the others as many
pub without-count : (r id : ℕ) (ps : List Pending) → 0 < pending_count id ps → pending_count r ps ≡ one_if (id == r) + pending_count r (without id ps)
without-count r id [] h = absurd (omega arith)
without-count r id (p ∷ ps) h =
    elim (p.id == id) as (λ b. (p.id == id) ≡ b → 0 < one_if b + pending_count id ps → one_if (p.id == r) + pending_count r ps ≡ one_if (id == r) + pending_count r (cond b ps (p ∷ without id ps))) [
      | true ↦ λ is some. ap (λ n. one_if (n == r) + pending_count r ps) (eqb-true p.id id is)
      | false ↦ λ is some. let rest = without-count r id ps (omega arith) in omega (arith, rest)
    ] refl h

-- What is left of pending calls.

-- the same calls under the same numbers, sent or not
abbrev pub AreAlike : List Pending → List Pending → Type 0
AreAlike [] [] = Unit {0}
AreAlike [] (q ∷ qs) = ⊥
AreAlike (p ∷ ps) [] = ⊥
AreAlike (p ∷ ps) (q ∷ qs) = (p.id ≡ q.id) × (p.call ≡ q.call) × AreAlike ps qs

pub alike-unsent : (ps : List Pending) → AreAlike ps (unsent ps)
alike-unsent [] = tt
alike-unsent (p ∷ ps) = (refl, refl, alike-unsent ps)

pub alike-resent : (now n : ℕ) (ps : List Pending) → AreAlike ps (resent now n ps)
alike-resent now n [] = tt
alike-resent now n (p ∷ ps) =
    elim (is_due now n p) as (λ b. AreAlike (p ∷ ps) (cond b (record p { sent = Some (suc n) } ∷ resent now (suc n) ps) (p ∷ resent now n ps)))
    [ true ↦ (refl, refl, alike-resent now (suc n) ps) | false ↦ (refl, refl, alike-resent now n ps) ]

alike-refl : (ps : List Pending) → AreAlike ps ps
alike-refl [] = tt
alike-refl (p ∷ ps) = (refl, refl, alike-refl ps)

pub alike-put_off : (r : ℕ) (led : Option Rest) (ps : List Pending) → AreAlike ps (put_off r led ps)
alike-put_off r led [] = tt
alike-put_off r led (p ∷ ps) =
    elim (is_sent_as r p.sent) as (λ b. AreAlike (p ∷ ps) (cond b (record p { sent = None; led = led } ∷ ps) (p ∷ put_off r led ps)))
    [ true ↦ (refl, refl, alike-refl ps) | false ↦ (refl, refl, alike-put_off r led ps) ]

pub alike-asked_at : (id : ℤ) (key : List ℕ) (ps : List Pending) → AreAlike ps (asked_at id key ps)
alike-asked_at id key [] = tt
alike-asked_at id key (p ∷ ps) =
    elim (int_eq (pos p.id) id) as (λ b. AreAlike (p ∷ ps) (cond b (record p { at = key; led = None } ∷ ps) (p ∷ asked_at id key ps)))
    [ true ↦ (refl, refl, alike-refl ps) | false ↦ (refl, refl, alike-asked_at id key ps) ]

pub alike-count : (r : ℕ) (ps qs : List Pending) → AreAlike ps qs → pending_count r ps ≡ pending_count r qs
alike-count r [] [] h = refl
alike-count r [] (q ∷ qs) h = absurd h
alike-count r (p ∷ ps) [] h = absurd h
alike-count r (p ∷ ps) (q ∷ qs) h = λ i. one_if (h.0 i == r) + alike-count r ps qs h.2 i

pub alike-each : (P : ℕ → Call → Type 0) (ps qs : List Pending) → AreAlike ps qs → AllByRecursion (λ p. P p.id p.call) ps → AllByRecursion (λ p. P p.id p.call) qs
alike-each P [] [] h k = tt
alike-each P [] (q ∷ qs) h k = absurd h
alike-each P (p ∷ ps) [] h k = absurd h
alike-each P (p ∷ ps) (q ∷ qs) h k = (subst (λ (c : Call). P q.id c) h.1 (subst (λ (n : ℕ). P n p.call) h.0 k.0), alike-each P ps qs h.2 k.1)

pub alike-rising : (last : ℕ) (ps qs : List Pending) → AreAlike ps qs → AreRising last ps → AreRising last qs
alike-rising last [] [] h k = tt
alike-rising last [] (q ∷ qs) h k = absurd h
alike-rising last (p ∷ ps) [] h k = absurd h
alike-rising last (p ∷ ps) (q ∷ qs) h k = (
  subst (λ (n : ℕ). n ≤ last) h.0 k.0,
  alike-each (λ n c. q.id < n) ps qs h.2 (subst (λ (n : ℕ). AllByRecursion (λ q. n < q.id) ps) h.0 k.1),
  alike-rising last ps qs h.2 k.2,
)

pub without-each : (P : Pending → Type 0) (id : ℕ) (ps : List Pending) → AllByRecursion P ps → AllByRecursion P (without id ps)
without-each P id [] h = tt
without-each P id (p ∷ ps) h = elim (p.id == id) as (λ b. AllByRecursion P (cond b ps (p ∷ without id ps))) [ true ↦ h.1 | false ↦ (h.0, without-each P id ps h.1) ]

pub without-rising : (last id : ℕ) (ps : List Pending) → AreRising last ps → AreRising last (without id ps)
without-rising last id [] h = tt
without-rising last id (p ∷ ps) h =
    elim (p.id == id) as (λ b. AreRising last (cond b ps (p ∷ without id ps)))
    [ true ↦ h.2 | false ↦ (h.0, without-each (λ q. p.id < q.id) id ps h.1, without-rising last id ps h.2) ]

-- numbers up to the last one are less than the next
rising-each : (last : ℕ) (ps : List Pending) → AreRising last ps → AllByRecursion (λ q. q.id ≤ last) ps
rising-each last [] h = tt
rising-each last (p ∷ ps) h = (h.0, rising-each last ps h.2)

-- they are up to each that is no less
pub rising-later : (last next : ℕ) (ps : List Pending) → last ≤ next → AreRising last ps → AreRising next ps
rising-later last next [] le h = tt
rising-later last next (p ∷ ps) le h = let low = h.0 in (omega (arith, low, le), h.1, rising-later last next ps le h.2)

pub rising-push : (last : ℕ) (ps : List Pending) (q : Pending) → last < q.id → AreRising last ps → AreRising q.id (ps ++ q ∷ [])
rising-push last [] q lt h = (omega arith, tt, tt)
rising-push last (p ∷ ps) q lt h =
    let low = h.0 in
    (omega (arith, low, lt), each-append (λ x. p.id < x.id) ps (q ∷ []) h.1 (omega (arith, lt, low), tt), rising-push last ps q lt h.2)

-- What is found is pending.

self-count : (n : ℕ) → one_if (n == n) ≡ 1
self-count n = ap one_if (eq-eqb n n refl)

waiting-there : (i id : ℕ) (ps : List Pending) → waiting i ps ≡ Some id → 0 < pending_count id ps
waiting-there i id [] h = absurd (none-some id h)
waiting-there i id (p ∷ ps) h =
    elim (is_sent_as i p.sent) as (λ b. cond b (Some p.id) (waiting i ps) ≡ Some id → 0 < one_if (p.id == id) + pending_count id ps) [
      | true ↦ λ is. let one : one_if (p.id == id) ≡ 1 = ap (λ (n : ℕ). one_if (n == id)) (same_Some p.id id is) ∙ self-count id in omega (arith, one)
      | false ↦ λ is. let rest = waiting-there i id ps is in omega (arith, rest)
    ] h

found-there : (id : ℤ) (p : Pending) (ps : List Pending) → find_pending id ps ≡ Some p → 0 < pending_count p.id ps
found-there id p [] h = absurd (none-some p h)
found-there id p (q ∷ ps) h =
    elim (int_eq (pos q.id) id) as (λ b. cond b (Some q) (find_pending id ps) ≡ Some p → 0 < one_if (q.id == p.id) + pending_count p.id ps) [
      | true ↦ λ is. let one : one_if (q.id == p.id) ≡ 1 = ap (λ (x : Pending). one_if (x.id == p.id)) (same_Some q p is) ∙ self-count p.id in omega (arith, one)
      | false ↦ λ is. let rest = found-there id p ps is in omega (arith, rest)
    ] h

-- what is taken up again has a greater number, in time
tests-of : (now id : ℕ) (call : Call) (m : Client) → is_resumed now id call m ≡ true
    → ((nat_lt m.last id && nat_lt id 2147483648) ≡ true) × ((nat_le now call.expiration && (nat_lt (length m.pending) 64 && (stands_in id m call && fits id m call))) ≡ true)
tests-of now id call m is =
    let rest = nat_le now call.expiration && (nat_lt (length m.pending) 64 && (stands_in id m call && fits id m call)) in
    and_parts (nat_lt m.last id && nat_lt id 2147483648) rest (and_parts (has_no_ft call.form) ((nat_lt m.last id && nat_lt id 2147483648) && rest) is).1

is-greater : (now id : ℕ) (call : Call) (m : Client) → is_resumed now id call m ≡ true → m.last < id
is-greater now id call m is = ltb-true m.last id (and_parts (nat_lt m.last id) (nat_lt id 2147483648) (tests-of now id call m is).0).0

is-early : (now id : ℕ) (call : Call) (m : Client) → is_resumed now id call m ≡ true → now ≤ call.expiration
is-early now id call m is =
    leb-true now call.expiration (and_parts (nat_le now call.expiration) (nat_lt (length m.pending) 64 && (stands_in id m call && fits id m call)) (tests-of now id call m is).1).0

-- what is taken is in time
is-on_time : (now : ℕ) (call : Call) (m : Client) → is_taken now call m ≡ true → now ≤ call.expiration
is-on_time now call m is =
    let rest = nat_lt m.last 2147483647 && (nat_lt (length m.pending) 64 && (stands_in (suc m.last) m call && fits (suc m.last) m call)) in
    let own = (and_parts (has_no_ft call.form) (nat_le now call.expiration && rest) is).1 in
    leb-true now call.expiration (and_parts (nat_le now call.expiration) rest own).0

-- so is what is due
due-in_time : (now n : ℕ) (p : Pending) → is_due now n p ≡ true → now ≤ p.call.expiration
due-in_time now n p is =
    let rest = (and_parts (not (is_some p.sent)) (not (is_some p.led) && (nat_le now p.call.expiration && nat_lt n 2147483648)) is).1 in
    let last = (and_parts (not (is_some p.led)) (nat_le now p.call.expiration && nat_lt n 2147483648) rest).1 in
    leb-true now p.call.expiration (and_parts (nat_le now p.call.expiration) (nat_lt n 2147483648) last).0

-- A client that is alive, and what happens to it.

module _ (client_id : List ℕ) (version : Version) where
  module _ (calls : List (ℕ × Call)) (taken : List (ℕ × Ended)) where
    -- another link, and the same calls sent or not
    pub alive-alike : (m : Client) (qs : List Pending) (l : Option Linked) → AreAlike m.pending qs → IsAlive client_id version calls taken m → IsAlive client_id version calls taken (record m { pending = qs; link = l })
    alive-alike m qs l same h = record {
      client = h.client;
      writes = h.writes;
      numbers = h.numbers;
      single = h.single;
      once = λ r. ap (λ n. n + (ended_count r taken + ended_count r m.completions)) (sym (alike-count r m.pending qs same)) ∙ h.once r;
      pending = alike-each (λ id c. call_at calls id ≡ Some c) m.pending qs same h.pending;
      rising = alike-rising m.last m.pending qs same h.rising;
    }

    alive-parted : (m : Client) → IsAlive client_id version calls taken m → IsAlive client_id version calls taken (parted m)
    alive-parted m h = alive-alike m (unsent m.pending) None (alike-unsent m.pending) h

    alive-linked : (m : Client) (l : Option Linked) → IsAlive client_id version calls taken m → IsAlive client_id version calls taken (record m { link = l })
    alive-linked m l h = record { client = h.client; writes = h.writes; numbers = h.numbers; single = h.single; once = h.once; pending = h.pending; rising = h.rising }

    alive-completed : (id : ℕ) (ended : Ended) (m : Client) → 0 < pending_count id m.pending → IsAlive client_id version calls taken m → IsAlive client_id version calls taken (completed id ended m)
    alive-completed id ended m there h = record {
      client = h.client;
      writes = h.writes;
      numbers = h.numbers;
      single = h.single;
      once = λ r.
          let left = without-count r id m.pending there in
          let more = ended-append r m.completions ((id, ended) ∷ []) in
          let was = h.once r in
          omega (arith, left, more, was);
      pending = without-each (λ p. call_at calls p.id ≡ Some p.call) id m.pending h.pending;
      rising = without-rising m.last id m.pending h.rising;
    }

    alive-if : (o : Option ℕ) (i : ℕ) (ended : Ended) (m : Client) → waiting i m.pending ≡ o → IsAlive client_id version calls taken m → IsAlive client_id version calls taken (completed_if o ended m)
    alive-if None i ended m is h = h
    alive-if (Some id) i ended m is h = alive-completed id ended m (waiting-there i id m.pending is) h

    alive-answered : (keeps : Bool) (i : ℕ) (led : Option Rest) (ended : Ended) (m : Client) → IsAlive client_id version calls taken m → IsAlive client_id version calls taken (answered keeps i led ended m)
    alive-answered true i led ended m h = alive-alike m (put_off i led m.pending) m.link (alike-put_off i led m.pending) h
    alive-answered false i led ended m h = alive-if (waiting i m.pending) i ended m refl h

    alive-settled : (a : Answer) (m : Client) → IsAlive client_id version calls taken m → IsAlive client_id version calls taken (settled a m)
    alive-settled (replied i shown) m h = alive-answered (is_kept shown m) i (led_by shown) (ended_by shown) m h
    alive-settled (located i shown) m h = h

    alive-settled_all : (answers : List Answer) (m : Client) → IsAlive client_id version calls taken m → IsAlive client_id version calls taken (settled_all answers m)
    alive-settled_all [] m h = h
    alive-settled_all (a ∷ answers) m h = alive-settled_all answers (settled a m) (alive-settled a m h)

    alive-told : (down : Hearing Answer) (octets : List ℕ) (m : Client) (l : Option Linked) → IsAlive client_id version calls taken m → IsAlive client_id version calls taken (told_of down octets m l)
    alive-told down octets m None h = h
    alive-told down octets m (Some l) h =
        alive-settled_all (news down l.received octets) (record m { link = Some (record l { received = l.received ++ octets }) }) (alive-linked m (Some (record l { received = l.received ++ octets })) h)

    alive-parted_at : (e : Option Ending) (m : Client) → IsAlive client_id version calls taken m → IsAlive client_id version calls taken (parted_at e m)
    alive-parted_at None m h = h
    alive-parted_at (Some e) m h = alive-parted m h

    alive-recalled : (id : ℤ) (o : Option Pending) (m : Client) → find_pending id m.pending ≡ o → IsAlive client_id version calls taken m → IsAlive client_id version calls taken (recalled o m)
    alive-recalled id None m is h = h
    alive-recalled id (Some p) m is h = alive-completed p.id Cancelled m (found-there id p m.pending is) h

    -- a call that is redirected, or not
    alive-redirected : (b : Bool) (id : ℤ) (key : List ℕ) (m : Client) → IsAlive client_id version calls taken m → IsAlive client_id version calls taken (cond b (record m { pending = asked_at id key m.pending }) m)
    alive-redirected true id key m h = alive-alike m (asked_at id key m.pending) m.link (alike-asked_at id key m.pending) h
    alive-redirected false id key m h = h

    -- calls that have left
    alive-left : (stays : Pending → Bool) (ended : Ended) (m : Client) → IsAlive client_id version calls taken m → IsAlive client_id version calls taken (left_by stays ended m)
    alive-left stays ended m h = record {
      client = h.client;
      writes = h.writes;
      numbers = h.numbers;
      single = h.single;
      once = λ r.
          let left = staying-count stays ended r m.pending in
          let more = ended-append r m.completions (leaving stays ended m.pending) in
          let was = h.once r in
          omega (arith, left, more, was);
      pending = staying-each stays (λ p. call_at calls p.id ≡ Some p.call) m.pending h.pending;
      rising = staying-rising stays m.last m.pending h.rising;
    }

    -- calls that are sent on a link
    alive-resent : (now : ℕ) (m : Client) (l : Linked) → IsAlive client_id version calls taken m → IsAlive client_id version calls taken (resent_on now m l)
    alive-resent now m l h = alive-alike m (resent now l.given m.pending) (Some (record l { given = ids_after now l.given m.pending })) (alike-resent now l.given m.pending) h

    alive-resent_if : (now : ℕ) (m : Client) (l : Option Linked) → IsAlive client_id version calls taken m → IsAlive client_id version calls taken (resent_if now m l)
    alive-resent_if now m None h = h
    alive-resent_if now m (Some l) h = alive-left is_unsettled Sent (resent_on now m l) (alive-resent now m l h)

    alive-taken : (m : Client) → IsAlive client_id version calls taken m → IsAlive client_id version calls (taken ++ take 1 m.completions) (record m { completions = drop 1 m.completions })
    alive-taken m h = record {
      client = h.client;
      writes = h.writes;
      numbers = h.numbers;
      single = h.single;
      once = λ r.
          let all = ap (ended_count r) (sym (take-append-drop 1 m.completions)) ∙ ended-append r (take 1 m.completions) (drop 1 m.completions) in
          let more = ended-append r taken (take 1 m.completions) in
          let was = h.once r in
          omega (arith, all, more, was);
      pending = h.pending;
      rising = h.rising;
    }

    -- a call more, sent or not
    alive-called : (id : ℕ) (call : Call) (sent : Option ℕ) (l : Option Linked) (m : Client) → m.last < id → IsAlive client_id version calls taken m
        → IsAlive client_id version (calls ++ (id, call) ∷ []) taken (record m { last = id; pending = m.pending ++ begun id call sent ∷ []; link = l })
    alive-called id call sent l m lt h =
        let p : Pending = begun id call sent in
        record {
          client = h.client;
          writes = h.writes;
          numbers = each-append (λ x. (0 < x.0) × (x.0 ≤ id)) calls ((id, call) ∷ []) (numbers-later m.last id calls (omega (arith, lt)) h.numbers) ((omega (arith, lt), omega arith), tt);
          single = λ r. let few = called-single r id m.last calls h.numbers lt (h.single r) in let more = called-append r calls ((id, call) ∷ []) in omega (arith, few, more);
          once = λ r.
              let more = pending-append r m.pending (p ∷ []) in
              let was = h.once r in
              let next = called-append r calls ((id, call) ∷ []) in
              omega (arith, more, was, next);
          pending =
              each-append (λ q. call_at (calls ++ (id, call) ∷ []) q.id ≡ Some q.call) m.pending (p ∷ [])
              (each-weaker (λ q. call_at calls q.id ≡ Some q.call) (λ q. call_at (calls ++ (id, call) ∷ []) q.id ≡ Some q.call) (λ q is. call_at-append calls ((id, call) ∷ []) q.id q.call is) m.pending h.pending)
              (call_at-push calls id call m.last h.numbers lt, tt);
          rising = rising-push m.last m.pending p lt h.rising;
        }

    -- one more that has ended
    alive-sent : (id : ℕ) (call : Call) (l : Option Linked) (m : Client) → m.last < id → IsAlive client_id version calls taken m
        → IsAlive client_id version (calls ++ (id, call) ∷ []) taken (record m { last = id; completions = m.completions ++ (id, Sent) ∷ []; link = l })
    alive-sent id call l m lt h = record {
      client = h.client;
      writes = h.writes;
      numbers = each-append (λ x. (0 < x.0) × (x.0 ≤ id)) calls ((id, call) ∷ []) (numbers-later m.last id calls (omega (arith, lt)) h.numbers) ((omega (arith, lt), omega arith), tt);
      single = λ r. let few = called-single r id m.last calls h.numbers lt (h.single r) in let more = called-append r calls ((id, call) ∷ []) in omega (arith, few, more);
      once = λ r.
          let more = ended-append r m.completions ((id, Sent) ∷ []) in
          let was = h.once r in
          let next = called-append r calls ((id, call) ∷ []) in
          omega (arith, more, was, next);
      pending = each-weaker (λ q. call_at calls q.id ≡ Some q.call) (λ q. call_at (calls ++ (id, call) ∷ []) q.id ≡ Some q.call) (λ q is. call_at-append calls ((id, call) ∷ []) q.id q.call is) m.pending h.pending;
      rising = rising-later m.last id m.pending (omega (arith, lt)) h.rising;
    }

    alive-placed_on : (b : Bool) (id : ℕ) (call : Call) (m : Client) (l : Linked) → m.last < id → IsAlive client_id version calls taken m → IsAlive client_id version (calls ++ (id, call) ∷ []) taken (placed_on b id call m l)
    alive-placed_on true id call m l lt h = alive-sent id call (Some (record l { given = suc l.given })) m lt h
    alive-placed_on false id call m l lt h = alive-called id call (Some (suc l.given)) (Some (record l { given = suc l.given })) m lt h

    alive-placed : (id : ℕ) (call : Call) (m : Client) (l : Option Linked) → m.last < id → IsAlive client_id version calls taken m → IsAlive client_id version (calls ++ (id, call) ∷ []) taken (placed id call m l)
    alive-placed id call m None lt h = alive-called id call None None m lt h
    alive-placed id call m (Some l) lt h = alive-placed_on (is_oneway (wish_of call.form)) id call m l lt h

    -- greater numbers from now on
    alive-skipped : (id : ℕ) (m : Client) → IsAlive client_id version calls taken m → IsAlive client_id version calls taken (skipped id m)
    alive-skipped id m h =
        elim (nat_lt m.last id && nat_lt id 2147483648) as (λ b. (nat_lt m.last id && nat_lt id 2147483648) ≡ b → IsAlive client_id version calls taken (cond b (record m { last = id }) m)) [
          | true ↦ λ is. let lt = ltb-true m.last id (and_parts (nat_lt m.last id) (nat_lt id 2147483648) is).0 in record {
            client = h.client;
            writes = h.writes;
            numbers = numbers-later m.last id calls (omega (arith, lt)) h.numbers;
            single = h.single;
            once = h.once;
            pending = h.pending;
            rising = rising-later m.last id m.pending (omega (arith, lt)) h.rising;
          }
          | false ↦ λ is. h
        ] refl

    -- where no call is made and no completion is taken
    alive-plain : (m : Client) → IsAlive client_id version calls taken m → IsAlive client_id version (calls ++ []) (taken ++ []) m
    alive-plain m h =
        subst (λ (xs : List (ℕ × Ended)). IsAlive client_id version (calls ++ []) xs m) (sym (append-nil taken))
        (subst (λ (cs : List (ℕ × Call)). IsAlive client_id version cs taken m) (sym (append-nil calls)) h)

    -- a call that is taken, or taken up again
    alive-made : (b : Bool) (id : ℕ) (call : Call) (m : Client) → (b ≡ true → m.last < id) → IsAlive client_id version calls taken m
        → IsAlive client_id version (calls ++ cond b ((id, call) ∷ []) []) (taken ++ []) (cond b (placed id call m m.link) m)
    alive-made true id call m lt h = subst (λ (xs : List (ℕ × Ended)). IsAlive client_id version (calls ++ (id, call) ∷ []) xs (placed id call m m.link)) (sym (append-nil taken)) (alive-placed id call m m.link (lt refl) h)
    alive-made false id call m lt h = alive-plain m h

    alive-after : (down : Hearing Answer) (h : Happening) (m : Client) → IsAlive client_id version calls taken m → IsAlive client_id version (calls ++ made h m) (taken ++ gives h m) (after down h m)
    alive-after down (Called now call) m a = alive-made (is_taken now call m) (suc m.last) call m (λ is. omega arith) a
    alive-after down (Resumed now id call) m a = alive-made (is_resumed now id call m) id call m (λ is. is-greater now id call m is) a
    alive-after down (Skipped id) m a = alive-plain (skipped id m) (alive-skipped id m a)
    alive-after down (Kept keeps) m a = alive-plain (record m { keeps_transient = keeps }) (record { client = a.client; writes = a.writes; numbers = a.numbers; single = a.single; once = a.once; pending = a.pending; rising = a.rising })
    alive-after down (KeptForwards keeps) m a =
        alive-plain (record m { keeps_forwards = keeps }) (record { client = a.client; writes = a.writes; numbers = a.numbers; single = a.single; once = a.once; pending = a.pending; rising = a.rising })
    alive-after down (Redirected id key) m a =
        alive-plain (after down (Redirected id key) m) (alive-redirected (is_redirected key m (find_pending id m.pending)) id key m a)
    alive-after down (Joined now) m a =
        alive-plain (after down (Joined now) m)
        (alive-left is_unsettled Sent (joined now m) (alive-resent now (parted m) (record { given = 0; received = [] }) (alive-parted m a)))
    alive-after down (Resent now) m a = alive-plain (resent_if now m m.link) (alive-resent_if now m m.link a)
    alive-after down (Fed octets) m a = alive-plain (fed_on down octets m) (alive-parted_at (ending_of down octets m.link) (told_of down octets m m.link) (alive-told down octets m m.link a))
    alive-after down Parted m a = alive-plain (parted m) (alive-parted m a)
    alive-after down (Recalled id) m a = alive-plain (recalled (find_pending id m.pending) m) (alive-recalled id (find_pending id m.pending) m refl a)
    alive-after down (Ticked now) m a = alive-plain (after down (Ticked now) m) (alive-left (is_in_time now) Expired m a)
    alive-after down Taken m a = subst (λ (cs : List (ℕ × Call)). IsAlive client_id version cs (taken ++ take 1 m.completions) (after down Taken m)) (sym (append-nil calls)) (alive-taken m a)

  -- Transmissions.

  -- each of these carries a call's content, in time
  abbrev AreOfCalls : List (ℕ × Call) → List (ℕ × Transmission) → Type 0
  AreOfCalls calls xs = AllByRecursion (λ x. IsOfCall client_id version calls x) xs

  of_call-later : (calls more : List (ℕ × Call)) (x : ℕ × Transmission) → IsOfCall client_id version calls x → IsOfCall client_id version (calls ++ more) x
  of_call-later calls more x h = record { client = h.client; written = h.written; call = call_at-append calls more x.1.retention_id x.1.call h.call; in_time = h.in_time }

  again-sent : (calls more : List (ℕ × Call)) (v : Version) (id : List ℕ) (now n : ℕ) (ps : List Pending) → v ≡ version → id ≡ client_id → AllByRecursion (λ p. call_at calls p.id ≡ Some p.call) ps → AreOfCalls (calls ++ more) (sent_at now (says_again v id now n ps))
  again-sent calls more v id now n [] wrote is h = tt
  again-sent calls more v id now n (p ∷ ps) wrote is h =
      elim (is_due now n p) as (λ b. is_due now n p ≡ b
      → AreOfCalls (calls ++ more) (sent_at now (cond b (Asked (transmission_to v id p.id (suc n) p.at p.call) ∷ says_again v id now (suc n) ps) (says_again v id now n ps)))) [
        | true ↦ λ due. (record { client = is; written = ap (λ x. version_in x p.call.form) wrote; call = call_at-append calls more p.id p.call h.0; in_time = due-in_time now n p due }, again-sent calls more v id now (suc n) ps wrote is h.1)
        | false ↦ λ late. again-sent calls more v id now n ps wrote is h.1
      ] refl

  resent-sent : (calls : List (ℕ × Call)) (taken : List (ℕ × Ended)) (now : ℕ) (m : Client) (l : Option Linked) → IsAlive client_id version calls taken m → AreOfCalls (calls ++ []) (sent_at now (says_resent now m l))
  resent-sent calls taken now m None a = tt
  resent-sent calls taken now m (Some l) a = again-sent calls [] m.version m.client_id now l.given m.pending a.writes a.client a.pending

  placed-sent : (calls : List (ℕ × Call)) (taken : List (ℕ × Ended)) (now id : ℕ) (call : Call) (m : Client) (l : Option Linked) → now ≤ call.expiration → m.last < id → IsAlive client_id version calls taken m
      → AreOfCalls (calls ++ (id, call) ∷ []) (sent_at now (says_placed id call m l))
  placed-sent calls taken now id call m None in_time lt h = tt
  placed-sent calls taken now id call m (Some l) in_time lt h = (record { client = h.client; written = ap (λ x. version_in x call.form) h.writes; call = call_at-push calls id call m.last h.numbers lt; in_time = in_time }, tt)

  made-sent : (calls : List (ℕ × Call)) (taken : List (ℕ × Ended)) (b : Bool) (now id : ℕ) (call : Call) (m : Client) → (b ≡ true → now ≤ call.expiration) → (b ≡ true → m.last < id) → IsAlive client_id version calls taken m
      → AreOfCalls (calls ++ cond b ((id, call) ∷ []) []) (sent_at now (cond b (says_placed id call m m.link) []))
  made-sent calls taken true now id call m in_time lt h = placed-sent calls taken now id call m m.link (in_time refl) (lt refl) h
  made-sent calls taken false now id call m in_time lt h = tt

  recalled-sent : (calls : List (ℕ × Call)) (v : Version) (o : Option Pending) → AreOfCalls calls (sent_at 0 (says_recalled v o))
  recalled-sent calls v None = tt
  recalled-sent calls v (Some p) = withdrawn-sent p.sent
    where
      withdrawn-sent : (sent : Option ℕ) → AreOfCalls calls (sent_at 0 (withdrawn v sent))
      withdrawn-sent None = tt
      withdrawn-sent (Some i) = tt

  sent-after : (calls : List (ℕ × Call)) (taken : List (ℕ × Ended)) (h : Happening) (m : Client) → IsAlive client_id version calls taken m → AreOfCalls (calls ++ made h m) (sent_at (moment_of h) (says h m))
  sent-after calls taken (Called now call) m a =
      made-sent calls taken (is_taken now call m) now (suc m.last) call m (λ is. is-on_time now call m is) (λ is. omega arith) a
  sent-after calls taken (Resumed now id call) m a = made-sent calls taken (is_resumed now id call m) now id call m (λ is. is-early now id call m is) (λ is. is-greater now id call m is) a
  sent-after calls taken (Skipped id) m a = tt
  sent-after calls taken (Kept keeps) m a = tt
  sent-after calls taken (KeptForwards keeps) m a = tt
  sent-after calls taken (Redirected id key) m a = tt
  sent-after calls taken (Joined now) m a = again-sent calls [] m.version m.client_id now 0 (unsent m.pending) a.writes a.client (alive-parted calls taken m a).pending
  sent-after calls taken (Resent now) m a = resent-sent calls taken now m m.link a
  sent-after calls taken (Fed octets) m a = tt
  sent-after calls taken Parted m a = tt
  sent-after calls taken (Recalled id) m a = recalled-sent (calls ++ []) m.version (find_pending id m.pending)
  sent-after calls taken (Ticked now) m a = tt
  sent-after calls taken Taken m a = tt

  -- Lives.

  pub life-goes_on : (down : Hearing Answer) (h : Happening) (l : Life) → IsLife client_id version l → IsLife client_id version (goes_on down h l)
  life-goes_on down h l is = record {
    alive = alive-after l.calls l.taken down h l.client is.alive;
    sent =
        each-append (λ x. IsOfCall client_id version (l.calls ++ made h l.client) x) l.sent (sent_at (moment_of h) (says h l.client))
        (each-weaker (λ x. IsOfCall client_id version l.calls x) (λ x. IsOfCall client_id version (l.calls ++ made h l.client) x) (λ x of. of_call-later l.calls (made h l.client) x of) l.sent is.sent)
        (sent-after l.calls l.taken h l.client is.alive);
  }

  pub life-lived : (down : Hearing Answer) (hs : List Happening) (l : Life) → IsLife client_id version l → IsLife client_id version (lived down hs l)
  life-lived down [] l is = is
  life-lived down (h ∷ hs) l is = life-lived down hs (goes_on down h l) (life-goes_on down h l is)

  pub life-new : (limits : Limits) → IsLife client_id version (new_life client_id version limits)
  life-new limits = record {
    alive = record { client = refl; writes = refl; numbers = tt; single = λ r. omega arith; once = λ r. refl; pending = tt; rising = tt };
    sent = tt;
  }

pub calls-complete-once : CallsCompleteOnce
calls-complete-once client_id version limits down happenings = life-lived client_id version down happenings (new_life client_id version limits) (life-new client_id version limits)
