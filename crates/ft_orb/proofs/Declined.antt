-- What stands after a past in which calls were declined.
use Rattle.std.proofs.Common.{◌≡◌, ℕ, zero, suc, ◌*◌, ◌<◌, ◌≤◌, Bool, true, false, not, nat_eq, nat_lt, length, get_or, map, Contains, List, [], ◌∷◌, ◌++◌, Option, Some, None, Ok, Err, cond, refl, sym, ap, ◌∙◌, subst, ⊎_elim, arith, append_assoc, append-nil}
use Rattle.std.specs.List.{AllByRecursion, cons_option, slice_get}
use Rattle.std.proofs.lemmas.Bool.{and_from, lt-ltb, ltb-false, ltb-true, true≢false}
use Rattle.std.proofs.lemmas.List.{map-append}
use Rattle.std.proofs.lemmas.List.Elements.{Contains-append_cases, Contains-append_right}
use Rattle.giop_frames.specs.declared.limits.Limits.{Limits}
use Rattle.ft_log.specs.Holding.{Holding}
use Rattle.ft_log.specs.Keys.{RequestKey, has_room_for, held_of}
use Rattle.ft_log.specs.Kept.{keys_of}
use Rattle.ft_log.specs.declared.system_exception.SystemName.TheVariants.{NoResources}
use Rattle.ft_orb.specs.ExactlyOnce.{Arrival, ClocksGrow, Present, clock_after, live_key, live_keys}
use Rattle.ft_orb.specs.Declined.{AnswersAreNumbers, CallsAreTheirs, DeclinedAtOnce, DeclinedForGood, DeclinedIsFree, FirstsAreTaken, HeldTakeNothing, KeyStandsLaterInPast, KeyStandsOnceInPast, LiveKeysAreKept, NothingDeclined, PastsStand, RepeatsTakeNothing, RoomForStandingClients, StandsTillDeclined, TablesStandForItems, asks_by, brought, items, room_by, standing, standing_with}
use Rattle.ft_orb.specs.History.{Close, Event, KeepsAll, Lost, Opened, Piece, Withdrew, arrivals, clock, completed, Changed}
use Rattle.ft_orb.specs.Now.{OneExpirationOf, acts_now}
use Rattle.ft_orb.specs.Owners.{owned_rules, owned_table}
use Rattle.ft_orb.specs.Parking.{Settings, by_number}
use Rattle.ft_orb.specs.Requests.{Call, Wanted}
use Rattle.ft_orb.specs.Table.{Table, table_after, table_answers, table_step}
use Rattle.ft_orb.specs.Withdrawing.{Arrives, IsTableFor, Item, Numbered, Standing, Withdraws, all_but, arrivals_among, items_after, new_table, none_stands, number_answer, number_answers, number_by_field, number_held, number_rules, performed_too, requests_of, stand, stand_all, stands_after}
use Rattle.ft_orb.proofs.Folded.{ClocksGrow-front}
use Rattle.ft_orb.proofs.Headline.{arrivals-grow, event-clocks}
use Rattle.ft_orb.proofs.Asking.{asked-at-never}
use Rattle.ft_orb.proofs.Now.{grown_now}
use Rattle.ft_orb.proofs.NowFirsts.{owners, owners-all, owners-length}
use Rattle.ft_orb.proofs.Shares.{Within, held_of-cons, held_of-later, length-total, refused, total-below}
use Rattle.ft_orb.proofs.SharesNow.{grown_now-within}
use Rattle.ft_orb.proofs.Withdrawn.{all_at, firsts-get-the-next, held-get-the-number, in_run, key-stands-later, key-stands-once, later_stands, live-is, numbers-are-theirs, plain_says, plain_table, repeats-get-the-number, run-stands, stand_all-append, stands-till-withdrawn, tables-withdraw, takes-one, withdrawn-at-once, withdrawn-for-good, withdrawn-key-is-free}

module _ {C : Type 0} where
  among-append : (xs ys : List (Item C)) → arrivals_among (xs ++ ys) ≡ arrivals_among xs ++ arrivals_among ys
  among-append [] ys = refl
  among-append (Arrives a ∷ xs) ys = ap (λ (l : List (Arrival C)). a ∷ l) (among-append xs ys)
  among-append (Withdraws n ∷ xs) ys = among-append xs ys

  among-arrivals : (xs : List (Arrival C)) → arrivals_among (map (λ a. Arrives a) xs) ≡ xs
  among-arrivals [] = refl
  among-arrivals (a ∷ xs) = ap (λ (l : List (Arrival C)). a ∷ l) (among-arrivals xs)

  abbrev arrives : Item C → Bool
  arrives (Arrives a) = true
  arrives (Withdraws n) = false

  abbrev number_in : Item C → ℕ
  number_in (Arrives a) = 0
  number_in (Withdraws n) = n

  -- no arrival is a withdrawal
  no-withdrawal : (xs : List (Arrival C)) (n k : ℕ) → k < length (map (λ a. Arrives a) xs) → get_or (map (λ a. Arrives a) xs) k (Withdraws n) ≡ Withdraws n → ⊥
  no-withdrawal [] n k lt at = omega (arith, lt)
  no-withdrawal (a ∷ xs) n zero lt at = true≢false (ap arrives at)
  no-withdrawal (a ∷ xs) n (suc k) lt at = no-withdrawal xs n k (omega (arith, lt)) at

  one-withdrawal : (i n k : ℕ) → k < 1 → get_or {A = Item C} (Withdraws i ∷ []) k (Withdraws n) ≡ Withdraws n → i ≡ n
  one-withdrawal i n zero lt at = ap number_in at
  one-withdrawal i n (suc k) lt at = absurd (omega (arith, lt))

  -- the clocks up to one of them
  grow-middle : (first : ℕ) (xs rest : List (Arrival C)) (a : Arrival C) → ClocksGrow first (xs ++ a ∷ rest) → clock_after first xs ≤ a.clock
  grow-middle first [] rest a h = h.0
  grow-middle first (x ∷ xs) rest a h = grow-middle x.clock xs rest a h.1

-- no clock before one of them is greater
grow-first : {C : Type 0} (first : ℕ) (xs rest : List (Arrival C)) (a : Arrival C) → ClocksGrow first (xs ++ a ∷ rest) → first ≤ a.clock
grow-first first [] rest a h = h.0
grow-first first (x ∷ xs) rest a h = let more = grow-first x.clock xs rest a h.1 in let here = h.0 in omega (arith, here, more)

grow-all : {C : Type 0} (first : ℕ) (xs rest : List (Arrival C)) (a : Arrival C) → ClocksGrow first (xs ++ a ∷ rest) → AllByRecursion (λ b. b.clock ≤ a.clock) xs
grow-all first [] rest a h = tt
grow-all first (x ∷ xs) rest a h = (grow-first x.clock xs rest a h.1, grow-all x.clock xs rest a h.1)

-- of a client no more keys are live without one number
cons-more : (client : List ℕ) (o : Option RequestKey) (ks ls : List RequestKey) → held_of client ls ≤ held_of client ks → held_of client (cons_option o ls) ≤ held_of client (cons_option o ks)
cons-more client None ks ls le = le
cons-more client (Some k) ks ls le = let more = held_of-cons client k ks in let less = held_of-cons client k ls in omega (arith, more, less, le)

cons-less : (client : List ℕ) (o : Option RequestKey) (ks ls : List RequestKey) → held_of client ls ≤ held_of client ks → held_of client ls ≤ held_of client (cons_option o ks)
cons-less client None ks ls le = le
cons-less client (Some k) ks ls le = let more = held_of-cons client k ks in omega (arith, more, le)

but-fewer : {C : Type 0} (client : List ℕ) (now n : ℕ) (ps : List (Numbered C)) → held_of client (live_keys now (requests_of (all_but n ps))) ≤ held_of client (live_keys now (requests_of ps))
but-fewer client now n [] = omega arith
but-fewer client now n (p ∷ ps) =
    let rest = but-fewer client now n ps in
    let o = live_key now p.arrival.field in
    let ks = live_keys now (requests_of ps) in
    let ls = live_keys now (requests_of (all_but n ps)) in
    elim (not (nat_eq p.number n)) as (λ b. held_of client (live_keys now (requests_of (cond b (p ∷ all_but n ps) (all_but n ps)))) ≤ held_of client (cons_option o ks))
    [ true ↦ cons-more client o ks ls rest | false ↦ cons-less client o ks ls rest ]

not-nil : {X : Type 0} (front rest : List X) (x : X) → [] ≡ front ++ x ∷ rest → ⊥
not-nil [] rest x is = let size = ap length is in omega (arith, size)
not-nil (y ∷ front) rest x is = let size = ap length is in omega (arith, size)

module _ (limits : Limits) where
  brought-arrivals : (past : List Event) (e : Event) → arrivals_among (brought limits past e) ≡ completed limits past e
  brought-arrivals past (Opened c) = refl
  brought-arrivals past (Piece c moment octets) = among-arrivals (completed limits past (Piece c moment octets))
  brought-arrivals past (Close c) = refl
  brought-arrivals past (Lost c) = refl
  brought-arrivals past (Withdrew i) = refl
  brought-arrivals past Changed = refl

  items-arrivals : (past : List Event) → arrivals_among (items limits past) ≡ arrivals limits past
  items-arrivals [] = refl
  items-arrivals (e ∷ past) = among-append (items limits past) (brought limits past e) ∙ (λ i. items-arrivals past i ++ brought-arrivals past e i)

  -- what more events bring
  abbrev more : List Event → List Event → List (Item Wanted)
  more past [] = []
  more past (e ∷ later) = more past later ++ brought limits (later ++ past) e

  items-more : (past later : List Event) → items limits (later ++ past) ≡ items limits past ++ more past later
  items-more past [] = sym (append-nil (items limits past))
  items-more past (e ∷ later) =
      ap (λ (xs : List (Item Wanted)). xs ++ brought limits (later ++ past) e) (items-more past later)
      ∙ append_assoc (items limits past) (more past later) (brought limits (later ++ past) e)

  brought-withdraws : (past : List Event) (e : Event) (n k : ℕ) → k < length (brought limits past e) → get_or (brought limits past e) k (Withdraws n) ≡ Withdraws n → e ≡ Withdrew n
  brought-withdraws past (Opened c) n k lt at = absurd (omega (arith, lt))
  brought-withdraws past (Piece c moment octets) n k lt at = absurd (no-withdrawal (completed limits past (Piece c moment octets)) n k lt at)
  brought-withdraws past (Close c) n k lt at = absurd (omega (arith, lt))
  brought-withdraws past (Lost c) n k lt at = absurd (omega (arith, lt))
  brought-withdraws past Changed n k lt at = absurd (omega (arith, lt))
  brought-withdraws past (Withdrew i) n k lt at = ap (λ m. Withdrew m) (one-withdrawal i n k lt at)

  more-withdraws : (past later : List Event) (n : ℕ) → Contains (more past later) (Withdraws n) → Contains later (Withdrew n)
  more-withdraws past [] n at = absurd (let lt = at.1 in omega (arith, lt))
  more-withdraws past (e ∷ later) n at =
      ⊎_elim
      (λ before. Contains-append_right (e ∷ []) later (Withdrew n) (more-withdraws past later n before))
      (λ (here : Contains (brought limits (later ++ past) e) (Withdraws n)). (zero, omega arith, brought-withdraws (later ++ past) e n here.0 here.1 here.2))
      (Contains-append_cases (more past later) (brought limits (later ++ past) e) (Withdraws n) at)

  -- what completes a request brings its requests
  brings : (past : List Event) (e : Event) (front rest : List (Arrival Wanted)) (a : Arrival Wanted) → completed limits past e ≡ front ++ a ∷ rest → brought limits past e ≡ map (λ b. Arrives b) (front ++ a ∷ rest)
  brings past (Opened c) front rest a is = absurd (not-nil front rest a is)
  brings past (Piece c moment octets) front rest a is = ap (map (λ b. Arrives b)) is
  brings past (Close c) front rest a is = absurd (not-nil front rest a is)
  brings past (Lost c) front rest a is = absurd (not-nil front rest a is)
  brings past (Withdrew i) front rest a is = absurd (not-nil front rest a is)
  brings past Changed front rest a is = absurd (not-nil front rest a is)

  plain-push : (past : List Event) (e : Event) → items limits past ≡ map (λ a. Arrives a) (arrivals limits past) → brought limits past e ≡ map (λ a. Arrives a) (completed limits past e)
      → items limits (e ∷ past) ≡ map (λ a. Arrives a) (arrivals limits (e ∷ past))
  plain-push past e before now = (λ i. before i ++ now i) ∙ sym (map-append (λ (a : Arrival Wanted). Arrives a) (arrivals limits past) (completed limits past e))

  plain-items : (past : List Event) → KeepsAll past → items limits past ≡ map (λ a. Arrives a) (arrivals limits past)
  plain-items [] kept = refl
  plain-items (Opened c ∷ past) kept = plain-push past (Opened c) (plain-items past kept) refl
  plain-items (Piece c moment octets ∷ past) kept = plain-push past (Piece c moment octets) (plain-items past kept) refl
  plain-items (Close c ∷ past) kept = plain-push past (Close c) (plain-items past kept) refl
  plain-items (Lost c ∷ past) kept = plain-push past (Lost c) (plain-items past kept) refl
  plain-items (Withdrew i ∷ past) kept = absurd kept
  plain-items (Changed ∷ past) kept = plain-push past Changed (plain-items past kept) refl

module _ (s : Settings) where
  items_after-append : (t : Table (List Call) ℕ) (xs ys : List (Item Wanted)) → items_after (asks_by s) (room_by s) t (xs ++ ys) ≡ items_after (asks_by s) (room_by s) (items_after (asks_by s) (room_by s) t xs) ys
  items_after-append t [] ys = refl
  items_after-append t (Arrives a ∷ xs) ys = items_after-append (items_after (asks_by s) (room_by s) t (Arrives a ∷ [])) xs ys
  items_after-append t (Withdraws n ∷ xs) ys = items_after-append (items_after (asks_by s) (room_by s) t (Withdraws n ∷ [])) xs ys

  module _ (held : ℕ → Holding) where
    abbrev Kept : List Event → Table (List Call) ℕ
    Kept past = owned_table (by_number s held) past

    next-table : (past : List Event) (e : Event) → Kept (e ∷ past) ≡ items_after (asks_by s) (room_by s) (Kept past) (brought s.limits past e)
    next-table past (Opened c) = refl
    next-table past (Piece c moment octets) = sym (plain_table (asks_by s) (room_by s) (Kept past) (completed s.limits past (Piece c moment octets)))
    next-table past (Close c) = refl
    next-table past (Lost c) = refl
    next-table past (Withdrew i) = refl
    next-table past Changed = refl

    pub table-of-items : (past : List Event) → Kept past ≡ items_after (asks_by s) (room_by s) new_table (items s.limits past)
    table-of-items [] = refl
    table-of-items (e ∷ past) =
        next-table past e
        ∙ ap (λ t. items_after (asks_by s) (room_by s) t (brought s.limits past e)) (table-of-items past)
        ∙ sym (items_after-append new_table (items s.limits past) (brought s.limits past e))

    pub past-stands : (past : List Event) → IsTableFor (clock past) (standing s past) (Kept past)
    past-stands past =
        let all = items s.limits past in
        let are = items-arrivals s.limits past in
        let grow = arrivals-grow s.limits past in
        let grown = subst (λ (xs : List (Arrival Wanted)). ClocksGrow 0 xs) (sym are) grow.0 in
        let upto = subst (λ (xs : List (Arrival Wanted)). clock_after 0 xs ≤ clock past) (sym are) grow.1 in
        let stands = later_stands (clock_after 0 (arrivals_among all)) (clock past) (standing s past) (items_after (asks_by s) (room_by s) new_table all) upto (tables-withdraw (asks_by s) (room_by s) all grown).1 in
        subst (λ t. IsTableFor (clock past) (standing s past) t) (sym (table-of-items past)) stands

    -- some of the requests of an event, after the past
    front-runs : (past : List Event) (xs : List (Arrival Wanted)) → ClocksGrow (clock past) xs
        → (table_answers (owned_rules (by_number s held)) (Kept past) xs ≡ number_answers (asks_by s) (room_by s) (standing s past) (map (λ a. Arrives a) xs))
        × IsTableFor (clock_after (clock past) xs) (standing_with s past xs) (table_after (owned_rules (by_number s held)) (Kept past) xs)
    front-runs past xs grow =
        let grown = subst (λ (ys : List (Arrival Wanted)). ClocksGrow (clock past) ys) (sym (among-arrivals xs)) grow in
        let run = run-stands (asks_by s) (room_by s) (standing s past) (clock past) (map (λ a. Arrives a) xs) (Kept past) grown (past-stands past) in (
          sym (plain_says (asks_by s) (room_by s) (Kept past) xs) ∙ run.0,
          subst (λ t. IsTableFor (clock_after (clock past) xs) (standing_with s past xs) t) (plain_table (asks_by s) (room_by s) (Kept past) xs)
              (subst (λ (ys : List (Arrival Wanted)). IsTableFor (clock_after (clock past) ys) (standing_with s past xs) (items_after (asks_by s) (room_by s) (Kept past) (map (λ a. Arrives a) xs))) (among-arrivals xs) run.1),
        )

    past-says : (past : List Event) (e : Event) → table_answers (owned_rules (by_number s held)) (Kept past) (completed s.limits past e) ≡ number_answers (asks_by s) (room_by s) (standing s past) (brought s.limits past e)
    past-says past (Opened c) = refl
    past-says past (Piece c moment octets) =
        (front-runs past (completed s.limits past (Piece c moment octets)) (event-clocks s.limits past (Piece c moment octets) (clock past) (omega arith)).0).0
    past-says past (Close c) = refl
    past-says past (Lost c) = refl
    past-says past (Withdrew i) = refl
    past-says past Changed = refl

    -- one request of an event, after those before it
    in-event : (past : List Event) (e : Event) (front rest : List (Arrival Wanted)) (a : Arrival Wanted) → completed s.limits past e ≡ front ++ a ∷ rest
        → let t = table_after (owned_rules (by_number s held)) (Kept past) front in let here = standing_with s past front in
        ((table_step (owned_rules (by_number s held)) t a).1 ≡ number_answer (asks_by s) (room_by s) here a)
        × ((table_step (owned_rules (by_number s held)) t a).0.state ≡ (stand (asks_by s) (room_by s) here (Arrives a)).calls)
        × (t.state ≡ here.calls)
    in-event past e front rest a is =
        let grow : ClocksGrow (clock past) (front ++ a ∷ rest) = subst (λ (xs : List (Arrival Wanted)). ClocksGrow (clock past) xs) is (event-clocks s.limits past e (clock past) (omega arith)).0 in
        let table = front-runs past front (ClocksGrow-front (clock past) front (a ∷ rest) grow) in
        let step = takes-one (asks_by s) (room_by s) (clock_after (clock past) front) (standing_with s past front) a (table_after (owned_rules (by_number s held)) (Kept past) front) (grow-middle (clock past) front rest a grow) table.1 in
        (step.0, step.1.state, table.1.state)

  -- the items of a past and of more requests, and what stands after them
  abbrev front-items : List Event → List (Arrival Wanted) → List (Item Wanted)
  front-items past front = items s.limits past ++ map (λ b. Arrives b) front

  front-stands : (past : List Event) (front : List (Arrival Wanted)) → stands_after (asks_by s) (room_by s) (front-items past front) ≡ standing_with s past front
  front-stands past front = stand_all-append (asks_by s) (room_by s) none_stands (items s.limits past) (map (λ b. Arrives b) front)

  pub tables-stand-for-items : TablesStandForItems s
  tables-stand-for-items held past = (table-of-items held past, past-stands held past)

  pub live-keys-are-kept : LiveKeysAreKept s
  live-keys-are-kept held past = ap keys_of (past-stands held past).entries ∙ sym (live-is (clock past) (standing s past).performed)

  pub answers-are-numbers : AnswersAreNumbers s
  answers-are-numbers held past e = past-says held past e

  pub key-stands-later-in-past : KeyStandsLaterInPast s
  key-stands-later-in-past past front between rest p q key early late is is_p is_q =
      key-stands-later (asks_by s) (room_by s) (items s.limits past) front between rest p q key early late is is_p is_q

  pub key-stands-once-in-past : KeyStandsOnceInPast s
  key-stands-once-in-past past front between rest p q key early late one is is_p is_q =
      key-stands-once (asks_by s) (room_by s) (items s.limits past) front between rest p q key early late
      (subst (OneExpirationOf key) (sym (items-arrivals s.limits past)) one) is is_p is_q

  -- a repeat, by what stands after the items
  repeat-step : (held : ℕ → Holding) (past : List Event) (e : Event) (front rest : List (Arrival Wanted)) (a : Arrival Wanted) (n : ℕ) → completed s.limits past e ≡ front ++ a ∷ rest
      → let w = stands_after (asks_by s) (room_by s) (front-items past front) in (number_answer (asks_by s) (room_by s) w a ≡ Ok n) × (stand (asks_by s) (room_by s) w (Arrives a) ≡ w)
      → let t = table_after (owned_rules (by_number s held)) (owned_table (by_number s held) past) front in
      ((table_step (owned_rules (by_number s held)) t a).1 ≡ Ok n) × ((table_step (owned_rules (by_number s held)) t a).0.state ≡ t.state)
  repeat-step held past e front rest a n is repeat =
      let stands = front-stands past front in
      let here = standing_with s past front in
      let says : number_answer (asks_by s) (room_by s) here a ≡ Ok n = ap (λ w. number_answer (asks_by s) (room_by s) w a) (sym stands) ∙ repeat.0 in
      let idle : stand (asks_by s) (room_by s) here (Arrives a) ≡ here = ap (λ w. stand (asks_by s) (room_by s) w (Arrives a)) (sym stands) ∙ repeat.1 ∙ stands in
      let step = in-event held past e front rest a is in
      (step.0 ∙ says, step.1 ∙ ap (λ w. w.calls) idle ∙ sym step.2)

  front-arrivals : (past : List Event) (front : List (Arrival Wanted)) → arrivals_among (front-items past front) ≡ arrivals s.limits past ++ front
  front-arrivals past front = among-append (items s.limits past) (map (λ b. Arrives b) front) ∙ (λ i. items-arrivals s.limits past i ++ among-arrivals front i)

  -- the arrivals of a past, up to one that an event completes
  whole-grow : (past : List Event) (e : Event) (front rest : List (Arrival Wanted)) (a : Arrival Wanted) → completed s.limits past e ≡ front ++ a ∷ rest → ClocksGrow 0 ((arrivals s.limits past ++ front) ++ a ∷ rest)
  whole-grow past e front rest a is =
      subst (λ (xs : List (Arrival Wanted)). ClocksGrow 0 xs) (ap (λ (xs : List (Arrival Wanted)). arrivals s.limits past ++ xs) is ∙ sym (append_assoc (arrivals s.limits past) front (a ∷ rest))) (arrivals-grow s.limits (e ∷ past)).0

  pub held-take-nothing : HeldTakeNothing s
  held-take-nothing held past e front rest p a key early late is at is_p is_a in_first in_time =
      let all = front-items past front in
      let there = subst (λ w. Contains w.performed p) (sym (front-stands past front)) at in
      let grow = whole-grow past e front rest a is in
      let before = subst (AllByRecursion (λ (b : Arrival Wanted). b.clock ≤ a.clock)) (sym (front-arrivals past front)) (grow-all 0 (arrivals s.limits past ++ front) rest a grow) in
      let after = all_at (λ q. q.arrival.clock ≤ a.clock) (stands_after (asks_by s) (room_by s) all).performed p there.0 there.1 there.2
      (in_run (asks_by s) (room_by s) (λ b. b.clock ≤ a.clock) none_stands all before tt) in
      repeat-step held past e front rest a p.number is (held-get-the-number (asks_by s) (room_by s) all p a key early late there is_p is_a after in_first in_time)

  pub repeats-take-nothing : RepeatsTakeNothing s
  repeats-take-nothing held past e front rest p a key early late is one at is_p is_a in_time =
      let one_too : OneExpirationOf key (arrivals_among (front-items past front) ++ a ∷ []) =
      subst (OneExpirationOf key) (ap (λ (xs : List (Arrival Wanted)). xs ++ a ∷ []) (sym (front-arrivals past front))) one in
      repeat-step held past e front rest a p.number is
      (repeats-get-the-number (asks_by s) (room_by s) (front-items past front) p a key early late one_too (subst (λ w. Contains w.performed p) (sym (front-stands past front)) at) is_p is_a in_time)

  pub firsts-are-taken : FirstsAreTaken s
  firsts-are-taken held past e front rest a key expiration call room is is_a in_time asks free room_is =
      let here = standing_with s past front in
      let first = firsts-get-the-next (asks_by s) (room_by s) here a key expiration call room is_a in_time asks free room_is in
      let step = in-event held past e front rest a is in (
        step.0 ∙ first.0 ∙ (λ i. cond room (Ok (length (sym step.2 i))) (Err NoResources)),
        step.1 ∙ ap (λ w. w.calls) first.1
            ∙ (elim room as (λ b. (cond b (record { calls = here.calls ++ call ∷ []; performed = here.performed ++ record { number = length here.calls; arrival = a } ∷ [] }) here).calls ≡ cond b (here.calls ++ call ∷ []) here.calls) [ true ↦ refl | false ↦ refl ])
            ∙ (λ i. cond room (sym step.2 i ++ call ∷ []) (sym step.2 i)),
      )

  -- no client has more live keys than its share
  stand-requests : (w : Standing Wanted Call) (a : Arrival Wanted) → requests_of (stand (asks_by s) (room_by s) w (Arrives a)).performed ≡ grown_now (number_rules (asks_by s) (room_by s)) (requests_of w.performed) a
  stand-requests w a =
      elim (acts_now (number_rules (asks_by s) (room_by s)) (requests_of w.performed) a)
      as (λ b. requests_of (cond b (performed_too (asks_by s) (room_by s) w a) w).performed ≡ cond b (requests_of w.performed ++ a ∷ []) (requests_of w.performed))
      [ true ↦ map-append (λ (p : Numbered Wanted). p.arrival) w.performed (record { number = length w.calls; arrival = a } ∷ []) | false ↦ refl ]

  within-run : (w : Standing Wanted Call) (first : ℕ) (xs : List (Item Wanted)) → ClocksGrow first (arrivals_among xs) → Within s.share (live_keys first (requests_of w.performed))
      → Within s.share (live_keys (clock_after first (arrivals_among xs)) (requests_of (stand_all (asks_by s) (room_by s) w xs).performed))
  within-run w first [] grow all = all
  within-run w first (Arrives a ∷ later) grow all =
      within-run (stand (asks_by s) (room_by s) w (Arrives a)) a.clock later grow.1
      (subst (λ (ps : List (Arrival Wanted)). Within s.share (live_keys a.clock ps)) (sym (stand-requests w a))
      (grown_now-within (asks_by s) (number_rules (asks_by s) (room_by s)).apply s.capacity s.share first (requests_of w.performed) a grow.0 all))
  within-run w first (Withdraws n ∷ later) grow all =
      within-run (stand (asks_by s) (room_by s) w (Withdraws n)) first later grow (λ client. let here = all client in let less = but-fewer client first n w.performed in omega (arith, here, less))

  front-within : (past : List Event) (e : Event) (front rest : List (Arrival Wanted)) (a : Arrival Wanted) → completed s.limits past e ≡ front ++ a ∷ rest → Within s.share (live_keys a.clock (requests_of (standing_with s past front).performed))
  front-within past e front rest a is =
      let all = front-items past front in
      let xs = arrivals s.limits past ++ front in
      let whole = whole-grow past e front rest a is in
      let grow = subst (λ (ys : List (Arrival Wanted)). ClocksGrow 0 ys) (sym (front-arrivals past front)) (ClocksGrow-front 0 xs (a ∷ rest) whole) in
      let upto = subst (λ (ys : List (Arrival Wanted)). clock_after 0 ys ≤ a.clock) (sym (front-arrivals past front)) (grow-middle 0 xs rest a whole) in
      let ps = requests_of (stands_after (asks_by s) (room_by s) all).performed in
      let within = within-run none_stands 0 all grow (λ client. omega arith) in
      subst (λ w. Within s.share (live_keys a.clock (requests_of w.performed))) (front-stands past front)
      (λ client. let here = within client in let less = held_of-later client (clock_after 0 (arrivals_among all)) a.clock ps upto in omega (arith, here, less))

  pub room-for-standing-clients : RoomForStandingClients s
  room-for-standing-clients held past e front rest a key expiration is is_a enough refusal =
      let here = standing_with s past front in
      let live = live_keys a.clock (requests_of here.performed) in
      let keys = key ∷ live in
      let clients = owners keys in
      let within = front-within past e front rest a is in
      let enough_too = subst (λ n. s.share * n ≤ s.capacity) (sym (owners-length keys)) enough in
      let answer_is : number_by_field (asks_by s) (room_by s) here a.clock (asks_by s a.content) (Present key expiration) ≡ Err NoResources =
      ap (number_by_field (asks_by s) (room_by s) here a.clock (asks_by s a.content)) (sym is_a) ∙ sym (in-event held past e front rest a is).0 ∙ refusal in
      let no_room : has_room_for s.capacity s.share key live ≡ false =
      refused (asks_by s) (number_rules (asks_by s) (room_by s)).apply s.capacity s.share (nat_lt expiration a.clock) (number_held a.clock key here.performed) (asks_by s a.content)
      (has_room_for s.capacity s.share key live) here.calls (asked-at-never s.terms a.content) answer_is in
      elim (nat_lt (held_of key.client_id live) s.share) as (λ b. nat_lt (held_of key.client_id live) s.share ≡ b → s.share ≤ held_of key.client_id live) [
        | true ↦ λ own. absurd (true≢false (sym (and_from (nat_lt (length live) s.capacity) (nat_lt (held_of key.client_id live) s.share)
            (lt-ltb (length live) s.capacity (omega (arith, length-total clients live (owners-all keys).1, total-below clients live s.share key.client_id within (owners-all keys).0 (ltb-true _ _ own), enough_too))) own) ∙ no_room))
        | false ↦ λ own. ltb-false _ _ own
      ] refl

  pub calls-are-theirs : CallsAreTheirs s
  calls-are-theirs held past p at =
      let has = numbers-are-theirs (asks_by s) (room_by s) (items s.limits past) p at in
      (has.0, has.1, ap (λ (calls : List Call). slice_get calls p.number) (past-stands held past).state ∙ has.2)

  pub stands-till-declined : StandsTillDeclined s
  stands-till-declined past later p at none =
      subst (λ all. Contains (stands_after (asks_by s) (room_by s) all).performed p) (sym (items-more s.limits past later))
      (stands-till-withdrawn (asks_by s) (room_by s) (items s.limits past) (more s.limits past later) p at (λ h. none (more-withdraws s.limits past later p.number h)))

  pub declined-for-good : DeclinedForGood s
  declined-for-good past later p i lt at is =
      let all = items-more s.limits (Withdrew i ∷ past) later ∙ append_assoc (items s.limits past) (Withdraws i ∷ []) (more s.limits (Withdrew i ∷ past) later) in
      withdrawn-for-good (asks_by s) (room_by s) (items s.limits past) (more s.limits (Withdrew i ∷ past) later) p i lt
      (subst (λ xs. Contains (stands_after (asks_by s) (room_by s) xs).performed p) all at) is

  pub declined-is-free : DeclinedIsFree s
  declined-is-free past p now key early one at is_p =
      withdrawn-key-is-free (asks_by s) (room_by s) (items s.limits past) p now key early (subst (OneExpirationOf key) (sym (items-arrivals s.limits past)) one) at is_p

  pub declined-at-once : DeclinedAtOnce s
  declined-at-once past e front a is acts =
      let n = length (standing_with s past front).calls in
      let all = front-items past front in
      let stands = front-stands past front in
      let last : List (Item Wanted) = Arrives a ∷ [] in
      let split : items s.limits (Withdrew n ∷ e ∷ past) ≡ all ++ Arrives a ∷ Withdraws n ∷ [] =
      ap (λ (xs : List (Item Wanted)). (items s.limits past ++ xs) ++ Withdraws n ∷ []) (brings s.limits past e front [] a is ∙ map-append (λ (b : Arrival Wanted). Arrives b) front (a ∷ []))
      ∙ ap (λ (xs : List (Item Wanted)). xs ++ Withdraws n ∷ []) (sym (append_assoc (items s.limits past) (map (λ b. Arrives b) front) last))
      ∙ append_assoc all last (Withdraws n ∷ []) in
      let at_once = withdrawn-at-once (asks_by s) (room_by s) all a (ap (λ w. acts_now (number_rules (asks_by s) (room_by s)) (requests_of w.performed) a) stands ∙ acts) in
      ap (λ xs. (stands_after (asks_by s) (room_by s) xs).performed) split
      ∙ ap (λ w. (stands_after (asks_by s) (room_by s) (all ++ Arrives a ∷ Withdraws (length w.calls) ∷ [])).performed) (sym stands)
      ∙ at_once.0 ∙ ap (λ w. w.performed) stands

  pub nothing-declined : NothingDeclined s
  nothing-declined past kept = plain-items s.limits past kept

  pub pasts-stand : PastsStand s
  pasts-stand = record {
    table = tables-stand-for-items;
    live = live-keys-are-kept;
    answers = answers-are-numbers;
    later = key-stands-later-in-past;
    once = key-stands-once-in-past;
    held = held-take-nothing;
    repeats = repeats-take-nothing;
    first = firsts-are-taken;
    fair = room-for-standing-clients;
    theirs = calls-are-theirs;
    stands = stands-till-declined;
    gone = declined-for-good;
    free = declined-is-free;
    at_once = declined-at-once;
    without = nothing-declined;
  }
