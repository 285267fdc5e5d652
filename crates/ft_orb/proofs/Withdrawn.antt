-- What stands where calls are withdrawn.
use Rattle.std.proofs.Common.{◌≡◌, ℕ, zero, suc, ◌<◌, ◌≤◌, Bool, true, false, not, ◌&&◌, ◌||◌, cond, nat_eq, nat_le, nat_lt, length, length-append, get_or, map, filter, Contains, List, [], ◌∷◌, ◌++◌, Option, Some, None, Result, Ok, Err, is_some, is_ok, refl, sym, ap, ◌∙◌, subst, arith, append_assoc, append-nil, eq-eqb, ne_eqb}
use Rattle.std.specs.List.{AllByRecursion, cons_option, slice_get}
use Rattle.std.specs.Option.{option_map, unwrap_or}
use Rattle.std.proofs.lemmas.Bool.{and_right, false≢true, le-ltb, or_from, true≢false}
use Rattle.std.proofs.lemmas.Option.{slice_get_within}
use Rattle.std.proofs.lemmas.List.Elements.{Contains-append_left, Contains-append_right, Contains-push, filter-append, filter_map-append}
use Rattle.ft_log.specs.Keys.{RequestKey, same_key}
use Rattle.ft_log.specs.Kept.{KeptOutcome, kept_for, keys_of, unexpired}
use Rattle.ft_log.specs.declared.system_exception.SystemName.{SystemName}
use Rattle.ft_log.specs.declared.system_exception.SystemName.TheVariants.{BadContext, NoResources}
use Rattle.ft_orb.specs.ExactlyOnce.{Absent, Arrival, Bad, ClocksGrow, Field, Present, Rules, clock_after, live_key, live_keys, new_answer, outcome_of, state_after, state_after_call}
use Rattle.ft_orb.specs.Table.{Table, entry_of, forgotten, keyed_step, step_by_field, table_after, table_answers, table_step}
use Rattle.ft_orb.specs.Now.{OneExpirationOf, acts_now, answer_now_by_field, answers_now_after, has_live_key, is_held, outcome_held, performed_now, performed_now_after}
use Rattle.ft_orb.specs.Withdrawing.{Arrives, FirstsGetTheNext, HeldGetTheNumber, IsTableFor, Item, KeyStandsLater, KeyStandsOnce, MayWithdraw, Numbered, NumbersAreTheirs, NumbersRise, RepeatsGetTheNumber, Standing, StandsTillWithdrawn, TablesLetGo, TablesTakeOne, TablesWithdraw, TakenStay, WithdrawnAtOnce, WithdrawnForGood, WithdrawnKeyIsFree, Withdraws, WithoutWithdrawals, all_but, arrivals_among, entries_of, item_answers, items_after, new_table, none_stands, number_answer, number_answers, number_by_field, number_held, number_rules, performed_too, requests_of, stand, stand_all, stands_after, table_without}
use Rattle.ft_orb.proofs.Law.{AreCalls, keyed_with, keyed_with-is, state_after-push, unexpired_later, unexpired_twice}
use Rattle.ft_orb.proofs.Now.{Later, acts-later, acts_now-call, acts_now_by, all_in, all_map, all_middle, all_push, gone, grown_now, own-live, performed_now-calls, performed_now-push}

module _ {X : Type 0} where
  filter-cond : (p : X → Bool) (b : Bool) (x : X) (xs : List X) → filter p (cond b (x ∷ xs) xs) ≡ cond b (cond (p x) (x ∷ filter p xs) (filter p xs)) (filter p xs)
  filter-cond p true x xs = refl
  filter-cond p false x xs = refl

  cond-swap : (b c : Bool) (x : X) (xs ys : List X) → xs ≡ ys → cond b (cond c (x ∷ xs) xs) xs ≡ cond c (cond b (x ∷ ys) ys) ys
  cond-swap true true x xs ys h = ap (λ l. x ∷ l) h
  cond-swap true false x xs ys h = h
  cond-swap false true x xs ys h = h
  cond-swap false false x xs ys h = h

  filter-swap : (p q : X → Bool) (xs : List X) → filter p (filter q xs) ≡ filter q (filter p xs)
  filter-swap p q [] = refl
  filter-swap p q (x ∷ xs) =
      filter-cond p (q x) x (filter q xs)
      ∙ cond-swap (q x) (p x) x (filter p (filter q xs)) (filter q (filter p xs)) (filter-swap p q xs)
      ∙ sym (filter-cond q (p x) x (filter p xs))

  -- each with all later ones
  abbrev Pairs : (X → X → Type 0) → List X → Type 0
  Pairs R [] = Unit {0}
  Pairs R (x ∷ xs) = AllByRecursion (R x) xs × Pairs R xs

  all_filter : (P : X → Type 0) (p : X → Bool) (xs : List X) → AllByRecursion P xs → AllByRecursion P (filter p xs)
  all_filter P p [] h = tt
  all_filter P p (x ∷ xs) h =
      let rest = all_filter P p xs h.1 in
      elim (p x) as (λ b. AllByRecursion P (cond b (x ∷ filter p xs) (filter p xs))) [ true ↦ (h.0, rest) | false ↦ rest ]

  all_back : (P : X → Type 0) (xs ys : List X) → AllByRecursion P (xs ++ ys) → AllByRecursion P ys
  all_back P [] ys h = h
  all_back P (x ∷ xs) ys h = all_back P xs ys h.1

  pub all_at : (P : X → Type 0) (xs : List X) (x : X) (k : ℕ) → k < length xs → get_or xs k x ≡ x → AllByRecursion P xs → P x
  all_at P [] x k lt at h = absurd (omega (arith, lt))
  all_at P (y ∷ ys) x zero lt at h = subst P at h.0
  all_at P (y ∷ ys) x (suc k) lt at h = all_at P ys x k (omega (arith, lt)) at h.1

  Pairs-push : (R : X → X → Type 0) (xs : List X) (y : X) → Pairs R xs → AllByRecursion (λ x. R x y) xs → Pairs R (xs ++ y ∷ [])
  Pairs-push R [] y h new = (tt, tt)
  Pairs-push R (x ∷ xs) y h new = (all_push (R x) xs y h.0 new.0, Pairs-push R xs y h.1 new.1)

  Pairs-filter : (R : X → X → Type 0) (p : X → Bool) (xs : List X) → Pairs R xs → Pairs R (filter p xs)
  Pairs-filter R p [] h = tt
  Pairs-filter R p (x ∷ xs) h =
      let rest = Pairs-filter R p xs h.1 in
      elim (p x) as (λ b. Pairs R (cond b (x ∷ filter p xs) (filter p xs))) [ true ↦ (all_filter (R x) p xs h.0, rest) | false ↦ rest ]

  Pairs-back : (R : X → X → Type 0) (xs ys : List X) → Pairs R (xs ++ ys) → Pairs R ys
  Pairs-back R [] ys h = h
  Pairs-back R (x ∷ xs) ys h = Pairs-back R xs ys h.1

  Pairs-before : (R : X → X → Type 0) (xs ys : List X) (y : X) → Pairs R (xs ++ y ∷ ys) → AllByRecursion (λ x. R x y) xs
  Pairs-before R [] ys y h = tt
  Pairs-before R (x ∷ xs) ys y h = ((all_back (R x) xs (y ∷ ys) h.0).0, Pairs-before R xs ys y h.1)

  -- of two, one after the other
  Pairs-two : (R : X → X → Type 0) (all front between rest : List X) (x y : X) → all ≡ front ++ x ∷ between ++ y ∷ rest → Pairs R all → R x y
  Pairs-two R all front between rest x y is h =
      let here = Pairs-back R front (x ∷ (between ++ y ∷ rest)) (subst (Pairs R) (is ∙ append_assoc front (x ∷ between) (y ∷ rest)) h) in
      (all_back (R x) between (y ∷ rest) here.0).0

  -- what is contained stands between a front and a rest
  split-at : (xs : List X) (x : X) (k : ℕ) → k < length xs → get_or xs k x ≡ x → (front : List X) × (rest : List X) × (xs ≡ front ++ x ∷ rest)
  split-at [] x k lt at = absurd (omega (arith, lt))
  split-at (y ∷ ys) x zero lt at = ([], ys, ap (λ z. z ∷ ys) at)
  split-at (y ∷ ys) x (suc k) lt at =
      let more = split-at ys x k (omega (arith, lt)) at in
      (y ∷ more.0, more.1, ap (λ zs. y ∷ zs) more.2)

  Contains-filter : (p : X → Bool) (xs : List X) (x : X) (k : ℕ) → k < length xs → get_or xs k x ≡ x → p x ≡ true → Contains (filter p xs) x
  Contains-filter p [] x k lt at is = absurd (omega (arith, lt))
  Contains-filter p (y ∷ ys) x zero lt at is =
      let kept : p y ≡ true = ap p at ∙ is in
      subst (λ b. Contains (cond b (y ∷ filter p ys) (filter p ys)) x) (sym kept) (zero, omega arith, at)
  Contains-filter p (y ∷ ys) x (suc k) lt at is =
      let rest = Contains-filter p ys x k (omega (arith, lt)) at is in
      elim (p y) as (λ b. Contains (cond b (y ∷ filter p ys) (filter p ys)) x) [ true ↦ Contains-append_right (y ∷ []) (filter p ys) x rest | false ↦ rest ]

  filter-each : (p : X → Bool) (xs : List X) → AllByRecursion (λ x. p x ≡ true) xs → filter p xs ≡ xs
  filter-each p [] h = refl
  filter-each p (x ∷ xs) h = (λ i. cond (h.0 i) (x ∷ filter p xs) (filter p xs)) ∙ ap (λ l. x ∷ l) (filter-each p xs h.1)

  -- the element of a list at its length, once one is pushed; and one within stays
  pushed-at : (xs : List X) (x : X) → slice_get (xs ++ x ∷ []) (length xs) ≡ Some x
  pushed-at [] x = refl
  pushed-at (y ∷ xs) x = pushed-at xs x

  pushed-before : (xs : List X) (x y : X) (k : ℕ) → slice_get xs k ≡ Some y → slice_get (xs ++ x ∷ []) k ≡ Some y
  pushed-before [] x y k h = absurd (false≢true (ap (λ (o : Option X). is_some o) h))
  pushed-before (z ∷ xs) x y zero h = h
  pushed-before (z ∷ xs) x y (suc k) h = pushed-before xs x y k h

live-step : (clock n : ℕ) (f : Field) (later : List RequestKey) (rest : List (KeptOutcome ℕ)) → later ≡ keys_of (unexpired clock rest)
    → cons_option (live_key clock f) later ≡ keys_of (unexpired clock (cons_option (entry_of f (Ok n)) rest))
live-step clock n Absent later rest h = h
live-step clock n Bad later rest h = h
live-step clock n (Present key e) later rest h =
    elim (nat_le clock e) as (λ b. cons_option (cond b (Some key) None) later ≡ keys_of (cond b (record { key = key; expiration = e; outcome = n } ∷ unexpired clock rest) (unexpired clock rest)))
    [ true ↦ ap (λ ks. key ∷ ks) h | false ↦ h ]

held-step : (clock : ℕ) (key : RequestKey) (n : ℕ) (f : Field) (found : Option ℕ) (rest : List (KeptOutcome ℕ)) → found ≡ kept_for key (unexpired clock rest)
    → cond (has_live_key clock key f) (Some n) found ≡ kept_for key (unexpired clock (cons_option (entry_of f (Ok n)) rest))
held-step clock key n Absent found rest h = h
held-step clock key n Bad found rest h = h
held-step clock key n (Present other e) found rest h =
    elim (nat_le clock e) as (λ b. cond (same_key key other && b) (Some n) found ≡ kept_for key (cond b (record { key = other; expiration = e; outcome = n } ∷ unexpired clock rest) (unexpired clock rest))) [
      | true ↦ elim (same_key key other) as (λ c. cond (c && true) (Some n) found ≡ cond c (Some n) (kept_for key (unexpired clock rest))) [ true ↦ refl | false ↦ h ]
      | false ↦ elim (same_key key other) as (λ c. cond (c && false) (Some n) found ≡ kept_for key (unexpired clock rest)) [ true ↦ h | false ↦ h ]
    ]

module _ {C : Type 0} where
  abbrev of : ℕ → Field → ℕ → C → Numbered C
  of n f c x = record { number = n; arrival = record { field = f; clock = c; content = x } }

  pub live-is : (clock : ℕ) (ps : List (Numbered C)) → live_keys clock (requests_of ps) ≡ keys_of (unexpired clock (entries_of ps))
  live-is clock [] = refl
  live-is clock (p ∷ ps) = live-step clock p.number p.arrival.field (live_keys clock (requests_of ps)) (entries_of ps) (live-is clock ps)

  found-is : (clock : ℕ) (key : RequestKey) (ps : List (Numbered C)) → number_held clock key ps ≡ kept_for key (unexpired clock (entries_of ps))
  found-is clock key [] = refl
  found-is clock key (p ∷ ps) = held-step clock key p.number p.arrival.field (number_held clock key ps) (entries_of ps) (found-is clock key ps)

  -- a key is held where a number is found for it
  held-found : (clock : ℕ) (key : RequestKey) (ps : List (Numbered C)) → is_held (requests_of ps) clock key ≡ is_some (number_held clock key ps)
  held-found clock key [] = refl
  held-found clock key (p ∷ ps) =
      let rest = held-found clock key ps in
      elim (has_live_key clock key p.arrival.field) as (λ b. (b || is_held (requests_of ps) clock key) ≡ is_some (cond b (Some p.number) (number_held clock key ps))) [ true ↦ refl | false ↦ rest ]

  -- the entries of all but one are all but its entry
  but-step : (m n : ℕ) (f : Field) (c : ℕ) (x : C) (ps : List (Numbered C)) (rest : List (KeptOutcome ℕ)) → entries_of ps ≡ filter (λ e. not (nat_eq e.outcome m)) rest
      → entries_of (cond (not (nat_eq n m)) (of n f c x ∷ ps) ps) ≡ filter (λ e. not (nat_eq e.outcome m)) (cons_option (entry_of f (Ok n)) rest)
  but-step m n Absent c x ps rest h = elim (not (nat_eq n m)) as (λ b. entries_of (cond b (of n Absent c x ∷ ps) ps) ≡ filter (λ e. not (nat_eq e.outcome m)) rest) [ true ↦ h | false ↦ h ]
  but-step m n Bad c x ps rest h = elim (not (nat_eq n m)) as (λ b. entries_of (cond b (of n Bad c x ∷ ps) ps) ≡ filter (λ e. not (nat_eq e.outcome m)) rest) [ true ↦ h | false ↦ h ]
  but-step m n (Present key e) c x ps rest h =
      let entry : KeptOutcome ℕ = record { key = key; expiration = e; outcome = n } in
      let others = filter (λ (k : KeptOutcome ℕ). not (nat_eq k.outcome m)) rest in
      elim (not (nat_eq n m)) as (λ b. entries_of (cond b (of n (Present key e) c x ∷ ps) ps) ≡ cond b (entry ∷ others) others)
      [ true ↦ ap (λ (es : List (KeptOutcome ℕ)). entry ∷ es) h | false ↦ h ]

  but-is : (m : ℕ) (ps : List (Numbered C)) → entries_of (all_but m ps) ≡ filter (λ e. not (nat_eq e.outcome m)) (entries_of ps)
  but-is m [] = refl
  but-is m (p ∷ ps) = but-step m p.number p.arrival.field p.arrival.clock p.arrival.content (all_but m ps) (entries_of ps) (but-is m ps)

module _ {C K : Type 0} where
  pub later_stands : (clock later : ℕ) (s : Standing C K) (t : Table (List K) ℕ) → clock ≤ later → IsTableFor clock s t → IsTableFor later s t
  later_stands clock later s t h stands = record { state = stands.state; entries = unexpired_later clock later t.entries (entries_of s.performed) h stands.entries }

  -- where the table stands, it stands without one number
  without_stands : (clock n : ℕ) (s : Standing C K) (t : Table (List K) ℕ) → IsTableFor clock s t → IsTableFor clock (record { calls = s.calls; performed = all_but n s.performed }) (table_without n t)
  without_stands clock n s t h =
      let others : KeptOutcome ℕ → Bool = λ e. not (nat_eq e.outcome n) in
      let live : KeptOutcome ℕ → Bool = λ e. nat_le clock e.expiration in
      record {
        state = h.state;
        entries =
            filter-swap live others t.entries
            ∙ ap (filter others) h.entries
            ∙ sym (filter-swap live others (entries_of s.performed))
            ∙ ap (unexpired clock) (sym (but-is n s.performed));
      }

  -- a step gives this answer, and its table is that of what stands
  record Fits (clock : ℕ) (step : Table (List K) ℕ × Result ℕ SystemName) (answer : Result ℕ SystemName) (s : Standing C K) : Type 0 where
    answer_is : step.1 ≡ answer
    stands : IsTableFor clock s step.0

  Fits-along : {clock : ℕ} {step step' : Table (List K) ℕ × Result ℕ SystemName} {answer answer' : Result ℕ SystemName} {s s' : Standing C K}
      → step ≡ step' → answer ≡ answer' → s ≡ s' → Fits clock step' answer' s' → Fits clock step answer s
  Fits-along {clock} {step} {step'} {answer} {answer'} {s} {s'} a b c f = record {
    answer_is = ap (λ w. w.1) a ∙ f.answer_is ∙ sym b;
    stands = record {
      state = ap (λ w. w.0.state) a ∙ f.stands.state ∙ sym (ap (λ w. w.calls) c);
      entries = ap (λ w. unexpired clock w.0.entries) a ∙ f.stands.entries ∙ sym (ap (λ w. unexpired clock (entries_of w.performed)) c);
    };
  }

module _ {C K : Type 0} (asked : C → Result K SystemName) (has_room : RequestKey → List RequestKey → Bool) where
  abbrev By : Rules (List K) C K ℕ
  By = number_rules asked has_room

  abbrev table_of : ℕ → Standing C K → Table (List K) ℕ
  table_of clock s = record { state = s.calls; entries = unexpired clock (entries_of s.performed) }

  -- with what a request asks as a variable
  abbrev too_by : Standing C K → Field → ℕ → C → Result K SystemName → Standing C K
  too_by s f clock x r = record {
    calls = state_after_call By.apply s.calls r;
    performed = s.performed ++ of (length s.calls) f clock x ∷ [];
  }

  keyed_fits : (s : Standing C K) (clock : ℕ) (key : RequestKey) (e : ℕ) (x : C) (r : Result K SystemName) (found : Option ℕ) (room : Bool)
      → Fits clock (keyed_with By (table_of clock s) key e r found room) (unwrap_or (option_map (λ n. Ok n) found) (new_answer By s.calls room r))
      (cond (is_ok r && (not (is_some found) && room)) (too_by s (Present key e) clock x r) s)
  keyed_fits s clock key e x (Ok call) (Some n) room = record { answer_is = refl; stands = record { state = refl; entries = unexpired_twice clock clock (entries_of s.performed) (omega arith) } }
  keyed_fits s clock key e x (Err refusal) (Some n) room = record { answer_is = refl; stands = record { state = refl; entries = unexpired_twice clock clock (entries_of s.performed) (omega arith) } }
  keyed_fits s clock key e x (Err refusal) None room = record { answer_is = refl; stands = record { state = refl; entries = unexpired_twice clock clock (entries_of s.performed) (omega arith) } }
  keyed_fits s clock key e x (Ok call) None false = record { answer_is = refl; stands = record { state = refl; entries = unexpired_twice clock clock (entries_of s.performed) (omega arith) } }
  keyed_fits s clock key e x (Ok call) None true =
      let new : List (KeptOutcome ℕ) = record { key = key; expiration = e; outcome = length s.calls } ∷ [] in
      let live : KeptOutcome ℕ → Bool = λ k. nat_le clock k.expiration in
      let all = entries_of s.performed in
      record {
        answer_is = refl;
        stands = record {
          state = refl;
          entries =
              filter-append live (unexpired clock all) new
              ∙ ap (λ (es : List (KeptOutcome ℕ)). es ++ unexpired clock new) (unexpired_twice clock clock all (omega arith))
              ∙ sym (filter-append live all new)
              ∙ ap (unexpired clock) (sym (filter_map-append (λ (p : Numbered C). entry_of p.arrival.field (Ok p.number)) s.performed (of (length s.calls) (Present key e) clock x ∷ [])));
        };
      }

  present_fits : (s : Standing C K) (clock : ℕ) (key : RequestKey) (e : ℕ) (x : C) (r : Result K SystemName) (t : Table (List K) ℕ) (over : Bool)
      → IsTableFor clock s t
      → Fits clock (cond over (t, Err BadContext) (keyed_step By (forgotten clock t) key e r (kept_for key (unexpired clock t.entries))))
      (cond over (Err BadContext) (unwrap_or (option_map (λ n. Ok n) (number_held clock key s.performed)) (new_answer By s.calls (has_room key (live_keys clock (requests_of s.performed))) r)))
      (cond ((true && (not over && is_ok r)) && (not (is_held (requests_of s.performed) clock key) && has_room key (live_keys clock (requests_of s.performed)))) (too_by s (Present key e) clock x r) s)
  present_fits s clock key e x r t true h = record { answer_is = refl; stands = h }
  present_fits s clock key e x r t false h =
      let live = unexpired clock (entries_of s.performed) in
      let found = kept_for key live in
      let room = has_room key (keys_of live) in
      let keys_are = live-is clock s.performed in
      let found_is = found-is clock key s.performed in
      let held : is_held (requests_of s.performed) clock key ≡ is_some found = held-found clock key s.performed ∙ ap (λ (o : Option ℕ). is_some o) found_is in
      let too = too_by s (Present key e) clock x r in
      Fits-along
      ((λ i. keyed_step By (record { state = h.state i; entries = h.entries i }) key e r (kept_for key (h.entries i))) ∙ keyed_with-is By (table_of clock s) key e r found)
      (λ i. unwrap_or (option_map (λ n. Ok n) (found_is i)) (new_answer By s.calls (has_room key (keys_are i)) r))
      (λ i. cond (is_ok r && (not (held i) && has_room key (keys_are i))) too s)
      (keyed_fits s clock key e x r found room)

  field_fits : (s : Standing C K) (clock : ℕ) (f : Field) (x : C) (r : Result K SystemName) (t : Table (List K) ℕ) → IsTableFor clock s t
      → Fits clock (step_by_field By t clock r f) (number_by_field asked has_room s clock r f)
      (cond (acts_now_by By (requests_of s.performed) clock f (is_ok r)) (too_by s f clock x r) s)
  field_fits s clock Bad x r t h = record { answer_is = refl; stands = h }
  field_fits s clock Absent x (Err refusal) t h = record { answer_is = refl; stands = h }
  field_fits s clock Absent x (Ok call) t h = record {
    answer_is = ap (λ calls. Ok (length calls)) h.state;
    stands = record {
      state = ap (λ calls. calls ++ call ∷ []) h.state;
      entries =
          h.entries
          ∙ ap (unexpired clock) (sym (append-nil (entries_of s.performed)))
          ∙ ap (unexpired clock) (sym (filter_map-append (λ (p : Numbered C). entry_of p.arrival.field (Ok p.number)) s.performed (of (length s.calls) Absent clock x ∷ [])));
    };
  }
  field_fits s clock (Present key e) x r t h = present_fits s clock key e x r t (nat_lt e clock) h

  pub takes-one : TablesTakeOne asked has_room
  takes-one clock s a t h stands =
      let f = field_fits s a.clock a.field a.content (asked a.content) t (later_stands clock a.clock s t h stands) in
      (f.answer_is, f.stands)

  pub lets-go : TablesLetGo asked has_room
  lets-go clock n s t h = without_stands clock n s t h

  pub run-stands : (s : Standing C K) (clock : ℕ) (items : List (Item C)) (t : Table (List K) ℕ) → ClocksGrow clock (arrivals_among items) → IsTableFor clock s t
      → (item_answers asked has_room t items ≡ number_answers asked has_room s items) × IsTableFor (clock_after clock (arrivals_among items)) (stand_all asked has_room s items) (items_after asked has_room t items)
  run-stands s clock [] t grow h = (refl, h)
  run-stands s clock (Arrives a ∷ later) t grow h =
      let step = takes-one clock s a t grow.0 h in
      let rest = run-stands (stand asked has_room s (Arrives a)) a.clock later (table_step By t a).0 grow.1 step.1 in
      ((λ i. step.0 i ∷ rest.0 i), rest.1)
  run-stands s clock (Withdraws n ∷ later) t grow h = run-stands (stand asked has_room s (Withdraws n)) clock later (table_without n t) grow (without_stands clock n s t h)

  pub tables-withdraw : TablesWithdraw asked has_room
  tables-withdraw items grow = run-stands none_stands 0 items new_table grow (record { state = refl; entries = refl })

  -- it spells this call
  call_of : (r : Result K SystemName) → is_ok r ≡ true → (call : K) × (r ≡ Ok call)
  call_of (Ok call) h = (call, refl)
  call_of (Err refusal) h = absurd (false≢true h)

  abbrev taken : Standing C K → Arrival C → K → Standing C K
  taken s a call = record { calls = s.calls ++ call ∷ []; performed = s.performed ++ record { number = length s.calls; arrival = a } ∷ [] }

  taken-is : (s : Standing C K) (a : Arrival C) (call : K) → asked a.content ≡ Ok call → performed_too asked has_room s a ≡ taken s a call
  taken-is s a call asks = λ i. record { calls = state_after_call By.apply s.calls (asks i); performed = s.performed ++ record { number = length s.calls; arrival = a } ∷ [] }

  -- the call of its number is what it asks
  abbrev Has : List K → Numbered C → Type 0
  Has calls p = (call : K) × (asked p.arrival.content ≡ Ok call) × (slice_get calls p.number ≡ Some call)

  abbrev Rises : Numbered C → Numbered C → Type 0
  Rises p q = p.number < q.number

  abbrev Apart : Numbered C → Numbered C → Type 0
  Apart p q = Later p.arrival q.arrival

  record IsGood (s : Standing C K) : Type 0 where
    theirs : AllByRecursion (Has s.calls) s.performed
    rising : Pairs Rises s.performed
    later : Pairs Apart s.performed

  below : (s : Standing C K) → IsGood s → AllByRecursion (λ p. p.number < length s.calls) s.performed
  below s h = all_map (Has s.calls) (λ p. p.number < length s.calls) s.performed (λ p has. slice_get_within s.calls p.number has.0 has.2) h.theirs

  all_arrivals : (P : Arrival C → Type 0) (ps : List (Numbered C)) → AllByRecursion P (requests_of ps) → AllByRecursion (λ p. P p.arrival) ps
  all_arrivals P [] h = tt
  all_arrivals P (p ∷ ps) h = (h.0, all_arrivals P ps h.1)

  good_taken : (s : Standing C K) (a : Arrival C) (call : K) → asked a.content ≡ Ok call → acts_now By (requests_of s.performed) a ≡ true → IsGood s → IsGood (taken s a call)
  good_taken s a call asks acts h =
      let q : Numbered C = record { number = length s.calls; arrival = a } in
      let now = s.calls ++ call ∷ [] in
      record {
        theirs = all_push (Has now) s.performed q
            (all_map (Has s.calls) (Has now) s.performed (λ p has. (has.0, has.1, pushed-before s.calls call has.0 p.number has.2)) h.theirs)
            (call, asks, pushed-at s.calls call);
        rising = Pairs-push Rises s.performed q h.rising (below s h);
        later = Pairs-push Apart s.performed q h.later (all_arrivals (λ b. Later b a) s.performed (acts-later By (requests_of s.performed) a acts));
      }

  good_run : (s : Standing C K) (items : List (Item C)) → IsGood s → IsGood (stand_all asked has_room s items)
  good_run s [] h = h
  good_run s (Arrives a ∷ later) h =
      elim (acts_now By (requests_of s.performed) a) as (λ b. acts_now By (requests_of s.performed) a ≡ b → IsGood (stand_all asked has_room (cond b (performed_too asked has_room s a) s) later)) [
        | true ↦ λ is.
            let asks = call_of (asked a.content) (acts_now-call By (requests_of s.performed) a is) in
            good_run (performed_too asked has_room s a) later (subst IsGood (sym (taken-is s a asks.0 asks.1)) (good_taken s a asks.0 asks.1 is h))
        | false ↦ λ is. good_run s later h
      ] refl
  good_run s (Withdraws n ∷ later) h = good_run (stand asked has_room s (Withdraws n)) later (record {
    theirs = all_filter (Has s.calls) (λ p. not (nat_eq p.number n)) s.performed h.theirs;
    rising = Pairs-filter Rises (λ p. not (nat_eq p.number n)) s.performed h.rising;
    later = Pairs-filter Apart (λ p. not (nat_eq p.number n)) s.performed h.later;
  })

  good : (items : List (Item C)) → IsGood (stands_after asked has_room items)
  good items = good_run none_stands items (record { theirs = tt; rising = tt; later = tt })

  pub stand_all-append : (s : Standing C K) (items later : List (Item C)) → stand_all asked has_room s (items ++ later) ≡ stand_all asked has_room (stand_all asked has_room s items) later
  stand_all-append s [] later = refl
  stand_all-append s (x ∷ items) later = stand_all-append (stand asked has_room s x) items later

  pub key-stands-later : KeyStandsLater asked has_room
  key-stands-later items front between rest p q key early late is is_p is_q =
      Pairs-two Apart (stands_after asked has_room items).performed front between rest p q is (good items).later key early late is_p is_q

  pub numbers-rise : NumbersRise asked has_room
  numbers-rise items front between rest p q is = Pairs-two Rises (stands_after asked has_room items).performed front between rest p q is (good items).rising

  pub numbers-are-theirs : NumbersAreTheirs asked has_room
  numbers-are-theirs items p at = all_at (Has (stands_after asked has_room items).calls) (stands_after asked has_room items).performed p at.0 at.1 at.2 (good items).theirs

  -- what stands has arrived
  pub in_run : (P : Arrival C → Type 0) (s : Standing C K) (items : List (Item C)) → AllByRecursion P (arrivals_among items) → AllByRecursion (λ p. P p.arrival) s.performed → AllByRecursion (λ p. P p.arrival) (stand_all asked has_room s items).performed
  in_run P s [] all h = h
  in_run P s (Arrives a ∷ later) all h =
      let q : Numbered C = record { number = length s.calls; arrival = a } in
      elim (acts_now By (requests_of s.performed) a) as (λ b. AllByRecursion (λ (p : Numbered C). P p.arrival) (stand_all asked has_room (cond b (performed_too asked has_room s a) s) later).performed) [
        | true ↦ in_run P (performed_too asked has_room s a) later all.1 (all_push (λ (p : Numbered C). P p.arrival) s.performed q h all.0)
        | false ↦ in_run P s later all.1 h
      ]
  in_run P s (Withdraws n ∷ later) all h = in_run P (stand asked has_room s (Withdraws n)) later all (all_filter (λ (p : Numbered C). P p.arrival) (λ p. not (nat_eq p.number n)) s.performed h)

  arrived : (items : List (Item C)) → AllByRecursion (λ p. Contains (arrivals_among items) p.arrival) (stands_after asked has_room items).performed
  arrived items = in_run (Contains (arrivals_among items)) none_stands items (all_in (Contains (arrivals_among items)) (arrivals_among items) (λ a at. at)) tt

  -- what stands with a key carries the expiration of each arrival with it
  agrees : (items : List (Item C)) (key : RequestKey) (a : Arrival C) (late : ℕ) → a.field ≡ Present key late → OneExpirationOf key (arrivals_among items ++ a ∷ [])
      → AllByRecursion (λ p. (e : ℕ) → p.arrival.field ≡ Present key e → e ≡ late) (stands_after asked has_room items).performed
  agrees items key a late is one =
      all_map (λ (p : Numbered C). Contains (arrivals_among items) p.arrival) (λ p. (e : ℕ) → p.arrival.field ≡ Present key e → e ≡ late) (stands_after asked has_room items).performed
      (λ p at e is_p. one p.arrival a e late (Contains-append_left (arrivals_among items) (a ∷ []) p.arrival at) (Contains-push (arrivals_among items) a) is_p is) (arrived items)

  pub key-stands-once : KeyStandsOnce asked has_room
  key-stands-once items front between rest p q key early late one is is_p is_q =
      let apart = key-stands-later items front between rest p q key early late is is_p is_q in
      let whole = subst (AllByRecursion (λ (x : Numbered C). Contains (arrivals_among items) x.arrival)) (is ∙ append_assoc front (p ∷ between) (q ∷ rest)) (arrived items) in
      let here = all_back (λ (x : Numbered C). Contains (arrivals_among items) x.arrival) front (p ∷ (between ++ q ∷ rest)) whole in
      let there = all_back (λ (x : Numbered C). Contains (arrivals_among items) x.arrival) between (q ∷ rest) here.1 in
      let same = one p.arrival q.arrival early late here.0 there.0 is_p is_q in omega (arith, apart.0, apart.1, same)

  -- the number that is found is that of the one that holds the key, where none before it does
  found-at : (clock : ℕ) (key : RequestKey) (front rest : List (Numbered C)) (p : Numbered C) → AllByRecursion (λ q. has_live_key clock key q.arrival.field ≡ false) front → has_live_key clock key p.arrival.field ≡ true
      → number_held clock key (front ++ p ∷ rest) ≡ Some p.number
  found-at clock key [] rest p none is = ap (λ b. cond b (Some p.number) (number_held clock key rest)) is
  found-at clock key (q ∷ front) rest p none is = ap (λ b. cond b (Some q.number) (number_held clock key (front ++ p ∷ rest))) none.0 ∙ found-at clock key front rest p none.1 is

  repeat_at : (s : Standing C K) (front rest : List (Numbered C)) (p : Numbered C) (a : Arrival C) (key : RequestKey) (late : ℕ) → s.performed ≡ front ++ p ∷ rest → a.field ≡ Present key late → a.clock ≤ late
      → AllByRecursion (λ q. has_live_key a.clock key q.arrival.field ≡ false) front → has_live_key a.clock key p.arrival.field ≡ true
      → (number_answer asked has_room s a ≡ Ok p.number) × (stand asked has_room s (Arrives a) ≡ s)
  repeat_at s front rest p a key late is is_a in_time none live =
      let found : number_held a.clock key s.performed ≡ Some p.number = ap (number_held a.clock key) is ∙ found-at a.clock key front rest p none live in
      let held : is_held (requests_of s.performed) a.clock key ≡ true = held-found a.clock key s.performed ∙ ap (λ (o : Option ℕ). is_some o) found in
      let over = le-ltb late a.clock in_time in
      let spells = is_ok (asked a.content) in
      let room = has_room key (live_keys a.clock (requests_of s.performed)) in
      let idle : acts_now By (requests_of s.performed) a ≡ false =
      ap (λ f. acts_now_by By (requests_of s.performed) a.clock f spells) is_a
      ∙ (λ i. (true && (not (over i) && spells)) && (not (held i) && room))
      ∙ and_right spells false refl in (
        (λ i. number_by_field asked has_room s a.clock (asked a.content) (is_a i))
            ∙ (λ i. cond (over i) (Err BadContext) (unwrap_or (option_map (λ n. Ok n) (found i)) (new_answer By s.calls room (asked a.content)))),
        ap (λ b. cond b (performed_too asked has_room s a) s) idle,
      )

  pub held-get-the-number : HeldGetTheNumber asked has_room
  held-get-the-number items p a key early late at is_p is_a after in_first in_time =
      let s = stands_after asked has_room items in
      let parts = split-at s.performed p at.0 at.1 at.2 in
      let before = Pairs-before Apart parts.0 parts.1 p (subst (Pairs Apart) parts.2 (good items).later) in
      let none = all_map (λ x. Apart x p) (λ x. has_live_key a.clock key x.arrival.field ≡ false) parts.0
      (λ x later. gone p.arrival.clock a.clock key x.arrival.field after (λ e is_x. (later key e early is_x is_p).0)) before in
      repeat_at s parts.0 parts.1 p a key late parts.2 is_a in_time none (own-live key early a.clock p.arrival is_p in_first)

  -- where all with the key carry one expiration, none before the one that stands holds the key, nor does any after it
  none-before : (clock : ℕ) (key : RequestKey) (early : ℕ) (front rest : List (Numbered C)) (p : Numbered C) → p.arrival.field ≡ Present key early → Pairs Apart (front ++ p ∷ rest)
      → AllByRecursion (λ x. (e : ℕ) → x.arrival.field ≡ Present key e → e ≡ early) (front ++ p ∷ rest) → AllByRecursion (λ x. has_live_key clock key x.arrival.field ≡ false) front
  none-before clock key early [] rest p is apart same = tt
  none-before clock key early (x ∷ front) rest p is apart same = (
    gone 0 clock key x.arrival.field (omega arith)
        (λ e is_x. let later = all_middle (Apart x) front rest p apart.0 key e early is_x is in let one = same.0 e is_x in omega (arith, later.0, later.1, one)),
    none-before clock key early front rest p is apart.1 same.1,
  )

  none-after : (clock : ℕ) (key : RequestKey) (early : ℕ) (rest : List (Numbered C)) (p : Numbered C) → p.arrival.field ≡ Present key early → AllByRecursion (Apart p) rest
      → AllByRecursion (λ x. (e : ℕ) → x.arrival.field ≡ Present key e → e ≡ early) rest → AllByRecursion (λ x. has_live_key clock key x.arrival.field ≡ false) rest
  none-after clock key early [] p is apart same = tt
  none-after clock key early (x ∷ rest) p is apart same = (
    gone 0 clock key x.arrival.field (omega arith) (λ e is_x. let later = apart.0 key early e is is_x in let one = same.0 e is_x in omega (arith, later.0, later.1, one)),
    none-after clock key early rest p is apart.1 same.1,
  )

  pub repeats-get-the-number : RepeatsGetTheNumber asked has_room
  repeats-get-the-number items p a key early late one at is_p is_a in_time =
      let s = stands_after asked has_room items in
      let parts = split-at s.performed p at.0 at.1 at.2 in
      let agree = agrees items key a late is_a one in
      let same : early ≡ late = all_at (λ x. (e : ℕ) → x.arrival.field ≡ Present key e → e ≡ late) s.performed p at.0 at.1 at.2 agree early is_p in
      let all_same = all_map (λ x. (e : ℕ) → x.arrival.field ≡ Present key e → e ≡ late) (λ x. (e : ℕ) → x.arrival.field ≡ Present key e → e ≡ early) s.performed (λ x h e is. h e is ∙ sym same) agree in
      let none = none-before a.clock key early parts.0 parts.1 p is_p (subst (Pairs Apart) parts.2 (good items).later)
      (subst (AllByRecursion (λ (x : Numbered C). (e : ℕ) → x.arrival.field ≡ Present key e → e ≡ early)) parts.2 all_same) in
      repeat_at s parts.0 parts.1 p a key late parts.2 is_a in_time none (own-live key early a.clock p.arrival is_p (omega (arith, same, in_time)))

  none_found : (o : Option ℕ) → is_some o ≡ false → o ≡ None
  none_found None h = refl
  none_found (Some n) h = absurd (true≢false h)

  answer_room : (calls : List K) (room : Bool) (call : K) → new_answer By calls room (Ok call) ≡ cond room (Ok (length calls)) (Err NoResources)
  answer_room calls true call = refl
  answer_room calls false call = refl

  pub firsts-get-the-next : FirstsGetTheNext asked has_room
  firsts-get-the-next s a key e call room is_a in_time asks free room_is =
      let over = le-ltb e a.clock in_time in
      let none = none_found (number_held a.clock key s.performed) (sym (held-found a.clock key s.performed) ∙ free) in
      let acts_is : acts_now By (requests_of s.performed) a ≡ room =
      (λ i. acts_now_by By (requests_of s.performed) a.clock (is_a i) (is_ok (asks i)))
      ∙ (λ i. (true && (not (over i) && true)) && (not (free i) && room_is i)) in (
        (λ i. number_by_field asked has_room s a.clock (asks i) (is_a i))
            ∙ (λ i. cond (over i) (Err BadContext) (unwrap_or (option_map (λ n. Ok n) (none i)) (new_answer By s.calls (room_is i) (Ok call))))
            ∙ answer_room s.calls room call,
        λ i. cond (acts_is i) (taken-is s a call asks i) s,
      )

  calls-more : (s : Standing C K) (later : List (Item C)) → (more : List K) × ((stand_all asked has_room s later).calls ≡ s.calls ++ more)
  calls-more s [] = ([], sym (append-nil s.calls))
  calls-more s (Arrives a ∷ later) =
      let rest = calls-more (stand asked has_room s (Arrives a)) later in
      let step = one (acts_now By (requests_of s.performed) a) (asked a.content) in
      (step.0 ++ rest.0, rest.1 ∙ ap (λ calls. calls ++ rest.0) step.1 ∙ append_assoc s.calls step.0 rest.0)
    where
      one : (b : Bool) (r : Result K SystemName) → (more : List K) × ((cond b (too_by s a.field a.clock a.content r) s).calls ≡ s.calls ++ more)
      one true (Ok call) = (call ∷ [], refl)
      one true (Err refusal) = ([], sym (append-nil s.calls))
      one false r = ([], sym (append-nil s.calls))
  calls-more s (Withdraws n ∷ later) = calls-more (stand asked has_room s (Withdraws n)) later

  pub taken-stay : TakenStay asked has_room
  taken-stay items later =
      let more = calls-more (stands_after asked has_room items) later in
      (more.0, ap (λ w. w.calls) (stand_all-append none_stands items later) ∙ more.1)

  stays : (s : Standing C K) (later : List (Item C)) (p : Numbered C) → Contains s.performed p → (Contains later (Withdraws p.number) → ⊥) → Contains (stand_all asked has_room s later).performed p
  stays s [] p at none = at
  stays s (Arrives a ∷ later) p at none =
      stays (stand asked has_room s (Arrives a)) later p
      (elim (acts_now By (requests_of s.performed) a) as (λ b. Contains (cond b (performed_too asked has_room s a) s).performed p)
      [ true ↦ Contains-append_left s.performed (record { number = length s.calls; arrival = a } ∷ []) p at | false ↦ at ])
      (λ h. none (Contains-append_right (Arrives a ∷ []) later (Withdraws p.number) h))
  stays s (Withdraws n ∷ later) p at none =
      let other : nat_eq p.number n ≡ false = ne_eqb p.number n (λ e. none (zero, omega arith, ap (λ m. Withdraws m) (sym e))) in
      stays (stand asked has_room s (Withdraws n)) later p
      (Contains-filter (λ q. not (nat_eq q.number n)) s.performed p at.0 at.1 at.2 (ap not other))
      (λ h. none (Contains-append_right (Withdraws n ∷ []) later (Withdraws p.number) h))

  pub stands-till-withdrawn : StandsTillWithdrawn asked has_room
  stands-till-withdrawn items later p at none =
      subst (λ s. Contains s.performed p) (sym (stand_all-append none_stands items later)) (stays (stands_after asked has_room items) later p at none)

  -- a number that was given and is no one's stays no one's
  longer : (n : ℕ) (calls : List K) (r : Result K SystemName) → n < length calls → n < length (state_after_call By.apply calls r)
  longer n calls (Ok call) lt = let size = length-append calls (call ∷ []) in omega (arith, lt, size)
  longer n calls (Err refusal) lt = lt

  unused : (n : ℕ) (s : Standing C K) (later : List (Item C)) → n < length s.calls → AllByRecursion (λ p. p.number ≡ n → ⊥) s.performed → AllByRecursion (λ p. p.number ≡ n → ⊥) (stand_all asked has_room s later).performed
  unused n s [] lt h = h
  unused n s (Arrives a ∷ later) lt h =
      elim (acts_now By (requests_of s.performed) a) as (λ b. AllByRecursion (λ (p : Numbered C). p.number ≡ n → ⊥) (stand_all asked has_room (cond b (performed_too asked has_room s a) s) later).performed) [
        | true ↦ unused n (performed_too asked has_room s a) later (longer n s.calls (asked a.content) lt)
            (all_push (λ (p : Numbered C). p.number ≡ n → ⊥) s.performed (record { number = length s.calls; arrival = a }) h (λ e. omega (arith, lt, e)))
        | false ↦ unused n s later lt h
      ]
  unused n s (Withdraws m ∷ later) lt h = unused n (stand asked has_room s (Withdraws m)) later lt (all_filter (λ p. p.number ≡ n → ⊥) (λ p. not (nat_eq p.number m)) s.performed h)

  but-none : (n : ℕ) (ps : List (Numbered C)) → AllByRecursion (λ p. p.number ≡ n → ⊥) (all_but n ps)
  but-none n [] = tt
  but-none n (p ∷ ps) =
      let rest = but-none n ps in
      elim (nat_eq p.number n) as (λ b. nat_eq p.number n ≡ b → AllByRecursion (λ (q : Numbered C). q.number ≡ n → ⊥) (cond (not b) (p ∷ all_but n ps) (all_but n ps))) [
        | true ↦ λ is. rest
        | false ↦ λ is. ((λ e. true≢false (sym (eq-eqb p.number n e) ∙ is)), rest)
      ] refl

  pub withdrawn-for-good : WithdrawnForGood asked has_room
  withdrawn-for-good items later p n lt at is =
      let s = stands_after asked has_room items in
      let here = subst (λ w. Contains w.performed p) (stand_all-append none_stands items (Withdraws n ∷ later)) at in
      all_at (λ q. q.number ≡ n → ⊥) (stand_all asked has_room (stand asked has_room s (Withdraws n)) later).performed p here.0 here.1 here.2
      (unused n (stand asked has_room s (Withdraws n)) later lt (but-none n s.performed)) is

  but-split : (front rest : List (Numbered C)) (p : Numbered C) → all_but p.number (front ++ p ∷ rest) ≡ all_but p.number front ++ all_but p.number rest
  but-split front rest p =
      filter-append (λ q. not (nat_eq q.number p.number)) front (p ∷ rest)
      ∙ ap (λ b. all_but p.number front ++ cond (not b) (p ∷ all_but p.number rest) (all_but p.number rest)) (eq-eqb p.number p.number refl)

  none-held : (clock : ℕ) (key : RequestKey) (xs ys : List (Numbered C)) → AllByRecursion (λ x. has_live_key clock key x.arrival.field ≡ false) xs → AllByRecursion (λ x. has_live_key clock key x.arrival.field ≡ false) ys
      → is_held (requests_of (xs ++ ys)) clock key ≡ false
  none-held clock key [] [] h k = refl
  none-held clock key [] (y ∷ ys) h k = or_from (has_live_key clock key y.arrival.field) (is_held (requests_of ys) clock key) k.0 (none-held clock key [] ys h k.1)
  none-held clock key (x ∷ xs) ys h k = or_from (has_live_key clock key x.arrival.field) (is_held (requests_of (xs ++ ys)) clock key) h.0 (none-held clock key xs ys h.1 k)

  pub withdrawn-key-is-free : WithdrawnKeyIsFree asked has_room
  withdrawn-key-is-free items p clock key early one at is_p =
      let s = stands_after asked has_room items in
      let Same : Numbered C → Type 0 = λ x. (e : ℕ) → x.arrival.field ≡ Present key e → e ≡ early in
      let Free : Numbered C → Type 0 = λ x. has_live_key clock key x.arrival.field ≡ false in
      let keep : Numbered C → Bool = λ q. not (nat_eq q.number p.number) in
      let in_p = all_at (λ (x : Numbered C). Contains (arrivals_among items) x.arrival) s.performed p at.0 at.1 at.2 (arrived items) in
      let same = all_map (λ (x : Numbered C). Contains (arrivals_among items) x.arrival) Same s.performed (λ x in_x e is. one x.arrival p.arrival e early in_x in_p is is_p) (arrived items) in
      let parts = split-at s.performed p at.0 at.1 at.2 in
      let apart = subst (Pairs Apart) parts.2 (good items).later in
      let same_too = subst (AllByRecursion Same) parts.2 same in
      let before = none-before clock key early parts.0 parts.1 p is_p apart same_too in
      let after = none-after clock key early parts.1 p is_p (Pairs-back Apart parts.0 (p ∷ parts.1) apart).0 (all_back Same parts.0 (p ∷ parts.1) same_too).1 in
      ap (λ w. is_held (requests_of w.performed) clock key) (stand_all-append none_stands items (Withdraws p.number ∷ []))
      ∙ ap (λ ps. is_held (requests_of ps) clock key) (ap (all_but p.number) parts.2 ∙ but-split parts.0 parts.1 p)
      ∙ none-held clock key (all_but p.number parts.0) (all_but p.number parts.1) (all_filter Free keep parts.0 before) (all_filter Free keep parts.1 after)

  but-below : (n : ℕ) (ps : List (Numbered C)) → AllByRecursion (λ p. p.number < n) ps → all_but n ps ≡ ps
  but-below n ps h =
      filter-each (λ p. not (nat_eq p.number n)) ps (all_map (λ p. p.number < n) (λ p. not (nat_eq p.number n) ≡ true) ps (λ p lt. ap not (ne_eqb p.number n (λ e. omega (arith, lt, e)))) h)

  pub withdrawn-at-once : WithdrawnAtOnce asked has_room
  withdrawn-at-once items a is =
      let s = stands_after asked has_room items in
      let n = length s.calls in
      let others : all_but n (s.performed ++ record { number = n; arrival = a } ∷ []) ≡ s.performed =
      but-split s.performed [] (record { number = n; arrival = a }) ∙ append-nil (all_but n s.performed) ∙ but-below n s.performed (below s (good items)) in
      let less : stands_after asked has_room (items ++ Arrives a ∷ Withdraws n ∷ []) ≡ record { calls = (performed_too asked has_room s a).calls; performed = s.performed } =
      stand_all-append none_stands items (Arrives a ∷ Withdraws n ∷ [])
      ∙ ap (λ b. stand asked has_room (cond b (performed_too asked has_room s a) s) (Withdraws n)) is
      ∙ (λ i. record { calls = (performed_too asked has_room s a).calls; performed = others i }) in
      (ap (λ w. w.performed) less, ap (λ w. w.calls) less, ap (λ w. acts_now By (requests_of w.performed) a) less ∙ is)

  -- without withdrawals: what stands is what is performed, under consecutive numbers
  abbrev numbered : List K → List (Arrival C) → List (Numbered C)
  numbered calls [] = []
  numbered calls (p ∷ ps) = record { number = length calls; arrival = p } ∷ numbered (state_after_call By.apply calls (asked p.content)) ps

  abbrev standing_of : List (Arrival C) → Standing C K
  standing_of ps = record { calls = state_after By [] ps; performed = numbered [] ps }

  requests-numbered : (calls : List K) (ps : List (Arrival C)) → requests_of (numbered calls ps) ≡ ps
  requests-numbered calls [] = refl
  requests-numbered calls (p ∷ ps) = ap (λ l. p ∷ l) (requests-numbered (state_after_call By.apply calls (asked p.content)) ps)

  numbered-push : (calls : List K) (ps : List (Arrival C)) (a : Arrival C) → numbered calls (ps ++ a ∷ []) ≡ numbered calls ps ++ record { number = length (state_after By calls ps); arrival = a } ∷ []
  numbered-push calls [] a = refl
  numbered-push calls (p ∷ ps) a =
      let first : Numbered C = record { number = length calls; arrival = p } in
      ap (λ l. first ∷ l) (numbered-push (state_after_call By.apply calls (asked p.content)) ps a)

  found_number-step : (calls : List K) (b : Bool) (r : Result K SystemName) (later : Option (Result ℕ SystemName)) (found : Option ℕ) → is_ok r ≡ true → later ≡ option_map (λ m. Ok m) found
      → cond b (Some (outcome_of By.apply calls r)) later ≡ option_map (λ m. Ok m) (cond b (Some (length calls)) found)
  found_number-step calls true (Ok call) later found ok h = refl
  found_number-step calls true (Err refusal) later found ok h = absurd (false≢true ok)
  found_number-step calls false r later found ok h = h

  found_number : (calls : List K) (clock : ℕ) (key : RequestKey) (ps : List (Arrival C)) → AreCalls By ps → outcome_held By calls clock key ps ≡ option_map (λ m. Ok m) (number_held clock key (numbered calls ps))
  found_number calls clock key [] h = refl
  found_number calls clock key (p ∷ ps) h =
      let next = state_after_call By.apply calls (asked p.content) in
      found_number-step calls (has_live_key clock key p.field) (asked p.content) (outcome_held By next clock key ps) (number_held clock key (numbered next ps)) h.0 (found_number next clock key ps h.1)

  plain_step : (ps : List (Arrival C)) (a : Arrival C) → stand asked has_room (standing_of ps) (Arrives a) ≡ standing_of (grown_now By ps a)
  plain_step ps a =
      ap (λ l. cond (acts_now By l a) (performed_too asked has_room (standing_of ps) a) (standing_of ps)) (requests-numbered [] ps)
      ∙ (elim (acts_now By ps a) as (λ b. cond b (performed_too asked has_room (standing_of ps) a) (standing_of ps) ≡ standing_of (cond b (ps ++ a ∷ []) ps)) [
        | true ↦ λ i. record { calls = sym (state_after-push By [] ps a) i; performed = sym (numbered-push [] ps a) i }
        | false ↦ refl
      ])

  plain_answer : (ps : List (Arrival C)) (clock : ℕ) (f : Field) (r : Result K SystemName) → AreCalls By ps → number_by_field asked has_room (standing_of ps) clock r f ≡ answer_now_by_field By [] ps clock r f
  plain_answer ps clock Absent r calls = refl
  plain_answer ps clock Bad r calls = refl
  plain_answer ps clock (Present key e) r calls =
      λ i. cond (nat_lt e clock) (Err BadContext)
      (unwrap_or (sym (found_number [] clock key ps calls) i) (new_answer By (state_after By [] ps) (has_room key (live_keys clock (requests-numbered [] ps i))) r))

  plain_stands : (ps later : List (Arrival C)) → stand_all asked has_room (standing_of ps) (map (λ a. Arrives a) later) ≡ standing_of (performed_now_after By ps later)
  plain_stands ps [] = refl
  plain_stands ps (a ∷ later) = ap (λ s. stand_all asked has_room s (map (λ b. Arrives b) later)) (plain_step ps a) ∙ plain_stands (grown_now By ps a) later

  plain_answers : (before later : List (Arrival C)) → number_answers asked has_room (standing_of (performed_now By before)) (map (λ a. Arrives a) later) ≡ answers_now_after By [] before later
  plain_answers before [] = refl
  plain_answers before (a ∷ later) =
      let ps = performed_now By before in
      let calls = performed_now-calls By [] before tt in
      let next : stand asked has_room (standing_of ps) (Arrives a) ≡ standing_of (performed_now By (before ++ a ∷ [])) = plain_step ps a ∙ ap standing_of (sym (performed_now-push By [] before a)) in
      (λ i. plain_answer ps a.clock a.field (asked a.content) calls i ∷ number_answers asked has_room (next i) (map (λ b. Arrives b) later))
      ∙ ap (λ l. answer_now_by_field By [] ps a.clock (asked a.content) a.field ∷ l) (plain_answers (before ++ a ∷ []) later)

  pub plain_table : (t : Table (List K) ℕ) (xs : List (Arrival C)) → items_after asked has_room t (map (λ a. Arrives a) xs) ≡ table_after By t xs
  plain_table t [] = refl
  plain_table t (a ∷ later) = plain_table (table_step By t a).0 later

  pub plain_says : (t : Table (List K) ℕ) (xs : List (Arrival C)) → item_answers asked has_room t (map (λ a. Arrives a) xs) ≡ table_answers By t xs
  plain_says t [] = refl
  plain_says t (a ∷ later) = ap (λ l. (table_step By t a).1 ∷ l) (plain_says (table_step By t a).0 later)

  pub without-withdrawals : WithoutWithdrawals asked has_room
  without-withdrawals xs =
      let stands = plain_stands [] xs in (
        ap (λ s. requests_of s.performed) stands ∙ requests-numbered [] (performed_now By xs),
        ap (λ s. s.calls) stands,
        plain_answers [] xs,
        λ t. plain_table t xs,
        λ t. plain_says t xs,
      )

  pub may-withdraw : MayWithdraw asked has_room
  may-withdraw = record {
    table = tables-withdraw;
    next = takes-one;
    less = lets-go;
    later = key-stands-later;
    once = key-stands-once;
    held = held-get-the-number;
    repeats = repeats-get-the-number;
    first = firsts-get-the-next;
    theirs = numbers-are-theirs;
    rise = numbers-rise;
    taken = taken-stay;
    stands = stands-till-withdrawn;
    gone = withdrawn-for-good;
    free = withdrawn-key-is-free;
    at_once = withdrawn-at-once;
    without = without-withdrawals;
  }
