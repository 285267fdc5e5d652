-- Each key by itself: which requests act, and that a table that forgets answers so.
use Rattle.std.proofs.Common.{◌≡◌, ℕ, ◌<◌, ◌≤◌, Bool, true, false, not, ◌&&◌, ◌||◌, cond, nat_le, nat_lt, Contains, List, [], ◌∷◌, ◌++◌, Option, Some, None, Result, Ok, Err, is_some, is_ok, refl, sym, ap, ◌∙◌, subst, arith}
use Rattle.std.specs.List.{AllByRecursion, cons_option, list_any}
use Rattle.std.specs.Option.{option_map, unwrap_or}
use Rattle.std.proofs.lemmas.Bool.{and_from, and_parts, and_right, false≢true, le-leb, le-ltb, leb-false, lt-leb, ltb-false, not-true, or_parts, or_from, true≢false}
use Rattle.std.proofs.lemmas.List.{append-nil, append_assoc}
use Rattle.std.proofs.lemmas.List.Elements.{Contains-append_left, Contains-append_right, Contains-push}
use Rattle.std.proofs.lemmas.List.Folds.{list_any-append}
use Rattle.ft_log.specs.Keys.{RequestKey, same_key}
use Rattle.ft_log.specs.Kept.{KeptOutcome, kept_for, keys_of, unexpired}
use Rattle.ft_log.specs.declared.system_exception.SystemName.{SystemName}
use Rattle.ft_log.specs.declared.system_exception.SystemName.TheVariants.{BadContext}
use Rattle.ft_orb.specs.ExactlyOnce.{Absent, Arrival, Bad, ClocksGrow, Field, Present, Rules, acts, clock_after, has_key, is_bad, is_over, live_keys, new_answer, outcome_of, state_after, state_after_call}
use Rattle.ft_orb.specs.Table.{Table, entry_of, forgotten, keyed_step, remembered, step_by_field, table_after, table_answers, table_step}
use Rattle.ft_orb.specs.Now.{IsIdleNow, IsTableNow, KeyActsLater, KeyActsOnce, KeyIsAnswered, KeyIsFirst, KeyIsHeld, OneExpirationOf, TablesAnswerNow, TablesGoOnNow, acts_now, answer_now, answer_now_by_field, answers_now_after, has_live_key, is_held, is_let_in_now, outcome_held, performed_now, performed_now_after}
use Rattle.ft_orb.proofs.Folded.{same_key-self}
use Rattle.ft_orb.proofs.Law.{Agrees, AreCalls, AreCalls-push, Fits, Fits-along, agrees_if, enters, entries_if, keyed_fits, keyed_with, keyed_with-is, live_keys-is, remembered-push, same_is, state_after-push, state_if, unexpired_later}
use Rattle.ft_orb.proofs.Once.{any-here, own-key}

module _ {X : Type 0} where
  pub all_in : (P : X → Type 0) (xs : List X) → ((x : X) → Contains xs x → P x) → AllByRecursion P xs
  all_in P [] h = tt
  all_in P (x ∷ xs) h = (h x (Contains-append_left (x ∷ []) xs x (Contains-push [] x)), all_in P xs (λ y in_y. h y (Contains-append_right (x ∷ []) xs y in_y)))

  pub all_map : (P Q : X → Type 0) (xs : List X) → ((x : X) → P x → Q x) → AllByRecursion P xs → AllByRecursion Q xs
  all_map P Q [] f h = tt
  all_map P Q (x ∷ xs) f h = (f x h.0, all_map P Q xs f h.1)

  pub all_push : (P : X → Type 0) (xs : List X) (x : X) → AllByRecursion P xs → P x → AllByRecursion P (xs ++ x ∷ [])
  all_push P [] x h is = (is, tt)
  all_push P (y ∷ ys) x h is = (h.0, all_push P ys x h.1 is)

  pub all_middle : (P : X → Type 0) (front rest : List X) (x : X) → AllByRecursion P (front ++ x ∷ rest) → P x
  all_middle P [] rest x h = h.0
  all_middle P (y ∷ front) rest x h = all_middle P front rest x h.1

-- the arrivals agree with this expiration where they have this key
abbrev pub AllAgree : {C : Type 0} → RequestKey → ℕ → List (Arrival C) → Type 0
AllAgree key expiration ps = AllByRecursion (λ p. Agrees key expiration p.field) ps

-- where none has the key, none holds it ..
live_lacks : (clock : ℕ) (key : RequestKey) (f : Field) → has_key key f ≡ false → has_live_key clock key f ≡ false
live_lacks clock key Absent h = refl
live_lacks clock key Bad h = refl
live_lacks clock key (Present other late) h = ap (λ b. b && nat_le clock late) h

-- .. and where all agree, having it in time is holding it
pub live_is : (key : RequestKey) (expiration clock : ℕ) (f : Field) → clock ≤ expiration → Agrees key expiration f → has_live_key clock key f ≡ has_key key f
live_is key expiration clock Absent in_time h = refl
live_is key expiration clock Bad in_time h = refl
live_is key expiration clock (Present other late) in_time h =
    elim (same_key key other) as (λ b. same_key key other ≡ b → (b && nat_le clock late) ≡ b)
    [ true ↦ λ same. le-leb clock late (omega (arith, h same, in_time)) | false ↦ λ same. refl ] refl

-- where both have one key, the first had expired when the other came, and the other had not
abbrev pub Later : {C : Type 0} → Arrival C → Arrival C → Type 0
Later p q = (key : RequestKey) (early late : ℕ) → p.field ≡ Present key early → q.field ≡ Present key late → (early < q.clock) × (q.clock ≤ late)

abbrev Spaced : {C : Type 0} → List (Arrival C) → Type 0
Spaced [] = Unit {0}
Spaced (p ∷ ps) = AllByRecursion (Later p) ps × Spaced ps

-- what had expired at a moment holds nothing from it on
pub gone : (moment clock : ℕ) (key : RequestKey) (f : Field) → moment ≤ clock → ((e : ℕ) → f ≡ Present key e → e < moment) → has_live_key clock key f ≡ false
gone moment clock key Absent h was = refl
gone moment clock key Bad h was = refl
gone moment clock key (Present other e) h was =
    elim (same_key key other) as (λ b. same_key key other ≡ b → (b && nat_le clock e) ≡ false)
    [ true ↦ λ same. lt-leb clock e (omega (arith, h, was e (ap (λ k. Present k e) (sym (same_is key other same))))) | false ↦ λ same. refl ] refl

-- and what has the key and holds nothing has expired
over : (clock : ℕ) (key : RequestKey) (early : ℕ) (f : Field) → f ≡ Present key early → has_live_key clock key f ≡ false → early < clock
over clock key early f is h =
    let late : nat_le clock early ≡ false = sym (λ i. same_key-self key i && nat_le clock early) ∙ sym (ap (has_live_key clock key) is) ∙ h in
    let less = leb-false clock early late in omega (arith, less)

-- no two of these have the key
abbrev OnceOf : {C : Type 0} → RequestKey → List (Arrival C) → Type 0
OnceOf key [] = Unit {0}
OnceOf key (p ∷ ps) = (has_key key p.field ≡ true → list_any (λ q. has_key key q.field) ps ≡ false) × OnceOf key ps

module _ {C : Type 0} where
  pub held_is : (key : RequestKey) (expiration clock : ℕ) (ps : List (Arrival C)) → clock ≤ expiration → AllAgree key expiration ps → is_held ps clock key ≡ list_any (λ q. has_key key q.field) ps
  held_is key expiration clock [] in_time h = refl
  held_is key expiration clock (p ∷ ps) in_time h = λ i. live_is key expiration clock p.field in_time h.0 i || held_is key expiration clock ps in_time h.1 i

  OnceOf-push : (key : RequestKey) (ps : List (Arrival C)) (a : Arrival C) → OnceOf key ps → (has_key key a.field ≡ true → list_any (λ q. has_key key q.field) ps ≡ false) → OnceOf key (ps ++ a ∷ [])
  OnceOf-push key [] a h new = (λ has. refl, tt)
  OnceOf-push key (p ∷ ps) a h new = (
    λ has.
        let lacks : has_key key a.field ≡ false =
        elim (has_key key a.field) as (λ b. has_key key a.field ≡ b → b ≡ false)
        [ true ↦ λ is. absurd (true≢false (sym has ∙ (or_parts (has_key key p.field) (list_any (λ q. has_key key q.field) ps) (new is)).0)) | false ↦ λ is. refl ] refl in
        list_any-append (λ q. has_key key q.field) ps (a ∷ [])
        ∙ or_from (list_any (λ q. has_key key q.field) ps) (has_key key a.field || false) (h.0 has) (or_from (has_key key a.field) false lacks refl),
    OnceOf-push key ps a h.1 (λ is. (or_parts (has_key key p.field) (list_any (λ q. has_key key q.field) ps) (new is)).1),
  )

  OnceOf-back : (key : RequestKey) (xs ys : List (Arrival C)) → OnceOf key (xs ++ ys) → OnceOf key ys
  OnceOf-back key [] ys h = h
  OnceOf-back key (x ∷ xs) ys h = OnceOf-back key xs ys h.1

  -- none of those before the one with the key has it
  OnceOf-front : (key : RequestKey) (e : ℕ) (front rest : List (Arrival C)) (p : Arrival C) → p.field ≡ Present key e → OnceOf key (front ++ p ∷ rest) → list_any (λ q. has_key key q.field) front ≡ false
  OnceOf-front key e [] rest p is h = refl
  OnceOf-front key e (x ∷ front) rest p is h =
      or_from (has_key key x.field) (list_any (λ q. has_key key q.field) front)
      (elim (has_key key x.field) as (λ b. has_key key x.field ≡ b → b ≡ false)
      [ true ↦ λ has. absurd (true≢false (sym (any-here front rest p key e is) ∙ h.0 has)) | false ↦ λ has. refl ] refl)
      (OnceOf-front key e front rest p is h.1)

  Spaced-push : (ps : List (Arrival C)) (a : Arrival C) → Spaced ps → AllByRecursion (λ p. Later p a) ps → Spaced (ps ++ a ∷ [])
  Spaced-push [] a h new = (tt, tt)
  Spaced-push (p ∷ ps) a h new = (all_push (Later p) ps a h.0 new.0, Spaced-push ps a h.1 new.1)

  Spaced-back : (xs ys : List (Arrival C)) → Spaced (xs ++ ys) → Spaced ys
  Spaced-back [] ys h = h
  Spaced-back (x ∷ xs) ys h = Spaced-back xs ys h.1

  -- what comes while these hold nothing of its key comes later than each
  later-all : (ps : List (Arrival C)) (a : Arrival C) → ((key : RequestKey) (late : ℕ) → a.field ≡ Present key late → (is_held ps a.clock key ≡ false) × (a.clock ≤ late)) → AllByRecursion (λ p. Later p a) ps
  later-all [] a h = tt
  later-all (p ∷ ps) a h = (
    λ key early late is_p is_a.
        let k = h key late is_a in (over a.clock key early p.field is_p (or_parts (has_live_key a.clock key p.field) (is_held ps a.clock key) k.0).0, k.1),
    later-all ps a (λ key late is_a. let k = h key late is_a in ((or_parts (has_live_key a.clock key p.field) (is_held ps a.clock key) k.0).1, k.1)),
  )

  -- none of those before the one with the key holds it when that one came, or later
  Spaced-front : (key : RequestKey) (early clock : ℕ) (front rest : List (Arrival C)) (p : Arrival C) → p.field ≡ Present key early → p.clock ≤ clock → Spaced (front ++ p ∷ rest) → is_held front clock key ≡ false
  Spaced-front key early clock [] rest p is h spaced = refl
  Spaced-front key early clock (x ∷ front) rest p is h spaced =
      or_from (has_live_key clock key x.field) (is_held front clock key)
      (gone p.clock clock key x.field h (λ e is_x. (all_middle (Later x) front rest p spaced.0 key e early is_x is).0))
      (Spaced-front key early clock front rest p is h spaced.1)

  lacks-held : (clock : ℕ) (key : RequestKey) (ps : List (Arrival C)) → list_any (λ q. has_key key q.field) ps ≡ false → is_held ps clock key ≡ false
  lacks-held clock key [] h = refl
  lacks-held clock key (p ∷ ps) h =
      let parts = or_parts (has_key key p.field) (list_any (λ q. has_key key q.field) ps) h in
      or_from (has_live_key clock key p.field) (is_held ps clock key) (live_lacks clock key p.field parts.0) (lacks-held clock key ps parts.1)

  -- the one with the key holds it
  pub own-live : (key : RequestKey) (e clock : ℕ) (p : Arrival C) → p.field ≡ Present key e → clock ≤ e → has_live_key clock key p.field ≡ true
  own-live key e clock p is in_time = ap (has_live_key clock key) is ∙ and_from (same_key key key) (nat_le clock e) (same_key-self key) (le-leb clock e in_time)

  held-here : (front rest : List (Arrival C)) (p : Arrival C) (key : RequestKey) (clock : ℕ) → has_live_key clock key p.field ≡ true → is_held (front ++ p ∷ rest) clock key ≡ true
  held-here [] rest p key clock is = ap (λ b. b || is_held rest clock key) is
  held-here (x ∷ front) rest p key clock is =
      let later = held-here front rest p key clock is in
      elim (has_live_key clock key x.field) as (λ b. (b || is_held (front ++ p ∷ rest) clock key) ≡ true) [ true ↦ refl | false ↦ later ]

module _ {S C K O : Type 0} (rules : Rules S C K O) where
  -- the performed requests with this arrival, where it is performed
  abbrev pub grown_now : List (Arrival C) → Arrival C → List (Arrival C)
  grown_now performed a = cond (acts_now rules performed a) (performed ++ a ∷ []) performed

  pub performed_now-push : (performed arrivals : List (Arrival C)) (a : Arrival C) → performed_now_after rules performed (arrivals ++ a ∷ []) ≡ grown_now (performed_now_after rules performed arrivals) a
  performed_now-push performed [] a = refl
  performed_now-push performed (b ∷ later) a = performed_now-push (grown_now performed b) later a

  -- whether a request acts, by its field and by what it spells
  abbrev pub acts_now_by : List (Arrival C) → ℕ → Field → Bool → Bool
  acts_now_by performed clock f spells = (not (is_bad f) && (not (is_over clock f) && spells)) && is_let_in_now rules performed clock f

  -- what holds of the performed and of all arrivals holds of the performed ones among them
  pub grown_now-all : (P : Arrival C → Type 0) (performed : List (Arrival C)) (a : Arrival C) → AllByRecursion P performed → P a → AllByRecursion P (grown_now performed a)
  grown_now-all P performed a h is =
      elim (acts_now rules performed a) as (λ b. AllByRecursion P (cond b (performed ++ a ∷ []) performed))
      [ true ↦ all_push P performed a h is | false ↦ h ]

  pub performed_now-all : (P : Arrival C → Type 0) (performed arrivals : List (Arrival C)) → AllByRecursion P performed → AllByRecursion P arrivals → AllByRecursion P (performed_now_after rules performed arrivals)
  performed_now-all P performed [] h later = h
  performed_now-all P performed (a ∷ rest) h later = performed_now-all P (grown_now performed a) rest (grown_now-all P performed a h later.0) later.1

  -- what was performed arrived
  performed-arrived : (arrivals front rest : List (Arrival C)) (p : Arrival C) → performed_now rules arrivals ≡ front ++ p ∷ rest → Contains arrivals p
  performed-arrived arrivals front rest p is =
      all_middle (Contains arrivals) front rest p (subst (AllByRecursion (Contains arrivals)) is (performed_now-all (Contains arrivals) [] arrivals tt (all_in (Contains arrivals) arrivals (λ x h. h))))

  -- where all agree, one that acts is the first with the key
  acts-new : (key : RequestKey) (expiration : ℕ) (performed : List (Arrival C)) (clock : ℕ) (f : Field) (spells : Bool) → AllAgree key expiration performed → Agrees key expiration f → acts_now_by performed clock f spells ≡ true
      → has_key key f ≡ true → list_any (λ q. has_key key q.field) performed ≡ false
  acts-new key expiration performed clock Absent spells agree own acts has = absurd (false≢true has)
  acts-new key expiration performed clock Bad spells agree own acts has = absurd (false≢true has)
  acts-new key expiration performed clock (Present other late) spells agree own acts has =
      let parts = and_parts (true && (not (nat_lt late clock) && spells)) (not (is_held performed clock other) && rules.has_room other (live_keys clock performed)) acts in
      let over : nat_lt late clock ≡ false = not-true (nat_lt late clock) (and_parts (not (nat_lt late clock)) spells parts.0).0 in
      let in_time : clock ≤ late = ltb-false late clock over in
      let free : is_held performed clock other ≡ false = not-true (is_held performed clock other) (and_parts (not (is_held performed clock other)) (rules.has_room other (live_keys clock performed)) parts.1).0 in
      let e_is : late ≡ expiration = own has in
      sym (held_is key expiration clock performed (omega (arith, in_time, e_is)) agree) ∙ ap (is_held performed clock) (same_is key other has) ∙ free

  grown_now-once : (key : RequestKey) (expiration : ℕ) (performed : List (Arrival C)) (a : Arrival C) → AllAgree key expiration performed → Agrees key expiration a.field → OnceOf key performed → OnceOf key (grown_now performed a)
  grown_now-once key expiration performed a agree own h =
      elim (acts_now rules performed a) as (λ b. acts_now rules performed a ≡ b → OnceOf key (cond b (performed ++ a ∷ []) performed))
      [ true ↦ λ is. OnceOf-push key performed a h (acts-new key expiration performed a.clock a.field (is_ok (rules.asked a.content)) agree own is) | false ↦ λ is. h ] refl

  performed_now-once : (key : RequestKey) (expiration : ℕ) (performed arrivals : List (Arrival C)) → AllAgree key expiration performed → AllAgree key expiration arrivals → OnceOf key performed → OnceOf key (performed_now_after rules performed arrivals)
  performed_now-once key expiration performed [] agree own h = h
  performed_now-once key expiration performed (a ∷ later) agree own h =
      performed_now-once key expiration (grown_now performed a) later (grown_now-all (λ p. Agrees key expiration p.field) performed a agree own.0) own.1 (grown_now-once key expiration performed a agree own.0 h)

  -- the arrivals agree with the one that was performed
  agree-performed : (arrivals front rest : List (Arrival C)) (p : Arrival C) (key : RequestKey) (early : ℕ) → OneExpirationOf key arrivals → performed_now rules arrivals ≡ front ++ p ∷ rest → p.field ≡ Present key early → AllAgree key early arrivals
  agree-performed arrivals front rest p key early one is is_p =
      all_in (λ b. Agrees key early b.field) arrivals (λ b in_b. agrees_if key early b.field (λ e is_b. one b p e early in_b (performed-arrived arrivals front rest p is) is_b is_p))

  once-at : (arrivals front rest : List (Arrival C)) (p : Arrival C) (key : RequestKey) (early : ℕ) → OneExpirationOf key arrivals → performed_now rules arrivals ≡ front ++ p ∷ rest → p.field ≡ Present key early → OnceOf key (front ++ p ∷ rest)
  once-at arrivals front rest p key early one is is_p = subst (OnceOf key) is (performed_now-once key early [] arrivals tt (agree-performed arrivals front rest p key early one is is_p) tt)

  pub key-acts-once : KeyActsOnce rules
  key-acts-once arrivals front between rest p q key early late one is is_p is_q =
      let performed_is = is ∙ append_assoc front (p ∷ between) (q ∷ rest) in
      let first = OnceOf-back key front (p ∷ (between ++ q ∷ rest)) (once-at arrivals front (between ++ q ∷ rest) p key early one performed_is is_p) in
      true≢false (sym (any-here between rest q key late is_q) ∙ first.0 (own-key key early p is_p))

  -- what acts comes later than each that was performed with its key
  pub acts-later : (performed : List (Arrival C)) (a : Arrival C) → acts_now rules performed a ≡ true → AllByRecursion (λ p. Later p a) performed
  acts-later performed a acts =
      later-all performed a
      (λ key late is_a.
      let spells = is_ok (rules.asked a.content) in
      let by : acts_now_by performed a.clock (Present key late) spells ≡ true = sym (ap (λ f. acts_now_by performed a.clock f spells) is_a) ∙ acts in
      let parts = and_parts (true && (not (nat_lt late a.clock) && spells)) (not (is_held performed a.clock key) && rules.has_room key (live_keys a.clock performed)) by in (
        not-true (is_held performed a.clock key) (and_parts (not (is_held performed a.clock key)) (rules.has_room key (live_keys a.clock performed)) parts.1).0,
        ltb-false late a.clock (not-true (nat_lt late a.clock) (and_parts (not (nat_lt late a.clock)) spells parts.0).0),
      ))

  grown_now-spaced : (performed : List (Arrival C)) (a : Arrival C) → Spaced performed → Spaced (grown_now performed a)
  grown_now-spaced performed a h =
      elim (acts_now rules performed a) as (λ b. acts_now rules performed a ≡ b → Spaced (cond b (performed ++ a ∷ []) performed))
      [ true ↦ λ is. Spaced-push performed a h (acts-later performed a is) | false ↦ λ is. h ] refl

  performed_now-spaced : (performed arrivals : List (Arrival C)) → Spaced performed → Spaced (performed_now_after rules performed arrivals)
  performed_now-spaced performed [] h = h
  performed_now-spaced performed (a ∷ later) h = performed_now-spaced (grown_now performed a) later (grown_now-spaced performed a h)

  pub key-acts-later : KeyActsLater rules
  key-acts-later arrivals front between rest p q key early late is is_p is_q =
      let spaced = Spaced-back front (p ∷ (between ++ q ∷ rest)) (subst Spaced (is ∙ append_assoc front (p ∷ between) (q ∷ rest)) (performed_now-spaced [] arrivals tt)) in
      all_middle (Later p) between rest q spaced.0 key early late is_p is_q

  -- the step of a table, against what is performed and answered

  -- what acts spells a call
  pub acts_now-call : (performed : List (Arrival C)) (a : Arrival C) → acts_now rules performed a ≡ true → is_ok (rules.asked a.content) ≡ true
  acts_now-call performed a h =
      let admissible = (and_parts (not (is_bad a.field) && (not (is_over a.clock a.field) && is_ok (rules.asked a.content))) (is_let_in_now rules performed a.clock a.field) h).0 in
      let in_time = (and_parts (not (is_bad a.field)) (not (is_over a.clock a.field) && is_ok (rules.asked a.content)) admissible).1 in
      (and_parts (not (is_over a.clock a.field)) (is_ok (rules.asked a.content)) in_time).1

  grown_now-calls : (performed : List (Arrival C)) (a : Arrival C) → AreCalls rules performed → AreCalls rules (grown_now performed a)
  grown_now-calls performed a h =
      elim (acts_now rules performed a) as (λ b. acts_now rules performed a ≡ b → AreCalls rules (cond b (performed ++ a ∷ []) performed))
      [ true ↦ λ is. AreCalls-push rules performed a h (acts_now-call performed a is) | false ↦ λ is. h ] refl

  pub performed_now-calls : (performed arrivals : List (Arrival C)) → AreCalls rules performed → AreCalls rules (performed_now_after rules performed arrivals)
  performed_now-calls performed [] h = h
  performed_now-calls performed (a ∷ later) h = performed_now-calls (grown_now performed a) later (grown_now-calls performed a h)

  -- one request's part of what is held, with what it asks as a variable
  held-step : (clock : ℕ) (key : RequestKey) (f : Field) (r : Result K SystemName) (state : S) (later : Option (Result O SystemName)) (rest : List (KeptOutcome O)) → is_ok r ≡ true → later ≡ option_map (λ o. Ok o) (kept_for key (unexpired clock rest))
      → cond (has_live_key clock key f) (Some (outcome_of rules.apply state r)) later ≡ option_map (λ o. Ok o) (kept_for key (unexpired clock (cons_option (entry_of f (outcome_of rules.apply state r)) rest)))
  held-step clock key Absent r state later rest ok h = h
  held-step clock key Bad r state later rest ok h = h
  held-step clock key (Present other e) (Err refusal) state later rest ok h = absurd (false≢true ok)
  held-step clock key (Present other e) (Ok call) state later rest ok h =
      let out = (rules.apply state call).1 in
      let entry : KeptOutcome O = record { key = other; expiration = e; outcome = out } in
      elim (nat_le clock e) as (λ b. cond (same_key key other && b) (Some (Ok out)) later ≡ option_map (λ o. Ok o) (kept_for key (cond b (entry ∷ unexpired clock rest) (unexpired clock rest)))) [
        | true ↦ elim (same_key key other) as (λ c. cond (c && true) (Some (Ok out)) later ≡ option_map (λ o. Ok o) (cond c (Some out) (kept_for key (unexpired clock rest)))) [ true ↦ refl | false ↦ h ]
        | false ↦ elim (same_key key other) as (λ c. cond (c && false) (Some (Ok out)) later ≡ option_map (λ o. Ok o) (kept_for key (unexpired clock rest))) [ true ↦ h | false ↦ h ]
      ]

  pub outcome_held-is : (clock : ℕ) (key : RequestKey) (state : S) (ps : List (Arrival C)) → AreCalls rules ps → outcome_held rules state clock key ps ≡ option_map (λ o. Ok o) (kept_for key (unexpired clock (remembered rules state ps)))
  outcome_held-is clock key state [] h = refl
  outcome_held-is clock key state (p ∷ ps) h =
      let next = state_after_call rules.apply state (rules.asked p.content) in
      held-step clock key p.field (rules.asked p.content) state (outcome_held rules next clock key ps) (remembered rules next ps) h.0 (outcome_held-is clock key next ps h.1)

  -- a key is held where there is an outcome of it
  held-some : (state : S) (clock : ℕ) (key : RequestKey) (ps : List (Arrival C)) → is_held ps clock key ≡ is_some (outcome_held rules state clock key ps)
  held-some state clock key [] = refl
  held-some state clock key (p ∷ ps) =
      let next = state_after_call rules.apply state (rules.asked p.content) in
      let later = held-some next clock key ps in
      elim (has_live_key clock key p.field) as (λ b. (b || is_held ps clock key) ≡ is_some (cond b (Some (outcome_of rules.apply state (rules.asked p.content))) (outcome_held rules next clock key ps)))
      [ true ↦ refl | false ↦ later ]

  is_some-map : (o : Option O) → is_some (option_map (λ x. let answer : Result O SystemName = Ok x in answer) o) ≡ is_some o
  is_some-map None = refl
  is_some-map (Some x) = refl

  -- the step of a request with a key, which is over or not
  present_now : (opening : S) (performed : List (Arrival C)) (clock : ℕ) (key : RequestKey) (expiration : ℕ) (r : Result K SystemName) (t : Table S O) (over : Bool)
      → AreCalls rules performed
      → t.state ≡ state_after rules opening performed → unexpired clock t.entries ≡ unexpired clock (remembered rules opening performed)
      → let state = state_after rules opening performed in let rest = remembered rules opening performed in
      let enters_too = (true && (not over && is_ok r)) && (not (is_held performed clock key) && rules.has_room key (live_keys clock performed)) in
      Fits rules clock (cond over (t, Err BadContext) (keyed_step rules (forgotten clock t) key expiration r (kept_for key (unexpired clock t.entries))))
      (cond over (Err BadContext) (unwrap_or (outcome_held rules opening clock key performed) (new_answer rules state (rules.has_room key (live_keys clock performed)) r)))
      (state_if rules enters_too state r) (entries_if rules enters_too rest (Present key expiration) state r)
  present_now opening performed clock key expiration r t true calls state_is entries_are = record { answer_is = refl; state_is = state_is; entries_are = entries_are }
  present_now opening performed clock key expiration r t false calls state_is entries_are =
      let state = state_after rules opening performed in
      let rest = remembered rules opening performed in
      let found = kept_for key (unexpired clock rest) in
      let room = rules.has_room key (keys_of (unexpired clock rest)) in
      let room_is : rules.has_room key (live_keys clock performed) ≡ room = ap (rules.has_room key) (live_keys-is rules clock opening performed calls) in
      let outcome_is = outcome_held-is clock key opening performed calls in
      let held_too : is_held performed clock key ≡ is_some found = held-some opening clock key performed ∙ ap is_some outcome_is ∙ is_some-map found in
      let enters_is : is_ok r && (not (is_held performed clock key) && rules.has_room key (live_keys clock performed)) ≡ enters rules r found room = λ i. is_ok r && (not (held_too i) && room_is i) in
      let step_is : keyed_step rules (forgotten clock t) key expiration r (kept_for key (unexpired clock t.entries)) ≡ keyed_with rules (record { state = state; entries = unexpired clock rest }) key expiration r found room =
      (λ i. keyed_step rules (record { state = state_is i; entries = entries_are i }) key expiration r (kept_for key (entries_are i)))
      ∙ keyed_with-is rules (record { state = state; entries = unexpired clock rest }) key expiration r found in
      Fits-along rules step_is (λ i. unwrap_or (outcome_is i) (new_answer rules state (room_is i) r))
      (ap (λ b. state_if rules b state r) enters_is) (ap (λ b. entries_if rules b rest (Present key expiration) state r) enters_is)
      (keyed_fits rules clock state rest key expiration r found room)

  -- a step, by the field
  field_now : (opening : S) (performed : List (Arrival C)) (clock : ℕ) (f : Field) (r : Result K SystemName) (t : Table S O)
      → AreCalls rules performed
      → t.state ≡ state_after rules opening performed → unexpired clock t.entries ≡ unexpired clock (remembered rules opening performed)
      → Fits rules clock (step_by_field rules t clock r f) (answer_now_by_field rules opening performed clock r f)
      (state_if rules (acts_now_by performed clock f (is_ok r)) (state_after rules opening performed) r)
      (entries_if rules (acts_now_by performed clock f (is_ok r)) (remembered rules opening performed) f (state_after rules opening performed) r)
  field_now opening performed clock Bad r t calls state_is entries_are = record { answer_is = refl; state_is = state_is; entries_are = entries_are }
  field_now opening performed clock Absent (Err refusal) t calls state_is entries_are = record { answer_is = refl; state_is = state_is; entries_are = entries_are }
  field_now opening performed clock Absent (Ok call) t calls state_is entries_are = record {
    answer_is = ap (λ s. Ok (rules.apply s call).1) state_is;
    state_is = ap (λ s. (rules.apply s call).0) state_is;
    entries_are = entries_are ∙ ap (unexpired clock) (sym (append-nil (remembered rules opening performed)));
  }
  field_now opening performed clock (Present key expiration) r t calls state_is entries_are =
      present_now opening performed clock key expiration r t (nat_lt expiration clock) calls state_is entries_are

  grown_now-state : (opening : S) (performed : List (Arrival C)) (a : Arrival C) → state_after rules opening (grown_now performed a) ≡ state_if rules (acts_now rules performed a) (state_after rules opening performed) (rules.asked a.content)
  grown_now-state opening performed a =
      elim (acts_now rules performed a) as (λ b. state_after rules opening (cond b (performed ++ a ∷ []) performed) ≡ state_if rules b (state_after rules opening performed) (rules.asked a.content))
      [ true ↦ state_after-push rules opening performed a | false ↦ refl ]

  grown_now-remembered : (opening : S) (performed : List (Arrival C)) (a : Arrival C) → remembered rules opening (grown_now performed a) ≡ entries_if rules (acts_now rules performed a) (remembered rules opening performed) a.field (state_after rules opening performed) (rules.asked a.content)
  grown_now-remembered opening performed a =
      elim (acts_now rules performed a) as (λ b. remembered rules opening (cond b (performed ++ a ∷ []) performed) ≡ entries_if rules b (remembered rules opening performed) a.field (state_after rules opening performed) (rules.asked a.content))
      [ true ↦ remembered-push rules opening performed a | false ↦ refl ]

  -- the step law
  pub tables-go-on-now : TablesGoOnNow rules
  tables-go-on-now clock opening arrivals a t h stands =
      let performed = performed_now rules arrivals in
      let entries_are = unexpired_later clock a.clock t.entries (remembered rules opening performed) h stands.entries in
      let f = field_now opening performed a.clock a.field (rules.asked a.content) t (performed_now-calls [] arrivals tt) stands.state entries_are in
      let more : performed_now rules (arrivals ++ a ∷ []) ≡ grown_now performed a = performed_now-push [] arrivals a in (
        f.answer_is,
        record {
          state = f.state_is ∙ sym (ap (state_after rules opening) more ∙ grown_now-state opening performed a);
          entries = f.entries_are ∙ sym (ap (λ ps. unexpired a.clock (remembered rules opening ps)) more ∙ ap (unexpired a.clock) (grown_now-remembered opening performed a));
        },
      )

  -- the run law
  pub run_now : (opening : S) (clock : ℕ) (before later : List (Arrival C)) (t : Table S O) → ClocksGrow clock later → IsTableNow rules opening clock before t
      → (table_answers rules t later ≡ answers_now_after rules opening before later) × IsTableNow rules opening (clock_after clock later) (before ++ later) (table_after rules t later)
  run_now opening clock before [] t grow stands = (refl, subst (λ as_before. IsTableNow rules opening clock as_before t) (sym (append-nil before)) stands)
  run_now opening clock before (a ∷ later) t grow stands =
      let split : (before ++ a ∷ []) ++ later ≡ before ++ a ∷ later = append_assoc before (a ∷ []) later in
      let step = tables-go-on-now clock opening before a t grow.0 stands in
      let rest = run_now opening a.clock (before ++ a ∷ []) later (table_step rules t a).0 grow.1 step.1 in
      ((λ i. step.0 i ∷ rest.0 i), subst (λ all. IsTableNow rules opening (clock_after a.clock later) all (table_after rules (table_step rules t a).0 later)) split rest.1)

  pub tables-answer-now : TablesAnswerNow rules
  tables-answer-now opening arrivals grow = run_now opening 0 [] arrivals (record { state = opening; entries = [] }) grow (record { state = refl; entries = refl })

  -- what does not act leaves the performed requests as they were, and what acts comes after them
  pub grows : (arrivals : List (Arrival C)) (a : Arrival C) (f : Field) (r : Result K SystemName) (b : Bool) → a.field ≡ f → rules.asked a.content ≡ r → acts_now_by (performed_now rules arrivals) a.clock f (is_ok r) ≡ b
      → performed_now rules (arrivals ++ a ∷ []) ≡ cond b (performed_now rules arrivals ++ a ∷ []) (performed_now rules arrivals)
  grows arrivals a f r b is asks h =
      let performed = performed_now rules arrivals in
      performed_now-push [] arrivals a
      ∙ ap (λ t. cond t (performed ++ a ∷ []) performed) ((λ i. acts_now_by performed a.clock (is i) (is_ok (asks i))) ∙ h)

  -- the answer by the field, and by what it asks
  pub answer_at : (opening : S) (arrivals : List (Arrival C)) (a : Arrival C) (f : Field) (r : Result K SystemName) → a.field ≡ f → rules.asked a.content ≡ r
      → answer_now rules opening arrivals a ≡ answer_now_by_field rules opening (performed_now rules arrivals) a.clock r f
  answer_at opening arrivals a f r is asks = λ i. answer_now_by_field rules opening (performed_now rules arrivals) a.clock (asks i) (is i)

  -- the outcome that is held for a key is that of the first performed request with it
  held-at : (state : S) (clock : ℕ) (front rest : List (Arrival C)) (p : Arrival C) (key : RequestKey) → is_held front clock key ≡ false → has_live_key clock key p.field ≡ true
      → outcome_held rules state clock key (front ++ p ∷ rest) ≡ Some (outcome_of rules.apply (state_after rules state front) (rules.asked p.content))
  held-at state clock [] rest p key none is = ap (λ b. cond b (Some (outcome_of rules.apply state (rules.asked p.content))) (outcome_held rules (state_after_call rules.apply state (rules.asked p.content)) clock key rest)) is
  held-at state clock (x ∷ front) rest p key none is =
      let parts = or_parts (has_live_key clock key x.field) (is_held front clock key) none in
      let next = state_after_call rules.apply state (rules.asked x.content) in
      ap (λ b. cond b (Some (outcome_of rules.apply state (rules.asked x.content))) (outcome_held rules next clock key (front ++ p ∷ rest))) parts.0 ∙ held-at next clock front rest p key parts.1 is

  -- what holds of the arrivals with a key holds of those before
  one-front : (key : RequestKey) (xs ys : List (Arrival C)) → OneExpirationOf key (xs ++ ys) → OneExpirationOf key xs
  one-front key xs ys one = λ a b early late in_a in_b is_a is_b. one a b early late (Contains-append_left xs ys a in_a) (Contains-append_left xs ys b in_b) is_a is_b

  -- a repeat while the first holds the key, and none before it does
  repeat_at : (opening : S) (arrivals front rest : List (Arrival C)) (p a : Arrival C) (key : RequestKey) (late : ℕ) → performed_now rules arrivals ≡ front ++ p ∷ rest → a.field ≡ Present key late → a.clock ≤ late
      → is_held front a.clock key ≡ false → has_live_key a.clock key p.field ≡ true
      → (answer_now rules opening arrivals a ≡ outcome_of rules.apply (state_after rules opening front) (rules.asked p.content)) × IsIdleNow rules arrivals a
  repeat_at opening arrivals front rest p a key late is is_a in_time none live =
      let performed = performed_now rules arrivals in
      let asks = rules.asked a.content in
      let held : is_held performed a.clock key ≡ true = ap (λ ps. is_held ps a.clock key) is ∙ held-here front rest p key a.clock live in
      let kept : outcome_held rules opening a.clock key performed ≡ Some (outcome_of rules.apply (state_after rules opening front) (rules.asked p.content)) =
      ap (outcome_held rules opening a.clock key) is ∙ held-at opening a.clock front rest p key none live in
      let new = new_answer rules (state_after rules opening performed) (rules.has_room key (live_keys a.clock performed)) asks in (
        answer_at opening arrivals a (Present key late) asks is_a refl
            ∙ ap (λ b. cond b (Err BadContext) (unwrap_or (outcome_held rules opening a.clock key performed) new)) (le-ltb late a.clock in_time)
            ∙ ap (λ k. unwrap_or k new) kept,
        grows arrivals a (Present key late) asks false is_a refl
            (and_right (true && (not (nat_lt late a.clock) && is_ok asks)) _ (ap (λ b. not b && rules.has_room key (live_keys a.clock performed)) held)),
      )

  pub key-is-held : KeyIsHeld rules
  key-is-held opening arrivals front rest p a key early late is is_p is_a after in_first in_time =
      repeat_at opening arrivals front rest p a key late is is_a in_time
      (Spaced-front key early a.clock front rest p is_p after (subst Spaced is (performed_now-spaced [] arrivals tt)))
      (own-live key early a.clock p is_p in_first)

  pub key-is-answered : KeyIsAnswered rules
  key-is-answered opening arrivals front rest p a key early late one is is_p is_a in_time =
      let one_before = one-front key arrivals (a ∷ []) one in
      let same : early ≡ late = one p a early late (Contains-append_left arrivals (a ∷ []) p (performed-arrived arrivals front rest p is)) (Contains-push arrivals a) is_p is_a in
      repeat_at opening arrivals front rest p a key late is is_a in_time
      (lacks-held a.clock key front (OnceOf-front key early front rest p is_p (once-at arrivals front rest p key early one_before is is_p)))
      (own-live key early a.clock p is_p (omega (arith, in_time, same)))

  -- where the key is not held, no outcome is
  pub held-none : (state : S) (clock : ℕ) (key : RequestKey) (ps : List (Arrival C)) → is_held ps clock key ≡ false → outcome_held rules state clock key ps ≡ None
  held-none state clock key [] none = refl
  held-none state clock key (p ∷ ps) none =
      let parts = or_parts (has_live_key clock key p.field) (is_held ps clock key) none in
      let next = state_after_call rules.apply state (rules.asked p.content) in
      ap (λ b. cond b (Some (outcome_of rules.apply state (rules.asked p.content))) (outcome_held rules next clock key ps)) parts.0 ∙ held-none next clock key ps parts.1

  -- a request whose key is not held is answered as a new one, and acts where there is room
  new_at : (opening : S) (arrivals : List (Arrival C)) (a : Arrival C) (key : RequestKey) (expiration : ℕ) (call : K) (room : Bool)
      → a.field ≡ Present key expiration → a.clock ≤ expiration → rules.asked a.content ≡ Ok call → is_held (performed_now rules arrivals) a.clock key ≡ false
      → rules.has_room key (live_keys a.clock (performed_now rules arrivals)) ≡ room
      → (answer_now rules opening arrivals a ≡ new_answer rules (state_after rules opening (performed_now rules arrivals)) room (Ok call))
      × (performed_now rules (arrivals ++ a ∷ []) ≡ cond room (performed_now rules arrivals ++ a ∷ []) (performed_now rules arrivals))
  new_at opening arrivals a key expiration call room is in_time asks free room_is =
      let performed = performed_now rules arrivals in
      let over : nat_lt expiration a.clock ≡ false = le-ltb expiration a.clock in_time in
      let none = held-none opening a.clock key performed free in (
        answer_at opening arrivals a (Present key expiration) (Ok call) is asks
            ∙ (λ i. cond (over i) (Err BadContext) (unwrap_or (none i) (new_answer rules (state_after rules opening performed) (room_is i) (Ok call)))),
        grows arrivals a (Present key expiration) (Ok call) room is asks (λ i. (true && (not (over i) && true)) && (not (free i) && room_is i)),
      )

  pub key-is-first : KeyIsFirst rules
  key-is-first opening arrivals a key expiration call is in_time asks free = (
    λ room. new_at opening arrivals a key expiration call true is in_time asks free room,
    λ room. new_at opening arrivals a key expiration call false is in_time asks free room,
  )
