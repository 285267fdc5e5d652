-- What arrivals make of a table of numbers: which entries it has, where nothing is taken, and where one call is.
use Rattle.std.proofs.Common.{◌≡◌, ℕ, ◌<◌, ◌≤◌, ◌+◌, Bool, true, false, cond, not, nat_le, nat_lt, List, [], ◌∷◌, ◌++◌, length, length-append, filter, Option, Some, None, Result, Ok, Err, refl, sym, ap, subst, ◌∙◌, arith}
use Rattle.std.specs.List.{AllByRecursion}
use Rattle.ft_log.specs.Keys.{RequestKey, same_key}
use Rattle.ft_log.specs.Kept.{KeptOutcome, kept_for, keys_of, unexpired}
use Rattle.ft_log.specs.declared.system_exception.SystemName.{SystemName}
use Rattle.ft_log.specs.declared.system_exception.SystemName.TheVariants.{BadContext, NoResources}
use Rattle.ft_orb.specs.ExactlyOnce.{Absent, Arrival, Bad, Field, Present, state_after_call}
use Rattle.ft_orb.specs.Table.{Table, forgotten, keyed_step, keyless_step, new_step, performing_step, step_by_field, table_after, table_step}
use Rattle.ft_orb.specs.Withdrawing.{number_rules}
use Rattle.ft_lives.proofs.Lists.{same_is}

module _ {X : Type 0} where
  pub all-map : (P Q : X → Type 0) (xs : List X) → ((x : X) → P x → Q x) → AllByRecursion P xs → AllByRecursion Q xs
  all-map P Q [] f h = tt
  all-map P Q (x ∷ xs) f h = (f x h.0, all-map P Q xs f h.1)

  pub all-push : (P : X → Type 0) (xs : List X) (x : X) → AllByRecursion P xs → P x → AllByRecursion P (xs ++ x ∷ [])
  all-push P [] x h is = (is, tt)
  all-push P (y ∷ ys) x h is = (h.0, all-push P ys x h.1 is)

  pub all-filter : (P : X → Type 0) (test : X → Bool) (xs : List X) → AllByRecursion P xs → AllByRecursion (λ x. (test x ≡ true) × P x) (filter test xs)
  all-filter P test [] h = tt
  all-filter P test (x ∷ xs) h =
      let more = all-filter P test xs h.1 in
      elim (test x) as (λ b. test x ≡ b → AllByRecursion (λ x. (test x ≡ true) × P x) (cond b (x ∷ filter test xs) (filter test xs)))
      [ true ↦ λ is. ((is, h.0), more) | false ↦ λ is. more ] refl

module _ (P : KeptOutcome ℕ → Type 0) where
  pub all-unexpired : (clock : ℕ) (es : List (KeptOutcome ℕ)) → AllByRecursion P es → AllByRecursion P (unexpired clock es)
  all-unexpired clock es h = all-map (λ e. (nat_le clock e.expiration ≡ true) × P e) P (unexpired clock es) (λ e x. x.1) (all-filter P (λ e. nat_le clock e.expiration) es h)

  -- an entry of a key with a number
  pub record IsEntry (key : RequestKey) (i : ℕ) : Type 0 where
    pub entry : KeptOutcome ℕ
    pub key_is : entry.key ≡ key
    pub number_is : entry.outcome ≡ i
    pub says : P entry

  entry-found : (key : RequestKey) (i : ℕ) (es : List (KeptOutcome ℕ)) → AllByRecursion P es → kept_for key es ≡ Some i → IsEntry key i
  entry-found key i [] h found = absurd cc
  entry-found key i (e ∷ es) h found =
      elim (same_key key e.key) as (λ b. same_key key e.key ≡ b → cond b (Some e.outcome) (kept_for key es) ≡ Some i → IsEntry key i) [
        | true ↦ λ same found. record { entry = e; key_is = sym (same_is key e.key same); number_is = cc; says = h.0 }
        | false ↦ λ same found. entry-found key i es h.1 found
      ] refl found

  module _ {Content Call : Type 0} (asked : Content → Result Call SystemName) (room : RequestKey → List RequestKey → Bool) where
    -- what one arrival does to a table all of whose entries are so: nothing is taken, or one call, under the next number
    pub data Goes (t u : Table (List Call) ℕ) (a : Arrival Content) : Type 0 where
      keeps : u.state ≡ t.state → AllByRecursion P u.entries → Goes t u a
      takes : (call : Call) → u.state ≡ t.state ++ call ∷ []
          → (((key : RequestKey) (expiration : ℕ) → a.field ≡ Present key expiration → P (record { key = key; expiration = expiration; outcome = length t.state })) → AllByRecursion P u.entries) → Goes t u a

    goes-keyless : (t : Table (List Call) ℕ) (a : Arrival Content) (r : Result Call SystemName) → AllByRecursion P t.entries → Goes t (keyless_step (number_rules asked room) t r).0 a
    goes-keyless t a (Ok call) all = takes call refl (λ new. all)
    goes-keyless t a (Err e) all = keeps refl all

    goes-new : (t : Table (List Call) ℕ) (a : Arrival Content) (key : RequestKey) (expiration : ℕ) (r : Result Call SystemName) → a.field ≡ Present key expiration → AllByRecursion P (unexpired a.clock t.entries)
        → Goes t (new_step (number_rules asked room) (forgotten a.clock t) key expiration r).0 a
    goes-new t a key expiration (Err e) is all = keeps refl all
    goes-new t a key expiration (Ok call) is all =
        let rules = number_rules asked room in
        elim (room key (keys_of (unexpired a.clock t.entries))) as (λ b. Goes t (performing_step rules (forgotten a.clock t) key expiration call b).0 a) [
          | true ↦ takes call refl (λ new. all-push P (unexpired a.clock t.entries) (record { key = key; expiration = expiration; outcome = length t.state }) all (new key expiration is))
          | false ↦ keeps refl all
        ]

    goes-keyed : (t : Table (List Call) ℕ) (a : Arrival Content) (key : RequestKey) (expiration : ℕ) (found : Option ℕ) → a.field ≡ Present key expiration → AllByRecursion P (unexpired a.clock t.entries)
        → Goes t (keyed_step (number_rules asked room) (forgotten a.clock t) key expiration (asked a.content) found).0 a
    goes-keyed t a key expiration (Some i) is all = keeps refl all
    goes-keyed t a key expiration None is all = goes-new t a key expiration (asked a.content) is all

    goes-by : (t : Table (List Call) ℕ) (a : Arrival Content) (f : Field) → a.field ≡ f → AllByRecursion P t.entries → Goes t (step_by_field (number_rules asked room) t a.clock (asked a.content) f).0 a
    goes-by t a Absent is all = goes-keyless t a (asked a.content) all
    goes-by t a Bad is all = keeps refl all
    goes-by t a (Present key expiration) is all =
        let kept = keyed_step (number_rules asked room) (forgotten a.clock t) key expiration (asked a.content) (kept_for key (unexpired a.clock t.entries)) in
        elim (nat_lt expiration a.clock) as (λ b. Goes t (cond b (t, Err BadContext) kept).0 a)
        [ true ↦ keeps refl all | false ↦ goes-keyed t a key expiration (kept_for key (unexpired a.clock t.entries)) is (all-unexpired a.clock t.entries all) ]

    pub goes : (t : Table (List Call) ℕ) (a : Arrival Content) → AllByRecursion P t.entries → Goes t (table_step (number_rules asked room) t a).0 a
    goes t a all = goes-by t a a.field refl all

    -- what is answered with the number of a call that was taken before is an entry
    pub answered-entry : (t : Table (List Call) ℕ) (a : Arrival Content) (key : RequestKey) (expiration i : ℕ) → a.field ≡ Present key expiration → AllByRecursion P t.entries
        → (table_step (number_rules asked room) t a).1 ≡ Ok i → i < length t.state → IsEntry key i
    answered-entry t a key expiration i is all says less =
        let rules = number_rules asked room in
        let U = unexpired a.clock t.entries in
        let here : (step_by_field rules t a.clock (asked a.content) (Present key expiration)).1 ≡ Ok i =
        ap (λ (f : Field). (step_by_field rules t a.clock (asked a.content) f).1) (sym is) ∙ says in
        let found = kept_for key U in
        let kept = keyed_step rules (forgotten a.clock t) key expiration (asked a.content) found in
        elim (nat_lt expiration a.clock) as (λ b. (cond b (t, Err BadContext) kept).1 ≡ Ok i → IsEntry key i) [
          | true ↦ λ says. absurd cc
          | false ↦ λ says. by found refl says
        ] here
      where
        U : List (KeptOutcome ℕ)
        U = unexpired a.clock t.entries

        at-room : (call : Call) (b : Bool) → (performing_step (number_rules asked room) (forgotten a.clock t) key expiration call b).1 ≡ Ok i → IsEntry key i
        at-room call true says = let n : length t.state ≡ i = cc in absurd (omega (arith, n, less))
        at-room call false says = absurd cc

        by-new : (r : Result Call SystemName) → (new_step (number_rules asked room) (forgotten a.clock t) key expiration r).1 ≡ Ok i → IsEntry key i
        by-new (Err e) says = absurd cc
        by-new (Ok call) says = at-room call (room key (keys_of (unexpired a.clock t.entries))) says

        by : (o : Option ℕ) → kept_for key (unexpired a.clock t.entries) ≡ o → (keyed_step (number_rules asked room) (forgotten a.clock t) key expiration (asked a.content) o).1 ≡ Ok i → IsEntry key i
        by (Some j) found says = let n : j ≡ i = cc in entry-found key i (unexpired a.clock t.entries) (all-unexpired a.clock t.entries all) (found ∙ ap (λ (k : ℕ). Some k) n)
        by None found says = by-new (asked a.content) says

module _ {Content Call : Type 0} (asked : Content → Result Call SystemName) (room : RequestKey → List RequestKey → Bool) where
  abbrev Any : KeptOutcome ℕ → Type 0
  Any e = Unit {0}

  any : (es : List (KeptOutcome ℕ)) → AllByRecursion Any es
  any [] = tt
  any (e ∷ es) = (tt, any es)

  -- calls that were taken stay
  pub grown : (t : Table (List Call) ℕ) (xs : List (Arrival Content)) → length t.state ≤ length (table_after (number_rules asked room) t xs).state
  grown t [] = omega arith
  grown t (a ∷ xs) =
      let u = (table_step (number_rules asked room) t a).0 in
      let more = grown u xs in
      elim (goes Any asked room t a (any t.entries)) [
        | keeps same all ↦ let n = ap (λ (l : List Call). length l) same in omega (arith, n, more)
        | takes call same all ↦ let n = ap (λ (l : List Call). length l) same ∙ length-append t.state (call ∷ []) in omega (arith, n, more)
      ]

  module _ (P : KeptOutcome ℕ → Type 0) where
    -- where no call is taken no entry is new ..
    pub none-taken : (t : Table (List Call) ℕ) (xs : List (Arrival Content)) → AllByRecursion P t.entries → length (table_after (number_rules asked room) t xs).state ≤ length t.state
        → AllByRecursion P (table_after (number_rules asked room) t xs).entries
    none-taken t [] all few = all
    none-taken t (a ∷ xs) all few =
        let u = (table_step (number_rules asked room) t a).0 in
        let more = grown u xs in
        elim (goes P asked room t a all) [
          | keeps same all ↦ let n = ap (λ (l : List Call). length l) same in none-taken u xs all (omega (arith, n, few))
          | takes call same all ↦ let n = ap (λ (l : List Call). length l) same ∙ length-append t.state (call ∷ []) in absurd (omega (arith, n, more, few))
        ]

    -- .. where the numbers of those that are taken are so, all are ..
    pub all-after : (base : ℕ) (t : Table (List Call) ℕ) (xs : List (Arrival Content)) → base ≤ length t.state
        → ((key : RequestKey) (expiration n : ℕ) → base ≤ n → P (record { key = key; expiration = expiration; outcome = n })) → AllByRecursion P t.entries
        → AllByRecursion P (table_after (number_rules asked room) t xs).entries
    all-after base t [] low new all = all
    all-after base t (a ∷ xs) low new all =
        let u = (table_step (number_rules asked room) t a).0 in
        elim (goes P asked room t a all) [
          | keeps same all ↦ let n = ap (λ (l : List Call). length l) same in all-after base u xs (omega (arith, n, low)) new all
          | takes call same all ↦
              let n = ap (λ (l : List Call). length l) same ∙ length-append t.state (call ∷ []) in
              all-after base u xs (omega (arith, n, low)) new (all (λ key expiration is. new key expiration (length t.state) low))
        ]

    -- .. and where the last of these alone takes one, and a front of them was served in which one is taken, that is the last
    pub one-taken : (n : ℕ) (t : Table (List Call) ℕ) (front : List (Arrival Content)) (last : Arrival Content) (xs more : List (Arrival Content)) → length t.state ≡ n → front ++ last ∷ [] ≡ xs ++ more
        → AllByRecursion P t.entries → length (table_after (number_rules asked room) t front).state ≤ n → n < length (table_after (number_rules asked room) t xs).state
        → ((key : RequestKey) (expiration : ℕ) → last.field ≡ Present key expiration → P (record { key = key; expiration = expiration; outcome = n }))
        → AllByRecursion P (table_after (number_rules asked room) t xs).entries
    one-taken n t front last [] more num split all idle grew new = absurd (omega (arith, num, grew))
    one-taken n t [] last (y ∷ ys) more num split all idle grew new =
        let is : last ≡ y = cc in
        let none : [] ≡ ys ++ more = cc in
        by ys is none grew
      where
        by : (ys : List (Arrival Content)) → last ≡ y → [] ≡ ys ++ more → n < length (table_after (number_rules asked room) t (y ∷ ys)).state → AllByRecursion P (table_after (number_rules asked room) t (y ∷ ys)).entries
        by [] is none grew =
            elim (goes P asked room t y all) [
              | keeps same all ↦ all
              | takes call same all ↦ all (λ key expiration there. subst (λ (k : ℕ). P (record { key = key; expiration = expiration; outcome = k })) (sym num) (new key expiration (ap (λ (a : Arrival Content). a.field) is ∙ there)))
            ]
        by (z ∷ zs) is none grew = absurd cc
    one-taken n t (f ∷ fs) last (y ∷ ys) more num split all idle grew new =
        let u = (table_step (number_rules asked room) t f).0 in
        let is : f ≡ y = cc in
        let rest : fs ++ last ∷ [] ≡ ys ++ more = cc in
        let later = grown u fs in
        subst (λ (a : Arrival Content). AllByRecursion P (table_after (number_rules asked room) t (a ∷ ys)).entries) is
        (elim (goes P asked room t f all) [
          | keeps same all ↦
              one-taken n u fs last ys more (ap (λ (l : List Call). length l) same ∙ num) rest all idle
              (subst (λ (a : Arrival Content). n < length (table_after (number_rules asked room) t (a ∷ ys)).state) (sym is) grew) new
          | takes call same all ↦ let k = ap (λ (l : List Call). length l) same ∙ length-append t.state (call ∷ []) in absurd (omega (arith, k, num, later, idle))
        ])
