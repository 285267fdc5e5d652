-- The log with the numbers of calls for outcomes: each is below how many calls were taken, and under the key of its call.
use Rattle.std.proofs.Common.{◌≡◌, ◌==◌, ℕ, ◌+◌, ◌≤◌, ◌<◌, nat_le, nat_lt, Bool, true, false, not, cond, filter, List, [], ◌∷◌, ◌++◌, length, map, Option, Some, None, Result, Ok, Err, refl, sym, ap, subst, ◌∙◌, arith, length-append}
use Rattle.std.specs.List.{AllByRecursion}
use Rattle.ft_log.specs.Holding.{Holding}
use Rattle.ft_log.specs.Keys.{RequestKey}
use Rattle.ft_log.specs.Kept.{KeptOutcome, kept_for, keys_of, unexpired}
use Rattle.ft_log.specs.declared.system_exception.SystemName.{SystemName}
use Rattle.ft_log.specs.declared.system_exception.SystemName.TheVariants.{BadContext}
use Rattle.ft_objects.specs.Interfaces.{Interface}
use Rattle.ft_orb.specs.ExactlyOnce.{Absent, Arrival, Bad, Field, Present, Rules}
use Rattle.ft_orb.specs.History.{Close, Event, Lost, Opened, Piece, Withdrew, Changed}
use Rattle.ft_orb.specs.Owners.{let_go, owner_rules}
use Rattle.ft_orb.specs.Parking.{AreKeyed}
use Rattle.ft_orb.specs.Requests.{Call, Wanted}
use Rattle.ft_orb.specs.Seen.{seen_entry}
use Rattle.ft_orb.specs.Table.{Table, forgotten, keyed_step, performing_step, step_by_field, table_after, table_step}

-- each of some entries is as Q says
pub all-filter : (P : KeptOutcome ℕ → Type 0) (clock : ℕ) (es : List (KeptOutcome ℕ)) → AllByRecursion P es → AllByRecursion P (unexpired clock es)
all-filter P clock [] h = tt
all-filter P clock (e ∷ es) h =
    (elim (nat_le clock e.expiration) as (λ (b : Bool). AllByRecursion P (cond b (e ∷ unexpired clock es) (unexpired clock es))) [
      | true ↦ (h.0, all-filter P clock es h.1)
      | false ↦ all-filter P clock es h.1
    ])

all-more : (P R : KeptOutcome ℕ → Type 0) (es : List (KeptOutcome ℕ)) → ((e : KeptOutcome ℕ) → P e → R e) → AllByRecursion P es → AllByRecursion R es
all-more P R [] w h = tt
all-more P R (e ∷ es) w h = (w e h.0, all-more P R es w h.1)

all-push : (P : KeptOutcome ℕ → Type 0) (es : List (KeptOutcome ℕ)) (e : KeptOutcome ℕ) → AllByRecursion P es → P e → AllByRecursion P (es ++ e ∷ [])
all-push P [] e h is = (is, tt)
all-push P (x ∷ es) e h is = (h.0, all-push P es e h.1 is)

module _ (ask : Wanted → Result Call SystemName) (capacity share : ℕ) (Q : ℕ → KeptOutcome ℕ → Type 0) (m0 : ℕ) (mono : (m n : ℕ) (e : KeptOutcome ℕ) → m ≤ n → Q m e → Q n e)
    (new : (m : ℕ) (key : RequestKey) (x : ℕ) → m0 ≤ m → Q (m + 1) (record { key = key; expiration = x; outcome = m })) where
  abbrev Numbers : Rules (List Call) Wanted Call ℕ
  Numbers = owner_rules ask (λ calls call. length calls) capacity share

  -- at least so many calls were handed over, and each entry is as Q says of how many were
  abbrev pub Fits : Table (List Call) ℕ → Type 0
  Fits t = (m0 ≤ length t.state) × AllByRecursion (Q (length t.state)) t.entries

  grows : (calls : List Call) (call : Call) (es : List (KeptOutcome ℕ)) → m0 ≤ length calls → AllByRecursion (Q (length calls)) es → (m0 ≤ length (calls ++ call ∷ [])) × AllByRecursion (Q (length (calls ++ call ∷ []))) es
  grows calls call es h all =
      let size : length (calls ++ call ∷ []) ≡ length calls + 1 = length-append calls (call ∷ []) in
      (omega (arith, size, h), all-more (Q (length calls)) (Q (length (calls ++ call ∷ []))) es (λ e q. mono (length calls) (length (calls ++ call ∷ [])) e (omega (arith, size)) q) all)

  performing-fits : (t : Table (List Call) ℕ) (key : RequestKey) (x : ℕ) (call : Call) (room : Bool) → Fits t → Fits (performing_step Numbers t key x call room).0
  performing-fits t key x call false h = h
  performing-fits t key x call true h =
      let g = grows t.state call t.entries h.0 h.1 in
      let size : length t.state + 1 ≡ length (t.state ++ call ∷ []) = sym (length-append t.state (call ∷ [])) in
      let own : KeptOutcome ℕ = record { key = key; expiration = x; outcome = length t.state } in
      (g.0, all-push (Q (length (t.state ++ call ∷ []))) t.entries own g.1 (subst (λ (k : ℕ). Q k own) size (new (length t.state) key x h.0)))

  keyed-fits : (t : Table (List Call) ℕ) (key : RequestKey) (x : ℕ) (asked : Result Call SystemName) (kept : Option ℕ) → Fits t → Fits (keyed_step Numbers t key x asked kept).0
  keyed-fits t key x asked (Some outcome) h = h
  keyed-fits t key x (Err refusal) None h = h
  keyed-fits t key x (Ok call) None h = performing-fits t key x call (Numbers.has_room key (keys_of t.entries)) h

  field-fits : (t : Table (List Call) ℕ) (clock : ℕ) (asked : Result Call SystemName) (f : Field) → Fits t → Fits (step_by_field Numbers t clock asked f).0
  field-fits t clock asked Bad h = h
  field-fits t clock (Err refusal) Absent h = h
  field-fits t clock (Ok call) Absent h = grows t.state call t.entries h.0 h.1
  field-fits t clock asked (Present key x) h =
      let live : Fits (forgotten clock t) = (h.0, all-filter (Q (length t.state)) clock t.entries h.1) in
      (elim (nat_lt x clock) as (λ (b : Bool). Fits (cond b (t, Err BadContext) (keyed_step Numbers (forgotten clock t) key x asked (kept_for key (unexpired clock t.entries)))).0) [
        | true ↦ h
        | false ↦ keyed-fits (forgotten clock t) key x asked (kept_for key (unexpired clock t.entries)) live
      ])

  pub after-fits : (t : Table (List Call) ℕ) (xs : List (Arrival Wanted)) → Fits t → Fits (table_after Numbers t xs)
  after-fits t [] h = h
  after-fits t (a ∷ xs) h = after-fits (table_step Numbers t a).0 xs (field-fits t a.clock (Numbers.asked a.content) a.field h)

-- Numbers are of calls that were handed over, ..
abbrev pub AreBelow : ℕ → List (KeptOutcome ℕ) → Type 0
AreBelow m es = AllByRecursion (λ e. e.outcome < m) es

pub after-below : (ask : Wanted → Result Call SystemName) (capacity share : ℕ) (t : Table (List Call) ℕ) (xs : List (Arrival Wanted)) → AreBelow (length t.state) t.entries
    → AreBelow (length (table_after (owner_rules ask (λ calls call. length calls) capacity share) t xs).state) (table_after (owner_rules ask (λ calls call. length calls) capacity share) t xs).entries
after-below ask capacity share t xs h = (after-fits ask capacity share (λ m e. e.outcome < m) 0 (λ m n e w q. omega (arith, w, q)) (λ m key x w. omega arith) t xs (omega arith, h)).1

-- .. and that of a call handed over before is under the key that it was
pub after-keyed : (ask : Wanted → Result Call SystemName) (capacity share : ℕ) (n : ℕ) (key : Option RequestKey) (t : Table (List Call) ℕ) (xs : List (Arrival Wanted)) → n < length t.state → AreKeyed n key t.entries
    → (n < length (table_after (owner_rules ask (λ calls call. length calls) capacity share) t xs).state) × AreKeyed n key (table_after (owner_rules ask (λ calls call. length calls) capacity share) t xs).entries
after-keyed ask capacity share n key t xs some h =
    let f = after-fits ask capacity share (λ m e. e.outcome ≡ n → key ≡ Some e.key) (n + 1) (λ m k e w q. q) (λ m own x w is. absurd (omega (arith, w, is))) t xs (omega (arith, some), h) in
    (let low = f.0 in omega (arith, low), f.1)

-- what is known of numbers below, by two that agree there
pub seen-agree : (f g : ℕ → Holding) (m : ℕ) (es : List (KeptOutcome ℕ)) → ((n : ℕ) → n < m → f n ≡ g n) → AreBelow m es → map (seen_entry f) es ≡ map (seen_entry g) es
seen-agree f g m [] same h = refl
seen-agree f g m (e ∷ es) same h =
    ap (λ (p : Holding). record { key = e.key; expiration = e.expiration; outcome = p } ∷ map (seen_entry f) es) (same e.outcome h.0)
    ∙ ap (λ (xs : List (KeptOutcome Holding)). record { key = e.key; expiration = e.expiration; outcome = g e.outcome } ∷ xs) (seen-agree f g m es same h.1)

-- What a step adds has the key of its field.
module _ (ask : Wanted → Result Call SystemName) (capacity share : ℕ) (n : ℕ) (own : Option RequestKey) where
  performing-keyed : (t : Table (List Call) ℕ) (key : RequestKey) (x : ℕ) (call : Call) (room : Bool) → own ≡ Some key → AreKeyed n own t.entries → AreKeyed n own (performing_step (owner_rules ask (λ calls call. length calls) capacity share) t key x call room).0.entries
  performing-keyed t key x call false is h = h
  performing-keyed t key x call true is h = all-push (λ e. e.outcome ≡ n → own ≡ Some e.key) t.entries (record { key = key; expiration = x; outcome = length t.state }) h (λ same. is)

  keyed-keyed : (t : Table (List Call) ℕ) (key : RequestKey) (x : ℕ) (asked : Result Call SystemName) (kept : Option ℕ) → own ≡ Some key → AreKeyed n own t.entries → AreKeyed n own (keyed_step (owner_rules ask (λ calls call. length calls) capacity share) t key x asked kept).0.entries
  keyed-keyed t key x asked (Some outcome) is h = h
  keyed-keyed t key x (Err refusal) None is h = h
  keyed-keyed t key x (Ok call) None is h = performing-keyed t key x call ((owner_rules ask (λ calls call. length calls) capacity share).has_room key (keys_of t.entries)) is h

  field-keyed : (t : Table (List Call) ℕ) (clock : ℕ) (asked : Result Call SystemName) (f : Field) → ((key : RequestKey) (x : ℕ) → f ≡ Present key x → own ≡ Some key) → AreKeyed n own t.entries
      → AreKeyed n own (step_by_field (owner_rules ask (λ calls call. length calls) capacity share) t clock asked f).0.entries
  field-keyed t clock asked Bad is h = h
  field-keyed t clock (Err refusal) Absent is h = h
  field-keyed t clock (Ok call) Absent is h = h
  field-keyed t clock asked (Present key x) is h =
      let live = all-filter (λ e. e.outcome ≡ n → own ≡ Some e.key) clock t.entries h in
      (elim (nat_lt x clock) as (λ (b : Bool). AreKeyed n own (cond b (t, Err BadContext) (keyed_step (owner_rules ask (λ calls call. length calls) capacity share) (forgotten clock t) key x asked (kept_for key (unexpired clock t.entries)))).0.entries) [
        | true ↦ h
        | false ↦ keyed-keyed (forgotten clock t) key x asked (kept_for key (unexpired clock t.entries)) (is key x refl) live
      ])

  pub step-keyed : (t : Table (List Call) ℕ) (a : Arrival Wanted) → ((key : RequestKey) (x : ℕ) → a.field ≡ Present key x → own ≡ Some key) → AreKeyed n own t.entries → AreKeyed n own (table_step (owner_rules ask (λ calls call. length calls) capacity share) t a).0.entries
  step-keyed t a is h = field-keyed t a.clock ((owner_rules ask (λ calls call. length calls) capacity share).asked a.content) a.field is h

-- nothing is kept yet for a later call
pub later-keyed : (n : ℕ) (own : Option RequestKey) (m : ℕ) (es : List (KeptOutcome ℕ)) → m ≤ n → AreBelow m es → AreKeyed n own es
later-keyed n own m es less h = all-more (λ e. e.outcome < m) (λ e. e.outcome ≡ n → own ≡ Some e.key) es (λ e low is. absurd (omega (arith, low, is, less))) h

-- What is withdrawn leaves the rest as it is.

abbrev Is : ℕ → ℕ → Bool
Is = λ n i. n == i

pub all-but : (P : KeptOutcome ℕ → Type 0) (test : KeptOutcome ℕ → Bool) (es : List (KeptOutcome ℕ)) → AllByRecursion P es → AllByRecursion P (filter test es)
all-but P test [] h = tt
all-but P test (e ∷ es) h =
    (elim (test e) as (λ (b : Bool). AllByRecursion P (cond b (e ∷ filter test es) (filter test es))) [
      | true ↦ (h.0, all-but P test es h.1)
      | false ↦ all-but P test es h.1
    ])

pub below-less : (e : Event) (t : Table (List Call) ℕ) → AreBelow (length t.state) t.entries → AreBelow (length (let_go Is e t).state) (let_go Is e t).entries
below-less (Opened c) t h = h
below-less (Piece c moment octets) t h = h
below-less (Close c) t h = h
below-less (Lost c) t h = h
below-less Changed t h = h
below-less (Withdrew i) t h = all-but (λ e. e.outcome < length t.state) (λ e. not (e.outcome == i)) t.entries h

pub keyed-less : (n : ℕ) (key : Option RequestKey) (e : Event) (t : Table (List Call) ℕ) → (n < length t.state) × AreKeyed n key t.entries → (n < length (let_go Is e t).state) × AreKeyed n key (let_go Is e t).entries
keyed-less n key (Opened c) t h = h
keyed-less n key (Piece c moment octets) t h = h
keyed-less n key (Close c) t h = h
keyed-less n key (Lost c) t h = h
keyed-less n key Changed t h = h
keyed-less n key (Withdrew i) t h = (h.0, all-but (λ e. e.outcome ≡ n → key ≡ Some e.key) (λ e. not (e.outcome == i)) t.entries h.1)
