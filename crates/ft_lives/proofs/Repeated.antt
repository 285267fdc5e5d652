-- Lives whose owners keep to the rules: what is replied is what the store held.
use Rattle.std.proofs.Common.{◌≡◌, ◌==◌, ℕ, ◌<◌, ◌≤◌, ◌+◌, Bool, true, false, cond, nat_le, nat_lt, ◌||◌, ◌⊎◌, inl, inr, List, [], ◌∷◌, ◌++◌, length, length-append, Contains, Option, Some, None, Result, Ok, Err, refl, sym, ap, subst, ◌∙◌, arith, append_assoc}
use Rattle.std.specs.List.{AllByRecursion, list_any}
use Rattle.std.specs.Option.{option_map}
use Rattle.std.proofs.lemmas.Bool.{eq-eqb, eqb-false, eqb-true, le-leb, leb-true, ltb-false, ltb-true, or_parts}
use Rattle.std.proofs.lemmas.List.{append-nil}
use Rattle.std.proofs.lemmas.List.Elements.{Contains-append_left, Contains-append_right, Contains-push}
use Rattle.giop_link.specs.Hearing.{meaning_in}
use Rattle.giop_link.specs.Laws.{HearingGrows}
use Rattle.ft_log.specs.Holding.{Holding, known, parked}
use Rattle.ft_log.specs.Keys.{RequestKey, same_key}
use Rattle.ft_log.specs.Kept.{KeptOutcome, kept_for, unexpired}
use Rattle.ft_log.specs.Performed.{Performed}
use Rattle.ft_log.specs.declared.system_exception.Completion.{Completion}
use Rattle.ft_log.specs.declared.system_exception.Completion.TheVariants.{Maybe, No}
use Rattle.ft_log.specs.declared.system_exception.SystemName.{SystemName}
use Rattle.ft_log.specs.declared.system_exception.SystemName.TheVariants.{BadContext}
use Rattle.ft_orb.specs.declared.events.Note.{Note}
use Rattle.ft_orb.specs.declared.parked.Waiter.{Waiter}
use Rattle.ft_orb.specs.Declined.{asks_by, room_by}
use Rattle.ft_orb.specs.Deeds.{Answered, AnsweredUnkept, Asking, Deed, GivenUp, Happened, IsDeed, Joined, Ledger, Parked, Part, Runs, Settled, SettledUnkept, Stopped, Told, after_deed, after_deeds, opening, settles}
use Rattle.ft_orb.specs.Engines.{Awaited}
use Rattle.ft_orb.specs.ExactlyOnce.{Arrival, Field, Present}
use Rattle.ft_orb.specs.History.{Event}
use Rattle.ft_orb.specs.Owners.{owned_rules, owned_table}
use Rattle.ft_orb.specs.Parking.{Settings, by_number, not_now, put_at}
use Rattle.ft_orb.specs.Requests.{Call, Wanted}
use Rattle.ft_orb.specs.Table.{Table, forgotten, keyed_step, step_by_field, table_after, table_step}
use Rattle.ft_orb.specs.Withdrawing.{number_rules}
use Rattle.ft_lives.specs.Lives.{AreLives, Did, IsKept, Life, Step, Stored, deeds_of, ledger_of, stored, stored_after}
use Rattle.ft_lives.specs.Owned.{IsException, IsOwned, MayDecline, MayTell, NeverCommits, WasHeld, WasOver}
use Rattle.ft_lives.specs.Replies.{DeclinedAreFree, IsFree, IsOverOrFree, IsToldRightly, RefusedAreFree, RefusesNoneHeld, RepeatsAreHeld, Says, ToldAreHeld, UnkeptAreRight, WaitersAreToldRightly, unkept_in}
use Rattle.ft_lives.specs.Stores.{Ask, Change, Committed, Other, Purged, Row, Store, changed, empty_store, held_for}
use Rattle.ft_lives.proofs.Kept.{deeds-append, stored-append}
use Rattle.ft_lives.proofs.Lists.{same_is, same_key-self}
use Rattle.ft_lives.proofs.Sound.{HasKey, IsSound, put-else, table}
use Rattle.ft_lives.proofs.Standing.{AreRuled, IsRuled, Stands, opening-stands, same-parked, some-is, stands-after}
use Rattle.ft_lives.proofs.Tables.{IsEntry, all-after, all-map, answered-entry, grown}

-- Deeds of a life, one after another.

pub after-append : (s : Settings) (g : Ledger) (xs ys : List Deed) → after_deeds s g (xs ++ ys) ≡ after_deeds s (after_deeds s g xs) ys
after-append s g [] ys = refl
after-append s g (d ∷ xs) ys = after-append s (after_deed s g d) xs ys

pub runs-front : (s : Settings) (g : Ledger) (xs ys : List Deed) → Runs s g (xs ++ ys) → Runs s g xs
runs-front s g [] ys runs = tt
runs-front s g (d ∷ xs) ys runs = (runs.0, runs-front s (after_deed s g d) xs ys runs.1)

pub runs-back : (s : Settings) (g : Ledger) (xs ys : List Deed) → Runs s g (xs ++ ys) → Runs s (after_deeds s g xs) ys
runs-back s g [] ys runs = runs
runs-back s g (d ∷ xs) ys runs = runs-back s (after_deed s g d) xs ys runs.1

pub held-later : (xs ys : List Step) (key : RequestKey) (outcome : Performed) → WasHeld xs key outcome → WasHeld (xs ++ ys) key outcome
held-later xs ys key outcome h = record { before = h.before; after = h.after ++ ys; point = ap (λ (l : List Step). l ++ ys) h.point ∙ append_assoc h.before h.after ys; held = h.held }

module _ (lives : ℕ → Life) where
  module _ (n : ℕ) where
    S : Settings
    S = (lives n).settings

    -- the deeds of a life when it does one more
    own-deed : (d : Deed) (later : List Step) → deeds_of n (Did n d ∷ later) ≡ d ∷ deeds_of n later
    own-deed d later = ap (λ (b : Bool). cond b (d ∷ deeds_of n later) (deeds_of n later)) (eq-eqb n n refl)

  ledger-more : (n : ℕ) (xs ys : List Step) → ledger_of lives n (xs ++ ys) ≡ after_deeds (lives n).settings (ledger_of lives n xs) (deeds_of n ys)
  ledger-more n xs ys =
      ap (after_deeds (lives n).settings (opening (lives n).held)) (deeds-append n xs ys)
      ∙ after-append (lives n).settings (opening (lives n).held) (deeds_of n xs) (deeds_of n ys)

  runs-before : (n : ℕ) (steps front rest : List Step) → AreLives lives steps → steps ≡ front ++ rest → Runs (lives n).settings (opening (lives n).held) (deeds_of n front ++ deeds_of n rest)
  runs-before n steps front rest runs is =
      subst (λ (l : List Deed). Runs (lives n).settings (opening (lives n).held) l) (ap (deeds_of n) is ∙ deeds-append n front rest) (runs n)

  -- Up to a point each deed of a life gives what the store held by then.
  module _ (grow : HearingGrows meaning_in) (n : ℕ) (steps front rest : List Step) (owned : IsOwned lives steps) (is : steps ≡ front ++ rest) where
    May : RequestKey → Performed → Type 0
    May = WasHeld front

    until : (early late : List Step) (x : Step) → front ≡ early ++ x ∷ late → steps ≡ early ++ x ∷ (late ++ rest)
    until early late x at = is ∙ ap (λ (l : List Step). l ++ rest) at ∙ append_assoc early (x ∷ late) rest

    ruled-one : (early late : List Step) (d : Deed) → front ≡ early ++ Did n d ∷ late → IsRuled (lives n).settings grow (WasHeld front) (ledger_of lives n early) d
    ruled-one early late (Happened e written note) at = tt
    ruled-one early late (Stopped p written w q) at = tt
    ruled-one early late (Joined p written m joined) at = tt
    ruled-one early late (Answered a outcome written note) at = λ key expiration has.
        let x = Did n (Answered a outcome written note) in
        subst (λ (l : List Step). WasHeld l key outcome) (sym at) (held-later early (x ∷ late) key outcome (owned.answered early (late ++ rest) n a outcome written note key expiration (until early late x at) has))
    ruled-one early late (Parked a own) at = tt
    ruled-one early late (GivenUp a handled) at = tt
    ruled-one early late (Settled i m outcome told) at = λ w key expiration there has.
        let x = Did n (Settled i m outcome told) in
        subst (λ (l : List Step). WasHeld l key outcome) (sym at) (held-later early (x ∷ late) key outcome (owned.settled early (late ++ rest) n i m outcome told w key expiration (until early late x at) there has))
    ruled-one early late (AnsweredUnkept a outcome written) at = tt
    ruled-one early late (SettledUnkept i m outcome told) at = tt

    ruled-from : (early late : List Step) (g : Ledger) → front ≡ early ++ late → ledger_of lives n early ≡ g → AreRuled (lives n).settings grow (WasHeld front) g (deeds_of n late)
    ruled-from early [] g at same = tt
    ruled-from early (Stored c ∷ late) g at same =
        let next : front ≡ (early ++ Stored c ∷ []) ++ late = at ∙ sym (append_assoc early (Stored c ∷ []) late) in
        ruled-from (early ++ Stored c ∷ []) late g next (ledger-more n early (Stored c ∷ []) ∙ same)
    ruled-from early (Did m d ∷ late) g at same =
        let s = (lives n).settings in
        let next : front ≡ (early ++ Did m d ∷ []) ++ late = at ∙ sym (append_assoc early (Did m d ∷ []) late) in
        let now : (b : Bool) → (m == n) ≡ b → ledger_of lives n (early ++ Did m d ∷ []) ≡ after_deeds s g (cond b (d ∷ []) []) =
        λ b is. ledger-more n early (Did m d ∷ []) ∙ ap (λ (c : Bool). after_deeds s (ledger_of lives n early) (cond c (d ∷ []) [])) is
        ∙ ap (λ (h : Ledger). after_deeds s h (cond b (d ∷ []) [])) same in
        elim (m == n) as (λ b. (m == n) ≡ b → AreRuled s grow (WasHeld front) g (cond b (d ∷ deeds_of n late) (deeds_of n late))) [
          | true ↦ λ own.
              let one : IsRuled s grow (WasHeld front) (ledger_of lives n early) d = ruled-one early late d (at ∙ ap (λ (k : ℕ). early ++ Did k d ∷ late) (eqb-true m n own)) in
              (subst (λ (h : Ledger). IsRuled s grow (WasHeld front) h d) same one, ruled-from (early ++ Did m d ∷ []) late (after_deed s g d) next (now true own))
          | false ↦ λ other. ruled-from (early ++ Did m d ∷ []) late g next (now false other)
        ] refl

    pub front-stands : AreLives lives steps → Stands (lives n).settings grow (WasHeld front) (ledger_of lives n front)
    front-stands runs =
        let s = (lives n).settings in
        let start = opening (lives n).held in
        stands-after s grow (WasHeld front) start (deeds_of n front) (opening-stands s grow (WasHeld front) (lives n).held) (ruled-from [] front start refl refl)
        (runs-front s start (deeds_of n front) (deeds_of n rest) (runs-before n steps front rest runs is))

  -- What the log of such a life has for a request with a key.
  said-entry : (s : Settings) (grow : HearingGrows meaning_in) (May : RequestKey → Performed → Type 0) (g : Ledger) (d : Deed) (a : Arrival Wanted) (i : ℕ) (key : RequestKey) (expiration : ℕ) → Stands s grow May g
      → Says s g d a (Ok i) → a.field ≡ Present key expiration → i < length g.calls → (e : KeptOutcome ℕ) × (e.key ≡ key) × (e.outcome ≡ i) × IsSound May (length g.calls) g.held g.there e
  said-entry s grow May g d a i key expiration st said is less =
      let asked = asks_by s in
      let room = room_by s in
      let count = length g.calls in
      let Q = IsSound May count g.held g.there in
      let P : KeptOutcome ℕ → Type 0 = λ e. e.outcome < count → Q e in
      let t0 = table s grow g.past in
      let t = table_after (number_rules asked room) t0 said.front in
      let taken = ap (λ (l : List Call). length l) st.taken in
      let low : count ≤ length t0.state = omega (arith, taken) in
      let all = all-after asked room P count t0 said.front low (λ k x m high below. absurd (omega (arith, high, below))) (all-map Q P t0.entries (λ e h below. h) st.entries) in
      let more = grown asked room t0 said.front in
      let e = answered-entry P asked room t a key expiration i is all said.says (omega (arith, more, low, less)) in
      (e.entry, e.key_is, e.number_is, e.says (subst (λ (k : ℕ). k < count) (sym e.number_is) less))

  pub repeats-are-held : HearingGrows meaning_in → RepeatsAreHeld lives
  repeats-are-held grow steps front rest n d a i key expiration outcome runs owned is said has less now =
      let g = ledger_of lives n front in
      let st = front-stands grow n steps front (Did n d ∷ rest) owned is runs in
      let e = said-entry (lives n).settings grow (WasHeld front) g d a i key expiration st said has less in
      subst (λ (k : RequestKey). WasHeld front k outcome) e.1 (e.3.gives outcome (ap g.held e.2 ∙ now))

-- A call that is parked under a number stays so till something is settled under it, and so does what is there.
module _ (s : Settings) (number : ℕ) (key : RequestKey) (i : ℕ) where
  pub record Watched (g : Ledger) : Type 0 where
    pub less : i < length g.calls
    pub parked_is : g.held i ≡ parked number
    pub has : HasKey (g.there number) key

  grown-watched : (g : Ledger) (call : Call) (x : Holding) → Watched g → (i < length (g.calls ++ call ∷ [])) × (put_at (length g.calls) x g.held i ≡ parked number)
  grown-watched g call x h =
      let below = h.less in
      let n = length-append g.calls (call ∷ []) in
      (omega (arith, n, below), put-else (length g.calls) x g.held i (λ at. absurd (omega (arith, at, below))) ∙ h.parked_is)

  -- what was parked under another number becomes known
  changed-watched : (g : Ledger) (j m : ℕ) (x : Holding) → Watched g → g.held j ≡ parked m → (number == m) ≡ false → (put_at j x g.held i ≡ parked number) × HasKey (put_at m None g.there number) key
  changed-watched g j m x h was other =
      let apart : number ≡ m → ⊥ = eqb-false number m other in (
        put-else j x g.held i (λ at. apart (same-parked number m (sym h.parked_is ∙ ap g.held at ∙ was))) ∙ h.parked_is,
        subst (λ (o : Option Awaited). HasKey o key) (sym (put-else m None g.there number apart)) h.has,
      )

  watched-deed : (g : Ledger) (d : Deed) → IsDeed s g d → settles number d ≡ false → Watched g → Watched (after_deed s g d)
  watched-deed g (Happened e written note) x other h = record { less = h.less; parked_is = h.parked_is; has = h.has }
  watched-deed g (Stopped p written w q) x other h = record { less = h.less; parked_is = h.parked_is; has = h.has }
  watched-deed g (Joined p written n joined) x other h = record { less = h.less; parked_is = h.parked_is; has = h.has }
  watched-deed g (Answered a outcome written note) x other h = let k = grown-watched g a.request.call (known outcome) h in record { less = k.0; parked_is = k.1; has = h.has }
  watched-deed g (Parked a own) x other h =
      let k = grown-watched g a.request.call (parked a.request.number) h in
      let apart : number ≡ a.request.number → ⊥ = λ at. x.1.call i h.less (h.parked_is ∙ ap (λ (m : ℕ). parked m) at) in
      record { less = k.0; parked_is = k.1; has = subst (λ (o : Option Awaited). HasKey o key) (sym (put-else a.request.number (Some a.request) g.there number apart)) h.has }
  watched-deed g (GivenUp a handled) x other h = record { less = h.less; parked_is = h.parked_is; has = h.has }
  watched-deed g (Settled j m outcome told) x other h = let k = changed-watched g j m (known outcome) h x.2 other in record { less = h.less; parked_is = k.0; has = k.1 }
  watched-deed g (AnsweredUnkept a outcome written) x other h = let k = grown-watched g a.request.call (known outcome) h in record { less = k.0; parked_is = k.1; has = h.has }
  watched-deed g (SettledUnkept j m outcome told) x other h = let k = changed-watched g j m (known outcome) h x.2 other in record { less = h.less; parked_is = k.0; has = k.1 }

  pub watched-deeds : (g : Ledger) (ds : List Deed) → Runs s g ds → list_any (settles number) ds ≡ false → Watched g → Watched (after_deeds s g ds)
  watched-deeds g [] runs other h = h
  watched-deeds g (d ∷ ds) runs other h =
      let parts = or_parts (settles number d) (list_any (settles number) ds) other in
      watched-deeds (after_deed s g d) ds runs.1 parts.1 (watched-deed g d runs.0 parts.0 h)

module _ (lives : ℕ → Life) where
  -- whose call is parked under a number, with which key, when something is done under it next
  waits-there : HearingGrows meaning_in → (steps front between rest : List Step) (n : ℕ) (d last : Deed) (a : Arrival Wanted) (i number : ℕ) (key : RequestKey) (expiration : ℕ) → AreLives lives steps → IsOwned lives steps
      → steps ≡ (front ++ Did n d ∷ between) ++ Did n last ∷ rest → Says (lives n).settings (ledger_of lives n front) d a (Ok i) → a.field ≡ Present key expiration
      → i < length (ledger_of lives n front).calls → (ledger_of lives n front).held i ≡ parked number → list_any (settles number) (deeds_of n (Did n d ∷ between)) ≡ false
      → HasKey ((ledger_of lives n (front ++ Did n d ∷ between)).there number) key
  waits-there grow steps front between rest n d last a i number key expiration runs owned is said has less now other =
      let s = (lives n).settings in
      let g = ledger_of lives n front in
      let mid = Did n d ∷ between in
      let end = Did n last in
      let whole : steps ≡ front ++ (mid ++ end ∷ rest) = is ∙ append_assoc front mid (end ∷ rest) in
      let st = front-stands lives grow n steps front (mid ++ end ∷ rest) owned whole runs in
      let e = said-entry lives s grow (WasHeld front) g d a i key expiration st said has less in
      let key_has : HasKey (g.there number) key = subst (λ (k : RequestKey). HasKey (g.there number) k) e.1 (e.3.waits number (ap g.held e.2 ∙ now)) in
      let ran : Runs s (opening (lives n).held) (deeds_of n (front ++ mid) ++ deeds_of n (end ∷ rest)) = runs-before lives n steps (front ++ mid) (end ∷ rest) runs is in
      let first = runs-front s (opening (lives n).held) (deeds_of n (front ++ mid)) (deeds_of n (end ∷ rest)) ran in
      let split : Runs s (opening (lives n).held) (deeds_of n front ++ deeds_of n mid) = subst (λ (l : List Deed). Runs s (opening (lives n).held) l) (deeds-append n front mid) first in
      let mids = runs-back s (opening (lives n).held) (deeds_of n front) (deeds_of n mid) split in
      let w = watched-deeds s number key i g (deeds_of n mid) mids other (record { less = less; parked_is = now; has = key_has }) in
      subst (λ (h : Ledger). HasKey (h.there number) key) (sym (ledger-more lives n front mid)) w.has

  pub told-are-held : HearingGrows meaning_in → ToldAreHeld lives
  told-are-held grow steps front between rest n d a i j number key expiration outcome told runs owned is said has less now other =
      from ((ledger_of lives n (front ++ Did n d ∷ between)).there number) refl (waits-there grow steps front between rest n d (Settled j number outcome told) a i number key expiration runs owned is said has less now other)
    where
      from : (o : Option Awaited) → (ledger_of lives n (front ++ Did n d ∷ between)).there number ≡ o → HasKey o key → WasHeld (front ++ Did n d ∷ between) key outcome
      from None at none = absurd none
      from (Some w) at has_it = owned.settled (front ++ Did n d ∷ between) rest n j number outcome told w key has_it.0 is at has_it.1

  -- Refusals.

  pub refused-are-free : RefusedAreFree lives
  refused-are-free steps front rest n d a name key expiration quiet is said has =
      let s = (lives n).settings in
      let g = ledger_of lives n front in
      let rules = owned_rules (by_number s g.held) in
      let t = table_after rules (owned_table (by_number s g.held) g.past) said.front in
      let asked = rules.asked a.content in
      let here : (step_by_field rules t a.clock asked (Present key expiration)).1 ≡ Err name = ap (λ (f : Field). (step_by_field rules t a.clock asked f).1) (sym has) ∙ said.says in
      let kept = keyed_step rules (forgotten a.clock t) key expiration asked (kept_for key (unexpired a.clock t.entries)) in
      elim (nat_lt expiration a.clock) as (λ b. nat_lt expiration a.clock ≡ b → (cond b (t, Err BadContext) kept).1 ≡ Err name → ((name ≡ BadContext) × (expiration < a.clock)) ⊎ (held_for key (stored front) ≡ None)) [
        | true ↦ λ over says. inl (cc, ltb-true expiration a.clock over)
        | false ↦ λ in_time says. inr (quiet front rest n d a name key expiration is said has (ltb-false expiration a.clock in_time))
      ] refl here

-- where nothing is held for a key, nothing is at a later mark ..
none-later : (key : RequestKey) (w later : ℕ) (rows : List Row) → w ≤ later → kept_for key (unexpired w rows) ≡ None → kept_for key (unexpired later rows) ≡ None
none-later key w later [] less none = refl
none-later key w later (y ∷ ys) less none =
    let U = unexpired w ys in
    let V = unexpired later ys in
    elim (nat_le later y.expiration) as (λ b. nat_le later y.expiration ≡ b → kept_for key (cond b (y ∷ V) V) ≡ None) [
      | true ↦ λ late.
          let at : nat_le w y.expiration ≡ true = let l = leb-true later y.expiration late in le-leb w y.expiration (omega (arith, l, less)) in
          let was : kept_for key (y ∷ U) ≡ None = subst (λ b. kept_for key (cond b (y ∷ U) U) ≡ None) at none in
          elim (same_key key y.key) as (λ c. cond c (Some y.outcome) (kept_for key U) ≡ None → cond c (Some y.outcome) (kept_for key V) ≡ None)
          [ true ↦ λ was. absurd cc | false ↦ λ was. none-later key w later ys less was ] was
      | false ↦ λ early. none-later key w later ys less
          (elim (nat_le w y.expiration) as (λ b. kept_for key (cond b (y ∷ U) U) ≡ None → kept_for key U ≡ None) [
            | true ↦ λ was. elim (same_key key y.key) as (λ c. cond c (Some y.outcome) (kept_for key U) ≡ None → kept_for key U ≡ None) [ true ↦ λ was. absurd cc | false ↦ λ was. was ] was
            | false ↦ λ was. was
          ] none)
    ] refl

-- .. nor beside a row of another key
none-beside : (key : RequestKey) (w : ℕ) (rows : List Row) (row : Row) → (row.key ≡ key → ⊥) → kept_for key (unexpired w rows) ≡ None → kept_for key (unexpired w (rows ++ row ∷ [])) ≡ None
none-beside key w [] row apart none =
    elim (nat_le w row.expiration) as (λ b. kept_for key (cond b (row ∷ []) []) ≡ None) [
      | true ↦ elim (same_key key row.key) as (λ c. same_key key row.key ≡ c → cond c (Some row.outcome) None ≡ None) [ true ↦ λ same. absurd (apart (sym (same_is key row.key same))) | false ↦ λ same. refl ] refl
      | false ↦ refl
    ]
none-beside key w (y ∷ ys) row apart none =
    let U = unexpired w ys in
    let V = unexpired w (ys ++ row ∷ []) in
    elim (nat_le w y.expiration) as (λ b. kept_for key (cond b (y ∷ U) U) ≡ None → kept_for key (cond b (y ∷ V) V) ≡ None) [
      | true ↦ λ was.
          elim (same_key key y.key) as (λ c. cond c (Some y.outcome) (kept_for key U) ≡ None → cond c (Some y.outcome) (kept_for key V) ≡ None)
          [ true ↦ λ was. absurd cc | false ↦ λ was. none-beside key w ys row apart was ] was
      | false ↦ λ was. none-beside key w ys row apart was
    ] none

-- What is free stays so where no other commits it.
module _ (steps rest : List Step) (key : RequestKey) (kept : IsKept steps) where
  free-one : (before after : List Step) (x : Step) → steps ≡ before ++ x ∷ (after ++ rest) → held_for key (stored before) ≡ None → ((ask : Ask) (row : Row) → x ≡ Stored (Committed ask row) → row.key ≡ key → ⊥)
      → held_for key (stored_after (stored before) (x ∷ [])) ≡ None
  free-one before after (Did n d) is free none = free
  free-one before after (Stored (Committed ask row)) is free none = none-beside key (stored before).mark (stored before).rows row (none ask row refl) free
  free-one before after (Stored (Purged mark)) is free none = none-later key (stored before).mark mark (stored before).rows (kept before (after ++ rest) (Purged mark) is) free
  free-one before after (Stored Other) is free none = free

  pub free-stays : (before after : List Step) → steps ≡ (before ++ after) ++ rest → held_for key (stored before) ≡ None → ((ask : Ask) (row : Row) → Contains after (Stored (Committed ask row)) → row.key ≡ key → ⊥)
      → held_for key (stored (before ++ after)) ≡ None
  free-stays before [] is free none = subst (λ (l : List Step). held_for key (stored l) ≡ None) (sym (append-nil before)) free
  free-stays before (x ∷ after) is free none =
      let next : (before ++ x ∷ []) ++ after ≡ before ++ x ∷ after = append_assoc before (x ∷ []) after in
      let at : steps ≡ before ++ x ∷ (after ++ rest) = is ∙ append_assoc before (x ∷ after) rest in
      let one : held_for key (stored (before ++ x ∷ [])) ≡ None =
      subst (λ (t : Store). held_for key t ≡ None) (sym (stored-append empty_store before (x ∷ [])))
      (free-one before after x at free (λ ask row same. none ask row (subst (λ (y : Step). Contains (x ∷ after) y) same (Contains-append_left (x ∷ []) after x (Contains-push [] x))))) in
      subst (λ (l : List Step). held_for key (stored l) ≡ None) next
      (free-stays (before ++ x ∷ []) after (is ∙ ap (λ (l : List Step). l ++ rest) (sym next)) one (λ ask row there. none ask row (Contains-append_right (x ∷ []) after (Stored (Committed ask row)) there)))

module _ (lives : ℕ → Life) where
  may-be-free : (steps front rest : List Step) (n : ℕ) (w : Awaited) (name : SystemName) (key : RequestKey) (expiration : ℕ) → IsKept steps → steps ≡ front ++ rest → MayDecline steps front n w key expiration name
      → ((name ≡ BadContext) × WasOver front expiration × NeverCommits steps n w.number) ⊎ IsFree steps front n w.number key
  may-be-free steps front rest n w name key expiration kept is may =
      elim may.0 [
        | inl over ↦ inl (over.0, over.1, may.1)
        | inr f ↦ inr (record {
          before = f.before;
          after = f.after;
          point = f.point;
          request = f.request;
          asked = f.asked;
          numbered = f.numbered;
          free = f.free;
          uncommitted = may.1;
          still = λ none. subst (λ (l : List Step). held_for key (stored l) ≡ None) (sym f.point) (free-stays steps rest key kept f.before f.after (is ∙ ap (λ (l : List Step). l ++ rest) f.point) f.free none);
        })
      ]

  -- what an owner may tell is told rightly
  pub told-rightly : (held : Type 0) (steps front rest : List Step) (n : ℕ) (w : Awaited) (key : RequestKey) (expiration : ℕ) (outcome : Performed) → IsKept steps → steps ≡ front ++ rest
      → (WasHeld front key outcome → held) → MayTell steps front n w key expiration outcome → IsToldRightly held steps front n w key expiration outcome
  told-rightly held steps front rest n w key expiration outcome kept is brings (inl was) = inl (brings was)
  told-rightly held steps front rest n w key expiration outcome kept is brings (inr (inl maybe)) = inr (inl maybe)
  told-rightly held steps front rest n w key expiration outcome kept is brings (inr (inr refuses)) = inr (inr (refuses.0, refuses.1, refuses.2, may-be-free steps front rest n w refuses.0 key expiration kept is refuses.3))

  -- .. and so it is to a repeat that waits with it
  pub waiter-told : HearingGrows meaning_in → (held : Type 0) (steps front between rest : List Step) (n : ℕ) (d : Deed) (a : Arrival Wanted) (i j number : ℕ) (key : RequestKey) (expiration : ℕ) (outcome : Performed) (told : List Told) → AreLives lives steps → IsKept steps → IsOwned lives steps
      → (WasHeld (front ++ Did n d ∷ between) key outcome → held)
      → steps ≡ front ++ Did n d ∷ between ++ Did n (SettledUnkept j number outcome told) ∷ rest → Says (lives n).settings (ledger_of lives n front) d a (Ok i) → a.field ≡ Present key expiration
      → i < length (ledger_of lives n front).calls → (ledger_of lives n front).held i ≡ parked number → list_any (settles number) (deeds_of n (Did n d ∷ between)) ≡ false
      → (w : Awaited) × (late : ℕ) × (w.field ≡ Present key late) × IsToldRightly held steps (front ++ Did n d ∷ between) n w key late outcome
  waiter-told grow held steps front between rest n d a i j number key expiration outcome told runs kept owned brings is said has less now other =
      from ((ledger_of lives n (front ++ Did n d ∷ between)).there number) refl (waits-there lives grow steps front between rest n d (SettledUnkept j number outcome told) a i number key expiration runs owned is said has less now other)
    where
      from : (o : Option Awaited) → (ledger_of lives n (front ++ Did n d ∷ between)).there number ≡ o → HasKey o key
          → (w : Awaited) × (late : ℕ) × (w.field ≡ Present key late) × IsToldRightly held steps (front ++ Did n d ∷ between) n w key late outcome
      from None at none = absurd none
      from (Some w) at has_it = (
        w,
        has_it.0,
        has_it.1,
        told-rightly held steps (front ++ Did n d ∷ between) (Did n (SettledUnkept j number outcome told) ∷ rest) n w key has_it.0 outcome kept is brings
            (owned.settled_unkept (front ++ Did n d ∷ between) rest n j number outcome told w key has_it.0 is at has_it.1),
      )

  pub waiters-are-told-rightly : HearingGrows meaning_in → WaitersAreToldRightly lives
  waiters-are-told-rightly grow steps front between rest n d a i j number key expiration outcome told runs kept owned is said has less now other =
      waiter-told grow (WasHeld (front ++ Did n d ∷ between) key outcome) steps front between rest n d a i j number key expiration outcome told runs kept owned (λ was. was) is said has less now other

  pub unkept-are-right : UnkeptAreRight lives
  unkept-are-right steps front rest n (Happened e written note) w outcome key expiration kept owned is said has = absurd cc
  unkept-are-right steps front rest n (Stopped p written v q) w outcome key expiration kept owned is said has = absurd cc
  unkept-are-right steps front rest n (Joined p written m joined) w outcome key expiration kept owned is said has = absurd cc
  unkept-are-right steps front rest n (Answered a o written note) w outcome key expiration kept owned is said has = absurd cc
  unkept-are-right steps front rest n (Parked a own) w outcome key expiration kept owned is said has = absurd cc
  unkept-are-right steps front rest n (GivenUp a handled) w outcome key expiration kept owned is said has = absurd cc
  unkept-are-right steps front rest n (Settled i m o told) w outcome key expiration kept owned is said has = absurd cc
  unkept-are-right steps front rest n (AnsweredUnkept a o written) w outcome key expiration kept owned is said has =
      let both : (a.request, o) ≡ (w, outcome) = some-is (a.request, o) (w, outcome) said in
      let request : a.request ≡ w = ap (λ (x : Awaited × Performed). x.0) both in
      let same : o ≡ outcome = ap (λ (x : Awaited × Performed). x.1) both in
      let may = owned.answered_unkept front rest n a o written key expiration is (ap (λ (v : Awaited). v.field) request ∙ has) in
      told-rightly (WasHeld front key outcome) steps front (Did n (AnsweredUnkept a o written) ∷ rest) n w key expiration outcome kept is (λ was. was)
      (subst (λ (v : Awaited). MayTell steps front n v key expiration outcome) request (subst (λ (p : Performed). MayTell steps front n a.request key expiration p) same may))
  unkept-are-right steps front rest n (SettledUnkept i m o told) w outcome key expiration kept owned is said has = from ((ledger_of lives n front).there m) refl said
    where
      from : (x : Option Awaited) → (ledger_of lives n front).there m ≡ x → option_map {U = Awaited × Performed} (λ (v : Awaited). (v, o)) x ≡ Some (w, outcome) → IsToldRightly (WasHeld front key outcome) steps front n w key expiration outcome
      from None there at = absurd cc
      from (Some v) there at =
          let both : (v, o) ≡ (w, outcome) = some-is (v, o) (w, outcome) at in
          let request : v ≡ w = ap (λ (x : Awaited × Performed). x.0) both in
          let same : o ≡ outcome = ap (λ (x : Awaited × Performed). x.1) both in
          let may = owned.settled_unkept front rest n i m o told v key expiration is there (ap (λ (z : Awaited). z.field) request ∙ has) in
          told-rightly (WasHeld front key outcome) steps front (Did n (SettledUnkept i m o told) ∷ rest) n w key expiration outcome kept is (λ was. was)
          (subst (λ (z : Awaited). MayTell steps front n z key expiration outcome) request (subst (λ (p : Performed). MayTell steps front n v key expiration p) same may))

  -- COMPLETED_NO is not COMPLETED_MAYBE, and has one name
  no-is-no : (name by : SystemName) (minor code_is : ℕ) (completion : Completion) → IsException by code_is completion (not_now name minor) → (by ≡ name) × (completion ≡ No)
  no-is-no name by minor code_is completion (inl same) = (cc, cc)
  no-is-no name by minor code_is completion (inr octets) = absurd (let same = octets.1 in cc)

  pub declined-are-free : DeclinedAreFree lives
  declined-are-free steps front rest n d w name minor key expiration kept owned is said has = from (unkept-are-right steps front rest n d w (not_now name minor) key expiration kept owned is said has)
    where
      from : IsToldRightly (WasHeld front key (not_now name minor)) steps front n w key expiration (not_now name minor) → WasHeld front key (not_now name minor) ⊎ IsOverOrFree steps front n w key expiration name
      from (inl was) = inl was
      from (inr (inl maybe)) = absurd (let same = no-is-no name maybe.0 minor maybe.1 Maybe maybe.2 in let bad = same.1 in cc)
      from (inr (inr refuses)) = inr (subst (λ (m : SystemName). IsOverOrFree steps front n w key expiration m) (no-is-no name refuses.0 minor refuses.1 No refuses.2).0 refuses.3)
