-- Requests that carry keys, where an owner may decline a call that it took: it says that nothing of it has happened. A call's number is how
-- many were taken before it, and to decline it is to withdraw its number. What stands, and what a request is answered, looks back over all
-- that stands. A request is answered with a number, so no outcome decides anything. Where nothing is withdrawn, it is as in `Now`.
use Rattle.std.specs.Prelude.{◌≡◌, ℕ, ◌==◌, ◌<◌, ◌≤◌, Bool, IsTrue, IsFalse, not, nat_lt, if◌then◌else◌, List, [], ◌∷◌, ◌++◌, map, filter, filter_map, length, Contains, Option, Some, None, unwrap_or, option_map, Result, Ok, Err}
use Rattle.std.specs.List.{slice_get}
use Rattle.ft_log.specs.Keys.{RequestKey}
use Rattle.ft_log.specs.Kept.{KeptOutcome, unexpired}
use Rattle.ft_log.specs.declared.system_exception.SystemName.{SystemName}
use Rattle.ft_log.specs.declared.system_exception.SystemName.TheVariants.{BadContext, Marshal, NoResources}
use Rattle.ft_orb.specs.ExactlyOnce.{Absent, Arrival, Bad, ClocksGrow, Field, Present, Rules, clock_after, live_keys, new_answer, outcome_of, state_after, state_after_call}
use Rattle.ft_orb.specs.Table.{Table, entry_of, table_after, table_answers, table_step}
use Rattle.ft_orb.specs.Now.{OneExpirationOf, acts_now, answers_now_after, has_live_key, is_held, performed_now}

-- a request arrives, or the call of this number is withdrawn
pub data Item (Content : Type 0) : Type 0 where
  Arrives : Arrival Content → Item Content
  Withdraws : ℕ → Item Content

-- a request that was performed, and its call's number
pub record Numbered (Content : Type 0) : Type 0 where
  pub number : ℕ
  pub arrival : Arrival Content

-- all calls that were taken, and the performed requests that stand, in order
pub record Standing (Content Call : Type 0) : Type 0 where
  pub calls : List Call
  pub performed : List (Numbered Content)

module _ {Content : Type 0} where
  -- the arrivals among these
  abbrev pub arrivals_among : List (Item Content) → List (Arrival Content)
  arrivals_among [] = []
  arrivals_among (Arrives a ∷ later) = a ∷ arrivals_among later
  arrivals_among (Withdraws n ∷ later) = arrivals_among later

  -- the requests, without their numbers
  abbrev pub requests_of : List (Numbered Content) → List (Arrival Content)
  requests_of performed = map (λ p. p.arrival) performed

  -- all but the one of this number
  abbrev pub all_but : ℕ → List (Numbered Content) → List (Numbered Content)
  all_but n performed = filter (λ p. not (p.number == n)) performed

  -- the number of the request that holds the key, if there is one
  abbrev pub number_held : ℕ → RequestKey → List (Numbered Content) → Option ℕ
  number_held clock key [] = None
  number_held clock key (p ∷ ps) = if has_live_key clock key p.arrival.field then Some p.number else number_held clock key ps

  -- what a log that forgets nothing keeps of these: a number under each key
  abbrev pub entries_of : List (Numbered Content) → List (KeptOutcome ℕ)
  entries_of performed = filter_map (λ p. entry_of p.arrival.field (Ok p.number)) performed

module _ {Content Call : Type 0} where
  -- nothing was taken
  abbrev pub none_stands : Standing Content Call
  none_stands = record { calls = []; performed = [] }

  -- the table's state is the calls that were taken, and its entries that are not expired are those of what stands
  pub record IsTableFor (clock : ℕ) (s : Standing Content Call) (t : Table (List Call) ℕ) : Type 0 where
    pub state : t.state ≡ s.calls
    pub entries : unexpired clock t.entries ≡ unexpired clock (entries_of s.performed)

-- a table that keeps nothing, and one without what it keeps of this number
abbrev pub new_table : {Call : Type 0} → Table (List Call) ℕ
new_table = record { state = []; entries = [] }

abbrev pub table_without : {Call : Type 0} → ℕ → Table (List Call) ℕ → Table (List Call) ℕ
table_without n t = record { state = t.state; entries = filter (λ e. not (e.outcome == n)) t.entries }

-- what is asked, or what refuses it; and when a further key has room among those that are live
module _ {Content Call : Type 0} (asked : Content → Result Call SystemName) (has_room : RequestKey → List RequestKey → Bool) where
  -- the rules of numbers: a call is taken, and answered with its number
  abbrev pub number_rules : Rules (List Call) Content Call ℕ
  number_rules = record { asked = asked; apply = λ calls call. (calls ++ call ∷ [], length calls); has_room = has_room }

  -- the request's call is taken under the next number, and it stands
  abbrev pub performed_too : Standing Content Call → Arrival Content → Standing Content Call
  performed_too s a = record {
    calls = state_after_call number_rules.apply s.calls (asked a.content);
    performed = s.performed ++ record { number = length s.calls; arrival = a } ∷ [];
  }

  -- what stands after one item: a request is performed by the keys that are held by what stands
  abbrev pub stand : Standing Content Call → Item Content → Standing Content Call
  stand s (Arrives a) = if acts_now number_rules (requests_of s.performed) a then performed_too s a else s
  stand s (Withdraws n) = record { calls = s.calls; performed = all_but n s.performed }

  -- what stands after all of these, and after all items from the first on
  abbrev pub stand_all : Standing Content Call → List (Item Content) → Standing Content Call
  stand_all s [] = s
  stand_all s (x ∷ later) = stand_all (stand s x) later

  abbrev pub stands_after : List (Item Content) → Standing Content Call
  stands_after items = stand_all none_stands items

  -- the answer by the field, where so much stands: the number of its call, or what refuses it
  abbrev pub number_by_field : Standing Content Call → ℕ → Result Call SystemName → Field → Result ℕ SystemName
  number_by_field s clock asks Bad = Err Marshal
  number_by_field s clock asks Absent = outcome_of number_rules.apply s.calls asks
  number_by_field s clock asks (Present key expiration) =
      if nat_lt expiration clock then Err BadContext
      else unwrap_or (option_map (λ n. Ok n) (number_held clock key s.performed))
      (new_answer number_rules s.calls (has_room key (live_keys clock (requests_of s.performed))) asks)

  abbrev pub number_answer : Standing Content Call → Arrival Content → Result ℕ SystemName
  number_answer s a = number_by_field s a.clock (asked a.content) a.field

  -- the answers to the arrivals among these
  abbrev pub number_answers : Standing Content Call → List (Item Content) → List (Result ℕ SystemName)
  number_answers s [] = []
  number_answers s (Arrives a ∷ later) = number_answer s a ∷ number_answers (stand s (Arrives a)) later
  number_answers s (Withdraws n ∷ later) = number_answers (stand s (Withdraws n)) later

  -- the table after all of these, and its answers to the arrivals among them
  abbrev pub items_after : Table (List Call) ℕ → List (Item Content) → Table (List Call) ℕ
  items_after t [] = t
  items_after t (Arrives a ∷ later) = items_after (table_step number_rules t a).0 later
  items_after t (Withdraws n ∷ later) = items_after (table_without n t) later

  abbrev pub item_answers : Table (List Call) ℕ → List (Item Content) → List (Result ℕ SystemName)
  item_answers t [] = []
  item_answers t (Arrives a ∷ later) = (table_step number_rules t a).1 ∷ item_answers (table_step number_rules t a).0 later
  item_answers t (Withdraws n ∷ later) = item_answers (table_without n t) later

  -- A new table, of which numbers are withdrawn, answers by what stands, where clocks grow, and stands for it afterwards: nothing is asked
  -- of the keys ..
  abbrev pub TablesWithdraw : Type 0
  TablesWithdraw = (items : List (Item Content)) → ClocksGrow 0 (arrivals_among items)
      → (item_answers new_table items ≡ number_answers none_stands items) × IsTableFor (clock_after 0 (arrivals_among items)) (stands_after items) (items_after new_table items)

  -- .. one that stands for what stands answers the next request so, and stands for all of it afterwards ..
  abbrev pub TablesTakeOne : Type 0
  TablesTakeOne = (clock : ℕ) (s : Standing Content Call) (a : Arrival Content) (t : Table (List Call) ℕ) → clock ≤ a.clock → IsTableFor clock s t
      → ((table_step number_rules t a).1 ≡ number_answer s a) × IsTableFor a.clock (stand s (Arrives a)) (table_step number_rules t a).0

  -- .. and without one number it stands for what stands without it, whatever the number.
  abbrev pub TablesLetGo : Type 0
  TablesLetGo = (clock n : ℕ) (s : Standing Content Call) (t : Table (List Call) ℕ) → IsTableFor clock s t → IsTableFor clock (stand s (Withdraws n)) (table_without n t)

  -- Of two requests that stand with one key the first had expired when the other came, and the other had not: nothing is asked of the key.
  abbrev pub KeyStandsLater : Type 0
  KeyStandsLater = (items : List (Item Content)) (front between rest : List (Numbered Content)) (p q : Numbered Content) (key : RequestKey) (early late : ℕ)
      → (stands_after items).performed ≡ front ++ p ∷ between ++ q ∷ rest → p.arrival.field ≡ Present key early → q.arrival.field ≡ Present key late
      → (early < q.arrival.clock) × (q.arrival.clock ≤ late)

  -- Where the arrivals with a key carry one expiration, not two requests stand with it, whatever the others carry.
  abbrev pub KeyStandsOnce : Type 0
  KeyStandsOnce = (items : List (Item Content)) (front between rest : List (Numbered Content)) (p q : Numbered Content) (key : RequestKey) (early late : ℕ) → OneExpirationOf key (arrivals_among items)
      → (stands_after items).performed ≡ front ++ p ∷ between ++ q ∷ rest → p.arrival.field ≡ Present key early → q.arrival.field ≡ Present key late → ⊥

  -- A repeat of what stands, before either has expired, is answered with its number, and nothing is taken, whatever expiration it carries.
  abbrev pub HeldGetTheNumber : Type 0
  HeldGetTheNumber = (items : List (Item Content)) (p : Numbered Content) (a : Arrival Content) (key : RequestKey) (early late : ℕ) → let s = stands_after items in
      Contains s.performed p → p.arrival.field ≡ Present key early → a.field ≡ Present key late → p.arrival.clock ≤ a.clock → a.clock ≤ early → a.clock ≤ late
      → (number_answer s a ≡ Ok p.number) × (stand s (Arrives a) ≡ s)

  -- Where the arrivals with a key carry one expiration, a repeat of what stands, not after its expiration, is answered with its number, and
  -- nothing is taken.
  abbrev pub RepeatsGetTheNumber : Type 0
  RepeatsGetTheNumber = (items : List (Item Content)) (p : Numbered Content) (a : Arrival Content) (key : RequestKey) (early late : ℕ) → let s = stands_after items in
      OneExpirationOf key (arrivals_among items ++ a ∷ []) → Contains s.performed p → p.arrival.field ≡ Present key early → a.field ≡ Present key late → a.clock ≤ late
      → (number_answer s a ≡ Ok p.number) × (stand s (Arrives a) ≡ s)

  -- A request whose key is not held, not after its expiration, is taken under the next number where it asks for a call and there is room;
  -- where there is no room it is answered NO_RESOURCES, and nothing is taken.
  abbrev pub FirstsGetTheNext : Type 0
  FirstsGetTheNext = (s : Standing Content Call) (a : Arrival Content) (key : RequestKey) (expiration : ℕ) (call : Call) (room : Bool)
      → a.field ≡ Present key expiration → a.clock ≤ expiration → asked a.content ≡ Ok call → IsFalse (is_held (requests_of s.performed) a.clock key)
      → has_room key (live_keys a.clock (requests_of s.performed)) ≡ room
      → (number_answer s a ≡ (if room then Ok (length s.calls) else Err NoResources))
      × (stand s (Arrives a) ≡ (if room then record { calls = s.calls ++ call ∷ []; performed = s.performed ++ record { number = length s.calls; arrival = a } ∷ [] } else s))

  -- The call of a number is what the request asks that stands under it, ..
  abbrev pub NumbersAreTheirs : Type 0
  NumbersAreTheirs = (items : List (Item Content)) (p : Numbered Content) → let s = stands_after items in
      Contains s.performed p → (call : Call) × (asked p.arrival.content ≡ Ok call) × (slice_get s.calls p.number ≡ Some call)

  -- .. and of two that stand the later one has the greater number, so no two have one.
  abbrev pub NumbersRise : Type 0
  NumbersRise = (items : List (Item Content)) (front between rest : List (Numbered Content)) (p q : Numbered Content)
      → (stands_after items).performed ≡ front ++ p ∷ between ++ q ∷ rest → p.number < q.number

  -- The calls that were taken stay, and more come after them: no number is given twice.
  abbrev pub TakenStay : Type 0
  TakenStay = (items later : List (Item Content)) → (more : List Call) × ((stands_after (items ++ later)).calls ≡ (stands_after items).calls ++ more)

  -- What was performed stands until its number is withdrawn, ..
  abbrev pub StandsTillWithdrawn : Type 0
  StandsTillWithdrawn = (items later : List (Item Content)) (p : Numbered Content)
      → Contains (stands_after items).performed p → (Contains later (Withdraws p.number) → ⊥) → Contains (stands_after (items ++ later)).performed p

  -- .. what is withdrawn never stands again, ..
  abbrev pub WithdrawnForGood : Type 0
  WithdrawnForGood = (items later : List (Item Content)) (p : Numbered Content) (n : ℕ)
      → n < length (stands_after items).calls → Contains (stands_after (items ++ Withdraws n ∷ later)).performed p → p.number ≡ n → ⊥

  -- .. where a key's request is withdrawn, and the arrivals with the key carry one expiration, the key is held no longer, ..
  abbrev pub WithdrawnKeyIsFree : Type 0
  WithdrawnKeyIsFree = (items : List (Item Content)) (p : Numbered Content) (clock : ℕ) (key : RequestKey) (early : ℕ) → OneExpirationOf key (arrivals_among items)
      → Contains (stands_after items).performed p → p.arrival.field ≡ Present key early
      → IsFalse (is_held (requests_of (stands_after (items ++ Withdraws p.number ∷ [])).performed) clock key)

  -- .. and a request that is performed and withdrawn at once leaves what stood, so its room is given back, and would be performed again.
  abbrev pub WithdrawnAtOnce : Type 0
  WithdrawnAtOnce = (items : List (Item Content)) (a : Arrival Content) → let s = stands_after items in IsTrue (acts_now number_rules (requests_of s.performed) a)
      → let less = stands_after (items ++ Arrives a ∷ Withdraws (length s.calls) ∷ []) in
      (less.performed ≡ s.performed) × (less.calls ≡ (performed_too s a).calls) × IsTrue (acts_now number_rules (requests_of less.performed) a)

  -- Where nothing is withdrawn, all is as with each key by itself.
  abbrev pub WithoutWithdrawals : Type 0
  WithoutWithdrawals = (arrivals : List (Arrival Content)) → let items = map (λ a. Arrives a) arrivals in
      (requests_of (stands_after items).performed ≡ performed_now number_rules arrivals)
      × ((stands_after items).calls ≡ state_after number_rules [] (performed_now number_rules arrivals))
      × (number_answers none_stands items ≡ answers_now_after number_rules [] [] arrivals)
      × ((t : Table (List Call) ℕ) → items_after t items ≡ table_after number_rules t arrivals)
      × ((t : Table (List Call) ℕ) → item_answers t items ≡ table_answers number_rules t arrivals)

  -- all that is said of withdrawing
  pub record MayWithdraw : Type 0 where
    pub table : TablesWithdraw
    pub next : TablesTakeOne
    pub less : TablesLetGo
    pub later : KeyStandsLater
    pub once : KeyStandsOnce
    pub held : HeldGetTheNumber
    pub repeats : RepeatsGetTheNumber
    pub first : FirstsGetTheNext
    pub theirs : NumbersAreTheirs
    pub rise : NumbersRise
    pub taken : TakenStay
    pub stands : StandsTillWithdrawn
    pub gone : WithdrawnForGood
    pub free : WithdrawnKeyIsFree
    pub at_once : WithdrawnAtOnce
    pub without : WithoutWithdrawals
