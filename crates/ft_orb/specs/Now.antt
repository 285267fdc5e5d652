-- Each key by itself: a key is held from the performing of its request until it expires, and one that has expired is as good as new.
-- What is performed so, and what each arrival is answered, needs no premise: requests with one key may carry any expirations. It looks
-- back over all arrivals, as `ExactlyOnce` does, and is the same as there where those with one key carry one expiration.
use Rattle.std.specs.Prelude.{◌≡◌, ℕ, ◌*◌, ◌<◌, ◌≤◌, Bool, true, false, IsTrue, IsFalse, not, ◌&&◌, nat_lt, nat_le, if◌then◌else◌, List, [], ◌∷◌, ◌++◌, Contains, length, Option, Some, None, unwrap_or, Result, Ok, Err}
use Rattle.std.specs.List.{list_any}
use Rattle.ft_log.specs.Keys.{RequestKey, held_of, same_key}
use Rattle.ft_log.specs.Kept.{unexpired}
use Rattle.ft_log.specs.declared.system_exception.SystemName.{SystemName}
use Rattle.ft_log.specs.declared.system_exception.SystemName.TheVariants.{BadContext, Marshal, NoResources}
use Rattle.ft_orb.specs.ExactlyOnce.{Absent, Arrival, Bad, ClocksGrow, Field, OneExpiration, Present, Rules, answers_after, clock_after, is_admissible, live_keys, new_answer, outcome_of, performed_of, state_after, state_after_call}
use Rattle.ft_orb.specs.Table.{Table, remembered, table_after, table_answers, table_step}
use Rattle.ft_log.specs.Performed.{Performed}
use Rattle.ft_orb.specs.declared.events.Note.{Note}
use Rattle.ft_orb.specs.History.{Event, arrivals, completed}
use Rattle.ft_orb.specs.Outputs.{Made, Noted, Plays, Writes, table_says}
use Rattle.ft_orb.specs.Requests.{Wanted, rules_of}
use Rattle.ft_objects.specs.Servants.{Meaning}
use Rattle.ft_orb.specs.Shares.{clients_of}
use Rattle.ft_orb.specs.Standing.{Shown, Stands}

-- the field has this key, and its expiration is at or after the clock
abbrev pub has_live_key : ℕ → RequestKey → Field → Bool
has_live_key clock key Absent = false
has_live_key clock key Bad = false
has_live_key clock key (Present other expiration) = same_key key other && nat_le clock expiration

-- the key is held: one of these performed requests has it, and is not expired at the clock
abbrev pub is_held : {Content : Type 0} → List (Arrival Content) → ℕ → RequestKey → Bool
is_held performed clock key = list_any (λ p. has_live_key clock key p.field) performed

-- arrivals with this key carry one expiration
abbrev pub OneExpirationOf : {Content : Type 0} → RequestKey → List (Arrival Content) → Type 0
OneExpirationOf {Content} key arrivals =
    (a b : Arrival Content) (early late : ℕ) → Contains arrivals a → Contains arrivals b
    → a.field ≡ Present key early → b.field ≡ Present key late → early ≡ late

module _ {State Content Call Outcome : Type 0} (rules : Rules State Content Call Outcome) where
  -- the key is not held, and the keys that are leave room for it
  abbrev pub is_let_in_now : List (Arrival Content) → ℕ → Field → Bool
  is_let_in_now performed clock Absent = true
  is_let_in_now performed clock Bad = false
  is_let_in_now performed clock (Present key expiration) = not (is_held performed clock key) && rules.has_room key (live_keys clock performed)

  -- where these were performed before, the arrival is performed too
  abbrev pub acts_now : List (Arrival Content) → Arrival Content → Bool
  acts_now performed a = is_admissible rules a && is_let_in_now performed a.clock a.field

  -- the performed requests, where these were performed before
  abbrev pub performed_now_after : List (Arrival Content) → List (Arrival Content) → List (Arrival Content)
  performed_now_after performed [] = performed
  performed_now_after performed (a ∷ later) = performed_now_after (if acts_now performed a then performed ++ a ∷ [] else performed) later

  -- the performed ones among all arrivals, in order
  abbrev pub performed_now : List (Arrival Content) → List (Arrival Content)
  performed_now arrivals = performed_now_after [] arrivals

  -- what the performed request got that holds the key, if there is one
  abbrev pub outcome_held : State → ℕ → RequestKey → List (Arrival Content) → Option (Result Outcome SystemName)
  outcome_held state clock key [] = None
  outcome_held state clock key (p ∷ ps) =
      if has_live_key clock key p.field then Some (outcome_of rules.apply state (rules.asked p.content))
      else outcome_held (state_after_call rules.apply state (rules.asked p.content)) clock key ps

  -- the answer by the field, where these were performed before
  abbrev pub answer_now_by_field : State → List (Arrival Content) → ℕ → Result Call SystemName → Field → Result Outcome SystemName
  answer_now_by_field opening performed clock asked Bad = Err Marshal
  answer_now_by_field opening performed clock asked Absent = outcome_of rules.apply (state_after rules opening performed) asked
  answer_now_by_field opening performed clock asked (Present key expiration) =
      if nat_lt expiration clock then Err BadContext
      else unwrap_or (outcome_held opening clock key performed)
      (new_answer rules (state_after rules opening performed) (rules.has_room key (live_keys clock performed)) asked)

  -- the answer to an arrival that comes after these
  abbrev pub answer_now : State → List (Arrival Content) → Arrival Content → Result Outcome SystemName
  answer_now opening arrivals a = answer_now_by_field opening (performed_now arrivals) a.clock (rules.asked a.content) a.field

  -- the answers to all of the second list, which comes after the first
  abbrev pub answers_now_after : State → List (Arrival Content) → List (Arrival Content) → List (Result Outcome SystemName)
  answers_now_after opening before [] = []
  answers_now_after opening before (a ∷ later) = answer_now opening before a ∷ answers_now_after opening (before ++ a ∷ []) later

  -- the table stands for these arrivals at a clock: the state is theirs, and the entries that are not expired are those of
  -- their performed requests
  pub record IsTableNow (opening : State) (clock : ℕ) (arrivals : List (Arrival Content)) (t : Table State Outcome) : Type 0 where
    pub state : t.state ≡ state_after rules opening (performed_now arrivals)
    pub entries : unexpired clock t.entries ≡ unexpired clock (remembered rules opening (performed_now arrivals))

  -- A new table answers arrivals so, where clocks grow, and stands for them afterwards: nothing is asked of the keys ..
  abbrev pub TablesAnswerNow : Type 0
  TablesAnswerNow = (opening : State) (arrivals : List (Arrival Content)) → ClocksGrow 0 arrivals
      → (table_answers rules (record { state = opening; entries = [] }) arrivals ≡ answers_now_after opening [] arrivals)
      × IsTableNow opening (clock_after 0 arrivals) arrivals (table_after rules (record { state = opening; entries = [] }) arrivals)

  -- .. and one that stands for arrivals answers the next one so, and stands for all of them afterwards.
  abbrev pub TablesGoOnNow : Type 0
  TablesGoOnNow = (clock : ℕ) (opening : State) (arrivals : List (Arrival Content)) (a : Arrival Content) (t : Table State Outcome) → clock ≤ a.clock → IsTableNow opening clock arrivals t
      → ((table_step rules t a).1 ≡ answer_now opening arrivals a) × IsTableNow opening a.clock (arrivals ++ a ∷ []) (table_step rules t a).0

  -- Of two performed requests with one key the first had expired when the other came, and the other had not: nothing is asked of the
  -- key, so within the expiration of the one that was performed no arrival of anybody makes it act again.
  abbrev pub KeyActsLater : Type 0
  KeyActsLater = (arrivals front between rest : List (Arrival Content)) (p q : Arrival Content) (key : RequestKey) (early late : ℕ)
      → performed_now arrivals ≡ front ++ p ∷ between ++ q ∷ rest → p.field ≡ Present key early → q.field ≡ Present key late → (early < q.clock) × (q.clock ≤ late)

  -- Where the arrivals with a key carry one expiration, not two performed requests carry it, whatever the others carry.
  abbrev pub KeyActsOnce : Type 0
  KeyActsOnce = (arrivals front between rest : List (Arrival Content)) (p q : Arrival Content) (key : RequestKey) (early late : ℕ) → OneExpirationOf key arrivals
      → performed_now arrivals ≡ front ++ p ∷ between ++ q ∷ rest → p.field ≡ Present key early → q.field ≡ Present key late → ⊥

  -- An arrival that is not performed leaves the performed requests, and so the state, as they were.
  abbrev pub IsIdleNow : List (Arrival Content) → Arrival Content → Type 0
  IsIdleNow arrivals a = performed_now (arrivals ++ a ∷ []) ≡ performed_now arrivals

  -- A repeat of a performed request, before either has expired, is answered with that request's outcome, and is not performed,
  -- whatever expiration it carries.
  abbrev pub KeyIsHeld : Type 0
  KeyIsHeld = (opening : State) (arrivals front rest : List (Arrival Content)) (p a : Arrival Content) (key : RequestKey) (early late : ℕ)
      → performed_now arrivals ≡ front ++ p ∷ rest → p.field ≡ Present key early → a.field ≡ Present key late → p.clock ≤ a.clock → a.clock ≤ early → a.clock ≤ late
      → (answer_now opening arrivals a ≡ outcome_of rules.apply (state_after rules opening front) (rules.asked p.content)) × IsIdleNow arrivals a

  -- Where the arrivals with a key carry one expiration, a repeat of a performed request, not after its expiration, is answered with that request's outcome, and is not
  -- performed.
  abbrev pub KeyIsAnswered : Type 0
  KeyIsAnswered = (opening : State) (arrivals front rest : List (Arrival Content)) (p a : Arrival Content) (key : RequestKey) (early late : ℕ) → OneExpirationOf key (arrivals ++ a ∷ [])
      → performed_now arrivals ≡ front ++ p ∷ rest → p.field ≡ Present key early → a.field ≡ Present key late → a.clock ≤ late
      → (answer_now opening arrivals a ≡ outcome_of rules.apply (state_after rules opening front) (rules.asked p.content)) × IsIdleNow arrivals a

  -- A request whose key is not held, not after its expiration, is performed where it asks for a call and there is room, and is
  -- answered with its outcome; where there is no room it is answered NO_RESOURCES, and is not performed.
  abbrev pub KeyIsFirst : Type 0
  KeyIsFirst = (opening : State) (arrivals : List (Arrival Content)) (a : Arrival Content) (key : RequestKey) (expiration : ℕ) (call : Call)
      → a.field ≡ Present key expiration → a.clock ≤ expiration → rules.asked a.content ≡ Ok call → IsFalse (is_held (performed_now arrivals) a.clock key)
      → (IsTrue (rules.has_room key (live_keys a.clock (performed_now arrivals)))
      → (answer_now opening arrivals a ≡ Ok (rules.apply (state_after rules opening (performed_now arrivals)) call).1) × (performed_now (arrivals ++ a ∷ []) ≡ performed_now arrivals ++ a ∷ []))
      × (IsFalse (rules.has_room key (live_keys a.clock (performed_now arrivals))) → (answer_now opening arrivals a ≡ Err NoResources) × IsIdleNow arrivals a)

  -- Where the arrivals with one key carry one expiration, each key by itself performs what looking back over all does, and answers
  -- what comes later as that does.
  abbrev pub NowIsEver : Type 0
  NowIsEver = (opening : State) (before later : List (Arrival Content)) → OneExpiration (before ++ later)
      → (performed_now (before ++ later) ≡ performed_of rules (before ++ later)) × (answers_now_after opening before later ≡ answers_after rules opening before later)

  -- all that is said of each key by itself
  pub record KeysAnswer : Type 0 where
    pub table : TablesAnswerNow
    pub next : TablesGoOnNow
    pub later : KeyActsLater
    pub once : KeyActsOnce
    pub held : KeyIsHeld
    pub repeats : KeyIsAnswered
    pub first : KeyIsFirst
    pub ever : NowIsEver

module _ {State : Type 0} (meaning : Meaning State) (made : Made State) where
  -- the answers to the arrivals that an event completes, with each key by itself
  abbrev pub now_says : List Event → Event → List (Result Performed SystemName)
  now_says past e = answers_now_after (rules_of meaning made.capacity made.share) made.opening (arrivals made.limits past) (completed made.limits past e)

  -- the servant's state after a past, with each key by itself
  abbrev pub state_now : List Event → State
  state_now past = state_after (rules_of meaning made.capacity made.share) made.opening (performed_now (rules_of meaning made.capacity made.share) (arrivals made.limits past))

-- What was written by the table's answers was written with each key by itself, over every past and whatever expirations requests
-- carry. Of one event ..
abbrev pub EventsActNow : {State : Type 0} → Meaning State → Type 0
EventsActNow {State} meaning =
    (made : Made State) (past : List Event) (e : Event) (octets : List ℕ) (note : Note)
    → Writes made.limits meaning.knows (table_says meaning made) past e octets note → Writes made.limits meaning.knows (now_says meaning made) past e octets note

-- .. and of events one after another.
abbrev pub PlaysActNow : {State : Type 0} → Meaning State → Type 0
PlaysActNow {State} meaning =
    (made : Made State) (past es : List Event) (entries : List Noted)
    → Plays made.limits meaning.knows (table_says meaning made) past es entries → Plays made.limits meaning.knows (now_says meaning made) past es entries

-- The servant of a server that stands for a past has that state, over every past too.
abbrev pub ServantsActNow : {State : Type 0} → Meaning State → Type 0
ServantsActNow {State} meaning = (made : Made State) (server : Shown State) (past : List Event) → Stands meaning made server past → server.servant ≡ state_now meaning made past

-- Where the capacity is enough for the share of each client, only a client that has used up its own share is answered NO_RESOURCES,
-- whatever expirations requests carry.
abbrev pub RoomForEachClientNow : {State : Type 0} → Meaning State → Type 0
RoomForEachClientNow {State} meaning =
    (capacity share : ℕ) (opening : State) (arrivals : List (Arrival Wanted)) (a : Arrival Wanted) (key : RequestKey) (expiration : ℕ)
    → ClocksGrow 0 (arrivals ++ a ∷ []) → share * length (clients_of (arrivals ++ a ∷ [])) ≤ capacity
    → a.field ≡ Present key expiration → answer_now (rules_of meaning capacity share) opening arrivals a ≡ Err NoResources
    → share ≤ held_of key.client_id (live_keys a.clock (performed_now (rules_of meaning capacity share) arrivals))
