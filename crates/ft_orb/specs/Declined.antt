-- What stands after a past in which an engine's owner declined calls: `Withdrew i` is that it declined the call before which i were taken.
use Rattle.std.specs.Prelude.{◌≡◌, ℕ, ◌*◌, ◌<◌, ◌≤◌, Bool, IsTrue, IsFalse, if◌then◌else◌, List, [], ◌∷◌, ◌++◌, map, length, Contains, Some, Result, Ok, Err}
use Rattle.std.specs.List.{slice_get}
use Rattle.giop_frames.specs.declared.limits.Limits.{Limits}
use Rattle.ft_log.specs.Holding.{Holding}
use Rattle.ft_log.specs.Keys.{RequestKey, clients_in, has_room_for, held_of}
use Rattle.ft_log.specs.Kept.{keys_of, unexpired}
use Rattle.ft_log.specs.declared.system_exception.SystemName.{SystemName}
use Rattle.ft_log.specs.declared.system_exception.SystemName.TheVariants.{NoResources}
use Rattle.ft_orb.specs.ExactlyOnce.{Arrival, Present, live_keys}
use Rattle.ft_orb.specs.History.{Changed, Close, Event, KeepsAll, Lost, Opened, Piece, Withdrew, arrivals, clock, completed}
use Rattle.ft_orb.specs.Now.{OneExpirationOf, acts_now, is_held}
use Rattle.ft_orb.specs.Owners.{owned_rules, owned_says, owned_table}
use Rattle.ft_orb.specs.Parking.{Settings, by_number}
use Rattle.ft_orb.specs.Requests.{Call, Wanted, asked_at}
use Rattle.ft_orb.specs.Table.{table_after, table_step}
use Rattle.ft_orb.specs.Withdrawing.{Arrives, IsTableFor, Item, Numbered, Standing, Withdraws, items_after, new_table, number_answers, number_rules, requests_of, stand_all, stands_after}

-- what an event brings after this past: the requests that it completes, or the number that it withdraws
abbrev pub brought : Limits → List Event → Event → List (Item Wanted)
brought limits past (Opened c) = []
brought limits past (Piece c moment octets) = map (λ a. Arrives a) (completed limits past (Piece c moment octets))
brought limits past (Close c) = []
brought limits past (Lost c) = []
brought limits past Changed = []
brought limits past (Withdrew i) = Withdraws i ∷ []

-- all items of a past, the first first
abbrev pub items : Limits → List Event → List (Item Wanted)
items limits [] = []
items limits (e ∷ past) = items limits past ++ brought limits past e

module _ (s : Settings) where
  -- what an engine with these settings is asked, and when a further key has room
  abbrev pub asks_by : Wanted → Result Call SystemName
  asks_by w = asked_at s.terms w

  abbrev pub room_by : RequestKey → List RequestKey → Bool
  room_by key live = has_room_for s.capacity s.share key live

  -- what stands after a past, and when more requests came after it
  abbrev pub standing : List Event → Standing Wanted Call
  standing past = stands_after asks_by room_by (items s.limits past)

  abbrev pub standing_with : List Event → List (Arrival Wanted) → Standing Wanted Call
  standing_with past more = stand_all asks_by room_by (standing past) (map (λ a. Arrives a) more)

  -- Whatever is known of the calls: the engine's table is that of the items, and stands for what stands, ..
  abbrev pub TablesStandForItems : Type 0
  TablesStandForItems = (held : ℕ → Holding) (past : List Event)
      → (owned_table (by_number s held) past ≡ items_after asks_by room_by new_table (items s.limits past)) × IsTableFor (clock past) (standing past) (owned_table (by_number s held) past)

  -- .. the keys that it keeps, and are not expired, are those that are live in what stands, ..
  abbrev pub LiveKeysAreKept : Type 0
  LiveKeysAreKept = (held : ℕ → Holding) (past : List Event) → keys_of (unexpired (clock past) (owned_table (by_number s held) past).entries) ≡ live_keys (clock past) (requests_of (standing past).performed)

  -- .. and it answers what an event brings with the numbers of what stands.
  abbrev pub AnswersAreNumbers : Type 0
  AnswersAreNumbers = (held : ℕ → Holding) (past : List Event) (e : Event) → owned_says (by_number s held) past e ≡ number_answers asks_by room_by (standing past) (brought s.limits past e)

  -- Of two requests that stand with one key the first had expired when the other came, and the other had not.
  abbrev pub KeyStandsLaterInPast : Type 0
  KeyStandsLaterInPast = (past : List Event) (front between rest : List (Numbered Wanted)) (p q : Numbered Wanted) (key : RequestKey) (early late : ℕ)
      → (standing past).performed ≡ front ++ p ∷ between ++ q ∷ rest → p.arrival.field ≡ Present key early → q.arrival.field ≡ Present key late
      → (early < q.arrival.clock) × (q.arrival.clock ≤ late)

  -- Where the arrivals with a key carry one expiration, not two requests stand with it, whatever the others carry.
  abbrev pub KeyStandsOnceInPast : Type 0
  KeyStandsOnceInPast = (past : List Event) (front between rest : List (Numbered Wanted)) (p q : Numbered Wanted) (key : RequestKey) (early late : ℕ) → OneExpirationOf key (arrivals s.limits past)
      → (standing past).performed ≡ front ++ p ∷ between ++ q ∷ rest → p.arrival.field ≡ Present key early → q.arrival.field ≡ Present key late → ⊥

  -- A repeat of what stands, before either has expired, is answered with its number, and no call is taken, whatever expiration it carries.
  abbrev pub HeldTakeNothing : Type 0
  HeldTakeNothing = (held : ℕ → Holding) (past : List Event) (e : Event) (front rest : List (Arrival Wanted)) (p : Numbered Wanted) (a : Arrival Wanted) (key : RequestKey) (early late : ℕ)
      → completed s.limits past e ≡ front ++ a ∷ rest → Contains (standing_with past front).performed p
      → p.arrival.field ≡ Present key early → a.field ≡ Present key late → a.clock ≤ early → a.clock ≤ late
      → let rules = owned_rules (by_number s held) in let t = table_after rules (owned_table (by_number s held) past) front in
      ((table_step rules t a).1 ≡ Ok p.number) × ((table_step rules t a).0.state ≡ t.state)

  -- Where the arrivals with a key carry one expiration, a repeat of what stands, not after its expiration, is answered with its number, and no call is taken.
  abbrev pub RepeatsTakeNothing : Type 0
  RepeatsTakeNothing = (held : ℕ → Holding) (past : List Event) (e : Event) (front rest : List (Arrival Wanted)) (p : Numbered Wanted) (a : Arrival Wanted) (key : RequestKey) (early late : ℕ)
      → completed s.limits past e ≡ front ++ a ∷ rest → OneExpirationOf key (arrivals s.limits past ++ front ++ a ∷ [])
      → Contains (standing_with past front).performed p → p.arrival.field ≡ Present key early → a.field ≡ Present key late → a.clock ≤ late
      → let rules = owned_rules (by_number s held) in let t = table_after rules (owned_table (by_number s held) past) front in
      ((table_step rules t a).1 ≡ Ok p.number) × ((table_step rules t a).0.state ≡ t.state)

  -- A request whose key is not held, not after its expiration, is answered with the next number, and its call is taken, where it asks for
  -- one and there is room; where there is no room it is answered NO_RESOURCES, and no call is taken.
  abbrev pub FirstsAreTaken : Type 0
  FirstsAreTaken = (held : ℕ → Holding) (past : List Event) (e : Event) (front rest : List (Arrival Wanted)) (a : Arrival Wanted) (key : RequestKey) (expiration : ℕ) (call : Call) (room : Bool)
      → completed s.limits past e ≡ front ++ a ∷ rest → a.field ≡ Present key expiration → a.clock ≤ expiration → asks_by a.content ≡ Ok call
      → IsFalse (is_held (requests_of (standing_with past front).performed) a.clock key) → room_by key (live_keys a.clock (requests_of (standing_with past front).performed)) ≡ room
      → let rules = owned_rules (by_number s held) in let t = table_after rules (owned_table (by_number s held) past) front in
      ((table_step rules t a).1 ≡ (if room then Ok (length t.state) else Err NoResources)) × ((table_step rules t a).0.state ≡ (if room then t.state ++ call ∷ [] else t.state))

  -- Where the capacity is enough for the share of each client that has a live key, and of the one that asks, only a client that has used
  -- up its own share by what stands is answered NO_RESOURCES: what was declined does not count.
  abbrev pub RoomForStandingClients : Type 0
  RoomForStandingClients = (held : ℕ → Holding) (past : List Event) (e : Event) (front rest : List (Arrival Wanted)) (a : Arrival Wanted) (key : RequestKey) (expiration : ℕ)
      → completed s.limits past e ≡ front ++ a ∷ rest → a.field ≡ Present key expiration
      → let live = live_keys a.clock (requests_of (standing_with past front).performed) in let rules = owned_rules (by_number s held) in
      s.share * clients_in (key ∷ live) ≤ s.capacity → (table_step rules (table_after rules (owned_table (by_number s held) past) front) a).1 ≡ Err NoResources
      → s.share ≤ held_of key.client_id live

  -- The call of a number is what the request asks that stands under it.
  abbrev pub CallsAreTheirs : Type 0
  CallsAreTheirs = (held : ℕ → Holding) (past : List Event) (p : Numbered Wanted) → Contains (standing past).performed p
      → (call : Call) × (asks_by p.arrival.content ≡ Ok call) × (slice_get (owned_table (by_number s held) past).state p.number ≡ Some call)

  -- What was performed stands until its call is withdrawn, ..
  abbrev pub StandsTillDeclined : Type 0
  StandsTillDeclined = (past later : List Event) (p : Numbered Wanted)
      → Contains (standing past).performed p → (Contains later (Withdrew p.number) → ⊥) → Contains (standing (later ++ past)).performed p

  -- .. what is withdrawn never stands again, ..
  abbrev pub DeclinedForGood : Type 0
  DeclinedForGood = (past later : List Event) (p : Numbered Wanted) (i : ℕ)
      → i < length (standing past).calls → Contains (standing (later ++ Withdrew i ∷ past)).performed p → p.number ≡ i → ⊥

  -- .. where the arrivals with its key carry one expiration the key is held no longer, so a repeat of it is as good as new, ..
  abbrev pub DeclinedIsFree : Type 0
  DeclinedIsFree = (past : List Event) (p : Numbered Wanted) (clock : ℕ) (key : RequestKey) (early : ℕ) → OneExpirationOf key (arrivals s.limits past)
      → Contains (standing past).performed p → p.arrival.field ≡ Present key early → IsFalse (is_held (requests_of (standing (Withdrew p.number ∷ past)).performed) clock key)

  -- .. and where the last request of an event is declined at once, what stood before it stands.
  abbrev pub DeclinedAtOnce : Type 0
  DeclinedAtOnce = (past : List Event) (e : Event) (front : List (Arrival Wanted)) (a : Arrival Wanted) → let before = standing_with past front in
      completed s.limits past e ≡ front ++ a ∷ [] → IsTrue (acts_now (number_rules asks_by room_by) (requests_of before.performed) a)
      → (standing (Withdrew (length before.calls) ∷ e ∷ past)).performed ≡ before.performed

  -- Where nothing is withdrawn, the items are the arrivals.
  abbrev pub NothingDeclined : Type 0
  NothingDeclined = (past : List Event) → KeepsAll past → items s.limits past ≡ map (λ a. Arrives a) (arrivals s.limits past)

  -- all that is said of a past in which calls were declined
  pub record PastsStand : Type 0 where
    pub table : TablesStandForItems
    pub live : LiveKeysAreKept
    pub answers : AnswersAreNumbers
    pub later : KeyStandsLaterInPast
    pub once : KeyStandsOnceInPast
    pub held : HeldTakeNothing
    pub repeats : RepeatsTakeNothing
    pub first : FirstsAreTaken
    pub fair : RoomForStandingClients
    pub theirs : CallsAreTheirs
    pub stands : StandsTillDeclined
    pub gone : DeclinedForGood
    pub free : DeclinedIsFree
    pub at_once : DeclinedAtOnce
    pub without : NothingDeclined
