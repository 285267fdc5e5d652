-- What became of an engine, deed after deed, as data: its owner answers, parks and settles in any order, and at any time.
use Rattle.std.specs.Prelude.{◌≡◌, ◌==◌, ℕ, zero, suc, ◌+◌, ◌<◌, Bool, true, false, not, nat_lt, ◌&&◌, ◌⊎◌, if◌then◌else◌, List, [], ◌∷◌, ◌++◌, flat_map, length, map, take, Option, Some, None, Ok}
use Rattle.std.specs.List.{list_any}
use Rattle.std.specs.Option.{option_map_or}
use Rattle.giop_link.specs.Hearing.{Question}
use Rattle.ft_log.specs.Holding.{Holding, known, parked}
use Rattle.ft_log.specs.Performed.{Performed}
use Rattle.ft_objects.specs.Interfaces.{Interface, IsAnswerOf}
use Rattle.ft_objects.specs.Replies.{IsRenderable}
use Rattle.ft_orb.specs.declared.events.Note.{Note}
use Rattle.ft_orb.specs.declared.events.Note.TheVariants.{Done, Memory}
use Rattle.ft_orb.specs.declared.parked.Waiter.{Waiter}
use Rattle.ft_orb.specs.Engines.{Awaited}
use Rattle.ft_orb.specs.Declined.{asks_by, brought, room_by, standing}
use Rattle.ft_orb.specs.ExactlyOnce.{Arrival, OneExpiration}
use Rattle.ft_orb.specs.History.{Changed, Close, Event, KeepsAll, Lost, Opened, Piece, Withdrew, arrivals, changes, completed, connection_of, origin, shortened}
use Rattle.ft_orb.specs.Outputs.{Noted, WritesBy, after, output_cut}
use Rattle.ft_orb.specs.Owners.{owned_law, owned_now, owned_rules, owned_says, owned_table}
use Rattle.ft_orb.specs.Parked.{is_wished, on_going}
use Rattle.ft_orb.specs.Parking.{Settings, by_number, goes_on, numbering, put_at, still, unless_placed, waiter_of, own_of}
use Rattle.ft_orb.specs.Requests.{Call, Wanted, asked_at, asking, refusal_at}
use Rattle.ft_orb.specs.Table.{table_after, table_step}
use Rattle.ft_orb.specs.Tellings.{Later, nothing_yet, reply_by}
use Rattle.ft_orb.specs.Withdrawing.{number_answers}

-- a request that waits for its outcome: the octets that it came in, at this moment, what was written for those before it in them, and
-- how it asks
pub record Asking : Type 0 where
  pub moment : ℕ
  pub octets : List ℕ
  pub written : List ℕ
  pub request : Awaited
  pub question : Question

-- What is known of an engine: of each call the outcome, or the number under which it is parked; the calls that were taken; what
-- happened; who waits under each number; the request that waits, if one does; how many were asked for; and what is parked under each
-- number.
pub record Ledger : Type 0 where
  pub held : ℕ → Holding
  pub calls : List Call
  pub past : List Event
  pub waiting : ℕ → List Waiter
  pub asking : Option Asking
  pub asked : ℕ
  pub there : ℕ → Option Awaited

-- that of a new engine
abbrev pub opening : (ℕ → Holding) → Ledger
opening held = record { held = held; calls = []; past = []; waiting = λ n. []; asking = None; asked = 0; there = λ n. None }

-- so many octets of a piece, which comes on a connection at a moment
pub record Part : Type 0 where
  pub connection : ℕ
  pub moment : ℕ
  pub piece : List ℕ
  pub taken : ℕ

-- one who waited: a reply to it was made, or an allocation failed for it and its connection is lost
pub data Told : Type 0 where
  Reached : Waiter → Told
  Missed : Waiter → Told

-- Something happened, to its end; a part of a piece was taken, up to a request that waits now, or to a repeat of one that is parked
-- under a number, which these joined; the request that waits was answered, or parked, and these wait for it, or it was given up; or call
-- i, which was parked under number n, has its outcome, and these were told. Unkept: an outcome was told, at once or to these, and nothing
-- is kept of the call. A decline is the case of a system exception with COMPLETED_NO.
pub data Deed : Type 0 where
  Happened : Event → (written : List ℕ) → Note → Deed
  Stopped : Part → (written : List ℕ) → Awaited → Question → Deed
  Joined : Part → (written : List ℕ) → (number : ℕ) → List Waiter → Deed
  Answered : Asking → Performed → (written : List ℕ) → Note → Deed
  Parked : Asking → List Waiter → Deed
  GivenUp : Asking → (handled : ℕ) → Deed
  Settled : (i n : ℕ) → Performed → List Told → Deed
  AnsweredUnkept : Asking → Performed → (written : List ℕ) → Deed
  SettledUnkept : (i n : ℕ) → Performed → List Told → Deed

-- what is served changes: nothing is written
abbrev pub changing : Deed
changing = Happened Changed [] Done

-- what happened in them
abbrev pub part_of : Part → Event
part_of p = Piece p.connection p.moment (take p.taken p.piece)

abbrev pub piece_of : Asking → Event
piece_of a = Piece a.request.connection a.moment a.octets

-- the reply to one who waited
abbrev pub reply_to : Performed → Waiter → List ℕ
reply_to outcome w = reply_by w.asker.wish w.asker.version w.asker.request_id outcome

-- what was written, on which connection
abbrev pub note_told : Performed → Told → Noted
note_told outcome (Reached w) = record { connection = w.connection; octets = reply_to outcome w; note = Done }
note_told outcome (Missed w) = record { connection = w.connection; octets = []; note = Memory 0 0 }

-- .. where something happened on one: what is served changes on none
abbrev pub notes_on : Event → List ℕ → Note → List Noted
notes_on Changed written note = []
notes_on e written note = record { connection = connection_of e; octets = written; note = note } ∷ []

abbrev pub notes_of : Deed → List Noted
notes_of (Happened e written note) = notes_on e written note
notes_of (Stopped p written w q) = record { connection = p.connection; octets = written; note = Done } ∷ []
notes_of (Joined p written n joined) = record { connection = p.connection; octets = written; note = Done } ∷ []
notes_of (Answered a outcome written note) = record { connection = a.request.connection; octets = written; note = note } ∷ []
notes_of (Parked a own) = []
notes_of (GivenUp a handled) = record { connection = a.request.connection; octets = []; note = Memory handled handled } ∷ []
notes_of (Settled i n outcome told) = map (note_told outcome) told
notes_of (AnsweredUnkept a outcome written) = record { connection = a.request.connection; octets = written; note = Done } ∷ []
notes_of (SettledUnkept i n outcome told) = map (note_told outcome) told

-- who came to wait under number n, and to whom a reply was made that waited under it
abbrev pub came_to : ℕ → Deed → List Waiter
came_to n (Happened e written note) = []
came_to n (Stopped p written w q) = []
came_to n (Joined p written m joined) = if n == m then joined else []
came_to n (Answered a outcome written note) = []
came_to n (Parked a own) = if n == a.request.number then own else []
came_to n (GivenUp a handled) = []
came_to n (Settled i m outcome told) = []
came_to n (AnsweredUnkept a outcome written) = []
came_to n (SettledUnkept i m outcome told) = []

abbrev pub reached : List Told → List Waiter
reached [] = []
reached (Reached w ∷ later) = w ∷ reached later
reached (Missed w ∷ later) = reached later

abbrev pub told_of : ℕ → Deed → List Waiter
told_of n (Happened e written note) = []
told_of n (Stopped p written w q) = []
told_of n (Joined p written m joined) = []
told_of n (Answered a outcome written note) = []
told_of n (Parked a own) = []
told_of n (GivenUp a handled) = []
told_of n (Settled i m outcome told) = if n == m then reached told else []
told_of n (AnsweredUnkept a outcome written) = []
told_of n (SettledUnkept i m outcome told) = if n == m then reached told else []

-- how many of the first numbers have a request under them that passes a test
abbrev pub count_under : (Awaited → Bool) → (ℕ → Option Awaited) → ℕ → ℕ
count_under test there zero = 0
count_under test there (suc n) = if option_map_or test (there n) false then count_under test there n + 1 else count_under test there n

-- where a connection is closed, nobody waits on it; and no call is withdrawn by itself: its outcome is told
abbrev pub IsUnawaited : Event → (ℕ → List Waiter) → Type 0
IsUnawaited (Opened c) waiting = Unit {0}
IsUnawaited (Piece c moment octets) waiting = Unit {0}
IsUnawaited (Close c) waiting = (n : ℕ) → list_any (λ w. w.connection == c) (waiting n) ≡ false
IsUnawaited (Lost c) waiting = Unit {0}
IsUnawaited (Withdrew i) waiting = ⊥
IsUnawaited Changed waiting = Unit {0}

-- something was settled under number n, kept or not
abbrev pub settles : ℕ → Deed → Bool
settles n (Happened e written note) = false
settles n (Stopped p written w q) = false
settles n (Joined p written m joined) = false
settles n (Answered a outcome written note) = false
settles n (Parked a own) = false
settles n (GivenUp a handled) = false
settles n (Settled i m outcome told) = n == m
settles n (AnsweredUnkept a outcome written) = false
settles n (SettledUnkept i m outcome told) = n == m

-- of a call an outcome is told in it, and nothing is kept
abbrev pub is_unkept : Deed → Bool
is_unkept (Happened e written note) = false
is_unkept (Stopped p written w q) = false
is_unkept (Joined p written n joined) = false
is_unkept (Answered a outcome written note) = false
is_unkept (Parked a own) = false
is_unkept (GivenUp a handled) = false
is_unkept (Settled i n outcome told) = false
is_unkept (AnsweredUnkept a outcome written) = true
is_unkept (SettledUnkept i n outcome told) = true

-- the ledger once nothing is kept for call i any more
abbrev pub without_call : (i : ℕ) → Ledger → Ledger
without_call i g = record g { past = Withdrew i ∷ g.past }

-- all but the first
abbrev pub rest_of : List Waiter → List Waiter
rest_of [] = []
rest_of (w ∷ ws) = ws

-- The second list is the first, in its order, without some whose connections don't go on.
abbrev pub IsLeftOf : (ℕ → Bool) → List Waiter → List Waiter → Type 0
IsLeftOf goes [] left = left ≡ []
IsLeftOf goes (w ∷ ws) left = ((goes w.connection ≡ false) × IsLeftOf goes ws left) ⊎ ((rest : List Waiter) × (left ≡ w ∷ rest) × IsLeftOf goes ws rest)

-- no two calls are parked under one number
abbrev pub AreApart : Ledger → Type 0
AreApart g = (i j n : ℕ) → i < length g.calls → j < length g.calls → g.held i ≡ parked n → g.held j ≡ parked n → i ≡ j

module _ (s : Settings) where
  -- these octets may be written for an event, where so much is known, and this is said of what is parked
  abbrev pub Wrote : Later → (ℕ → Holding) → List Event → Event → List ℕ → Note → Type 0
  Wrote late held past e written note = WritesBy s.limits (numbering s late held).tell (owned_says (numbering s late held)) past e written note

  -- the ledger with this past, in which those still wait whose connections go on, and no request
  abbrev pub rested : Ledger → (ℕ → Holding) → List Call → List Event → (ℕ → List Waiter) → Ledger
  rested g held calls past waiting = record g { held = held; calls = calls; past = past; waiting = still s.limits past waiting; asking = None }

  -- the first who waits under number n was told
  abbrev pub told_one : ℕ → Ledger → Told → Ledger
  told_one n g (Reached w) = record g { waiting = put_at n (rest_of (g.waiting n)) g.waiting }
  told_one n g (Missed w) = rested g g.held g.calls (Lost w.connection ∷ g.past) (put_at n (rest_of (g.waiting n)) g.waiting)

  abbrev pub told_all : ℕ → Ledger → List Told → Ledger
  told_all n g [] = g
  told_all n g (t ∷ later) = told_all n (told_one n g t) later

  -- the ledger after a deed
  abbrev pub after_deed : Ledger → Deed → Ledger
  after_deed g (Happened e written note) = rested g g.held g.calls (after s.limits g.past e note) g.waiting
  after_deed g (Stopped p written w q) = record g { asking = Some (record { moment = p.moment; octets = take p.taken p.piece; written = written; request = w; question = q }); asked = g.asked + 1 }
  after_deed g (Joined p written n joined) = rested g g.held g.calls (part_of p ∷ g.past) (put_at n (g.waiting n ++ joined) g.waiting)
  after_deed g (Answered a outcome written note) = rested g (put_at (length g.calls) (known outcome) g.held) (g.calls ++ a.request.call ∷ []) (after s.limits g.past (piece_of a) note) g.waiting
  after_deed g (Parked a own) = rested (record g { there = put_at a.request.number (Some a.request) g.there }) (put_at (length g.calls) (parked a.request.number) g.held) (g.calls ++ a.request.call ∷ []) (piece_of a ∷ g.past) (put_at a.request.number own g.waiting)
  after_deed g (GivenUp a handled) = rested g g.held g.calls (after s.limits g.past (piece_of a) (Memory handled handled)) g.waiting
  after_deed g (AnsweredUnkept a outcome written) = rested g (put_at (length g.calls) (known outcome) g.held) (g.calls ++ a.request.call ∷ []) (Withdrew (length g.calls) ∷ piece_of a ∷ g.past) g.waiting
  after_deed g (SettledUnkept i n outcome told) = record (told_all n (without_call i g) told) { held = put_at i (known outcome) g.held; calls = g.calls; asking = None; asked = g.asked; there = put_at n None g.there }
  after_deed g (Settled i n outcome told) = record (told_all n g told) { held = put_at i (known outcome) g.held; calls = g.calls; asking = None; asked = g.asked; there = put_at n None g.there }

  abbrev pub after_deeds : Ledger → List Deed → Ledger
  after_deeds g [] = g
  after_deeds g (d ∷ later) = after_deeds (after_deed g d) later

  -- the calls that were taken are those that were performed for what happened
  abbrev pub AreTaken : Ledger → Type 0
  AreTaken g = g.calls ≡ (owned_table (by_number s g.held) g.past).state

  -- The part is the shortest front of its piece that completes this request, which is a call. What was written are the answers to those
  -- before it, which are no calls, and repeat nothing that is parked: whatever would be said of that, nobody was told.
  pub record Stops (g : Ledger) (p : Part) (written : List ℕ) (w : Awaited) (question : Question) : Type 0 where
    pub connection : w.connection ≡ p.connection
    pub number : w.number ≡ g.asked
    pub front : List (Arrival Wanted)
    pub last : Arrival Wanted
    pub completes : completed s.limits g.past (part_of p) ≡ front ++ last ∷ []
    pub short : shortened s.limits g.past (Piece p.connection p.moment p.piece) (length front + 1) ≡ part_of p
    pub content : last.content ≡ asking (origin g.past p.connection) question
    pub asks : asked_at s.terms last.content ≡ Ok w.call
    pub field : last.field ≡ w.field
    pub refused : w.refused ≡ refusal_at s.terms last.content
    pub out : (late : Later) → written ≡ output_cut s.limits (numbering s late g.held).tell (owned_says (numbering s late g.held)) g.past (part_of p) (length front)
    pub before : (table_after (owned_rules (by_number s g.held)) (owned_table (by_number s g.held) g.past) front).state ≡ g.calls
    pub acts : (table_step (owned_rules (by_number s g.held)) (table_after (owned_rules (by_number s g.held)) (owned_table (by_number s g.held) g.past) front) last).0.state ≡ g.calls ++ w.call ∷ []

  -- The part ends with a repeat of call i, which is parked under this number; none before it in the part does whose answer is wished
  -- for. It waits, where an answer is wished for and there is a place; where there is none it is told so.
  pub record Joins (g : Ledger) (p : Part) (written : List ℕ) (number : ℕ) (joined : List Waiter) : Type 0 where
    pub front : List (Arrival Wanted)
    pub last : Arrival Wanted
    pub completes : completed s.limits g.past (part_of p) ≡ front ++ last ∷ []
    pub short : shortened s.limits g.past (Piece p.connection p.moment p.piece) (length front + 1) ≡ part_of p
    pub question : Question
    pub content : last.content ≡ asking (origin g.past p.connection) question
    pub i : ℕ
    pub taken : i < length g.calls
    pub is_parked : g.held i ≡ parked number
    pub says : (table_step (owned_rules (by_number s g.held)) (table_after (owned_rules (by_number s g.held)) (owned_table (by_number s g.held) g.past) front) last).1 ≡ Ok i
    pub quiet : (late : Later) → output_cut s.limits (numbering s late g.held).tell (owned_says (by_number s g.held)) g.past (part_of p) (length front)
        ≡ output_cut s.limits (by_number s g.held).tell (owned_says (by_number s g.held)) g.past (part_of p) (length front)
    pub placed : Bool
    pub place_is : placed ≡ not (nat_lt s.places.joined (length (still s.limits (part_of p ∷ g.past) g.waiting number)))
    pub joined_are : joined ≡ (if is_wished question.wish && placed then waiter_of p.connection question ∷ [] else [])
    pub wrote : Wrote (unless_placed placed (s.terms (changes g.past)).knows) g.held g.past (part_of p) written Done

  -- These waited under number n, one after another, and were told this. No memory is taken for a reply without octets.
  abbrev pub AreTold : ℕ → Performed → Ledger → List Told → Type 0
  AreTold n outcome g [] = Unit {0}
  AreTold n outcome g (Reached w ∷ later) = ((rest : List Waiter) × (g.waiting n ≡ w ∷ rest)) × AreTold n outcome (told_one n g (Reached w)) later
  AreTold n outcome g (Missed w ∷ later) = ((rest : List Waiter) × (g.waiting n ≡ w ∷ rest)) × (0 < length (reply_to outcome w)) × AreTold n outcome (told_one n g (Missed w)) later

  -- no call is parked under this number, and nobody waits under it
  pub record IsFree (g : Ledger) (n : ℕ) : Type 0 where
    pub call : (i : ℕ) → i < length g.calls → g.held i ≡ parked n → ⊥
    pub nobody : g.waiting n ≡ []

  -- the outcome can be sent, and may be handed in for the operation of the request, as it is on offer now
  abbrev pub IsFor : (interface : List ℕ → List ℕ → Interface) → Option Awaited → Performed → Type 0
  IsFor interface None outcome = ⊥
  IsFor interface (Some w) outcome = IsRenderable outcome × IsAnswerOf (interface w.call.object_key w.call.operation) outcome

  -- no more are parked than there are places, in all and of the request's connection: all numbers are below that of the next
  abbrev pub HasPlace : Ledger → Awaited → Type 0
  HasPlace g w = (count_under (λ x. true) g.there g.asked < s.places.parked) × (count_under (λ x. x.connection == w.connection) g.there g.asked < s.places.of_one)

  -- A deed is one of an engine of which this is known: what was written is what its rules say, which see no outcome; what is parked
  -- keeps nobody from going on; and the calls that are taken by then are those that were performed.
  abbrev pub IsDeed : Ledger → Deed → Type 0
  IsDeed g (Happened e written note) = (g.asking ≡ None) × ((late : Later) → Wrote late g.held g.past e written note) × AreTaken (after_deed g (Happened e written note)) × IsUnawaited e g.waiting
  IsDeed g (Stopped p written w q) = (g.asking ≡ None) × Stops g p written w q
  IsDeed g (Joined p written n joined) = (g.asking ≡ None) × Joins g p written n joined × AreTaken (after_deed g (Joined p written n joined))
  IsDeed g (Answered a outcome written note) = (g.asking ≡ Some a) × Wrote nothing_yet (put_at (length g.calls) (known outcome) g.held) g.past (piece_of a) (a.written ++ written) note
      × AreTaken (after_deed g (Answered a outcome written note)) × IsFor (s.terms (changes g.past)).interface (Some a.request) outcome
  IsDeed g (Parked a own) = (g.asking ≡ Some a) × IsFree g a.request.number × (own ≡ on_going (goes_on s.limits (piece_of a ∷ g.past)) (own_of a.request.connection a.question))
      × Wrote nothing_yet (put_at (length g.calls) (parked a.request.number) g.held) g.past (piece_of a) a.written Done × AreTaken (after_deed g (Parked a own)) × HasPlace g a.request
  IsDeed g (GivenUp a handled) = (g.asking ≡ Some a) × Wrote nothing_yet g.held g.past (piece_of a) a.written (Memory handled handled) × AreTaken (after_deed g (GivenUp a handled))
      × (handled + 1 ≡ length (completed s.limits g.past (piece_of a)))
  IsDeed g (AnsweredUnkept a outcome written) = (g.asking ≡ Some a) × Wrote nothing_yet (put_at (length g.calls) (known outcome) g.held) g.past (piece_of a) (a.written ++ written) Done × AreTaken (after_deed g (AnsweredUnkept a outcome written))
      × IsRenderable outcome
  IsDeed g (SettledUnkept i n outcome told) = (g.asking ≡ None) × (i < length g.calls) × (g.held i ≡ parked n) × AreTold n outcome (without_call i g) told × ((told_all n (without_call i g) told).waiting n ≡ [])
      × AreTaken (after_deed g (SettledUnkept i n outcome told)) × IsFor (s.terms (changes g.past)).interface (g.there n) outcome
  IsDeed g (Settled i n outcome told) = (g.asking ≡ None) × (i < length g.calls) × (g.held i ≡ parked n) × AreTold n outcome g told × ((told_all n g told).waiting n ≡ []) × AreTaken (after_deed g (Settled i n outcome told)) × IsFor (s.terms (changes g.past)).interface (g.there n) outcome

  -- deeds one after another, from a ledger on
  abbrev pub Runs : Ledger → List Deed → Type 0
  Runs g [] = Unit {0}
  Runs g (d ∷ later) = IsDeed g d × Runs (after_deed g d) later

  -- One deed is a run ..
  abbrev pub DeedsAreRuns : Type 0
  DeedsAreRuns = (g : Ledger) (d : Deed) → IsDeed g d → Runs g (d ∷ [])

  -- .. and runs join.
  abbrev pub RunsJoin : Type 0
  RunsJoin = (g : Ledger) (xs ys : List Deed) → Runs g xs → Runs (after_deeds g xs) ys → Runs g (xs ++ ys) × (after_deeds g (xs ++ ys) ≡ after_deeds (after_deeds g xs) ys)

  -- Calls that were taken stay so ..
  abbrev pub CallsGrow : Type 0
  CallsGrow = (g : Ledger) (ds : List Deed) → Runs g ds → (more : List Call) × ((after_deeds g ds).calls ≡ g.calls ++ more)

  -- .. and are those that were performed for what happened ..
  abbrev pub CallsAreTaken : Type 0
  CallsAreTaken = (g : Ledger) (ds : List Deed) → Runs g ds → AreTaken g → AreTaken (after_deeds g ds)

  -- .. and what is known of one stays known: it has one outcome, for ever.
  abbrev pub KnownGrows : Type 0
  KnownGrows = (g : Ledger) (ds : List Deed) (i : ℕ) (outcome : Performed) → Runs g ds → i < length g.calls → g.held i ≡ known outcome → (after_deeds g ds).held i ≡ known outcome

  -- So the outcome that is known of a call at the end is the one that was written when it was answered at once ..
  abbrev pub AnsweredAreKnown : Type 0
  AnsweredAreKnown = (g : Ledger) (xs ys : List Deed) (a : Asking) (outcome : Performed) (written : List ℕ) (note : Note) → Runs g (xs ++ Answered a outcome written note ∷ ys)
      → (after_deeds g (xs ++ Answered a outcome written note ∷ ys)).held (length (after_deeds g xs).calls) ≡ known outcome

  -- .. and the one that was told to all who waited for it ..
  abbrev pub ToldAreKnown : Type 0
  ToldAreKnown = (g : Ledger) (xs ys : List Deed) (i n : ℕ) (outcome : Performed) (told : List Told) → Runs g (xs ++ Settled i n outcome told ∷ ys) → (after_deeds g (xs ++ Settled i n outcome told ∷ ys)).held i ≡ known outcome

  -- .. or that was told to them unkept ..
  abbrev pub SettledUnkeptAreKnown : Type 0
  SettledUnkeptAreKnown = (g : Ledger) (xs ys : List Deed) (i n : ℕ) (outcome : Performed) (told : List Told) → Runs g (xs ++ SettledUnkept i n outcome told ∷ ys) → (after_deeds g (xs ++ SettledUnkept i n outcome told ∷ ys)).held i ≡ known outcome

  -- .. or to the one who asked.
  abbrev pub AnsweredUnkeptAreKnown : Type 0
  AnsweredUnkeptAreKnown = (g : Ledger) (xs ys : List Deed) (a : Asking) (outcome : Performed) (written : List ℕ) → Runs g (xs ++ AnsweredUnkept a outcome written ∷ ys)
      → (after_deeds g (xs ++ AnsweredUnkept a outcome written ∷ ys)).held (length (after_deeds g xs).calls) ≡ known outcome

  -- Where something is kept of each call of a run, none is withdrawn.
  abbrev pub RunsKeepAll : Type 0
  RunsKeepAll = (g : Ledger) (ds : List Deed) → Runs g ds → KeepsAll g.past → list_any is_unkept ds ≡ false → KeepsAll (after_deeds g ds).past

  -- Where no call was withdrawn, what was written is what looking back over all arrivals says, each key by itself and whatever
  -- expirations requests carry ..
  abbrev pub WrittenNow : Type 0
  WrittenNow = (late : Later) (held : ℕ → Holding) (past : List Event) (e : Event) (written : List ℕ) (note : Note) → KeepsAll past → Wrote late held past e written note
      → WritesBy s.limits (numbering s late held).tell (owned_now (numbering s late held)) past e written note

  -- .. and where requests with one key carry one expiration, what the fold that remembers all says.
  abbrev pub WrittenOnce : Type 0
  WrittenOnce = (late : Later) (held : ℕ → Holding) (past : List Event) (e : Event) (written : List ℕ) (note : Note) → KeepsAll past → OneExpiration (arrivals s.limits (after s.limits past e note)) → Wrote late held past e written note
      → WritesBy s.limits (numbering s late held).tell (owned_law (numbering s late held)) past e written note

  -- .. and, also where some were withdrawn, what stands says.
  abbrev pub WrittenStanding : Type 0
  WrittenStanding = (late : Later) (held : ℕ → Holding) (past : List Event) (e : Event) (written : List ℕ) (note : Note) → Wrote late held past e written note
      → WritesBy s.limits (numbering s late held).tell (λ p f. number_answers (asks_by s) (room_by s) (standing s p) (brought s.limits p f)) past e written note

  -- those who wait do so on connections that go on
  abbrev pub AreGoing : Ledger → Type 0
  AreGoing g = (n : ℕ) → still s.limits g.past g.waiting n ≡ g.waiting n

  -- Who was told, and who waits at the end, are those who came to wait under the number, each once and in the order in which they came,
  -- without some whose connections have ended by then. So nobody is told twice, and who is told nothing waits on, or has gone.
  abbrev pub ToldOnce : Type 0
  ToldOnce = (g : Ledger) (ds : List Deed) (n : ℕ) → Runs g ds → AreGoing g
      → IsLeftOf (goes_on s.limits (after_deeds g ds).past) (g.waiting n ++ flat_map (came_to n) ds) (flat_map (told_of n) ds ++ (after_deeds g ds).waiting n)

  -- What is settled under a number is the call that is parked under it, if nothing was settled under it in between: whoever joined call
  -- i is told the outcome of call i.
  abbrev pub SettledAreTheirs : Type 0
  SettledAreTheirs = (g : Ledger) (ds : List Deed) (ys : List Deed) (i j n : ℕ) (outcome : Performed) (told : List Told) → AreApart g → Runs g (ds ++ Settled j n outcome told ∷ ys)
      → i < length g.calls → g.held i ≡ parked n → list_any (settles n) ds ≡ false → i ≡ j

  -- .. kept or not.
  abbrev pub UnkeptAreTheirs : Type 0
  UnkeptAreTheirs = (g : Ledger) (ds ys : List Deed) (i j n : ℕ) (outcome : Performed) (told : List Told) → AreApart g → Runs g (ds ++ SettledUnkept j n outcome told ∷ ys)
      → i < length g.calls → g.held i ≡ parked n → list_any (settles n) ds ≡ false → i ≡ j

  -- For a repeat that joins nothing is performed, and it makes nothing known.
  abbrev pub JoinedAreNoCalls : Type 0
  JoinedAreNoCalls = (g : Ledger) (p : Part) (written : List ℕ) (n : ℕ) (joined : List Waiter) → AreTaken g → IsDeed g (Joined p written n joined)
      → ((owned_table (by_number s g.held) (part_of p ∷ g.past)).state ≡ (owned_table (by_number s g.held) g.past).state) × ((after_deed g (Joined p written n joined)).held ≡ g.held)
