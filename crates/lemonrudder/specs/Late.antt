-- What a call on a server does to what it stands for, also where requests were refused before: by what is known of the calls that
-- were taken. At rest a server `Stays`, and while a request waits it `AsksLate`.
use Rattle.std.specs.Prelude.{◌≡◌, ℕ, ◌+◌, Bool, true, not, List, [], ◌∷◌, ◌++◌, length, IfOk, Some, Result}
use Rattle.ft_log.specs.Holding.{Holding, known}
use Rattle.ft_log.specs.Performed.{Performed}
use Rattle.ft_objects.specs.Families.{families_offer}
use Rattle.ft_orb.specs.declared.engine.Taken.{Taken}
use Rattle.ft_orb.specs.declared.error.ConnectError.{ConnectError}
use Rattle.ft_orb.specs.declared.error.ServeError.{ServeError}
use Rattle.ft_orb.specs.declared.events.Note.TheVariants.{Memory, Refused}
use Rattle.ft_orb.specs.declared.parked.Waiter.{Waiter}
use Rattle.ft_orb.specs.Carrying.{asker_in, reply_if, unless_failed}
use Rattle.ft_orb.specs.Bounds.{StopsWhereDue, fed_in, piece_in}
use Rattle.ft_orb.specs.Engines.{Awaited, EndsHeard, counts_in}
use Rattle.ft_orb.specs.History.{Close, Event, Gone, Lost, Opened, Piece, completed, does_count, line}
use Rattle.ft_orb.specs.Outputs.{is_going}
use Rattle.ft_orb.specs.Parking.{AsksLate, EndsLate, FeedsLate, ResumesLate, Settings, Stays, put_at, still}
use Rattle.ft_orb.specs.Requests.{Call}
use Rattle.ft_orb.specs.Standing.{note_of, note_of_opening}
use Rattle.ft_orb.specs.Tallies.{AreCounted}
use Rattle.lemonrudder.specs.declared.serving.Serving.{Serving}
use Rattle.lemonrudder.specs.Connected.{owed_in}

-- of all for which a server may stand at rest
abbrev pub WhereStays : Serving → (Settings → (ℕ → Holding) → List Call → List Event → (ℕ → List Waiter) → Type 0) → Type 0
WhereStays s Does = (x : Settings) (held : ℕ → Holding) (calls : List Call) (past : List Event) (waiting : ℕ → List Waiter) → Stays families_offer x held calls s.engine past waiting → Does x held calls past waiting

-- .. and while a request waits
abbrev pub WhereAsks : Serving → (Settings → (ℕ → Holding) → List Call → List Event → (ℕ → List Waiter) → ℕ → (octets written : List ℕ) → Awaited → Type 0) → Type 0
WhereAsks s Does = (x : Settings) (held : ℕ → Holding) (calls : List Call) (past : List Event) (waiting : ℕ → List Waiter) (moment : ℕ) (octets written : List ℕ) (w : Awaited)
    → AsksLate families_offer x held calls s.engine past waiting moment octets written w → Does x held calls past waiting moment octets written w

-- a number is new: greater than that of each connection before
abbrev pub IsNewLate : ℕ → Serving → Type 0
IsNewLate c s = WhereStays s (λ x held calls past waiting. does_count past c ≡ true)

-- a connection is opened
abbrev pub OpensLate : ℕ → Serving → Serving → Result (Unit {0}) ConnectError → Type 0
OpensLate c s t o = WhereStays s (λ x held calls past waiting. EndsLate families_offer x held calls past waiting (Opened c) (note_of_opening o) t.engine [] [])

-- a connection is lost
abbrev pub LosesLate : ℕ → Serving → Serving → Type 0
LosesLate c s t = WhereStays s (λ x held calls past waiting. Stays families_offer x held calls t.engine (Lost c ∷ past) (still x.limits (Lost c ∷ past) waiting))

-- a connection is closed, and what is written is due after what was
abbrev pub ClosesLate : ℕ → Serving → Serving → Result (Unit {0}) ServeError → Type 0
ClosesLate c s t o = WhereStays s (λ x held calls past waiting. EndsLate families_offer x held calls past waiting (Close c) (note_of o) t.engine (owed_in s.connections c) (owed_in t.connections c))

-- it is reported whether what comes on a connection has no meaning
abbrev pub IsClosedLate : ℕ → Bool → Serving → Type 0
IsClosedLate c closed s = WhereStays s (λ x held calls past waiting. closed ≡ not (is_going x.limits (line past c)))
    × WhereAsks s (λ x held calls past waiting moment octets written w. closed ≡ not (is_going x.limits (line (Piece w.connection moment octets ∷ past) c)))

-- octets of a connection are taken until as many are due as may be, and what is written is due after what was; what becomes of each arrival
-- is counted; and where its stream ends it has ended, for that reason
abbrev pub TakesLate : (c moment : ℕ) → List ℕ → Serving → Serving → Result Taken ServeError → Type 0
TakesLate c moment octets s t f = WhereStays s (λ x held calls past waiting.
    FeedsLate families_offer x held calls past waiting c moment (piece_in octets f) (fed_in f) t.engine (owed_in s.connections c) (owed_in t.connections c)
    × StopsWhereDue x held past s.setup.terms.due (length (owed_in s.connections c)) c moment octets f
    × IfOk (fed_in f) (λ fed. EndsHeard s.engine t.engine c x.limits (line past c) (piece_in octets f) fed)
    × AreCounted x held past c moment (piece_in octets f) (fed_in f) (counts_in s.engine) (counts_in t.engine))

-- a moment has come
abbrev pub TicksLate : ℕ → Serving → Serving → Type 0
TicksLate moment s t = (x : Settings) (held : ℕ → Holding) (calls : List Call) (past : List Event) (waiting : ℕ → List Waiter) (c : ℕ) → Stays families_offer x held calls s.engine past waiting
    → line past c ≡ Gone → EndsLate families_offer x held calls past waiting (Piece c moment []) Refused t.engine [] []

-- what waits has this outcome, and the answer is due after what was, on its connection, but for the service contexts that it carries
abbrev pub AnswersLate : ℕ → Performed → Serving → Serving → Result (Unit {0}) ServeError → Type 0
AnswersLate c outcome s t o = WhereAsks s (λ x held calls past waiting moment octets written w.
    ResumesLate families_offer x (put_at (length calls) (known outcome) held) (calls ++ w.call ∷ []) past waiting w.connection moment octets written (note_of o) t.engine
    (owed_in s.connections c) (owed_in s.connections c ++ unless_failed o (reply_if [] (asker_in s.engine) (Some outcome))))

-- what waits does not count, and its connection is lost: n requests and locates of its piece were answered before
abbrev pub ForgetsLate : ℕ → Serving → Serving → Type 0
ForgetsLate n s t = WhereAsks s (λ x held calls past waiting moment octets written w. (n + 1 ≡ length (completed x.limits past (Piece w.connection moment octets)))
    × ResumesLate families_offer x held calls past waiting w.connection moment octets written (Memory n n) t.engine [] [])
