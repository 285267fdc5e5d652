-- What the owner of an engine performs, and what is handed in to the engine for it.
use Rattle.std.specs.Prelude.{◌≡◌, ◌⊎◌, ℕ, ◌+◌, ◌<◌, ◌≤◌, false, List, [], ◌∷◌, ◌++◌, length, map, Option, Some, None}
use Rattle.std.specs.List.{AllByRecursion}
use Rattle.giop_frames.specs.declared.limits.Limits.{Limits}
use Rattle.ft_log.specs.Holding.{Holding, known}
use Rattle.ft_log.specs.Performed.{Performed, system}
use Rattle.ft_log.specs.View.{performed_in}
use Rattle.ft_log.specs.declared.outcome.Outcome.{Outcome}
use Rattle.ft_log.specs.declared.system_exception.Completion.TheVariants.{Maybe}
use Rattle.ft_log.specs.declared.system_exception.SystemName.TheVariants.{Internal}
use Rattle.ft_orb.specs.declared.engine.Engine.{Engine}
use Rattle.ft_orb.specs.declared.parked.Waiter.{Waiter}
use Rattle.ft_orb.specs.declared.wire.StreamEnd.{StreamEnd}
use Rattle.ft_orb.specs.declared.wire.StreamEnd.TheVariants.{LinkClosed, Memory, PeerEnded, ReadFault, ReadsUsed, WriteFault}
use Rattle.ft_orb.specs.Answers.{Answer, calls_of}
use Rattle.ft_orb.specs.History.{Changed, Close, Event, Lost, Opened, Piece, Withdrew, changes}
use Rattle.ft_objects.specs.Catalogues.{Offer}
use Rattle.ft_objects.specs.Interfaces.{IsAnswerOf}
use Rattle.ft_objects.specs.Replies.{IsRenderable}
use Rattle.ft_orb.specs.Parking.{Settings, Stays, goes_on, put_at, still}
use Rattle.ft_orb.specs.Requests.{Call, offer_in}
use Rattle.ft_orb.specs.Wires.{Act, Gave, GaveNone, IfKnown, ReadFailed, Took, TookNone, WriteFailed}

-- a call that the owner performed: the outcome that it gave, and the one that was handed in for it
pub record Handover : Type 0 where
  pub call : Call
  pub gave : Performed
  pub handed : Performed

-- what the owner answered ..
abbrev pub given_in : List Handover → List Answer
given_in log = map (λ h. record { call = h.call; outcome = h.gave }) log

-- .. and what the engine was answered
abbrev pub handed_in : List Handover → List Answer
handed_in log = map (λ h. record { call = h.call; outcome = h.handed }) log

-- what one call of `perform` answers: the call asked, or nothing where it is given up
abbrev pub answers_given : Call → Option Outcome → List Answer
answers_given call None = []
answers_given call (Some outcome) = record { call = call; outcome = performed_in outcome } ∷ []

-- what is handed in where the owner's outcome can't be: INTERNAL, of an operation that may have been performed (own rule)
abbrev pub unfit : Performed
unfit = system Internal 0 Maybe

-- an outcome can be sent, and may be handed in for the call's operation
abbrev pub IsFor : Offer → Call → Performed → Type 0
IsFor offer call outcome = IsRenderable outcome × IsAnswerOf (offer.interface call.object_key call.operation) outcome

-- the owner's outcome is handed in where it can be, and else INTERNAL
abbrev pub IsHandedIn : Offer → Call → (gave handed : Performed) → Type 0
IsHandedIn offer call gave handed = (IsFor offer call gave × (handed ≡ gave)) ⊎ ((IsFor offer call gave → ⊥) × (handed ≡ unfit))

abbrev pub AreHandedIn : Offer → List Handover → Type 0
AreHandedIn offer log = AllByRecursion (λ h. IsHandedIn offer h.call h.gave h.handed) log

-- what is known of an owner says that it answered these calls
abbrev pub OwnerSays : List Handover → Option (List Answer) → Option (List Answer) → Type 0
OwnerSays log old new = IfKnown (λ before now. now ≡ before ++ given_in log) old new

-- what is known of calls, where the outcomes of those from call i on were handed in
abbrev pub known_from : (i : ℕ) → List Answer → (ℕ → Holding) → ℕ → Holding
known_from i [] held = held
known_from i (a ∷ later) held = known_from (i + 1) later (put_at i (known a.outcome) held)

-- an event is a piece that came on connection c
abbrev pub IsPieceOf : ℕ → Event → Type 0
IsPieceOf c (Opened d) = ⊥
IsPieceOf c (Piece d moment octets) = d ≡ c
IsPieceOf c (Close d) = ⊥
IsPieceOf c (Lost d) = ⊥
IsPieceOf c (Withdrew i) = ⊥
IsPieceOf c Changed = ⊥

abbrev pub ArePieces : ℕ → List Event → Type 0
ArePieces c events = AllByRecursion (IsPieceOf c) events

-- pieces came on connection c, and then this happened; the newest event is the first
abbrev pub ArePiecesThen : ℕ → Event → List Event → Type 0
ArePiecesThen c last events = (pieces : List Event) × (events ≡ last ∷ pieces) × ArePieces c pieces

-- What happened to connection c after a past while it was served, by how that ended: pieces came on it, after which its stream had
-- ended; or then it was closed, and the write of CloseConnection may have failed; or it was lost, since memory was wanting.
abbrev pub AreOn : Limits → (past : List Event) → ℕ → StreamEnd → (events : List Event) → Type 0
AreOn limits past c PeerEnded events = ArePieces c events
AreOn limits past c LinkClosed events = ArePieces c events × (goes_on limits (events ++ past) c ≡ false)
AreOn limits past c ReadsUsed events = ArePiecesThen c (Close c) events
AreOn limits past c ReadFault events = ArePieces c events
AreOn limits past c WriteFault events = ArePieces c events ⊎ ArePiecesThen c (Close c) events
AreOn limits past c Memory events = ArePiecesThen c (Lost c) events

-- the octets of the pieces among events, of which the newest is the first, in the order in which they came ..
abbrev pub octets_in : List Event → List ℕ
octets_in [] = []
octets_in (Opened c ∷ past) = octets_in past
octets_in (Piece c moment octets ∷ past) = octets_in past ++ octets
octets_in (Close c ∷ past) = octets_in past
octets_in (Lost c ∷ past) = octets_in past
octets_in (Withdrew i ∷ past) = octets_in past
octets_in (Changed ∷ past) = octets_in past

-- .. and those that a wire gave
abbrev pub given_by : List Act → List ℕ
given_by [] = []
given_by (Gave octets ∷ acts) = octets ++ given_by acts
given_by (GaveNone ∷ acts) = given_by acts
given_by (ReadFailed ∷ acts) = given_by acts
given_by (Took octets ∷ acts) = given_by acts
given_by (TookNone ∷ acts) = given_by acts
given_by (WriteFailed ∷ acts) = given_by acts

-- what is left of the octets that were read: some of the last read, where an allocation failed, and else none
abbrev pub IsLeftAt : StreamEnd → List ℕ → Type 0
IsLeftAt end rest = ((end ≡ Memory → ⊥) → rest ≡ []) × (length rest ≤ 4096)

-- what is known of a wire says that it gave these octets, and what is left of them
abbrev pub AreFromWire : StreamEnd → List ℕ → Option (List Act) → Option (List Act) → Type 0
AreFromWire end octets old new = IfKnown (λ before now. (acts : List Act) × (rest : List ℕ) × (now ≡ before ++ acts) × (given_by acts ≡ octets ++ rest) × IsLeftAt end rest) old new

-- Connection c was served to its end while requests are parked, by an owner who performed the calls of a log. These were taken, after
-- those before, and of each is known what was handed in, which is an outcome of its operation as that is on offer; of the others as much
-- is known as before. What happened did so on this connection: its pieces, which are what the wire gave, cut anywhere, and then what the
-- end says; and it was lost at last; and who waits on one that goes on waits on.
pub record IsServedLate {C : Type 0} (offers : C → Offer) (s : Settings) (held : ℕ → Holding) (calls : List Call) (past : List Event) (waiting : ℕ → List Waiter) (c : ℕ) (log : List Handover) (end : StreamEnd) (old new : Option (List Act)) (engine : Engine C) : Type 0 where
  pub handed : AreHandedIn (offer_in (s.terms (changes past))) log
  pub before : (i : ℕ) → i < length calls → known_from (length calls) (handed_in log) held i ≡ held i
  pub events : List Event
  pub on : AreOn s.limits past c end events
  pub given : AreFromWire end (octets_in events) old new
  pub stays : Stays offers s (known_from (length calls) (handed_in log) held) (calls ++ calls_of (handed_in log)) engine (Lost c ∷ events ++ past) (still s.limits (Lost c ∷ events ++ past) waiting)
