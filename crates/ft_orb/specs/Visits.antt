-- Words of private functions: a piece of a connection that is fed to an engine in parts, whose owner performs. No public contract cites them.
use Rattle.std.specs.Prelude.{◌≡◌, ◌⊎◌, ℕ, ◌<◌, List, [], ◌++◌, length, take, Option, None, Some, Result, Ok, Err}
use Rattle.ft_log.specs.Performed.{Performed}
use Rattle.ft_orb.specs.declared.engine.Engine.{Engine}
use Rattle.ft_orb.specs.declared.events.Note.{Note}
use Rattle.ft_orb.specs.declared.events.Note.TheVariants.{Done}
use Rattle.ft_orb.specs.declared.wire.StreamEnd.{StreamEnd}
use Rattle.ft_orb.specs.declared.wire.StreamEnd.TheVariants.{Memory}
use Rattle.ft_objects.specs.Catalogues.{Offer}
use Rattle.ft_orb.specs.Engines.{Awaited, Ends, Rests}
use Rattle.ft_orb.specs.Handovers.{AreOn, ArePieces, IsHandedIn, octets_in}
use Rattle.ft_orb.specs.History.{Event, Piece, completed}
use Rattle.ft_orb.specs.Owners.{Owner}
use Rattle.ft_orb.specs.Requests.{Call}
use Rattle.ft_orb.specs.Sessions.{IsEnded}
use Rattle.giop_frames.specs.declared.limits.Limits.{Limits}

-- what is handed in for what waits
abbrev pub HandsIn : Offer → Option Awaited → (gave handed : Performed) → Type 0
HandsIn offer None gave handed = ⊥
HandsIn offer (Some w) gave handed = IsHandedIn offer w.call gave handed

-- so many octets of a piece of connection c were served after a past, or, where it ended in between, a front of them
abbrev pub ServesPart : ℕ → List ℕ → Result ℕ StreamEnd → Limits → (past events : List Event) → Type 0
ServesPart c piece (Ok n) limits past events = ArePieces c events × (octets_in events ≡ take n piece)
ServesPart c piece (Err e) limits past events = AreOn limits past c e events × (rest : List ℕ) × (piece ≡ octets_in events ++ rest) × ((e ≡ Memory → ⊥) → rest ≡ [])

-- .. of a piece that a request ended
abbrev pub ServesAsked : ℕ → List ℕ → Result (Unit {0}) StreamEnd → Limits → (past events : List Event) → Type 0
ServesAsked c piece (Ok x) limits past events = ArePieces c events × (octets_in events ≡ piece)
ServesAsked c piece (Err e) limits past events = AreOn limits past c e events × (rest : List ℕ) × (piece ≡ octets_in events ++ rest) × (e ≡ Memory)

module _ (limits : Limits) (past : List Event) (c moment : ℕ) (piece : List ℕ) where
  -- how many arrivals so many of its octets complete
  abbrev pub count_to : ℕ → ℕ
  count_to n = length (completed limits past (Piece c moment (take n piece)))

  -- .. and no fewer octets complete as many
  abbrev pub IsShortest : ℕ → Type 0
  IsShortest n = (m : ℕ) → m < n → count_to m < count_to n

module _ {C : Type 0} (offers : C → Offer) (owner : Owner) (calls : List Call) (past : List Event) (c : ℕ) where
  -- the first octets of a piece were taken, up to its end or a request that they complete; or not all of it was
  abbrev pub TakesPart : (moment : ℕ) → List ℕ → Result ℕ StreamEnd → Engine C → List ℕ → List ℕ → Type 0
  TakesPart moment piece (Ok n) engine before out = Ends offers owner calls past (Piece c moment (take n piece)) Done engine before out × ((n ≡ length piece) ⊎ IsShortest owner.limits past c moment piece n)
  TakesPart moment piece (Err end) engine before out = (note : Note) × IsEnded {A = ℕ} (Err end) note × Ends offers owner calls past (Piece c moment piece) note engine before out

  -- so many octets of a piece were taken, each part of it to its end; nothing happened where it are none
  abbrev pub IsTakenTo : (moment : ℕ) → List ℕ → ℕ → Engine C → List ℕ → List ℕ → Type 0
  IsTakenTo moment piece n engine before out = ((n ≡ 0) × Rests offers owner calls engine past × (out ≡ before)) ⊎ Ends offers owner calls past (Piece c moment (take n piece)) Done engine before out
