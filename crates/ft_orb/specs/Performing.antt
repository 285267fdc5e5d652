-- Words of private functions: a piece that is fed to an engine whose servant performs. No public contract cites them.
use Rattle.std.specs.Prelude.{◌≡◌, ◌⊎◌, ℕ, ◌<◌, false, List, ◌++◌, length, take, Option, Some, None, Result, Ok, Err}
use Rattle.ft_objects.specs.Servants.{Meaning}
use Rattle.ft_orb.specs.declared.engine.Engine.{Engine}
use Rattle.ft_orb.specs.declared.error.ServeError.{ServeError}
use Rattle.ft_orb.specs.declared.events.Note.{Note}
use Rattle.ft_orb.specs.declared.events.Note.TheVariants.{Done}
use Rattle.ft_orb.specs.declared.pausing.Place.{Place}
use Rattle.ft_orb.specs.Engines.{Resumes}
use Rattle.ft_orb.specs.History.{Event, Piece, completed}
use Rattle.ft_orb.specs.Outputs.{Made, Writes, after, table_says}
use Rattle.ft_orb.specs.Requests.{Call}
use Rattle.ft_orb.specs.Runs.{offer_by, owner_by, run}
use Rattle.ft_orb.specs.Standing.{Shown, Stands, note_of}
use Rattle.ft_orb.specs.Visits.{IsShortest, count_to}

-- no id of a client is too long, and nothing is asked that would be refused
abbrev pub IsFree : {S : Type 0} → Engine S → Type 0
IsFree e = (e.offering.longest ≡ None) × (e.offering.first ≡ false)

module _ {S : Type 0} (meaning : Meaning S) (made : Made S) (past : List Event) where
  -- an event was served to its end, and ended so: what was written for it, and what the server stands for now
  abbrev pub EndsBy : Event → Note → Shown S → (before out : List ℕ) → Type 0
  EndsBy e note server before out = (written : List ℕ)
      × (out ≡ before ++ written)
      × Writes made.limits meaning.knows (table_says meaning made) past e written note
      × Stands meaning made server (after made.limits past e note)

  -- the first octets of a piece were served, up to and with a request that was performed, which no fewer bring; or all of it
  abbrev pub TakesFront : (c moment : ℕ) → List ℕ → Result (Option Place) ServeError → Shown S → (before out : List ℕ) → Type 0
  TakesFront c moment piece (Ok None) server before out = EndsBy (Piece c moment piece) Done server before out
  TakesFront c moment piece (Ok (Some place)) server before out = EndsBy (Piece c moment (take place.taken piece)) Done server before out
      × (place.handled ≡ count_to made.limits past c moment piece place.taken)
      × IsShortest made.limits past c moment piece place.taken
  TakesFront c moment piece (Err e) server before out = EndsBy (Piece c moment piece) (note_of {A = Unit {0}} (Err e)) server before out

  -- what waited was performed and answered, or an allocation failed: these calls are answered, and the servant is in the state to which
  -- they lead
  abbrev pub Resumed : (c moment : ℕ) → (octets written : List ℕ) → Note → Engine S → (before out : List ℕ) → Type 0
  Resumed c moment octets written note engine before out = (calls : List Call)
      × Resumes (offer_by meaning) (owner_by meaning made) calls past c moment octets written note engine before out
      × (engine.offering.catalogue ≡ run meaning made.opening calls)

  abbrev pub Performs : (c moment : ℕ) → (octets written : List ℕ) → Result ℕ ServeError → Engine S → (before out : List ℕ) → Type 0
  Performs c moment octets written (Ok handled) engine before out = (handled ≡ length (completed made.limits past (Piece c moment octets))) × Resumed c moment octets written Done engine before out
  Performs c moment octets written (Err e) engine before out = Resumed c moment octets written (note_of {A = Unit {0}} (Err e)) engine before out

-- Of a piece on connection c.
module _ {S : Type 0} (meaning : Meaning S) (made : Made S) (past : List Event) (c moment : ℕ) (piece : List ℕ) where
  -- these octets were served, up to and with a request that no fewer bring
  pub record IsServedBy (place : Place) (server : Shown S) (before out : List ℕ) : Type 0 where
    pub some : 0 < place.taken
    pub ends : EndsBy meaning made past (Piece c moment (take place.taken piece)) Done server before out
    pub count : place.handled ≡ count_to made.limits past c moment piece place.taken
    pub shortest : IsShortest made.limits past c moment piece place.taken

  -- .. or nothing was yet
  abbrev pub IsDoneTo : Place → Shown S → (before out : List ℕ) → Type 0
  IsDoneTo place server before out = ((place.taken ≡ 0) × (place.handled ≡ 0) × Stands meaning made server past × (out ≡ before)) ⊎ IsServedBy place server before out
