-- What an engine's calls say with each key by itself: as `FeedsOnce` and `ResumesOnce`, with no premise on the keys.
use Rattle.std.specs.Prelude.{◌≡◌, ℕ, true, List, [], ◌∷◌, ◌++◌, length, take, Option, Some, Result, Ok, Err}
use Rattle.ft_orb.specs.declared.engine.Fed.{Fed}
use Rattle.ft_orb.specs.declared.engine.Fed.TheVariants as fed
use Rattle.ft_orb.specs.declared.error.ServeError.{ServeError}
use Rattle.ft_orb.specs.declared.events.Note.{Note}
use Rattle.ft_orb.specs.declared.events.Note.TheVariants.{Done}
use Rattle.ft_log.specs.declared.system_exception.SystemName.{SystemName}
use Rattle.ft_orb.specs.Engines.{Awaited}
use Rattle.ft_orb.specs.ExactlyOnce.{Arrival, Field, state_after}
use Rattle.ft_orb.specs.History.{Event, Piece, arrivals, completed}
use Rattle.ft_orb.specs.Now.{acts_now, performed_now}
use Rattle.ft_orb.specs.Outputs.{WritesBy, after, output_cut}
use Rattle.ft_orb.specs.Owners.{Owner, OwnerOf, owned_now, owned_rules, owning}
use Rattle.ft_orb.specs.Requests.{Call, Wanted, asked_at, refusal_at}
use Rattle.ft_orb.specs.Standing.{note_of}

module _ {Outcome : Type 0} (owner : OwnerOf Outcome) where
  -- What was written for an event are the answers with each key by itself, and the calls of the requests that are performed so are
  -- answered, each once, in the order of their arrivals ..
  abbrev pub IsNowOf : List Call → List Event → Event → Note → List ℕ → Type 0
  IsNowOf calls past e note written =
      WritesBy owner.limits owner.tell (owned_now owner) past e written note
      × (calls ≡ state_after (owned_rules owner) [] (performed_now (owned_rules owner) (arrivals owner.limits (after owner.limits past e note))))

  abbrev pub EndsNowOf : List Call → List Event → Event → Note → List ℕ → List ℕ → Type 0
  EndsNowOf calls past e note before out = (written : List ℕ) × (out ≡ before ++ written) × IsNowOf calls past e note written

  -- .. and a request that waits is one that acts: it is admissible, its key is not held, and there is room for it. It is the first
  -- such that the octets bring, so the calls answered are still those of the past.
  pub record IsDueNowOf (calls : List Call) (past : List Event) (e : Event) (front : List (Arrival Wanted)) (last : Arrival Wanted) (written : List ℕ) : Type 0 where
    pub acts : acts_now (owned_rules owner) (performed_now (owned_rules owner) (arrivals owner.limits past ++ front)) last ≡ true
    pub is_first : performed_now (owned_rules owner) (arrivals owner.limits past ++ front) ≡ performed_now (owned_rules owner) (arrivals owner.limits past)
    pub calls_are : calls ≡ state_after (owned_rules owner) [] (performed_now (owned_rules owner) (arrivals owner.limits past))
    pub out : written ≡ output_cut owner.limits owner.tell (owned_now owner) past e (length front)

  -- what the owner acts on, over the past alone
  pub record AsksNowOf (calls : List Call) (past : List Event) (c moment : ℕ) (octets : List ℕ) (waits : Option Awaited) (before out : List ℕ) : Type 0 where
    pub written : List ℕ
    pub appended : out ≡ before ++ written
    pub number : ℕ
    pub call : Call
    pub field : Field
    pub refused : Option SystemName
    pub is_awaited : waits ≡ Some (record { number = number; connection = c; call = call; field = field; refused = refused })
    pub front : List (Arrival Wanted)
    pub last : Arrival Wanted
    pub completes : completed owner.limits past (Piece c moment octets) ≡ front ++ last ∷ []
    pub asks : asked_at owner.terms last.content ≡ Ok call
    pub carries : last.field ≡ field
    pub would : refused ≡ refusal_at owner.terms last.content
    pub due : IsDueNowOf calls past (Piece c moment octets) front last written

  abbrev pub FeedsNowOf : List Call → List Event → (c moment : ℕ) → List ℕ → Result Fed ServeError → Option Awaited → List ℕ → List ℕ → Type 0
  FeedsNowOf calls past c moment piece (Ok fed.Whole) waits before out = EndsNowOf calls past (Piece c moment piece) Done before out
  FeedsNowOf calls past c moment piece (Ok (fed.Asks taken)) waits before out = AsksNowOf calls past c moment (take taken piece) waits before out
  FeedsNowOf calls past c moment piece (Ok (fed.Repeats taken)) waits before out = ⊥
  FeedsNowOf calls past c moment piece (Err e) waits before out = EndsNowOf calls past (Piece c moment piece) (note_of {A = Fed} (Err e)) before out

  abbrev pub ResumesNowOf : List Call → List Event → (c moment : ℕ) → (octets written : List ℕ) → Note → List ℕ → List ℕ → Type 0
  ResumesNowOf calls past c moment octets written note before out = (more : List ℕ) × (out ≡ before ++ more) × IsNowOf calls past (Piece c moment octets) note (written ++ more)

-- The same of an owner whose outcomes are known.
module _ (owner : Owner) where
  abbrev pub IsNow : List Call → List Event → Event → Note → List ℕ → Type 0
  IsNow calls past e note written = IsNowOf (owning owner) calls past e note written

  abbrev pub EndsNow : List Call → List Event → Event → Note → List ℕ → List ℕ → Type 0
  EndsNow calls past e note before out = EndsNowOf (owning owner) calls past e note before out

  abbrev pub IsDueNow : List Call → List Event → Event → List (Arrival Wanted) → Arrival Wanted → List ℕ → Type 0
  IsDueNow calls past e front last written = IsDueNowOf (owning owner) calls past e front last written

  abbrev pub AsksNow : List Call → List Event → (c moment : ℕ) → List ℕ → Option Awaited → (before out : List ℕ) → Type 0
  AsksNow calls past c moment octets waits before out = AsksNowOf (owning owner) calls past c moment octets waits before out

  abbrev pub FeedsNow : List Call → List Event → (c moment : ℕ) → List ℕ → Result Fed ServeError → Option Awaited → List ℕ → List ℕ → Type 0
  FeedsNow calls past c moment piece fed waits before out = FeedsNowOf (owning owner) calls past c moment piece fed waits before out

  abbrev pub ResumesNow : List Call → List Event → (c moment : ℕ) → (octets written : List ℕ) → Note → List ℕ → List ℕ → Type 0
  ResumesNow calls past c moment octets written note before out = ResumesNowOf (owning owner) calls past c moment octets written note before out
