-- What is written after what was due is due too, in the words of what is known of the calls.
use Rattle.std.proofs.Common.{ℕ, ◌≤◌, List, length, drop, Result, Ok, Err}
use Rattle.ft_log.specs.Holding.{Holding}
use Rattle.ft_log.specs.Performed.{Performed}
use Rattle.ft_objects.specs.Catalogues.{Offer}
use Rattle.ft_orb.specs.declared.engine.Engine.{Engine}
use Rattle.ft_orb.specs.declared.engine.Fed.{Fed}
use Rattle.ft_orb.specs.declared.engine.Fed.TheVariants as fed
use Rattle.ft_orb.specs.declared.error.ServeError.{ServeError}
use Rattle.ft_orb.specs.declared.events.Note.{Note}
use Rattle.ft_orb.specs.declared.parked.Waiter.{Waiter}
use Rattle.ft_orb.specs.Engines.{Awaited, EndsOf, ResumesOf, StopsOf}
use Rattle.ft_orb.specs.History.{Event}
use Rattle.ft_orb.specs.Owners.{OwnerOf}
use Rattle.ft_orb.specs.Parking.{DeclinesLate, EndsLate, FeedsLate, RepeatsLate, ResumesLate, Settings, StopsLate, numbering}
use Rattle.ft_orb.specs.Requests.{Call}
use Rattle.ft_orb.specs.Tellings.{nothing_yet}
use Rattle.lemonrudder.proofs.Owing.{grows, stays}

module _ {C Outcome : Type 0} (offers : C → Offer) (owner : OwnerOf Outcome) (calls : List Call) (past : List Event) (n : ℕ) (before out : List ℕ) (few : n ≤ length before) where
  ends-of-owed : (e : Event) (note : Note) (engine : Engine C) → EndsOf offers owner calls past e note engine before out → EndsOf offers owner calls past e note engine (drop n before) (drop n out)
  ends-of-owed e note engine x = record { written = x.written; appended = grows n before x.written out few x.appended; writes = x.writes; rests = x.rests }

  stops-of-owed : (c moment : ℕ) (piece : List ℕ) (taken : ℕ) (engine : Engine C) → StopsOf offers owner calls past c moment piece taken engine before out → StopsOf offers owner calls past c moment piece taken engine (drop n before) (drop n out)
  stops-of-owed c moment piece taken engine x = record { written = x.written; appended = grows n before x.written out few x.appended; number = x.number; call = x.call; field = x.field; refused = x.refused; asks = x.asks; short = x.short }

  resumes-of-owed : (c moment : ℕ) (octets written : List ℕ) (note : Note) (engine : Engine C) → ResumesOf offers owner calls past c moment octets written note engine before out → ResumesOf offers owner calls past c moment octets written note engine (drop n before) (drop n out)
  resumes-of-owed c moment octets written note engine x = record { more = x.more; appended = grows n before x.more out few x.appended; writes = x.writes; rests = x.rests }

module _ {C : Type 0} (offers : C → Offer) (s : Settings) (held : ℕ → Holding) (calls : List Call) (past : List Event) (waiting : ℕ → List Waiter) (n : ℕ) (before out : List ℕ) (few : n ≤ length before) where
  pub ends-late-owed : (e : Event) (note : Note) (engine : Engine C) → EndsLate offers s held calls past waiting e note engine before out → EndsLate offers s held calls past waiting e note engine (drop n before) (drop n out)
  ends-late-owed e note engine x = record { ends = λ late. ends-of-owed offers (numbering s late held) calls past n before out few e note engine (x.ends late); stays = x.stays }

  pub ends-late-stays : (e : Event) (note : Note) (engine : Engine C) → EndsLate offers s held calls past waiting e note engine before out → n ≤ length out
  ends-late-stays e note engine x = let y = x.ends nothing_yet in stays n before y.written out few y.appended

  stops-late-owed : (c moment : ℕ) (piece : List ℕ) (taken : ℕ) (engine : Engine C) → StopsLate offers s held calls past waiting c moment piece taken engine before out → StopsLate offers s held calls past waiting c moment piece taken engine (drop n before) (drop n out)
  stops-late-owed c moment piece taken engine x = record { stops = λ late. stops-of-owed offers (numbering s late held) calls past n before out few c moment piece taken engine (x.stops late); asks = x.asks }

  repeats-late-owed : (c moment : ℕ) (piece : List ℕ) (taken : ℕ) (engine : Engine C) → RepeatsLate offers s held calls past waiting c moment piece taken engine before out → RepeatsLate offers s held calls past waiting c moment piece taken engine (drop n before) (drop n out)
  repeats-late-owed c moment piece taken engine x = record {
    front = x.front;
    last = x.last;
    completes = x.completes;
    short = x.short;
    question = x.question;
    content = x.content;
    i = x.i;
    number = x.number;
    is_parked = x.is_parked;
    says = x.says;
    quiet = x.quiet;
    placed = x.placed;
    place_is = x.place_is;
    ends = ends-of-owed offers _ calls past n before out few _ _ engine x.ends;
    stays = x.stays;
  }

  pub feeds-late-owed : (c moment : ℕ) (piece : List ℕ) (f : Result Fed ServeError) (engine : Engine C) → FeedsLate offers s held calls past waiting c moment piece f engine before out → FeedsLate offers s held calls past waiting c moment piece f engine (drop n before) (drop n out)
  feeds-late-owed c moment piece (Ok fed.Whole) engine x = ends-late-owed _ _ engine x
  feeds-late-owed c moment piece (Ok (fed.Asks taken)) engine x = stops-late-owed c moment piece taken engine x
  feeds-late-owed c moment piece (Ok (fed.Repeats taken)) engine x = repeats-late-owed c moment piece taken engine x
  feeds-late-owed c moment piece (Err e) engine x = ends-late-owed _ _ engine x

  pub feeds-late-stays : (c moment : ℕ) (piece : List ℕ) (f : Result Fed ServeError) (engine : Engine C) → FeedsLate offers s held calls past waiting c moment piece f engine before out → n ≤ length out
  feeds-late-stays c moment piece (Ok fed.Whole) engine x = ends-late-stays _ _ engine x
  feeds-late-stays c moment piece (Ok (fed.Asks taken)) engine x = let y = x.stops nothing_yet in stays n before y.written out few y.appended
  feeds-late-stays c moment piece (Ok (fed.Repeats taken)) engine x = stays n before x.ends.written out few x.ends.appended
  feeds-late-stays c moment piece (Err e) engine x = ends-late-stays _ _ engine x

  pub declines-late-owed : (moment : ℕ) (octets written : List ℕ) (w : Awaited) (outcome : Performed) (engine : Engine C) → DeclinesLate offers s held calls past waiting moment octets written w outcome engine before out
      → DeclinesLate offers s held calls past waiting moment octets written w outcome engine (drop n before) (drop n out)
  declines-late-owed moment octets written w outcome engine x = record { more = x.more; appended = grows n before x.more out few x.appended; writes = x.writes; stays = x.stays }

  pub declines-late-stays : (moment : ℕ) (octets written : List ℕ) (w : Awaited) (outcome : Performed) (engine : Engine C) → DeclinesLate offers s held calls past waiting moment octets written w outcome engine before out → n ≤ length out
  declines-late-stays moment octets written w outcome engine x = stays n before x.more out few x.appended

  pub resumes-late-owed : (c moment : ℕ) (octets written : List ℕ) (note : Note) (engine : Engine C) → ResumesLate offers s held calls past waiting c moment octets written note engine before out
      → ResumesLate offers s held calls past waiting c moment octets written note engine (drop n before) (drop n out)
  resumes-late-owed c moment octets written note engine x = record { resumes = resumes-of-owed offers _ calls past n before out few c moment octets written note engine x.resumes; stays = x.stays }

  pub resumes-late-stays : (c moment : ℕ) (octets written : List ℕ) (note : Note) (engine : Engine C) → ResumesLate offers s held calls past waiting c moment octets written note engine before out → n ≤ length out
  resumes-late-stays c moment octets written note engine x = stays n before x.resumes.more out few x.resumes.appended
