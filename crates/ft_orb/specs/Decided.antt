-- What one message adds to the counts, and what a piece does. Words of private functions.
use Rattle.std.specs.Prelude.{◌≡◌, ◌⊎◌, ℕ, ◌+◌, ◌<◌, List, [], ◌∷◌, length, take}
use Rattle.giop_frames.specs.declared.limits.Limits.{Limits}
use Rattle.ft_log.specs.Holding.{Holding}
use Rattle.ft_log.specs.Kept.{KeptOutcome}
use Rattle.ft_objects.specs.declared.decided.Decision.{Decision}
use Rattle.ft_objects.specs.declared.decided.Decision.TheVariants.{Dropped}
use Rattle.ft_orb.specs.Begun.{Asks, Begun, Done, Repeats}
use Rattle.ft_orb.specs.Decisions.{counted_all, counted_with, decision_on}
use Rattle.ft_orb.specs.ExactlyOnce.{Arrival}
use Rattle.ft_orb.specs.History.{arrivals_in, front_in}
use Rattle.ft_orb.specs.Pause.{Pause}
use Rattle.ft_orb.specs.Pause as pause
use Rattle.ft_orb.specs.Requests.{Call, Origin, Terms, Wanted}
use Rattle.ft_orb.specs.Table.{Table}
use Rattle.ft_orb.specs.declared.counts.Counts.{Counts}
use Rattle.ft_orb.specs.declared.desk.Step.TheVariants.{Answered, Quiet, Unanswered, Unhandled}
use Rattle.ft_orb.specs.declared.serving.Cut.{Cut}

-- what becomes of a request: this; but nothing was done where an allocation failed before that was known
abbrev pub decided_by : Begun → Decision → Decision
decided_by (Done Answered) d = d
decided_by (Done Unanswered) d = d
decided_by (Done Quiet) d = d
decided_by (Done Unhandled) d = Dropped
decided_by (Asks w) d = d
decided_by (Repeats r) d = d

-- the counts after a message, which is an arrival or none
abbrev pub AreTallied : (ℕ → Terms) → (capacity share : ℕ) → List (KeptOutcome Holding) → List (Arrival Wanted) → Begun → Counts → Counts → Type 0
AreTallied terms capacity share entries [] b old new = new ≡ old
AreTallied terms capacity share entries (a ∷ later) b old new = new ≡ counted_with old (decided_by b (decision_on terms capacity share entries a))

-- the octets of a piece that were taken
abbrev pub octets_to : List ℕ → Pause → List ℕ
octets_to piece pause.Whole = piece
octets_to piece (pause.Asks w place) = take place.taken piece
octets_to piece (pause.Repeats r place) = take place.taken piece
octets_to piece (pause.Due place) = take place.taken piece

-- One piece after the stream s of connection c, from a table t on: the counts before it, and now.
module _ (terms : ℕ → Terms) (answers : List Call → Call → Holding) (capacity share : ℕ) (limits : Limits) (c : Origin) (now : ℕ) (t : Table (List Call) Holding) (s : List ℕ) where
  -- the arrivals that these octets complete were counted
  abbrev pub AreCountsOf : List ℕ → Counts → Counts → Type 0
  AreCountsOf octets old new = new ≡ counted_all terms answers capacity share t (arrivals_in limits c now s octets) old

  -- An allocation failed where so many were handled. They were counted; and where one more had begun, so was what becomes of it, or that
  -- it was dropped.
  abbrev pub AreCountsTo : List ℕ → Cut → Counts → Counts → Type 0
  AreCountsTo piece at old new = AreCountsOf (front_in limits c now s piece at.handled) old new
      ⊎ ((at.handled ≡ at.answered)
      × (at.handled < length (arrivals_in limits c now s piece))
      × (AreCountsOf (front_in limits c now s piece (at.handled + 1)) old new
      ⊎ (new ≡ counted_with (counted_all terms answers capacity share t (arrivals_in limits c now s (front_in limits c now s piece at.handled)) old) Dropped)))
