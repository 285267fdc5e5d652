-- What an engine counts of a piece: what becomes of each of the arrivals that it completes, in their order.
use Rattle.std.specs.Prelude.{◌≡◌, ◌⊎◌, ℕ, ◌+◌, ◌<◌, List, length, take, Result, Ok, Err}
use Rattle.ft_log.specs.Holding.{Holding}
use Rattle.ft_objects.specs.declared.decided.Decision.TheVariants.{Dropped}
use Rattle.ft_orb.specs.Decisions.{counted_all, counted_with}
use Rattle.ft_orb.specs.History.{Event, Piece, completed, shortened}
use Rattle.ft_orb.specs.Owners.{kept_of, owned_table}
use Rattle.ft_orb.specs.Parking.{Settings, by_number}
use Rattle.ft_orb.specs.Seen.{seen_table}
use Rattle.ft_orb.specs.declared.counts.Counts.{Counts}
use Rattle.ft_orb.specs.declared.engine.Fed.{Fed}
use Rattle.ft_orb.specs.declared.engine.Fed.TheVariants as fed
use Rattle.ft_orb.specs.declared.error.ServeError.{ServeError}
use Rattle.ft_orb.specs.declared.error.ServeError.TheVariants as serving

-- An engine that was made so, of whose calls so much is known, after this past.
module _ (s : Settings) (held : ℕ → Holding) (past : List Event) where
  -- the counts after the arrivals that an event completes
  abbrev pub counts_after : Event → Counts → Counts
  counts_after e n = counted_all s.terms (kept_of (by_number s held)) s.capacity s.share (seen_table held (owned_table (by_number s held) past)) (completed s.limits past e) n

  -- Memory ran out where so many were handled, and so many answered. What was handled is counted. Where all of it is answered the piece may
  -- have brought one more, which may be counted too: as what becomes of it, or as dropped.
  abbrev pub AreCountedTo : Event → (handled answered : ℕ) → Counts → Counts → Type 0
  AreCountedTo e handled answered old new = (new ≡ counts_after (shortened s.limits past e handled) old)
      ⊎ ((handled ≡ answered)
      × (handled < length (completed s.limits past e))
      × ((new ≡ counts_after (shortened s.limits past e (handled + 1)) old) ⊎ (new ≡ counted_with (counts_after (shortened s.limits past e handled) old) Dropped)))

  -- the counts before a piece, and after it: of what was taken all is counted, the request that waits and the repeat too
  abbrev pub AreCounted : (c moment : ℕ) → List ℕ → Result Fed ServeError → Counts → Counts → Type 0
  AreCounted c moment piece (Ok fed.Whole) old new = new ≡ counts_after (Piece c moment piece) old
  AreCounted c moment piece (Ok (fed.Asks taken)) old new = new ≡ counts_after (Piece c moment (take taken piece)) old
  AreCounted c moment piece (Ok (fed.Repeats taken)) old new = new ≡ counts_after (Piece c moment (take taken piece)) old
  AreCounted c moment piece (Err serving.NoConnection) old new = new ≡ old
  AreCounted c moment piece (Err (serving.Memory handled answered)) old new = AreCountedTo (Piece c moment piece) handled answered old new
