-- A piece that is taken until so many octets are due.
use Rattle.std.specs.Prelude.{◌≡◌, ℕ, ◌+◌, ◌<◌, ◌≤◌, List, length, take, Result, Ok, Err}
use Rattle.ft_log.specs.Holding.{Holding}
use Rattle.ft_orb.specs.History.{Event, Piece, completed, shortened}
use Rattle.ft_orb.specs.Outputs.{output_cut}
use Rattle.ft_orb.specs.Owners.{owned_says}
use Rattle.ft_orb.specs.Parking.{Settings, by_number}
use Rattle.ft_orb.specs.declared.engine.Fed.{Fed}
use Rattle.ft_orb.specs.declared.engine.Fed.TheVariants as fed
use Rattle.ft_orb.specs.declared.engine.Taken.{Taken}
use Rattle.ft_orb.specs.declared.engine.Taken.TheVariants as taken
use Rattle.ft_orb.specs.declared.error.ServeError.{ServeError}
use Rattle.ft_orb.specs.declared.error.ServeError.TheVariants as serving

-- Where a piece is left since enough is due, the octets taken are a piece of their own, ..
abbrev pub piece_in : List ℕ → Result Taken ServeError → List ℕ
piece_in piece (Ok (taken.Fed fed)) = piece
piece_in piece (Ok (taken.Due n)) = take n piece
piece_in piece (Err e) = piece

-- .. which was fed to its end. Else it was fed so.
abbrev pub fed_in : Result Taken ServeError → Result Fed ServeError
fed_in (Ok (taken.Fed fed)) = Ok fed
fed_in (Ok (taken.Due n)) = Ok fed.Whole
fed_in (Err e) = Err e

-- a piece of so many octets is left so only where `most` are due, and never at its begin
abbrev pub ComesDue : (most due size : ℕ) → Result Taken ServeError → Type 0
ComesDue most due size (Ok (taken.Fed fed)) = Unit {0}
ComesDue most due size (Ok (taken.Due n)) = (most ≤ due) × (0 < n) × (n ≤ size)
ComesDue most due size (Err e) = Unit {0}

-- An engine that was made so, of whose calls so much is known, after this past; where so many octets were due before.
module _ (s : Settings) (held : ℕ → Holding) (past : List Event) (most before : ℕ) where
  -- with the first answers to what an event brings, one at least and fewer than so many, fewer than `most` octets are due
  abbrev pub IsBelow : Event → ℕ → Type 0
  IsBelow e answers = (k : ℕ) → 0 < k → k < answers → before + length (output_cut s.limits (by_number s held).tell (owned_says (by_number s held)) past e k) < most

  -- a piece is left after its first arrival with whose answer so many are due: no fewer octets bring it
  pub record IsFirstDue (c moment : ℕ) (piece : List ℕ) (n : ℕ) : Type 0 where
    pub some : 0 < length (completed s.limits past (Piece c moment (take n piece)))
    pub below : IsBelow (Piece c moment (take n piece)) (length (completed s.limits past (Piece c moment (take n piece))))
    pub short : shortened s.limits past (Piece c moment piece) (length (completed s.limits past (Piece c moment (take n piece)))) ≡ Piece c moment (take n piece)

  -- .. and goes on where it is not left: a request that waits has no answer yet, and what is said to a repeat is the last
  abbrev pub StopsWhereDue : (c moment : ℕ) → List ℕ → Result Taken ServeError → Type 0
  StopsWhereDue c moment piece (Ok (taken.Fed fed.Whole)) = IsBelow (Piece c moment piece) (length (completed s.limits past (Piece c moment piece)) + 1)
  StopsWhereDue c moment piece (Ok (taken.Fed (fed.Asks n))) = IsBelow (Piece c moment (take n piece)) (length (completed s.limits past (Piece c moment (take n piece))))
  StopsWhereDue c moment piece (Ok (taken.Fed (fed.Repeats n))) = IsBelow (Piece c moment (take n piece)) (length (completed s.limits past (Piece c moment (take n piece))))
  StopsWhereDue c moment piece (Ok (taken.Due n)) = IsFirstDue c moment piece n
  StopsWhereDue c moment piece (Err serving.NoConnection) = Unit {0}
  StopsWhereDue c moment piece (Err (serving.Memory handled answered)) = IsBelow (Piece c moment piece) (answered + 1)
