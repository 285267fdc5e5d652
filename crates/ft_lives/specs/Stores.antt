-- What outlives an engine: a store of outcomes, and what changes it.
use Rattle.std.specs.Prelude.{◌≡◌, ℕ, ◌≤◌, List, [], ◌∷◌, ◌++◌, Option, None}
use Rattle.ft_log.specs.Keys.{RequestKey}
use Rattle.ft_log.specs.Kept.{KeptOutcome, kept_for, unexpired}
use Rattle.ft_log.specs.Performed.{Performed}
use Rattle.ft_orb.specs.Requests.{Call}

-- a request that was asked for: in which life, under which number, and its call
pub record Ask : Type 0 where
  pub life : ℕ
  pub number : ℕ
  pub call : Call

-- a row: what was committed under a key, with its expiration
abbrev pub Row : Type 0
Row = KeptOutcome Performed

-- The rows of all commits, the oldest first. Those whose expiration lies before the mark may have been taken out: they are held no longer.
pub record Store : Type 0 where
  pub rows : List Row
  pub mark : ℕ

abbrev pub empty_store : Store
empty_store = record { rows = []; mark = 0 }

-- the outcome that the store holds for a key
abbrev pub held_for : RequestKey → Store → Option Performed
held_for key s = kept_for key (unexpired s.mark s.rows)

-- A transaction comes true: the effect of the call that was asked for, and its row, at once. Or the mark is moved. Or something else is
-- written: no row.
pub data Change : Type 0 where
  Committed : Ask → Row → Change
  Purged : (mark : ℕ) → Change
  Other : Change

-- the store after a change
abbrev pub changed : Store → Change → Store
changed s (Committed ask row) = record { rows = s.rows ++ row ∷ []; mark = s.mark }
changed s (Purged mark) = record { rows = s.rows; mark = mark }
changed s Other = s

-- What the store promises of each change, where it takes place. A commit: no row of its key is held, and its expiration is not before
-- the mark. A purge: the mark never goes back. And what was committed is there.
abbrev pub Allows : Store → Change → Type 0
Allows s (Committed ask row) = (held_for row.key s ≡ None) × (s.mark ≤ row.expiration)
Allows s (Purged mark) = s.mark ≤ mark
Allows s Other = Unit {0}
