-- What a `Log` stands for.
use Rattle.std.specs.Prelude.{ℕ, List, Option}
use Rattle.ft_log.specs.Holding.{Holding}
use Rattle.ft_log.specs.Keys.{RequestKey, held_of}
use Rattle.ft_log.specs.Kept.{KeptOutcome, keys_of}
use Rattle.ft_log.specs.View.{entries_at}
use Rattle.ft_log.specs.declared.story.Entry.{Entry}

-- how many outcomes may be kept, how many of each client, those that are kept, in order of keeping, and the key that room
-- is made for, if there is one
pub record Logged : Type 0 where
  pub capacity : ℕ
  pub share : ℕ
  pub entries : List (KeptOutcome Holding)
  pub room : Option RequestKey

-- what shows of a `Log`: the same, with the entries as the code has them, how many slots its maps have, how many
-- expirations its heap has, of how many outcomes that expired the memory is not given back yet, which those are, and its
-- clock: what expired before it is forgotten
pub record Shown : Type 0 where
  pub capacity : ℕ
  pub share : ℕ
  pub entries : List Entry
  pub room : Option RequestKey
  pub slots : ℕ
  pub dues : ℕ
  pub stale : ℕ
  pub gone : List Entry
  pub clock : ℕ

-- what a `Log` stands for
unfoldable pub logged : Shown → Logged
logged l = record { capacity = l.capacity; share = l.share; entries = entries_at l.entries; room = l.room }

-- how many slots its maps have: what it keeps in memory for outcomes and for clients
unfoldable pub slots_of : Shown → ℕ
slots_of l = l.slots

-- how many expirations its heap has, those of what is withdrawn among them
unfoldable pub dues_of : Shown → ℕ
dues_of l = l.dues

-- of how many outcomes that expired the memory is not given back yet
unfoldable pub stale_of : Shown → ℕ
stale_of l = l.stale

-- how many of these are a client's
unfoldable pub stale_held : List ℕ → Shown → ℕ
stale_held client l = held_of client (keys_of (entries_at l.gone))

-- its clock: the greatest moment that was given to `forget` since it was 0 last
unfoldable pub clock_of : Shown → ℕ
clock_of l = l.clock
