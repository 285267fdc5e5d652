-- What a queue has. No public contract, definition or law uses these words.
use Rattle.std.specs.Prelude.{◌≡◌, ℕ, ◌+◌, ◌-◌, Bool, true, if◌then◌else◌, nat_lt, List, filter, slice_get, Option}
use Rattle.std.specs.BinaryHeap.{heap_capacity, heap_items}
use Rattle.std.specs.List.{sum_by}
use Rattle.std.specs.Option.{option_map_or}
use Rattle.slab.specs.Slab.{slab_len}
use Rattle.ft_log.specs.Keys.{RequestKey}
use Rattle.ft_log.specs.Places.{is_kept, place_in}
use Rattle.ft_log.specs.View.{key_of}
use Rattle.ft_log.specs.declared.due.Due.{Due}
use Rattle.ft_log.specs.declared.queue.Queue.{Queue}

-- the place under a slot
abbrev pub place_at : Queue → ℕ → Option ℕ
place_at s slot = place_in s.places slot

-- those that are not withdrawn
abbrev pub kept_dues : Queue → List Due
kept_dues s = filter (is_kept s.places) (heap_items s.heap)

-- what is on top is not withdrawn
abbrev pub is_topped : Queue → Bool
is_topped s = option_map_or (is_kept s.places) (slice_get (heap_items s.heap) 0) true

-- for how many that are not withdrawn memory is reserved
abbrev pub fits : Queue → ℕ
fits s = if nat_lt (slab_len s.places) s.places.capacity then heap_capacity s.heap - s.withdrawn else 0

-- one of a key went
pub record IsOut (key : RequestKey) (old new : List Due) : Type 0 where
  pub due : Due
  pub of_key : key_of due.key.key ≡ key
  pub sums : (f : Due → ℕ) → sum_by f new + f due ≡ sum_by f old
