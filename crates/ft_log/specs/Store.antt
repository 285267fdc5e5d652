-- What shows of a `Log`, by its fields. Contracts speak of it as `logged`, `slots_of`, `dues_of`, `stale_of`, `stale_held`
-- and `clock_of` have it; that `slots` counts what the maps hold, and `dues` what the heap holds, is said here alone.
use Rattle.std.specs.Prelude.{ℕ, ◌+◌, nat_le, nat_lt, List, [], filter, option_map}
use Rattle.std.specs.List.{count_by}
use Rattle.std.specs.BinaryHeap.{heap_len}
use Rattle.indexmap.specs.IndexMap.{index_map_len}
use Rattle.ft_log.specs.Kept.{unexpired}
use Rattle.ft_log.specs.Logged.{Logged, Shown}
use Rattle.ft_log.specs.View.{key_of}
use Rattle.ft_log.specs.declared.store.Store.{Store}
use Rattle.ft_log.specs.declared.story.Entry.{Entry}

abbrev pub shown : Store → Shown
shown s = record {
  capacity = s.capacity;
  share = s.share;
  entries = s.story.entries;
  room = option_map (λ r. key_of r.key.key) s.room;
  slots = index_map_len s.kept.outcomes + index_map_len s.counts;
  dues = heap_len s.order.queue.heap;
  stale = 0;
  gone = [];
  clock = 0;
}

-- the entries whose expiration is at or after a moment
abbrev pub live : ℕ → List Entry → List Entry
live now es = filter (λ e. nat_le now e.expiration) es

-- the others
abbrev pub expired : ℕ → List Entry → List Entry
expired now es = filter (λ e. nat_lt e.expiration now) es

-- what shows of a log at a moment: what expired before it is here yet, and is no entry
abbrev pub shown_at : ℕ → Store → Shown
shown_at now s = record (shown s) { entries = live now s.story.entries; stale = count_by (λ e. nat_lt e.expiration now) s.story.entries; gone = expired now s.story.entries; clock = now }

-- the same of what stands for a log
abbrev pub live_from : ℕ → Logged → Logged
live_from now l = record l { entries = unexpired now l.entries }
