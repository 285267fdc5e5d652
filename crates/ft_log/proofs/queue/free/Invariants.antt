use Rattle.std.proofs.Common.{◌≡◌, ◌≤◌, ◌==◌, if◌then◌else◌, ℕ, nat_lt, option_map, take, Some}
use Rattle.std.specs.List.{count_by}
use Rattle.slab.specs.Slab.{get, slab_len}
use Rattle.ft_log.specs.Places.{place_in}
use Rattle.ft_log.proofs.queue.free.Given as goal

-- the slots before this one are free, where nothing is kept under them
abbrev pub invariant-loop-due : goal.invariant-loop-due
invariant-loop-due l = record {
  freed : (slot : ℕ) → get l.places slot ≡ (if nat_lt 0 (count_by (λ d. d.slot == slot) (take l.due-index l.dues)) then option_map Some (place_in l.fn.places slot) else get l.fn.places slot);
  len : slab_len l.places ≤ slab_len l.fn.places;
  capacity : l.places.capacity ≡ l.fn.places.capacity;
}
