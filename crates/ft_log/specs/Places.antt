-- The places under slots. No public contract, definition or law uses these words.
use Rattle.std.specs.Prelude.{◌≡◌, ◌≢◌, ℕ, Bool, Option, Some, None, is_some, unwrap_or}
use Rattle.slab.specs.Slab.{Slab, get}
use Rattle.ft_log.specs.declared.due.Due.{Due}

-- the place under a slot; none where what had it is withdrawn
abbrev pub place_in : Slab (Option ℕ) → ℕ → Option ℕ
place_in places slot = unwrap_or (get places slot) None

-- what has its slot is not withdrawn
abbrev pub is_kept : Slab (Option ℕ) → Due → Bool
is_kept places d = is_some (place_in places d.slot)

-- another place is under this slot, or none, and under each other what was
pub record IsChanged (old new : ℕ → Option ℕ) (slot : ℕ) (place : Option ℕ) : Type 0 where
  pub changed : new slot ≡ place
  pub others : (other : ℕ) → other ≢ slot → new other ≡ old other

-- what was moved has this place, and under each other slot is what was
abbrev pub IsMoved : Option ℕ → ℕ → (ℕ → Option ℕ) → (ℕ → Option ℕ) → Type 0
IsMoved None place old new = (slot : ℕ) → new slot ≡ old slot
IsMoved (Some slot) place old new = IsChanged old new slot (Some place)
