-- Slots and places. No public contract, definition or law uses these words.
use Rattle.std.specs.Prelude.{◌≡◌, ℕ, List, Option, Some, slice_get}
use Rattle.std.specs.Coded.{Coded-set, coded_option, coded_ℕ}
use Rattle.ft_log.specs.declared.name.Name.{Name}
use Rattle.ft_log.specs.declared.shelf.Kept.{Kept}

-- under the slot of each outcome stands its place
abbrev pub ArePlaced : List (Name × Kept) → (ℕ → Option ℕ) → Type 0
ArePlaced es under = (x : ℕ) (p : Name × Kept) → slice_get es x ≡ Some p → under p.1.slot ≡ Some x

pub ArePlaced-prop : (es : List (Name × Kept)) (under : ℕ → Option ℕ) → IsProp (ArePlaced es under)
ArePlaced-prop es under p q i x e h = Coded-set (coded_option coded_ℕ) (under e.1.slot) (Some x) (p x e h) (q x e h) i
