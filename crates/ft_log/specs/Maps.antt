-- What a log's maps have. No public contract, definition or law uses these words.
use Rattle.std.specs.Prelude.{◌≡◌, ℕ, Bool, not, ◌||◌, nat_lt, List, [], ◌∷◌, ◌++◌, map, Option, Some, None, unwrap_or}
use mir.Syntax.{w32}
use mir.Val.{to_z}
use Rattle.std.specs.declared.random_state.RandomState.{RandomState}
use Rattle.indexmap.specs.IndexMap.{IndexMap, get_by, spare}
use Rattle.ft_log.specs.Keys.{RequestKey}
use Rattle.ft_log.specs.Names.{is_named}
use Rattle.ft_log.specs.declared.key.Key.{Key}
use Rattle.ft_log.specs.declared.name.Name.{Name}
use Rattle.ft_log.specs.declared.shelf.Kept.{Kept}

abbrev pub Outcomes : Type 0
Outcomes = IndexMap Name Kept RandomState

abbrev pub Counts : Type 0
Counts = IndexMap Name ℕ RandomState

-- the key that a name with a number stands for
abbrev pub key_in : Name → RequestKey
key_in n = record { client_id = n.client_id.items; retention_id = unwrap_or n.number (to_z w32 0) }

-- the same, as a mark has it
abbrev pub marked_in : Name → Key
marked_in n = record { client_id = n.client_id; retention_id = unwrap_or n.number (to_z w32 0) }

-- what stands under a key
abbrev pub under : Outcomes → RequestKey → Option Kept
under m key = get_by (is_named key.client_id (Some key.retention_id)) m

-- the entries with one more, of this key
pub record IsPushed (key : RequestKey) (kept : Kept) (old new : List (Name × Kept)) : Type 0 where
  pub name : Name
  pub of_key : key_in name ≡ key
  pub is : new ≡ old ++ (name, kept) ∷ []

-- the count of a client
abbrev pub held_at : Counts → List ℕ → ℕ
held_at m client = unwrap_or (get_by (is_named client None) m) 0

-- one more client can be counted, where clients are counted
abbrev pub is_countable : Bool → Counts → Bool
is_countable is_counted m = not is_counted || nat_lt 0 (spare m)

-- what stands under a name, as an entry stands in the order of expirations
abbrev pub due_at : Name × Kept → ℕ × RequestKey
due_at p = (p.1.until, key_in p.0)

-- a name with the slot and the expiration of what stands under it
abbrev pub slot_of : Name × Kept → Name × ℕ × ℕ
slot_of p = (p.0, p.1.slot, p.1.until)

-- the same names in the same order, each with the slot and the expiration that it had
abbrev pub IsRefilled : List (Name × Kept) → List (Name × Kept) → Type 0
IsRefilled old new = map slot_of new ≡ map slot_of old
