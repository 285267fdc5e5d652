-- What a shelf has. No public contract, definition or law uses these words.
use Rattle.std.specs.Prelude.{◌≡◌, ◌<◌, ◌==◌, ◌&&◌, ℕ, Bool, false, bytes_eq, nat_le, nat_lt, min, IfNone, IfSome, if◌then◌else◌, List, Option, None, Some, option_map, slice_get}
use Rattle.std.specs.List.{count_by, swap_remove}
use Rattle.std.specs.Option.{option_map_or}
use Rattle.indexmap.specs.IndexMap.{spare}
use Rattle.ft_log.specs.Keys.{RequestKey}
use Rattle.ft_log.specs.Maps.{key_in, under}
use Rattle.ft_log.specs.Names.{is_named}
use Rattle.ft_log.specs.View.{key_of}
use Rattle.ft_log.specs.declared.due.Spot.{Spot}
use Rattle.ft_log.specs.declared.held.Held.{Held}
use Rattle.ft_log.specs.declared.name.Name.{Name}
use Rattle.ft_log.specs.declared.shelf.Kept.{Kept}
use Rattle.ft_log.specs.declared.shelf.Shelf.{Shelf}

-- what stands under a key
abbrev pub at_key : Shelf → RequestKey → Option Kept
at_key s key = under s.outcomes key

-- the outcome under a key
abbrev pub kept_at : Shelf → RequestKey → Option Held
kept_at s key = option_map (λ k. k.outcome) (at_key s key)

-- the outcome, where it is repeated at this moment
abbrev pub live_at : ℕ → Option Kept → Option Held
live_at now None = None
live_at now (Some k) = if nat_le now k.until then Some k.outcome else None

-- the slot under a key
abbrev pub slot_at : Shelf → RequestKey → Option ℕ
slot_at s key = option_map (λ k. k.slot) (at_key s key)

-- one more outcome fits
abbrev pub has_room : Shelf → Bool
has_room s = nat_lt 0 (spare s.outcomes)

-- in this place is what is kept for this key
abbrev pub is_at : RequestKey → ℕ → Shelf → Bool
is_at key place s = option_map_or (λ p. is_named key.client_id (Some key.retention_id) p.0) (slice_get s.outcomes.entries place) false

-- the expiration of what is in this place
abbrev pub until_in : ℕ → Shelf → ℕ
until_in place s = option_map_or (λ p. p.1.until) (slice_get s.outcomes.entries place) 0

-- the least expiration at or after a moment
pub record IsLeast (now : ℕ) (least : Option ℕ) (es : List (Name × Kept)) : Type 0 where
  pub none : IfNone least (count_by (λ p. nat_le now p.1.until) es ≡ 0)
  pub before : IfSome least (λ t. count_by (λ p. nat_le now p.1.until && nat_lt p.1.until t) es ≡ 0)
  pub there : IfSome least (λ t. 0 < count_by (λ p. nat_le now p.1.until && p.1.until == t) es)

-- the lesser of this one and of an expiration, where that is at or after a moment
abbrev pub lesser : ℕ → ℕ → Option ℕ → Option ℕ
lesser now until None = if nat_le now until then Some until else None
lesser now until (Some t) = if nat_le now until then Some (min t until) else Some t

-- what is there expired before a moment, and is a client's
abbrev pub is_stale : ℕ → List ℕ → Name × Kept → Bool
is_stale now client p = nat_lt p.1.until now && bytes_eq (key_in p.0).client_id client

-- this is where something is that expired before a moment and is a client's
pub record IsStale (spot : Spot) (now : ℕ) (client : List ℕ) (es : List (Name × Kept)) : Type 0 where
  pub name : Name
  pub kept : Kept
  pub there : slice_get es spot.place ≡ Some (name, kept)
  pub before : kept.until < now
  pub of_client : (key_in name).client_id ≡ client
  pub slot : spot.slot ≡ kept.slot
  pub key : key_of spot.key.key ≡ key_in name

-- what was in a place is gone, and the last stands there
pub record IsTaken (place : ℕ) (old new : List (Name × Kept)) : Type 0 where
  pub was : Name × Kept
  pub there : slice_get old place ≡ Some was
  pub is : new ≡ swap_remove old place was
