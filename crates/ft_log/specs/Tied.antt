-- The entries of a log, as its map and its order have them. No public contract, definition or law uses these words.
use Rattle.std.specs.Prelude.{◌≡◌, ℕ, Bool, true, not, ◌&&◌, bytes_eq, nat_eq, nat_lt, if◌then◌else◌, List, [], ◌∷◌, length, Option, Some, None}
use Rattle.std.specs.Coded.{Coded-set, coded_option}
use Rattle.std.specs.Option.{option_eq}
use Rattle.std.specs.List.{list_any, sum_by}
use Rattle.ft_log.specs.Dues.{dues}
use Rattle.ft_log.specs.Keys.{RequestKey, held_of, same_key}
use Rattle.ft_log.specs.Maps.{Counts, is_countable}
use Rattle.ft_log.specs.Shelf.{has_room, kept_at, slot_at}
use Rattle.ft_log.specs.View.{key_of}
use Rattle.ft_log.specs.contracts.held.Held as code
use Rattle.ft_log.specs.declared.held.Held.{Held}
use Rattle.ft_log.specs.declared.story.Entry.{Entry}
use Rattle.ft_log.specs.declared.due.Due.{Due}
use Rattle.ft_log.specs.declared.order.Order.{Order}
use Rattle.ft_log.specs.declared.room.Room.{Room}
use Rattle.ft_log.specs.declared.shelf.Shelf.{Shelf}

-- the outcome of the entry with this key
abbrev pub outcome_for : RequestKey → List Entry → Option Held
outcome_for key [] = None
outcome_for key (e ∷ es) = if same_key key (key_of e.key) then Some e.outcome else outcome_for key es

-- what an entry is in the order of expirations
abbrev pub due_of : Entry → ℕ × RequestKey
due_of e = (e.expiration, key_of e.key)

abbrev pub due_in : Due → ℕ × RequestKey
due_in d = (d.until.0, key_of d.key.key)

-- its outcome is under its slot
abbrev pub is_slotted : Shelf → Due → Bool
is_slotted s d = option_eq nat_eq (slot_at s (key_of d.key.key)) (Some d.slot)

-- the map has the outcome of each entry and no other
abbrev pub AreOutcomes : Shelf → List Entry → Type 0
AreOutcomes m es = (key : RequestKey) → kept_at m key ≡ outcome_for key es

pub AreOutcomes-prop : (m : Shelf) (es : List Entry) → IsProp (AreOutcomes m es)
AreOutcomes-prop m es p q i key = Coded-set (coded_option code.the_row.coded) (kept_at m key) (outcome_for key es) (p key) (q key) i

-- the order has the expirations and the keys of the entries, each as often
abbrev pub AreDues : Order → List Entry → Type 0
AreDues o es = (f : ℕ × RequestKey → ℕ) → sum_by (λ d. f (due_in d)) (dues o) ≡ sum_by (λ e. f (due_of e)) es

-- what is made beforehand has the client
abbrev pub is_copied : Option Room → Bool
is_copied None = true
is_copied (Some r) = bytes_eq r.client_id.items (key_of r.key.key).client_id

-- one more outcome and, where clients are counted, one more client fit in the memory that is reserved
abbrev pub is_free : Bool → Shelf → Counts → Bool
is_free is_counted shelf counts = has_room shelf && is_countable is_counted counts

-- where room is made for a key, it is none of these keys, and there is a place for it: among `capacity` in all, among
-- `share` of its client, and in the memory that is reserved in the order and in the maps
abbrev pub is_ready : Option RequestKey → List RequestKey → ℕ → ℕ → ℕ → Bool → Bool
is_ready None keys capacity share places free = true
is_ready (Some key) keys capacity share places free =
    not (list_any (λ other. same_key key other) keys) && (nat_lt (length keys) capacity && (nat_lt (held_of key.client_id keys) share && (nat_lt (length keys) places && free)))
