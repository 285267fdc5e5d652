-- The entries once the outcome of a parked call is there. No public contract, definition or law uses these words.
use Rattle.std.specs.Prelude.{ℕ, Bool, ◌&&◌, if◌then◌else◌, List, map}
use Rattle.ft_log.specs.Keys.{RequestKey, same_key}
use Rattle.ft_log.specs.Kept.{is_parked}
use Rattle.ft_log.specs.View.{key_of, holding_in}
use Rattle.ft_log.specs.declared.held.Held.{Held}
use Rattle.ft_log.specs.declared.shelf.Kept.{Kept}
use Rattle.ft_log.specs.declared.story.Entry.{Entry}

abbrev pub put_if : Bool → Held → Entry → Entry
put_if b outcome e = if b then record { key = e.key; expiration = e.expiration; outcome = outcome } else e

-- an entry with the outcome, where it is of the key, and of the call that is parked under the number
abbrev pub put_in : RequestKey → ℕ → Held → Entry → Entry
put_in key number outcome e = put_if (same_key key (key_of e.key) && is_parked number (holding_in e.outcome)) outcome e

-- the entries with the outcome of another, which has the number in the place of an expiration
abbrev pub filled_by : Entry → List Entry → List Entry
filled_by e es = map (put_in (key_of e.key) e.expiration e.outcome) es

-- the same of what stands under a key
abbrev pub put_at : ℕ → Held → Kept → Kept
put_at number outcome k = if is_parked number (holding_in k.outcome) then record { slot = k.slot; until = k.until; outcome = outcome } else k
