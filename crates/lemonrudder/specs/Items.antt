-- An item with a number, such as a service context with its id, that is copied into room of the caller.
use Rattle.std.specs.Prelude.{◌≡◌, ℕ, List, length, Option, Some, None, Result, Ok, Err}
use Rattle.lemonrudder.specs.declared.refusal.Refusal.{Refusal}
use Rattle.lemonrudder.specs.declared.refusal.Refusal.TheVariants as refusal
use Rattle.lemonrudder.specs.Refusals.{filled}

-- the number is given, as many of the octets are copied as the room has, and their length is returned; or there is no item
abbrev pub CopiesItem : Option (ℕ × List ℕ) → (id given : ℕ) → (room new : List ℕ) → Result ℕ Refusal → Type 0
CopiesItem None id given room new r = (r ≡ Err refusal.None) × (given ≡ id) × (new ≡ room)
CopiesItem (Some item) id given room new r = (r ≡ Ok (length item.1)) × (given ≡ item.0) × (new ≡ filled item.1 room)
