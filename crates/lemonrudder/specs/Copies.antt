-- Octets that are copied into room of the caller.
use Rattle.std.specs.Prelude.{◌≡◌, ℕ, ◌<◌, ◌≤◌, List, length, Option, Some, None, Result, Ok, Err}
use Rattle.lemonrudder.specs.declared.refusal.Refusal.{Refusal}
use Rattle.lemonrudder.specs.declared.refusal.Refusal.TheVariants as refusal
use Rattle.lemonrudder.specs.Refusals.{filled}

-- as many of some octets are copied as the room has, if there are such, and their length is returned
abbrev pub Copies : Option (List ℕ) → List ℕ → List ℕ → Result ℕ Refusal → Type 0
Copies None room new r = (r ≡ Err refusal.None) × (new ≡ room)
Copies (Some octets) room new r = (r ≡ Ok (length octets)) × (new ≡ filled octets room)

-- all of some octets are copied into a room, and their length is returned; or the room is too small
abbrev pub Fits : List ℕ → (room new : List ℕ) → Result ℕ Refusal → Type 0
Fits octets room new (Ok n) = (n ≡ length octets) × (length octets ≤ length room) × (new ≡ filled octets room)
Fits octets room new (Err refusal.Room) = (length room < length octets) × (new ≡ room)
Fits octets room new (Err e) = ⊥

-- the same; or there was no memory to make them, for which there is room
abbrev pub FitsMade : List ℕ → (room new : List ℕ) → Result ℕ Refusal → Type 0
FitsMade octets room new (Err refusal.Memory) = (length octets ≤ length room) × (new ≡ room)
FitsMade octets room new r = Fits octets room new r
