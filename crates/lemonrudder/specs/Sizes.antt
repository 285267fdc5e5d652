-- How many octets messages and references have, before they are written into a room.
use Rattle.std.specs.Prelude.{◌≡◌, ℕ, zero, suc, ◌+◌, ◌*◌, ◌^◌, ◌<◌, ◌≤◌, List, [], ◌∷◌, length, Option, Some, None, Result, Ok, Err}
use Rattle.cdr_core.specs.Numbers.{padding}
use Rattle.giop_core.specs.declared.header.Version.{Version}
use Rattle.giop_core.specs.declared.header.Version.TheVariants.{V10, V11, V12}
use Rattle.ior_core.specs.declared.reference.Ior.{Ior}
use Rattle.ior_core.specs.declared.tagged.Tagged.{Tagged}
use Rattle.lemonrudder.specs.declared.refusal.Refusal.{Refusal}
use Rattle.lemonrudder.specs.declared.refusal.Refusal.TheVariants as refusal

-- where so many octets end that stand behind their count, at a place
unfoldable pub behind : (place count : ℕ) → ℕ
behind place count = place + padding place 4 + 4 + count

-- .. service contexts: one of so many octets, or none
abbrev pub contexts_end : (place context : ℕ) → ℕ
contexts_end place zero = behind place 0
contexts_end place (suc n) = behind (behind (behind place 0) 0) (suc n)

-- .. the fields of a Request, whose key, operation and service context have so many octets
abbrev pub fields_end : Version → (key operation context : ℕ) → ℕ
fields_end V12 key operation context = contexts_end (behind (behind 22 key) (operation + 1)) context
fields_end V11 key operation context = behind (behind (behind (behind (contexts_end 12 context) 0 + 4) key) (operation + 1)) 0
fields_end V10 key operation context = behind (behind (behind (behind (contexts_end 12 context) 0 + 1) key) (operation + 1)) 0

-- .. the body of a Request, of so many octets
abbrev pub body_end : Version → (place body : ℕ) → ℕ
body_end V12 place zero = place
body_end V12 place (suc n) = place + padding place 8 + suc n
body_end _ place n = place + n

-- .. a LocateRequest to a key of so many
abbrev pub locate_end : Version → (key : ℕ) → ℕ
locate_end V12 n = 24 + n
locate_end _ n = 20 + n

-- .. the data of an FT_REQUEST context, by those of the client id
abbrev pub ft_end : (client : ℕ) → ℕ
ft_end n = let place = behind (behind 1 (n + 1)) 0 in place + padding place 8 + 8

-- .. the profile of an address of IIOP 1.minor in its encapsulation, by those of the host and of the key
abbrev pub address_end : (host key : ℕ) → ℕ
address_end host key = let place = behind 3 (host + 1) in behind (place + padding place 2 + 2) key

abbrev pub profile_end : (minor host key : ℕ) → ℕ
profile_end zero host key = address_end host key
profile_end (suc n) host key = behind (address_end host key) 0

-- .. profiles, one after another
abbrev pub profiles_end : (place : ℕ) → List Tagged → ℕ
profiles_end place [] = place
profiles_end place (p ∷ ps) = profiles_end (behind (behind place 0) (length p.octets.items)) ps

-- how many characters the text of a reference has
abbrev pub text_size : Ior → ℕ
text_size r = 4 + 2 * profiles_end (behind (behind 1 (length r.type_id.items + 1)) 0) r.profiles.items

-- so many octets are not over a limit, and there is room for all; or they are, or there is none
abbrev pub HasRoom : (limit size room : ℕ) → Result (Unit {0}) Refusal → Type 0
HasRoom limit size room (Ok x) = (size ≤ limit) × (size ≤ room)
HasRoom limit size room (Err refusal.Long) = limit < size
HasRoom limit size room (Err refusal.Room) = (size ≤ limit) × (room < size)
HasRoom limit size room (Err e) = ⊥

-- a place, or none where no room reaches it
abbrev pub Within : Option ℕ → ℕ → Type 0
Within (Some n) place = n ≡ place
Within None place = 2 ^ 62 ≤ place
