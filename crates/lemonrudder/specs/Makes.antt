-- How a reference is made: of a text, or of an address of IIOP.
use Rattle.std.specs.Prelude.{◌≡◌, ◌≢◌, ℕ, ◌<◌, ◌≤◌, List, [], ◌∷◌, length, map, All, Option, Some, None, Result, Ok, Err, ◌⊎◌, IsUtf8}
use Rattle.cdr_core.specs.Parts.{octet_value, ushort_value}
use Rattle.cdr_core.specs.Value as value
use Rattle.cdr_core.specs.Value.{Value, values}
use Rattle.cdr_core.specs.Writing.{IsWritable}
use Rattle.corbaloc.specs.Grammar.{SpellsLocation}
use Rattle.corbaloc.specs.Reference.{body, profile}
use Rattle.corbaloc.specs.declared.location.Location.{Location}
use Rattle.ior_core.specs.Keys.{tag_and_octets_of, tag_internet_iop}
use Rattle.ior_core.specs.Profiles.{components_of}
use Rattle.ior_core.specs.Text.{ReadsText}
use Rattle.ior_core.specs.View.{tag_and_octets}
use Rattle.ior_core.specs.Writing.{encapsulation_of}
use Rattle.ior_core.specs.declared.error.IorError.{IorError}
use Rattle.ior_core.specs.declared.error.IorError.TheVariants.{Memory, NoPrefix}
use Rattle.ior_core.specs.declared.reference.Ior.{Ior}
use Rattle.ior_core.specs.declared.tagged.Tagged.{Tagged}
use Rattle.lemonrudder.specs.declared.referring.Referring.{Referring}
use Rattle.lemonrudder.specs.declared.refusal.Refusal.{Refusal}
use Rattle.lemonrudder.specs.declared.refusal.Refusal.TheVariants as refusal
use Rattle.lemonrudder.specs.Refers.{reference}

-- a location stands for a reference: of no type, and with a profile of IIOP for each address in order, which has the key
abbrev pub StandsFor : Location → Ior → Type 0
StandsFor location ior = (ior.type_id.items ≡ []) × (map tag_and_octets_of ior.profiles.items ≡ map (profile location.key.items) location.addresses.items)

-- a location has more addresses than are taken, or one that no profile can have
abbrev pub IsLarge : Location → Type 0
IsLarge location = (64 < length location.addresses.items) ⊎ (All (λ one. IsWritable (body location.key.items one)) location.addresses.items → ⊥)

-- a text is read as a URL of no more addresses, whose location stands for a reference; or it spells none, or too large a one
abbrev pub IsLocated : List ℕ → Option Ior → Type 0
IsLocated text (Some ior) = (location : Location) × SpellsLocation text location × (length location.addresses.items ≤ 64) × StandsFor location ior
IsLocated text None = ((location : Location) → SpellsLocation text location → ⊥) ⊎ ((location : Location) × SpellsLocation text location × IsLarge location)

-- a text does not begin as that of a reference does
abbrev pub IsNoText : List ℕ → Type 0
IsNoText text = ReadsText text (Err NoPrefix)

-- a text is read as a reference, or as a URL of one; or it spells none, or memory is short
abbrev pub IsParsed : List ℕ → Result Referring Refusal → Type 0
IsParsed text (Ok s) = ReadsText text (Ok s.ior) ⊎ (IsNoText text × IsLocated text (Some s.ior))
IsParsed text (Err refusal.Reference) = (¬ (IsUtf8 text)) ⊎ (((e : IorError) × (e ≢ Memory) × (e ≢ NoPrefix) × ReadsText text (Err e)) ⊎ (IsNoText text × IsLocated text None))
IsParsed text (Err refusal.Memory) = ReadsText text (Err Memory) ⊎ IsNoText text
IsParsed text (Err e) = ⊥

-- the profile of IIOP 1.minor of an object at an address, without components
abbrev pub profile_to : (minor : ℕ) → (host : List ℕ) → (port : ℕ) → (key : List ℕ) → Value
profile_to minor host port key = value.structure (values (octet_value 1 ∷ octet_value minor ∷ value.string host ∷ ushort_value port ∷ value.octets key ∷ components_of minor []))

-- a reference of a type with one profile of IIOP
abbrev pub reference_to : (type_id : List ℕ) → (profile : Value) → Value
reference_to type_id profile = value.structure (values (value.string type_id ∷ value.sequence (values (tag_and_octets tag_internet_iop (encapsulation_of profile) ∷ [])) ∷ []))

-- a reference of a type to an address is made; or there is no such version, or it can't be written, which takes no memory, or memory is short
abbrev pub IsAddressed : (type_id : List ℕ) → (minor : ℕ) → (profile : Value) → Result Referring Refusal → Type 0
IsAddressed type_id minor profile (Ok s) = (minor ≤ 2) × IsWritable profile × IsWritable (reference s) × (reference s ≡ reference_to type_id profile)
IsAddressed type_id minor profile (Err refusal.Range) = 2 < minor
IsAddressed type_id minor profile (Err refusal.Text) = (minor ≤ 2) × ((¬ (IsWritable profile)) ⊎ (¬ (IsWritable (reference_to type_id profile))))
IsAddressed type_id minor profile (Err refusal.Memory) = (minor ≤ 2) × IsWritable profile × IsWritable (reference_to type_id profile)
IsAddressed type_id minor profile (Err e) = ⊥

-- Words of private functions.

-- the profile of such a reference
abbrev pub IsProfile : (profile : Value) → Tagged → Type 0
IsProfile profile p = (p.tag ≡ tag_internet_iop) × (p.octets.items ≡ encapsulation_of profile)
