-- IIOP profiles: which octets are one, and how they are read.
use Rattle.std.specs.Prelude.{◌≡◌, ℕ, zero, suc, pos, Bool, true, false, List, [], ◌∷◌, ◌++◌, Option, Some, None, Result, Ok, Err, IsOk, ⊤, ◌⊎◌, if◌then◌else◌}
use Rattle.std.specs.Ordering.{int_eq}
use Rattle.cdr_core.specs.declared.fault.Fault.{Fault}
use Rattle.cdr_core.specs.declared.order.Order.{Order}
use Rattle.cdr_core.specs.Encapsulation.{encapsulated, order_at}
use Rattle.cdr_core.specs.Form.{Form}
use Rattle.cdr_core.specs.Memory.{AfterRead}
use Rattle.cdr_core.specs.Parts.{octet_value, ushort_value}
use Rattle.cdr_core.specs.Reading.{◌>>=◌, Read, value_at}
use Rattle.cdr_core.specs.Spelling.{Spells}
use Rattle.cdr_core.specs.Stopping.{Stops}
use Rattle.cdr_core.specs.Value as value
use Rattle.cdr_core.specs.Value.{Value, Values, label, values}
use Rattle.cdr_core.specs.Writing.{IsWritable}
use Rattle.ior_core.specs.declared.error.IorError.{IorError}
use Rattle.ior_core.specs.declared.error.IorError.TheVariants.{BadMajor, Cdr, Memory}
use Rattle.ior_core.specs.declared.profile.IiopProfile.{IiopProfile}
use Rattle.ior_core.specs.declared.tagged.Tagged.{Tagged}
use Rattle.ior_core.specs.Grammar.{profile_1_0, profile_1_1}
use Rattle.ior_core.specs.Memory.{StoresTagged}
use Rattle.ior_core.specs.View.{list_value}

-- the member of a struct at a place, counted from 0
abbrev pub nth : ℕ → Values → Value
nth n value.no_values = value.boolean false
nth zero (value.value v vs) = v
nth (suc n) (value.value v vs) = nth n vs

abbrev pub member : ℕ → Value → Value
member n (value.structure vs) = nth n vs
member n _ = value.boolean false

-- the octets of a sequence
abbrev pub content : Value → List ℕ
content (value.octets all) = all
content _ = []

abbrev pub has_major_1 : Value → Bool
has_major_1 v = int_eq (label (member 0 v)) (pos 1)

abbrev pub has_minor_0 : Value → Bool
has_minor_0 v = int_eq (label (member 1 v)) (pos 0)

-- The type of a profile, by whether its minor version is 0. That each other minor version has the components of 1.1,
-- and that a profile of another major version is laid out alike, are own rules.
abbrev pub type_where : Bool → Form
type_where is_minor_0 = if is_minor_0 then profile_1_0 else profile_1_1

abbrev pub type_of : Value → Form
type_of v = type_where (has_minor_0 v)

-- the octets of a profile in an encapsulation: those of its value by the type of its own version
abbrev pub IsBody : Order → Value → ℕ → List ℕ → Type 0
IsBody order v o octets = Spells (type_of v) order v o octets

-- The octets have the fault f as a profile: as the members of 1.0, which each profile has; or these are spelled, and the
-- octets have it by the type of the version that they give.
abbrev pub StopsBody : Order → ℕ → List ℕ → Fault → Type 0
StopsBody order o octets f =
    Stops profile_1_0 order o octets f ⊎ ((v : Value) × (front : List ℕ) × (rest : List ℕ) × (octets ≡ front ++ rest) × Spells profile_1_0 order v o front × Stops (type_of v) order o octets f)

-- The members of 1.0, which each profile has, give the version, and with it the type.
unfoldable pub body_at : Order → ℕ → List ℕ → Read Value
body_at order o octets = do
  v ← value_at profile_1_0 order o octets
  value_at (type_of v.0) order o octets

-- what the octets of a profile hold
abbrev pub body_of : List ℕ → Result Value Fault
body_of octets = encapsulated body_at octets

-- the key of a profile of major version 1 that is valid
abbrev pub key_of : Result Value Fault → Option (List ℕ)
key_of (Ok v) = if has_major_1 v then Some (content (member 4 v)) else None
key_of (Err f) = None

-- the components among the members of a profile of a minor version
abbrev pub components_of : ℕ → List Tagged → List Value
components_of zero components = []
components_of (suc n) components = list_value components ∷ []

-- the value of a profile of the code, whose major version is 1
abbrev pub iiop_body : IiopProfile → Value
iiop_body p = value.structure (values (octet_value 1 ∷ octet_value p.minor ∷ value.string p.host.items ∷ ushort_value p.port ∷ value.octets p.object_key.items ∷ components_of p.minor p.components.items))

-- a profile of 1.0 has no components
abbrev pub HasNone : ℕ → List Tagged → Type 0
HasNone zero components = components ≡ []
HasNone (suc n) components = ⊤

-- What reading a profile gives. That BadMajor is reported only where the whole profile is valid apart from its major
-- version is an own rule.
abbrev pub ReadsProfile : Result Value Fault → Result IiopProfile IorError → Type 0
ReadsProfile body (Ok p) = (body ≡ Ok (iiop_body p)) × HasNone p.minor p.components.items
ReadsProfile body (Err (Cdr f)) = body ≡ Err f
ReadsProfile body (Err BadMajor) = (v : Value) × (body ≡ Ok v) × (has_major_1 v ≡ false)
ReadsProfile body (Err Memory) = ⊤
ReadsProfile body (Err _) = ⊥

-- a component was read, whole, that ends at the place p; in 1.0 there are none
abbrev pub StoresComponents : Bool → Order → ℕ → List ℕ → ℕ → Type 0
StoresComponents true order o octets p = ⊥
StoresComponents false order o octets p = StoresTagged order o octets p

-- Reading a profile may run out of memory: the whole profile was read, or the members of 1.0 and a whole component.
abbrev pub ProfileMayRunOut : List ℕ → Type 0
ProfileMayRunOut octets = IsOk (body_of octets) ⊎ AfterRead (order_at octets) (λ order o rest. AfterRead (value_at profile_1_0 order o rest) (λ v q more. (p : ℕ) × StoresComponents (has_minor_0 v) order q more p))

-- what can be written: lengths fit an unsigned long, no NUL stands in the host, and 1.0 has no components
abbrev pub IsWritableProfile : IiopProfile → Type 0
IsWritableProfile p = IsWritable (iiop_body p) × HasNone p.minor p.components.items
