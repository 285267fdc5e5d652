-- Which types are valid, and which values are of a type.
use Rattle.std.specs.Prelude.{◌≡◌, ◌≢◌, ◌+◌, ◌<◌, ◌≤◌, ◌^◌, ℤ, pos, ◌≤ℤ◌, ◌<ℤ◌, FitsSigned, length, ⊤}
use Rattle.std.specs.Int.{FitsUnsigned, w8, w16, w32, w64}
use Rattle.std.specs.List.{AllByRecursion}
use Rattle.std.specs.Ordering.{int_eq}
use Rattle.cdr_core.specs.Form as form
use Rattle.cdr_core.specs.Form.{Form, Forms, Cases, Number}
use Rattle.cdr_core.specs.Value as value
use Rattle.cdr_core.specs.Value.{Value, Values, count, label}
use Rattle.cdr_core.specs.Spelling.{Chosen}

-- the range of a number's type (CDR 9.3.1.2, CDR 9.3.1.4, CDR 9.3.1.6)
abbrev pub InRange : Number → ℤ → Type 0
InRange form.char z = FitsUnsigned w8 z
InRange form.octet z = FitsUnsigned w8 z
InRange form.short z = FitsSigned w16 z
InRange form.ushort z = FitsUnsigned w16 z
InRange form.long z = FitsSigned w32 z
InRange form.ulong z = FitsUnsigned w32 z
InRange form.longlong z = FitsSigned w64 z
InRange form.ulonglong z = FitsUnsigned w64 z

-- a type that IDL allows for a discriminator: a boolean, a character, an enumeration or an integer that is no octet
abbrev pub IsDiscriminator : Form → Type 0
IsDiscriminator form.boolean = ⊤
IsDiscriminator (form.number form.octet) = ⊥
IsDiscriminator (form.number _) = ⊤
IsDiscriminator (form.enumeration n) = ⊤
IsDiscriminator _ = ⊥

-- a label that is a value of the discriminator's type
abbrev pub IsLabel : Form → ℤ → Type 0
IsLabel form.boolean l = (pos 0 ≤ℤ l) × (l <ℤ pos 2)
IsLabel (form.number kind) l = InRange kind l
IsLabel (form.enumeration n) l = (pos 0 ≤ℤ l) × (l <ℤ pos n)
IsLabel _ l = ⊥

-- none of the cases has the label
abbrev pub IsNoLabel : ℤ → Cases → Type 0
IsNoLabel l form.otherwise_nothing = ⊤
IsNoLabel l (form.otherwise t) = ⊤
IsNoLabel l (form.labelled k t cs) = (k ≢ l) × IsNoLabel l cs

abbrev mutual
  -- an IDL type: an array has an element, an enumeration a name, a struct a member
  pub IsValid : Form → Type 0
  IsValid (form.sequence bound t) = IsValid t
  IsValid (form.array n t) = (1 ≤ n) × (n < 2 ^ 32) × IsValid t
  IsValid (form.enumeration n) = 1 ≤ n
  IsValid (form.structure ts) = (ts ≢ form.no_forms) × AreValid ts
  IsValid (form.union d cs) = IsDiscriminator d × IsValid d × AreCases d cs
  IsValid _ = ⊤

  -- each of the types is valid
  pub AreValid : Forms → Type 0
  AreValid form.no_forms = ⊤
  AreValid (form.form t ts) = IsValid t × AreValid ts

  -- the cases of a union: labels are distinct values of the discriminator's type, members are valid
  pub AreCases : Form → Cases → Type 0
  AreCases d form.otherwise_nothing = ⊤
  AreCases d (form.otherwise t) = IsValid t
  AreCases d (form.labelled k t cs) = IsLabel d k × IsNoLabel k cs × IsValid t × AreCases d cs

-- each of the values has the property P
abbrev pub AllFit : (Value → Type 0) → Values → Type 0
AllFit P value.no_values = ⊤
AllFit P (value.value v vs) = P v × AllFit P vs

-- there is one value, and it has the property P
abbrev pub OneFits : (Value → Type 0) → Values → Type 0
OneFits P (value.value v value.no_values) = P v
OneFits P _ = ⊥

abbrev mutual
  -- the value is one of the type: lengths are within the bound and, with a string's NUL, within an unsigned long (CDR 9.3.2)
  pub Fits : Form → Value → Type 0
  Fits form.boolean (value.boolean b) = ⊤
  Fits (form.number kind) (value.number same z) = (same ≡ kind) × InRange kind z
  Fits (form.string bound) (value.string text) = (length text ≤ bound) × (length text + 1 < 2 ^ 32) × AllByRecursion (λ x. x ≢ 0) text
  Fits (form.octets bound) (value.octets octets) = (length octets ≤ bound) × (length octets < 2 ^ 32)
  Fits (form.sequence bound t) (value.sequence vs) = (count vs ≤ bound) × (count vs < 2 ^ 32) × AllFit (Fits t) vs
  Fits (form.array n t) (value.array vs) = (count vs ≡ n) × (count vs < 2 ^ 32) × AllFit (Fits t) vs
  Fits (form.enumeration n) (value.enumeration x) = (x < n) × (x < 2 ^ 32)
  Fits (form.structure ts) (value.structure vs) = FitsMembers ts vs
  Fits (form.union d cs) (value.union v ms) = Fits d v × FitsChosen cs (label v) ms
  Fits _ _ = ⊥

  -- the values are the members of a struct
  pub FitsMembers : Forms → Values → Type 0
  FitsMembers form.no_forms value.no_values = ⊤
  FitsMembers (form.form t ts) (value.value v vs) = Fits t v × FitsMembers ts vs
  FitsMembers _ _ = ⊥

  -- CDR 9.3.2.3: the member with that label, else the default, else nothing
  pub FitsChosen : Cases → ℤ → Values → Type 0
  FitsChosen form.otherwise_nothing l value.no_values = ⊤
  FitsChosen form.otherwise_nothing l _ = ⊥
  FitsChosen (form.otherwise t) l ms = OneFits (Fits t) ms
  FitsChosen (form.labelled k t cs) l ms = Chosen (int_eq k l) (OneFits (Fits t) ms) (FitsChosen cs l ms)
