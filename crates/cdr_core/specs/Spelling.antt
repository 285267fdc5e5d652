-- Which octets are a value of a type: the rules of CDR 9.3.1 and CDR 9.3.2. The offset o is the place of the first octet.
use Rattle.std.specs.Prelude.{◌≡◌, ◌≢◌, ℕ, ◌+◌, ◌<◌, ◌≤◌, ℤ, Bool, true, false, List, [], ◌∷◌, ◌++◌, length, drop, if◌then◌else◌, ◌⊎◌}
use Rattle.std.specs.List.{AllByRecursion}
use Rattle.std.specs.Ordering.{int_eq}
use Rattle.cdr_core.specs.declared.order.Order.{Order}
use Rattle.cdr_core.specs.Form as form
use Rattle.cdr_core.specs.Form.{Form, Forms, Cases, size}
use Rattle.cdr_core.specs.Value as value
use Rattle.cdr_core.specs.Value.{Value, Values, count, label}
use Rattle.cdr_core.specs.Numbers.{padding, number_of, meaning}

-- A front of the octets is A, and the rest is B at the offset where the front ends.
pub record InTurn (A B : ℕ → List ℕ → Type 0) (o : ℕ) (octets : List ℕ) : Type 0 where
  pub front : List ℕ
  pub rest : List ℕ
  pub parts : octets ≡ front ++ rest
  pub first : A o front
  pub second : B (o + length front) rest

-- CDR 9.3.1.1, CDR 9.3.1.2: padding of any octets up to the next place divisible by n, and n octets that give the number x
pub record IsNumber (order : Order) (n x o : ℕ) (octets : List ℕ) : Type 0 where
  pub long : length octets ≡ padding o n + n
  pub gives : number_of order n (drop (padding o n) octets) ≡ x

-- a text holds no NUL
abbrev pub IsClean : List ℕ → Type 0
IsClean text = AllByRecursion (λ x. x ≢ 0) text

-- CDR 9.3.2.7: the text and one NUL, n octets. With n = 0 there are no octets and the text is empty
-- (own rule).
abbrev pub IsText : ℕ → List ℕ → ℕ → List ℕ → Type 0
IsText n text o octets =
    ((n ≡ 0) × (text ≡ []) × (octets ≡ [])) ⊎ ((n ≡ length text + 1) × IsClean text × (octets ≡ text ++ 0 ∷ []))

-- each value in turn is as `one` says
abbrev pub Each : (Value → ℕ → List ℕ → Type 0) → Values → ℕ → List ℕ → Type 0
Each one value.no_values o octets = octets ≡ []
Each one (value.value v vs) o octets = InTurn (one v) (Each one vs) o octets

-- there is one value, and it is as `one` says
abbrev pub OneOf : (Value → ℕ → List ℕ → Type 0) → Values → ℕ → List ℕ → Type 0
OneOf one (value.value v value.no_values) o octets = one v o octets
OneOf one _ o octets = ⊥

-- A if the test holds, else B
abbrev pub Chosen : Bool → Type 0 → Type 0 → Type 0
Chosen true A B = A
Chosen false A B = B

-- Spells t order v o octets: the octets are the value v of type t, from offset o on. That lengths and counts are within the
-- bounds of the type is IDL's rule.
abbrev mutual
  pub Spells : Form → Order → Value → ℕ → List ℕ → Type 0
  -- CDR 9.3.1.5: a boolean is the octet 0 or 1
  Spells form.boolean order (value.boolean b) o octets = octets ≡ (if b then 1 else 0) ∷ []
  -- CDR 9.3.1.2, CDR 9.3.1.4, CDR 9.3.1.6: a number follows its padding, in the order of the stream
  Spells (form.number kind) order (value.number same z) o octets = (same ≡ kind) × (x : ℕ) × IsNumber order (size kind) x o octets × (z ≡ meaning kind x)
  -- CDR 9.3.2.7: a string is its length with the NUL, its octets, and the NUL
  Spells (form.string bound) order (value.string text) o octets = (length text ≤ bound) × (n : ℕ) × InTurn (IsNumber order 4 n) (IsText n text) o octets
  -- CDR 9.3.2.5: a sequence is its count and its elements
  Spells (form.octets bound) order (value.octets all) o octets = (length all ≤ bound) × InTurn (IsNumber order 4 (length all)) (λ _ rest. rest ≡ all) o octets
  Spells (form.sequence bound t) order (value.sequence vs) o octets = (count vs ≤ bound) × InTurn (IsNumber order 4 (count vs)) (Each (Spells t order) vs) o octets
  -- CDR 9.3.2.4: an array is its elements
  Spells (form.array n t) order (value.array vs) o octets = (count vs ≡ n) × Each (Spells t order) vs o octets
  -- CDR 9.3.2.6: an enumeration is an unsigned long, the ordinal from 0
  Spells (form.enumeration n) order (value.enumeration x) o octets = (x < n) × IsNumber order 4 x o octets
  -- CDR 9.3.2.2: a struct is its members in order, with no alignment of its own
  Spells (form.structure ts) order (value.structure vs) o octets = SpellsMembers ts order vs o octets
  -- CDR 9.3.2.3: a union is its discriminator, and then the member that it selects, if it selects one
  Spells (form.union d cs) order (value.union v ms) o octets = InTurn (Spells d order v) (SpellsChosen cs order (label v) ms) o octets
  Spells _ order _ o octets = ⊥

  -- CDR 9.3.2.2: the members of a struct, one of each type, in order
  pub SpellsMembers : Forms → Order → Values → ℕ → List ℕ → Type 0
  SpellsMembers form.no_forms order value.no_values o octets = octets ≡ []
  SpellsMembers (form.form t ts) order (value.value v vs) o octets = InTurn (Spells t order v) (SpellsMembers ts order vs) o octets
  SpellsMembers _ order _ o octets = ⊥

  -- CDR 9.3.2.3: the member with that label, else the default, else nothing
  pub SpellsChosen : Cases → Order → ℤ → Values → ℕ → List ℕ → Type 0
  SpellsChosen form.otherwise_nothing order l value.no_values o octets = octets ≡ []
  SpellsChosen form.otherwise_nothing order l _ o octets = ⊥
  SpellsChosen (form.otherwise t) order l ms o octets = OneOf (Spells t order) ms o octets
  SpellsChosen (form.labelled k t cs) order l ms o octets = Chosen (int_eq k l) (OneOf (Spells t order) ms o octets) (SpellsChosen cs order l ms o octets)

-- A front of the octets, from offset o on, is A; `rest` follows it at the place p.
pub record Takes (A : ℕ → List ℕ → Type 0) (o : ℕ) (octets : List ℕ) (p : ℕ) (rest : List ℕ) : Type 0 where
  pub front : List ℕ
  pub parts : octets ≡ front ++ rest
  pub place : p ≡ o + length front
  pub holds : A o front
