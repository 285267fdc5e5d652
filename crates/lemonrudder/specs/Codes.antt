-- How types are spelled by the codes of the header: a code of several parts stands after the types that it takes.
use Rattle.std.specs.Prelude.{◌≡◌, ◌≢◌, ℕ, suc, List, [], ◌∷◌, ◌++◌, Result, Ok, Err}
use Rattle.std.proofs.Common.{Vec, Global}
use Rattle.cdr_core.specs.declared.types.Ty.{Ty}
use Rattle.cdr_core.specs.Fitting.{AreValid}
use Rattle.cdr_core.specs.Form as form
use Rattle.cdr_core.specs.Form.{Form, Forms, Number}
use Rattle.cdr_core.specs.Parts.{most}
use Rattle.cdr_core.specs.View.{forms_of}
use Rattle.lemonrudder.specs.declared.refusal.Refusal.{Refusal}
use Rattle.lemonrudder.specs.declared.refusal.Refusal.TheVariants as refusal

abbrev pub number_code : Number → ℕ
number_code form.char = 2
number_code form.octet = 3
number_code form.short = 4
number_code form.ushort = 5
number_code form.long = 6
number_code form.ulong = 7
number_code form.longlong = 8
number_code form.ulonglong = 9

-- how many types there are
abbrev pub count : Forms → ℕ
count form.no_forms = 0
count (form.form t ts) = suc (count ts)

abbrev mutual
  -- the codes of a type; strings and sequences have no bounds
  pub IsCode : Form → List ℕ → Type 0
  IsCode form.boolean codes = codes ≡ 1 ∷ []
  IsCode (form.number kind) codes = codes ≡ number_code kind ∷ []
  IsCode (form.string bound) codes = (bound ≡ most) × (codes ≡ 10 ∷ [])
  IsCode (form.octets bound) codes = (bound ≡ most) × (codes ≡ 11 ∷ [])
  IsCode (form.sequence bound t) codes = (bound ≡ most) × ((front : List ℕ) × (codes ≡ front ++ 12 ∷ []) × IsCode t front)
  IsCode (form.enumeration names) codes = codes ≡ 13 ∷ names ∷ []
  IsCode (form.structure ts) codes = (front : List ℕ) × (codes ≡ front ++ 14 ∷ count ts ∷ []) × AreCodes ts front
  IsCode _ codes = ⊥

  -- the codes of types, one after another
  pub AreCodes : Forms → List ℕ → Type 0
  AreCodes form.no_forms codes = codes ≡ []
  AreCodes (form.form t ts) codes = (front : List ℕ) × (rest : List ℕ) × (codes ≡ front ++ rest) × IsCode t front × AreCodes ts rest

-- codes spell no types that are valid
abbrev pub SpellNone : List ℕ → Type 0
SpellNone codes = (ts : Forms) → AreCodes ts codes → ¬ (AreValid ts)

-- some codes in front are those of types
abbrev pub BeginTypes : List ℕ → Type 0
BeginTypes codes = (ts : Forms) × (front : List ℕ) × (rest : List ℕ) × (codes ≡ front ++ rest) × (front ≢ []) × AreCodes ts front

-- codes are read as types, which are valid; or they spell none, or memory is short, which types take
abbrev pub AreTypes : List ℕ → Result (Vec Ty Global) Refusal → Type 0
AreTypes codes (Ok types) = AreCodes (forms_of types.items) codes × AreValid (forms_of types.items)
AreTypes codes (Err refusal.Types) = SpellNone codes
AreTypes codes (Err refusal.Memory) = BeginTypes codes
AreTypes codes (Err e) = ⊥
