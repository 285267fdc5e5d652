-- Codes of types that are read one by one.
use Rattle.std.specs.Prelude.{◌≡◌, ℕ, List, [], ◌∷◌, ◌++◌, Option, Some, None, Result, Ok, Err}
use Rattle.cdr_core.specs.Form.{Forms}
use Rattle.cdr_core.specs.View.{forms_of}
use Rattle.lemonrudder.specs.declared.refusal.Refusal.{Refusal}
use Rattle.lemonrudder.specs.declared.refusal.Refusal.TheVariants as refusal
use Rattle.lemonrudder.specs.declared.types.Counted.{Counted}
use Rattle.lemonrudder.specs.declared.types.Counted.TheVariants.{Enum, Struct}
use Rattle.lemonrudder.specs.declared.types.Spelling.{Spelling}
use Rattle.lemonrudder.specs.Codes.{AreCodes}

-- codes are those of types, but that the number after the last code, if it waits for one, has not come
abbrev pub HasRead : Option Counted → Forms → List ℕ → Type 0
HasRead None types codes = AreCodes types codes
HasRead (Some Enum) types codes = (front : List ℕ) × (codes ≡ front ++ 13 ∷ []) × AreCodes types front
HasRead (Some Struct) types codes = (front : List ℕ) × (codes ≡ front ++ 14 ∷ []) × AreCodes types front

-- no codes of types begin so
abbrev pub BeginNone : List ℕ → Type 0
BeginNone codes = (rest : List ℕ) (ts : Forms) → ¬ (AreCodes ts (codes ++ rest))

-- one more was read; or no codes of types begin so, or memory is short, which types take of which it is the last
abbrev pub Reads : List ℕ → Spelling → Result (Unit {0}) Refusal → Type 0
Reads codes s (Ok x) = HasRead s.waits (forms_of s.types.items) codes
Reads codes s (Err refusal.Types) = BeginNone codes
Reads codes s (Err refusal.Memory) = (ts : Forms) × AreCodes ts codes
Reads codes s (Err e) = ⊥

-- a code is read after those that were read before
abbrev pub ReadsMore : ℕ → Spelling → Spelling → Result (Unit {0}) Refusal → Type 0
ReadsMore code s t r = (codes : List ℕ) → HasRead s.waits (forms_of s.types.items) codes → Reads (codes ++ code ∷ []) t r

-- where it waits for the number after a code
abbrev pub waiting : Counted → Spelling → Spelling
waiting code s = record s { waits = Some code }
