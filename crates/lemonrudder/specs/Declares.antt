-- What a call on a catalogue does that takes types.
use Rattle.std.specs.Prelude.{◌≡◌, ◌⊎◌, ℕ, List, [], ◌∷◌, ◌++◌, Result, Ok, Err}
use Rattle.cdr_core.specs.Fitting.{AreValid}
use Rattle.cdr_core.specs.Form.{Forms}
use Rattle.ft_objects.specs.Interfaces.{Interface, checked_operation}
use Rattle.lemonrudder.specs.declared.cataloguing.Cataloguing.{Cataloguing}
use Rattle.lemonrudder.specs.declared.refusal.Refusal.{Refusal}
use Rattle.lemonrudder.specs.declared.refusal.Refusal.TheVariants as refusal
use Rattle.lemonrudder.specs.Codes.{AreCodes, BeginTypes, SpellNone}
use Rattle.lemonrudder.specs.Fills.{AddsOperation, Filling, filling}

-- valid types of which these are the codes
abbrev pub Spell : Forms → List ℕ → Type 0
Spell types codes = AreCodes types codes × AreValid types

-- with one more exception of the operation that is added next
abbrev pub with_exception : List ℕ → Forms → Filling → Filling
with_exception id types x = record x { raises = x.raises ++ (id, types) ∷ [] }

-- an exception of that operation is declared; or its codes spell no types, or memory is short for them or for it, and nothing has changed
abbrev pub OnException : (id members : List ℕ) → Cataloguing → Cataloguing → Result ℕ Refusal → Type 0
OnException id members s t (Ok n) = (n ≡ 0) × ((types : Forms) × Spell types members × (filling t ≡ with_exception id types (filling s)))
OnException id members s t (Err refusal.Types) = SpellNone members × (filling t ≡ filling s)
OnException id members s t (Err refusal.Memory) = (BeginTypes members ⊎ ((types : Forms) × Spell types members)) × (filling t ≡ filling s)
OnException id members s t (Err e) = ⊥

-- the exceptions that were declared are forgotten
abbrev pub forgotten : Filling → Filling
forgotten x = record x { raises = [] }

-- an operation of these types, with the exceptions that were declared; its bodies are octets, which the types judge
abbrev pub declared : (arguments results : Forms) → Filling → Interface
declared arguments results x = checked_operation (record { arguments = arguments; results = results; raises = x.raises })

-- no operation is added, and only those exceptions are forgotten: codes spell no types, or memory is short
abbrev pub AddsNone : (arguments results : List ℕ) → Filling → Filling → Result ℕ Refusal → Type 0
AddsNone arguments results old new r = (new ≡ forgotten old) × (((r ≡ Err refusal.Types) × (SpellNone arguments ⊎ SpellNone results)) ⊎ ((r ≡ Err refusal.Memory) × (BeginTypes arguments ⊎ BeginTypes results)))

-- an operation is added to an object, with the exceptions that were declared, which are forgotten, also where it is not added
abbrev pub OnOperation : (key name arguments results : List ℕ) → Cataloguing → Cataloguing → Result ℕ Refusal → Type 0
OnOperation key name arguments results s t r =
    AddsNone arguments results (filling s) (filling t) r
    ⊎ ((a : Forms) × (b : Forms) × Spell a arguments × Spell b results × AddsOperation key name (declared a b (filling s)) (forgotten (filling s)) (filling t) r)
