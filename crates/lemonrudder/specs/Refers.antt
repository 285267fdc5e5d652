-- What a call on a reference does.
use Rattle.std.specs.Prelude.{◌≡◌, ℕ, List, length, Some, Result, Ok, Err}
use Rattle.cdr_core.specs.Value.{Value}
use Rattle.cdr_core.specs.Writing.{IsWritable}
use Rattle.ior_core.specs.Text.{reference_text}
use Rattle.ior_core.specs.View.{ior_value}
use Rattle.lemonrudder.specs.declared.referring.Referring.{Referring}
use Rattle.lemonrudder.specs.declared.refusal.Refusal.{Refusal}
use Rattle.lemonrudder.specs.declared.refusal.Refusal.TheVariants as refusal
use Rattle.lemonrudder.specs.Copies.{Copies, FitsMade}

-- the value of a reference
abbrev pub reference : Referring → Value
reference s = ior_value s.ior

-- its text is written, where it can be
abbrev pub OnPrint : (room new : List ℕ) → Referring → Referring → Result ℕ Refusal → Type 0
OnPrint room new s t r = (t ≡ s) × (IsWritable (reference s) → FitsMade (reference_text (reference s)) room new r) × (¬ (IsWritable (reference s)) → (r ≡ Err refusal.Text) × (new ≡ room))

-- the id of its type is copied
abbrev pub OnTypeId : (room new : List ℕ) → Referring → Referring → Result ℕ Refusal → Type 0
OnTypeId room new s t r = (t ≡ s) × Copies (Some s.ior.type_id.items) room new r

-- how many profiles it has
abbrev pub OnProfiles : Referring → Referring → Result ℕ Refusal → Type 0
OnProfiles s t r = (t ≡ s) × (r ≡ Ok (length s.ior.profiles.items))
