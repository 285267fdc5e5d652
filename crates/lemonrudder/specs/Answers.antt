-- What the exports answer, by what the slot held before, and what it holds after.
use Rattle.std.specs.Prelude.{◌≡◌, ℕ, ℤ, pos, Option, Some, None, Result, ◌⊎◌}
use Rattle.lemonrudder.specs.Assembled.{Assembled}
use Rattle.lemonrudder.specs.declared.calling.Calling.{Calling}
use Rattle.lemonrudder.specs.declared.cataloguing.Cataloguing.{Cataloguing}
use Rattle.lemonrudder.specs.declared.object.Object.{Object}
use Rattle.lemonrudder.specs.declared.object.Object.TheVariants.{Assembler, Catalogue, Client, Reference, Server}
use Rattle.lemonrudder.specs.declared.referring.Referring.{Referring}
use Rattle.lemonrudder.specs.declared.refusal.Refusal.{Refusal}
use Rattle.lemonrudder.specs.declared.refusal.Refusal.TheVariants as refusal
use Rattle.lemonrudder.specs.declared.serving.Serving.{Serving}
use Rattle.lemonrudder.specs.Refusals.{error_number, number_in}

-- an object is put into a slot, which is in use, or memory is short
abbrev pub Opens : Object → Option Object → Option Object → ℤ → Type 0
Opens object (Some x) after answer = (answer ≡ error_number refusal.Open) × (after ≡ Some x)
Opens object None after answer = ((answer ≡ pos 0) × (after ≡ Some object)) ⊎ ((answer ≡ error_number refusal.Memory) × (after ≡ None))

-- a call on an object of a kind, which is in its slot as the call leaves it; where another is, or none, nothing has changed
abbrev pub OnServer : (Serving → Serving → Result ℕ Refusal → Type 0) → Option Object → Option Object → ℤ → Type 0
OnServer P (Some (Server s)) after answer = (t : Serving) × (r : Result ℕ Refusal) × (after ≡ Some (Server t)) × (answer ≡ number_in r) × P s t r
OnServer P before after answer = (answer ≡ error_number refusal.Empty) × (after ≡ before)

abbrev pub OnCatalogue : (Cataloguing → Cataloguing → Result ℕ Refusal → Type 0) → Option Object → Option Object → ℤ → Type 0
OnCatalogue P (Some (Catalogue s)) after answer = (t : Cataloguing) × (r : Result ℕ Refusal) × (after ≡ Some (Catalogue t)) × (answer ≡ number_in r) × P s t r
OnCatalogue P before after answer = (answer ≡ error_number refusal.Empty) × (after ≡ before)

abbrev pub OnClient : (Calling → Calling → Result ℕ Refusal → Type 0) → Option Object → Option Object → ℤ → Type 0
OnClient P (Some (Client s)) after answer = (t : Calling) × (r : Result ℕ Refusal) × (after ≡ Some (Client t)) × (answer ≡ number_in r) × P s t r
OnClient P before after answer = (answer ≡ error_number refusal.Empty) × (after ≡ before)

abbrev pub OnAssembler : (Assembled → Assembled → Result ℕ Refusal → Type 0) → Option Object → Option Object → ℤ → Type 0
OnAssembler P (Some (Assembler s)) after answer = (t : Assembled) × (r : Result ℕ Refusal) × (after ≡ Some (Assembler t)) × (answer ≡ number_in r) × P s t r
OnAssembler P before after answer = (answer ≡ error_number refusal.Empty) × (after ≡ before)

abbrev pub OnReference : (Referring → Referring → Result ℕ Refusal → Type 0) → Option Object → Option Object → ℤ → Type 0
OnReference P (Some (Reference s)) after answer = (t : Referring) × (r : Result ℕ Refusal) × (after ≡ Some (Reference t)) × (answer ≡ number_in r) × P s t r
OnReference P before after answer = (answer ≡ error_number refusal.Empty) × (after ≡ before)
