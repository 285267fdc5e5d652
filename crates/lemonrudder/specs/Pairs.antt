-- What the exports answer that take two slots, by what these held before, and what they hold after.
use Rattle.std.specs.Prelude.{◌≡◌, ℕ, ℤ, Option, Some, Result}
use Rattle.lemonrudder.specs.declared.cataloguing.Cataloguing.{Cataloguing}
use Rattle.lemonrudder.specs.declared.object.Object.{Object}
use Rattle.lemonrudder.specs.declared.object.Object.TheVariants.{Catalogue, Server}
use Rattle.lemonrudder.specs.declared.refusal.Refusal.{Refusal}
use Rattle.lemonrudder.specs.declared.refusal.Refusal.TheVariants as refusal
use Rattle.lemonrudder.specs.declared.serving.Serving.{Serving}
use Rattle.lemonrudder.specs.Refusals.{error_number, number_in}

-- one of the slots is empty, or holds an object of another kind, and nothing has changed
abbrev pub AreEmpty : (before after other left : Option Object) → ℤ → Type 0
AreEmpty before after other left answer = (answer ≡ error_number refusal.Empty) × (after ≡ before) × (left ≡ other)

-- a call on a catalogue by what is on offer or another catalogue: each is in its slot as the call leaves it
abbrev pub WithCatalogue : {A : Type 0} → (A → Object) → (A → A → Cataloguing → Cataloguing → Result ℕ Refusal → Type 0) → A → (after other left : Option Object) → ℤ → Type 0
WithCatalogue kind P s after (Some (Catalogue k)) left answer = (t : _) × (l : Cataloguing) × (r : Result ℕ Refusal) × (after ≡ Some (kind t)) × (left ≡ Some (Catalogue l)) × (answer ≡ number_in r) × P s t k l r
WithCatalogue kind P s after other left answer = AreEmpty (Some (kind s)) after other left answer

-- of a server and a catalogue
abbrev pub OnServerAndCatalogue : (Serving → Serving → Cataloguing → Cataloguing → Result ℕ Refusal → Type 0) → (before after other left : Option Object) → ℤ → Type 0
OnServerAndCatalogue P (Some (Server s)) after other left answer = WithCatalogue Server P s after other left answer
OnServerAndCatalogue P before after other left answer = AreEmpty before after other left answer

-- of two catalogues
abbrev pub OnCatalogues : (Cataloguing → Cataloguing → Cataloguing → Cataloguing → Result ℕ Refusal → Type 0) → (before after other left : Option Object) → ℤ → Type 0
OnCatalogues P (Some (Catalogue s)) after other left answer = WithCatalogue Catalogue P s after other left answer
OnCatalogues P before after other left answer = AreEmpty before after other left answer
