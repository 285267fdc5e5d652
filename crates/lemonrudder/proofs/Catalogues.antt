-- A call on a catalogue, in the words of the slot that holds it.
use Rattle.std.proofs.Common.{◌≡◌, ℕ, ℤ, Bool, List, Option, Some, Result, refl, subst, sym}
use Rattle.cdr_core.specs.Form.{Forms}
use Rattle.ft_objects.specs.Catalogues.{Offer}
use Rattle.lemonrudder.specs.declared.cataloguing.Cataloguing.{Cataloguing}
use Rattle.lemonrudder.specs.declared.object.Object.{Object}
use Rattle.lemonrudder.specs.declared.object.Object.TheVariants.{Catalogue}
use Rattle.lemonrudder.specs.declared.refusal.Refusal.{Refusal}
use Rattle.lemonrudder.specs.Answers.{OnCatalogue}
use Rattle.lemonrudder.specs.Fills.{Filling, Stock}
use Rattle.lemonrudder.specs.Refusals.{number_in}

pub on_catalogue : (P : Cataloguing → Cataloguing → Result ℕ Refusal → Type 0) (o : Object) (s t : Cataloguing) (r : Result ℕ Refusal) (answer : ℤ) → o ≡ Catalogue s → answer ≡ number_in r → P s t r
    → OnCatalogue P (Some o) (Some (Catalogue t)) answer
on_catalogue P o s t r answer is said holds = subst (λ x. OnCatalogue P (Some x) (Some (Catalogue t)) answer) (sym is) (t, r, refl, said, holds)

-- what a catalogue holds, part by part
pub filled_as : (a b : Offer) (c d : List ℕ → Bool) (e f : List ℕ → Option (List (List ℕ))) (fs : Stock) (rs : List (List ℕ × Forms)) → a ≡ b → c ≡ d → e ≡ f
    → ◌≡◌ {A = Filling} (record { offer = a; raw = c; ids = e; families = fs; raises = rs }) (record { offer = b; raw = d; ids = f; families = fs; raises = rs })
filled_as a b c d e f fs rs offer raw ids = cc

pub stocked_as : (a b : Offer) (c d : List ℕ → Bool) (e f : List ℕ → Option (List (List ℕ))) → a ≡ b → c ≡ d → e ≡ f → ◌≡◌ {A = Stock} (record { offer = a; raw = c; ids = e }) (record { offer = b; raw = d; ids = f })
stocked_as a b c d e f offer raw ids = cc
