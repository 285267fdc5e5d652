-- A call on two objects, in the words of the slots that hold them.
use Rattle.std.proofs.Common.{◌≡◌, ℕ, ℤ, Some, None, Result, refl, subst, sym}
use Rattle.lemonrudder.specs.declared.cataloguing.Cataloguing.{Cataloguing}
use Rattle.lemonrudder.specs.declared.object.Object.{Object}
use Rattle.lemonrudder.specs.declared.object.Object.TheVariants.{Assembler, Catalogue, Client, Reference, Server}
use Rattle.lemonrudder.specs.declared.refusal.Refusal.{Refusal}
use Rattle.lemonrudder.specs.declared.refusal.Refusal.TheVariants as refusal
use Rattle.lemonrudder.specs.declared.serving.Serving.{Serving}
use Rattle.lemonrudder.specs.Pairs.{OnCatalogues, OnServerAndCatalogue, WithCatalogue}
use Rattle.lemonrudder.specs.Refusals.{error_number, number_in}

module _ {A : Type 0} (kind : A → Object) (P : A → A → Cataloguing → Cataloguing → Result ℕ Refusal → Type 0) where
  with_catalogue : (s t : A) (q : Object) (k l : Cataloguing) (r : Result ℕ Refusal) (answer : ℤ) → q ≡ Catalogue k → answer ≡ number_in r → P s t k l r
      → WithCatalogue kind P s (Some (kind t)) (Some q) (Some (Catalogue l)) answer
  with_catalogue s t q k l r answer is said holds = subst (λ x. WithCatalogue kind P s (Some (kind t)) (Some x) (Some (Catalogue l)) answer) (sym is) (t, l, r, refl, refl, said, holds)

pub on_server_and_catalogue : (P : Serving → Serving → Cataloguing → Cataloguing → Result ℕ Refusal → Type 0) (o q : Object) (s t : Serving) (k l : Cataloguing) (r : Result ℕ Refusal) (answer : ℤ)
    → o ≡ Server s → q ≡ Catalogue k → answer ≡ number_in r → P s t k l r → OnServerAndCatalogue P (Some o) (Some (Server t)) (Some q) (Some (Catalogue l)) answer
on_server_and_catalogue P o q s t k l r answer is other said holds =
    subst (λ x. OnServerAndCatalogue P (Some x) (Some (Server t)) (Some q) (Some (Catalogue l)) answer) (sym is) (with_catalogue Server P s t q k l r answer other said holds)

pub on_catalogues : (P : Cataloguing → Cataloguing → Cataloguing → Cataloguing → Result ℕ Refusal → Type 0) (o q : Object) (s t k l : Cataloguing) (r : Result ℕ Refusal) (answer : ℤ)
    → o ≡ Catalogue s → q ≡ Catalogue k → answer ≡ number_in r → P s t k l r → OnCatalogues P (Some o) (Some (Catalogue t)) (Some q) (Some (Catalogue l)) answer
on_catalogues P o q s t k l r answer is other said holds =
    subst (λ x. OnCatalogues P (Some x) (Some (Catalogue t)) (Some q) (Some (Catalogue l)) answer) (sym is) (with_catalogue Catalogue P s t q k l r answer other said holds)

-- where the other slot is empty
pub none_beside_server : (P : Serving → Serving → Cataloguing → Cataloguing → Result ℕ Refusal → Type 0) (o : Object) → OnServerAndCatalogue P (Some o) (Some o) None None (error_number refusal.Empty)
none_beside_server P (Catalogue s) = (refl, refl, refl)
none_beside_server P (Server s) = (refl, refl, refl)
none_beside_server P (Client s) = (refl, refl, refl)
none_beside_server P (Assembler s) = (refl, refl, refl)
none_beside_server P (Reference s) = (refl, refl, refl)

pub none_beside_catalogue : (P : Cataloguing → Cataloguing → Cataloguing → Cataloguing → Result ℕ Refusal → Type 0) (o : Object) → OnCatalogues P (Some o) (Some o) None None (error_number refusal.Empty)
none_beside_catalogue P (Catalogue s) = (refl, refl, refl)
none_beside_catalogue P (Server s) = (refl, refl, refl)
none_beside_catalogue P (Client s) = (refl, refl, refl)
none_beside_catalogue P (Assembler s) = (refl, refl, refl)
none_beside_catalogue P (Reference s) = (refl, refl, refl)
