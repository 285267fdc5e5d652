-- A catalogue to which no operation was added.
use Rattle.std.proofs.Common.{◌≡◌, ◌∙◌, inr, ℕ, List, [], map, Result, Err, Vec, Global, refl, ap, subst, sym}
use Rattle.cdr_core.specs.declared.types.Ty.{Ty}
use Rattle.cdr_core.specs.Form.{Forms}
use Rattle.ft_objects.specs.Filling.{CanBeAdded, IsFree, IsNotValidOr, IsWhyNothing, ids_of, offer_of, raw_objects}
use Rattle.ft_objects.specs.Interfaces.{operation, raise_of}
use Rattle.ft_objects.specs.declared.error.InterfacesError.{InterfacesError}
use Rattle.lemonrudder.specs.declared.cataloguing.Cataloguing.{Cataloguing}
use Rattle.lemonrudder.specs.declared.refusal.Refusal.{Refusal}
use Rattle.lemonrudder.specs.Declares.{OnOperation, Spell}
use Rattle.lemonrudder.specs.Fills.{filling, stock_of}
use Rattle.lemonrudder.specs.Refusals.{refusal_of_offering}
use Rattle.lemonrudder.proofs.Catalogues.{filled_as}

-- the exceptions that were declared, as the code hands them on
abbrev WhyNot : (key name : List ℕ) → Cataloguing → (a b : Forms) → Vec (Vec ℕ Global × Vec Ty Global) Global → InterfacesError → Type 0
WhyNot key name s a b v e =
    IsNotValidOr (CanBeAdded name (operation (record { arguments = a; results = b; raises = map raise_of v.items }))) (IsWhyNothing (offer_of s.families.objects) (raw_objects s.families.objects) key (IsFree (offer_of s.families.objects) key name)) e

pub operation_refused : (key name arguments results : List ℕ) (s t : Cataloguing) (a b : Forms) (v : Vec (Vec ℕ Global × Vec Ty Global) Global) (e : InterfacesError) (r : Result ℕ Refusal) → Spell a arguments → Spell b results → v ≡ s.raises
    → offer_of t.families.objects ≡ offer_of s.families.objects → raw_objects t.families.objects ≡ raw_objects s.families.objects → ids_of t.families.objects ≡ ids_of s.families.objects → t.families.families ≡ s.families.families → t.raises.items ≡ []
    → IsNotValidOr (CanBeAdded name (operation (record { arguments = a; results = b; raises = map raise_of v.items }))) (IsWhyNothing (offer_of s.families.objects) (raw_objects s.families.objects) key (IsFree (offer_of s.families.objects) key name)) e
    → r ≡ Err (refusal_of_offering e) → OnOperation key name arguments results s t r
operation_refused key name arguments results s t a b v e r by_a by_b had offer raw ids stays none why gave =
    let same = filled_as _ _ _ _ _ _ _ (map raise_of t.raises.items) offer raw ids ∙ ap (λ x. record (filling s) { families = stock_of x; raises = map raise_of t.raises.items }) stays ∙ ap (λ xs. record (filling s) { raises = map raise_of xs }) none in
    subst (λ x. OnOperation key name arguments results s t x) (sym gave) (inr (a, b, by_a, by_b, (same, (e, refl, subst (λ x. WhyNot key name s a b x e) had why))))
