-- A server whose limits were set, and one with something else on offer.
use Rattle.std.proofs.Common.{◌≡◌, ◌∙◌, inl, inr, true, Option, Some, Ok, ap, refl, subst, sym}
use Rattle.std.specs.Option.{IsSome}
use Rattle.ft_objects.specs.declared.families.Families.{Families}
use Rattle.ft_orb.specs.declared.offering.Offering.{Offering}
use Rattle.ft_orb.specs.Engines.{waits_in}
use Rattle.lemonrudder.specs.declared.cataloguing.Cataloguing.{Cataloguing}
use Rattle.lemonrudder.specs.declared.serving.Serving.{Serving}
use Rattle.lemonrudder.specs.declared.terms.Terms.{Terms}
use Rattle.lemonrudder.specs.Limited.{Limited, limited}
use Rattle.lemonrudder.specs.Openings.{IsNew}
use Rattle.lemonrudder.specs.Setting.{HasOpened, SetsTo}

-- it had no connection, and is a new one within the limits that were set
pub set_anew : (o : Option Limited) (terms : Terms) (s t : Serving) (f : Families) → o ≡ Some (limited terms) → (s.setup.opened ≡ true → ⊥) → (IsSome (waits_in s.engine) → ⊥)
    → terms.seed ≡ s.setup.terms.seed → f ≡ s.engine.offering.catalogue → IsNew f terms t → SetsTo o s t (Ok 0)
set_anew o terms s t f is never idle seed same made = subst (λ x. SetsTo x s t (Ok 0)) (sym is) (λ opened. absurd (by opened), λ no. (refl, terms, refl, seed, subst (λ x. IsNew x terms t) same made))
  where
    by : HasOpened s → ⊥
    by (inl opened) = never opened
    by (inr some) = idle some

-- what was on offer is in the catalogue, and the other way round
pub swapped_with : (a b : Offering Families) (k : Cataloguing) (f : Families) → a.longest ≡ b.longest → a.first ≡ b.first → a.catalogue ≡ k.families → f ≡ b.catalogue
    → (a ≡ record b { catalogue = k.families }) × (record k { families = f } ≡ record k { families = b.catalogue })
swapped_with a b k f bound first now was =
    (ap (λ x. record { catalogue = x; longest = a.longest; first = a.first }) now ∙ ap (λ x. record { catalogue = k.families; longest = x; first = a.first }) bound ∙ ap (λ x. record { catalogue = k.families; longest = b.longest; first = x }) first, ap (λ x. record k { families = x }) was)
