-- That catalogues that are filled in keep the promises of one. Nobody has to read these proofs; they stand here since the `impl`s cite
-- them.
use Rattle.std.proofs.Common.{◌≡◌, ◌∙◌, ◌↔◌, ◌||◌, ℕ, zero, suc, Bool, true, false, cond, List, [], Option, Some, None, ap, is_some, length, refl, sym, take, true≢false}
use Rattle.std.specs.Option.{option_map_or}
use Rattle.ft_objects.specs.Catalogues.{IsOffer, Offer}
use Rattle.ft_objects.specs.Families.{families_offer, family, family_offer, known_front}
use Rattle.ft_objects.specs.Filling.{at, offer_of, offered_at, offered_in}
use Rattle.ft_objects.specs.Interfaces.{Interface, IsValidInterface, no_object, raw_operation}
use Rattle.ft_objects.specs.declared.families.Families.{Families}
use Rattle.ft_objects.specs.declared.interfaces.Interfaces.{Interfaces}
use Rattle.ft_objects.specs.declared.object.Object.{Object}
use Rattle.ft_objects.specs.declared.object.Object.TheVariants as object
use Rattle.ft_objects.specs.declared.object.Offered.{Offered}
use Rattle.ft_objects.specs.declared.object.Offered.TheVariants as offered

offered-valid : (o : Option Offered) → IsValidInterface (offered_in o)
offered-valid None = tt
offered-valid (Some (offered.Typed t)) = t.valid
offered-valid (Some (offered.Checked t)) = t.valid
offered-valid (Some offered.Raw) = tt

at-valid : (o : Option Object) (name : List ℕ) → IsValidInterface (offered_at o name)
at-valid None name = tt
at-valid (Some object.Raw) name = tt
at-valid (Some (object.Named o)) name = offered-valid (at o.by_name name)

offered-some : (o : Option Offered) → offered_in o ≡ no_object → ⊥
offered-some None h = cc
offered-some (Some (offered.Typed t)) h = cc
offered-some (Some (offered.Checked t)) h = cc
offered-some (Some offered.Raw) h = cc

at-absent : (o : Option Object) → (is_some o ≡ false) ↔ ((name : List ℕ) → offered_at o name ≡ no_object)
at-absent None = (λ h name. refl, λ h. refl)
at-absent (Some object.Raw) = (λ h. absurd (true≢false h), λ h. let e : raw_operation ≡ no_object = h [] in cc)
at-absent (Some (object.Named o)) = (λ h. absurd (true≢false h), λ h. absurd (offered-some (at o.by_name []) (h [])))

-- a catalogue keeps the promises of one
pub offer-is : (i : Interfaces) → IsOffer (offer_of i)
offer-is i = record { valid = λ key name. at-valid (at i.objects key) name; absent = λ key. at-absent (at i.objects key) }

-- a front that was found is known
pub known_front-is : (knows : List ℕ → Bool) (key : List ℕ) (n : ℕ) (front : List ℕ) → known_front knows key n ≡ Some front → knows front ≡ true
known_front-is knows key zero front = by (knows []) refl
  where
    by : (b : Bool) → knows [] ≡ b → cond b (Some []) None ≡ Some front → knows front ≡ true
    by true e h = let same : [] ≡ front = cc in ap knows (sym same) ∙ e
    by false e h = cc
known_front-is knows key (suc n) front = by (knows (take (suc n) key)) refl (known_front-is knows key n front)
  where
    by : (b : Bool) → knows (take (suc n) key) ≡ b → (known_front knows key n ≡ Some front → knows front ≡ true) → cond b (Some (take (suc n) key)) (known_front knows key n) ≡ Some front → knows front ≡ true
    by true e shorter h = let same : take (suc n) key ≡ front = cc in ap knows (sym same) ∙ e
    by false e shorter h = shorter h

-- a catalogue with families keeps the promises of one, where both of its catalogues do
module _ (own families : Offer) (o : IsOffer own) (f : IsOffer families) where
  -- under a key, by whether it is an object's own, and by its family
  abbrev under : List ℕ → Bool → Option (List ℕ) → List ℕ → Interface
  under key b front = cond b (own.interface key) (option_map_or families.interface front (λ name. no_object))

  under-valid : (key name : List ℕ) (b : Bool) (front : Option (List ℕ)) → IsValidInterface (under key b front name)
  under-valid key name true front = o.valid key name
  under-valid key name false None = tt
  under-valid key name false (Some p) = f.valid p name

  under-absent : (key : List ℕ) (b : Bool) (front : Option (List ℕ)) → own.knows key ≡ b → family families.knows key ≡ front → ((b || is_some front) ≡ false) ↔ ((name : List ℕ) → under key b front name ≡ no_object)
  under-absent key true front is found = (λ h. absurd (true≢false h), λ h. absurd (true≢false (sym is ∙ (o.absent key).1 h)))
  under-absent key false None is found = (λ h name. refl, λ h. refl)
  under-absent key false (Some p) is found = (λ h. absurd (true≢false h), λ h. absurd (true≢false (sym (known_front-is families.knows key (length key) p found) ∙ (f.absent p).1 h)))

  pub family_offer-is : IsOffer (family_offer own families)
  family_offer-is =
      record {
        valid = λ key name. under-valid key name (own.knows key) (family families.knows key);
        absent = λ key. under-absent key (own.knows key) (family families.knows key) refl refl;
      }

pub families_offer-is : (f : Families) → IsOffer (families_offer f)
families_offer-is f = family_offer-is (offer_of f.objects) (offer_of f.families) (offer-is f.objects) (offer-is f.families)
