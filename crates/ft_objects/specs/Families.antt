-- Families: what a key leads to that has no object of its own.
use Rattle.std.specs.Prelude.{ℕ, zero, suc, Bool, ◌||◌, if◌then◌else◌, Option, Some, None, List, [], is_some, length, take}
use Rattle.std.specs.Option.{option_map_or}
use Rattle.ft_objects.specs.Catalogues.{Offer}
use Rattle.ft_objects.specs.Filling.{ids_of, offer_of}
use Rattle.ft_objects.specs.Interfaces.{no_object}
use Rattle.ft_objects.specs.declared.families.Families.{Families}

-- the longest front of the key that is known, of those of at most n octets
abbrev pub known_front : (List ℕ → Bool) → List ℕ → ℕ → Option (List ℕ)
known_front knows key zero = if knows [] then Some [] else None
known_front knows key (suc n) = if knows (take (suc n) key) then Some (take (suc n) key) else known_front knows key n

-- the family of a key: the longest front of it that is known
abbrev pub family : (List ℕ → Bool) → List ℕ → Option (List ℕ)
family knows key = known_front knows key (length key)

-- what a key leads to: what stands under it, where an object has it as its own; or else what stands under its family, if it has one
abbrev pub led : {A : Type 0} → Offer → Offer → (List ℕ → A) → (List ℕ → A) → A → List ℕ → A
led own families under in_family none key = if own.knows key then under key else option_map_or in_family (family families.knows key) none

-- what is on offer then
abbrev pub family_offer : Offer → Offer → Offer
family_offer own families = record { interface = led own families own.interface families.interface (λ name. no_object); knows = λ key. own.knows key || is_some (family families.knows key) }

-- what a catalogue with families offers
abbrev pub families_offer : Families → Offer
families_offer f = family_offer (offer_of f.objects) (offer_of f.families)

-- the repository ids that the object of a key names there, if it names any
abbrev pub families_ids : Families → List ℕ → Option (List (List ℕ))
families_ids f = led (offer_of f.objects) (offer_of f.families) (ids_of f.objects) (ids_of f.families) None
