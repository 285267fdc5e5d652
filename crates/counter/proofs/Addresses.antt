-- The counter's reference, from its parts.
use Rattle.std.proofs.Common.{◌≡◌, ℕ, List, [], ◌∷◌, codes, ap, ◌∙◌}
use Rattle.cdr_core.specs.Value as value
use Rattle.cdr_core.specs.Value.{values}
use Rattle.ior_core.specs.declared.tagged.Tagged.{Tagged}
use Rattle.ior_core.specs.View.{list_value, tag_and_octets}
use Rattle.ior_core.specs.Writing.{encapsulation_of}
use Rattle.counter.specs.Addresses.{counter_profile, counter_reference}

pub reference-is : (port : ℕ) (id : List ℕ) (all : List Tagged) (profile : Tagged) → id ≡ codes "IDL:Counter:1.0" → all ≡ profile ∷ [] → profile.tag ≡ 0
    → profile.octets.items ≡ encapsulation_of (counter_profile port) → value.structure (values (value.string id ∷ list_value all ∷ [])) ≡ counter_reference port
reference-is port id all profile named one tag octets =
    ap (λ (text : List ℕ). value.structure (values (value.string text ∷ list_value all ∷ []))) named
    ∙ ap (λ (ps : List Tagged). value.structure (values (value.string (codes "IDL:Counter:1.0") ∷ list_value ps ∷ []))) one
    ∙ ap (λ (n : ℕ). value.structure (values (value.string (codes "IDL:Counter:1.0") ∷ value.sequence (values (tag_and_octets n profile.octets.items ∷ [])) ∷ []))) tag
    ∙ ap (λ (xs : List ℕ). value.structure (values (value.string (codes "IDL:Counter:1.0") ∷ value.sequence (values (tag_and_octets 0 xs ∷ [])) ∷ []))) octets
