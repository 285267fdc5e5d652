-- What a call on a catalogue does to its families, and to its objects as a whole.
use Rattle.std.specs.Prelude.{◌≡◌, ◌⊎◌, ℕ, true, false, List, [], None, Result, Ok, Err}
use Rattle.ft_objects.specs.Filling.{IsWhyNoObject, changed, nothing, with_raw_object, without_object}
use Rattle.lemonrudder.specs.declared.cataloguing.Cataloguing.{Cataloguing}
use Rattle.lemonrudder.specs.declared.refusal.Refusal.{Refusal}
use Rattle.lemonrudder.specs.declared.refusal.Refusal.TheVariants as refusal
use Rattle.lemonrudder.specs.Fills.{Adds, Filling, Stock, empty, filling}

-- with an object under the key whose every operation is raw
abbrev pub with_raw : List ℕ → Stock → Stock
with_raw key x = record x { offer = with_raw_object key x.offer; raw = changed key true x.raw }

-- Each key that leads to no other object leads to one whose every operation is raw: the family of the empty prefix, which each key
-- begins with. It is added where there is none.
abbrev pub OnDefault : Cataloguing → Cataloguing → Result ℕ Refusal → Type 0
OnDefault s t r = let old = filling s in Adds (record old { families = with_raw [] old.families }) old (old.families.offer.knows [] ≡ false) (IsWhyNoObject old.families.offer []) (filling t) r

-- a catalogue has no families
abbrev pub HasNoFamilies : Cataloguing → Type 0
HasNoFamilies s = (filling s).families.offer ≡ nothing

-- with the objects of a catalogue as families
abbrev pub with_families : Filling → Filling → Filling
with_families x own = record own { families = record { offer = x.offer; raw = x.raw; ids = x.ids } }

-- a catalogue has the objects of another as its families, and the other is empty afterwards; or one of the two has families already
abbrev pub OnFamilies : (s t : Cataloguing) → (k l : Cataloguing) → Result ℕ Refusal → Type 0
OnFamilies s t k l (Ok n) = (n ≡ 0) × HasNoFamilies s × HasNoFamilies k × (filling t ≡ with_families (filling k) (filling s)) × (filling l ≡ empty)
OnFamilies s t k l (Err e) = (e ≡ refusal.Taken) × ((¬ (HasNoFamilies s)) ⊎ (¬ (HasNoFamilies k))) × (t ≡ s) × (l ≡ k)

-- without the object under the key
abbrev pub without : List ℕ → Filling → Filling
without key x = record x { offer = without_object key x.offer; raw = changed key false x.raw; ids = changed key None x.ids }

-- an object is taken away, with its operations and the repository ids that it names; or there is none under the key
abbrev pub OnRemove : List ℕ → Cataloguing → Cataloguing → Result ℕ Refusal → Type 0
OnRemove key s t (Ok n) = (n ≡ 0) × ((filling s).offer.knows key ≡ true) × (filling t ≡ without key (filling s))
OnRemove key s t (Err e) = (e ≡ refusal.Object) × ((filling s).offer.knows key ≡ false) × (filling t ≡ filling s)
