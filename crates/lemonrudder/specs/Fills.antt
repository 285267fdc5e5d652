-- What a call on a catalogue does.
use Rattle.std.specs.Prelude.{◌≡◌, ℕ, ℤ, Bool, true, false, List, [], map, Option, None, Result, Ok, Err}
use Rattle.cdr_core.specs.Form.{Forms}
use Rattle.ft_objects.specs.Catalogues.{Offer}
use Rattle.ft_objects.specs.Filling.{CanBeAdded, IsFree, IsNotValidOr, IsWhyNoObject, IsWhyNothing, TakesOperations, changed, ids_of, nothing, offer_of, raw_objects, with_object, with_operation, with_raw_object}
use Rattle.ft_objects.specs.Interfaces.{Interface, raise_of, raw_operation}
use Rattle.ft_objects.specs.declared.error.InterfacesError.{InterfacesError}
use Rattle.ft_objects.specs.declared.interfaces.Interfaces.{Interfaces}
use Rattle.lemonrudder.specs.declared.cataloguing.Cataloguing.{Cataloguing}
use Rattle.lemonrudder.specs.declared.object.Object.{Object}
use Rattle.lemonrudder.specs.declared.object.Object.TheVariants.{Catalogue}
use Rattle.lemonrudder.specs.declared.refusal.Refusal.{Refusal}
use Rattle.lemonrudder.specs.Answers.{Opens}
use Rattle.lemonrudder.specs.Refusals.{refusal_of_offering}

-- objects under their keys: what they offer, which of them are raw as a whole, and the repository ids that each names, if it names any
pub record Stock : Type 0 where
  pub offer : Offer
  pub raw : List ℕ → Bool
  pub ids : List ℕ → Option (List (List ℕ))

abbrev pub no_stock : Stock
no_stock = record { offer = nothing; raw = λ key. false; ids = λ key. None }

abbrev pub stock_of : Interfaces → Stock
stock_of i = record { offer = offer_of i; raw = raw_objects i; ids = ids_of i }

-- a catalogue: its objects, as those of a stock; its families, each under its prefix; and the exceptions that were declared for the
-- operation that is added next
pub record Filling : Type 0 where
  pub offer : Offer
  pub raw : List ℕ → Bool
  pub ids : List ℕ → Option (List (List ℕ))
  pub families : Stock
  pub raises : List (List ℕ × Forms)

-- a catalogue without objects and families
abbrev pub empty : Filling
empty = record { offer = nothing; raw = λ key. false; ids = λ key. None; families = no_stock; raises = [] }

-- what the library holds
abbrev pub filling : Cataloguing → Filling
filling s = let f = s.families in record { offer = offer_of f.objects; raw = raw_objects f.objects; ids = ids_of f.objects; families = stock_of f.families; raises = map raise_of s.raises.items }

-- a catalogue without objects is put into a slot
abbrev pub OpensEmpty : Option Object → Option Object → ℤ → Type 0
OpensEmpty before after answer = (made : Cataloguing) × (filling made ≡ empty) × Opens (Catalogue made) before after answer

-- Something can be added, and the catalogue is `new`; or the catalogue is `old`, by an error of `Why`.
abbrev pub Adds : (new old : Filling) → (Can : Type 0) → (Why : InterfacesError → Type 0) → Filling → Result ℕ Refusal → Type 0
Adds new old Can Why after (Ok n) = (n ≡ 0) × Can × (after ≡ new)
Adds new old Can Why after (Err e) = (after ≡ old) × ((f : InterfacesError) × (e ≡ refusal_of_offering f) × Why f)

-- an object is added, where the key names none
abbrev pub AddsObject : List ℕ → (new old : Filling) → Filling → Result ℕ Refusal → Type 0
AddsObject key new old = Adds new old (old.offer.knows key ≡ false) (IsWhyNoObject old.offer key)

-- an object without operations
abbrev pub OnObject : List ℕ → Cataloguing → Cataloguing → Result ℕ Refusal → Type 0
OnObject key s t r = let old = filling s in AddsObject key (record old { offer = with_object key old.offer }) old (filling t) r

-- an object whose every operation is raw
abbrev pub OnRawObject : List ℕ → Cataloguing → Cataloguing → Result ℕ Refusal → Type 0
OnRawObject key s t r = let old = filling s in AddsObject key (record old { offer = with_raw_object key old.offer; raw = changed key true old.raw }) old (filling t) r

-- something is added to an object that takes operations, where it is valid, and where the object does not have it yet
abbrev pub AddsTo : List ℕ → (Valid Free : Type 0) → (new old : Filling) → Filling → Result ℕ Refusal → Type 0
AddsTo key Valid Free new old = Adds new old (Valid × TakesOperations old.offer old.raw key × Free) (IsNotValidOr Valid (IsWhyNothing old.offer old.raw key Free))

-- an operation
abbrev pub AddsOperation : (key name : List ℕ) → Interface → Filling → Filling → Result ℕ Refusal → Type 0
AddsOperation key name i old = AddsTo key (CanBeAdded name i) (IsFree old.offer key name) (record old { offer = with_operation key name i old.offer }) old

-- an operation that is raw
abbrev pub OnRawOperation : (key name : List ℕ) → Cataloguing → Cataloguing → Result ℕ Refusal → Type 0
OnRawOperation key name s t r = AddsOperation key name raw_operation (filling s) (filling t) r
