-- A catalogue that is filled in call by call: what it offers after each, and why a call adds nothing.
use Rattle.std.specs.Prelude.{◌≡◌, ◌⊎◌, ◌||◌, ℕ, Bool, true, false, if◌then◌else◌, Option, Some, None, List, [], bytes_eq, codes, is_some, map, option_map}
use Rattle.std.specs.BTreeMap.{BTreeMap, get_by}
use Rattle.std.specs.Cmp.Lexicographic.{slice_cmp}
use Rattle.std.specs.Ordering.{nat_cmp}
use Rattle.std.specs.List.{AllByRecursion, list_any}
use Rattle.std.proofs.Common.{Vec, Global}
use Rattle.cdr_core.specs.Form as form
use Rattle.cdr_core.specs.Spelling.{IsClean}
use Rattle.ft_objects.specs.Catalogues.{Offer}
use Rattle.ft_objects.specs.Interfaces.{Interface, Types, checked_operation, no_object, no_operation, operation, raw_operation, types_of}
use Rattle.ft_objects.specs.Sound.{IsSound}
use Rattle.ft_objects.specs.declared.error.InterfacesError.{InterfacesError}
use Rattle.ft_objects.specs.declared.error.InterfacesError.TheVariants.{NotValid, NoObject, RawObject, Taken, Memory}
use Rattle.ft_objects.specs.declared.interfaces.Interfaces.{Interfaces}
use Rattle.ft_objects.specs.declared.object.Object.{Object}
use Rattle.ft_objects.specs.declared.object.Object.TheVariants as object
use Rattle.ft_objects.specs.declared.object.Offered.{Offered}
use Rattle.ft_objects.specs.declared.object.Offered.TheVariants as offered
use Rattle.ft_objects.specs.declared.object.Operations.{Operations}

-- a function with another value at one place
abbrev pub changed : {A : Type 0} → List ℕ → A → (List ℕ → A) → List ℕ → A
changed key value f k = if bytes_eq k key then value else f k

-- nothing is on offer
abbrev pub nothing : Offer
nothing = record { interface = λ key name. no_object; knows = λ key. false }

-- with an object without operations under the key
abbrev pub with_object : List ℕ → Offer → Offer
with_object key o = record { interface = changed key (λ name. no_operation) o.interface; knows = changed key true o.knows }

-- with an object under the key whose every operation is raw
abbrev pub with_raw_object : List ℕ → Offer → Offer
with_raw_object key o = record { interface = changed key (λ name. raw_operation) o.interface; knows = changed key true o.knows }

-- without an object under the key
abbrev pub without_object : List ℕ → Offer → Offer
without_object key o = record { interface = changed key (λ name. no_object) o.interface; knows = changed key false o.knows }

-- with these operations, of the object under the key, in place of those that it has
abbrev pub with_operations : List ℕ → (List ℕ → Interface) → Offer → Offer
with_operations key f o = record { interface = changed key f o.interface; knows = o.knows }

-- with one more operation, of the object under the key
abbrev pub with_operation : List ℕ → List ℕ → Interface → Offer → Offer
with_operation key name i o = with_operations key (changed name i (o.interface key)) o

-- CORBA 3.3 Part 1, 8.3: whether an object has the interface with a repository id, and whether the object is gone
abbrev pub is_a_name : List ℕ
is_a_name = codes "_is_a"

abbrev pub is_a_types : Types
is_a_types = record { arguments = form.form (form.string 4294967295) form.no_forms; results = form.form form.boolean form.no_forms; raises = [] }

abbrev pub non_existent_name : List ℕ
non_existent_name = codes "_non_existent"

abbrev pub non_existent_types : Types
non_existent_types = record { arguments = form.no_forms; results = form.form form.boolean form.no_forms; raises = [] }

-- with those two among an object's operations
abbrev pub identified : (List ℕ → Interface) → List ℕ → Interface
identified f = changed non_existent_name (operation non_existent_types) (changed is_a_name (operation is_a_types) f)

-- with those two operations, of the object under the key
abbrev pub with_identity : List ℕ → Offer → Offer
with_identity key o = with_operations key (identified (o.interface key)) o

-- an object names the id, where it names these, if it names any: each object that names ids is an Object (CORBA 3.3 Part 1, 8.3)
abbrev pub names_id : Option (List (List ℕ)) → List ℕ → Bool
names_id None id = false
names_id (Some ids) id = bytes_eq id (codes "IDL:omg.org/CORBA/Object:1.0") || list_any (λ own. bytes_eq own id) ids

-- an operation that can be added: neither its name nor the id of an exception has a NUL (CDR 9.3.2.7), and its types are valid
abbrev pub CanBeAdded : List ℕ → Interface → Type 0
CanBeAdded name i = IsClean name × IsSound i

-- ids that can be added: none has a NUL
abbrev pub AreClean : List (List ℕ) → Type 0
AreClean ids = AllByRecursion IsClean ids

-- the object under the key has no operation of that name
abbrev pub IsFree : Offer → List ℕ → List ℕ → Type 0
IsFree o key name = o.interface key name ≡ no_operation

-- an object with these operations has neither of the two
abbrev pub AreNoOperations : (List ℕ → Interface) → Type 0
AreNoOperations f = (f is_a_name ≡ no_operation) × (f non_existent_name ≡ no_operation)

-- why no object is added under the key
abbrev pub IsWhyNoObject : Offer → List ℕ → InterfacesError → Type 0
IsWhyNoObject o key Taken = o.knows key ≡ true
IsWhyNoObject o key Memory = o.knows key ≡ false
IsWhyNoObject o key _ = ⊥

-- the key names an object that takes operations: it is not raw as a whole. `raw` says which objects are
abbrev pub TakesOperations : Offer → (List ℕ → Bool) → List ℕ → Type 0
TakesOperations o raw key = (o.knows key ≡ true) × (raw key ≡ false)

-- why nothing is added to the object under the key, where `Free` says that it does not have it yet
abbrev pub IsWhyNothing : Offer → (List ℕ → Bool) → List ℕ → Type 0 → InterfacesError → Type 0
IsWhyNothing o raw key Free NoObject = o.knows key ≡ false
IsWhyNothing o raw key Free RawObject = (o.knows key ≡ true) × (raw key ≡ true)
IsWhyNothing o raw key Free Taken = TakesOperations o raw key × (¬ Free)
IsWhyNothing o raw key Free Memory = TakesOperations o raw key × Free
IsWhyNothing o raw key Free NotValid = ⊥

-- what is to be added cannot be, and that is why it is not; or it can be, and `Why` says why it is not
abbrev pub IsNotValidOr : Type 0 → (InterfacesError → Type 0) → InterfacesError → Type 0
IsNotValidOr Can Why e = ((e ≡ NotValid) × (¬ Can)) ⊎ (Can × Why e)

-- what a map of the code has under a key
abbrev pub at : {X : Type 0} → BTreeMap (Vec ℕ Global) X → List ℕ → Option X
at m key = get_by (λ k. slice_cmp nat_cmp key k.items) m

-- what an operation of the code is
abbrev pub offered_in : Option Offered → Interface
offered_in None = no_operation
offered_in (Some (offered.Typed t)) = operation (types_of t.signature)
offered_in (Some (offered.Checked t)) = checked_operation (types_of t.signature)
offered_in (Some offered.Raw) = raw_operation

-- what operations of the code have under a name
abbrev pub offered_with : Operations → List ℕ → Interface
offered_with o name = offered_in (at o.by_name name)

-- what an object of the code has under a name
abbrev pub offered_by : Object → List ℕ → Interface
offered_by object.Raw name = raw_operation
offered_by (object.Named o) name = offered_with o name

abbrev pub is_raw : Object → Bool
is_raw object.Raw = true
is_raw (object.Named o) = false

-- octets of the code
abbrev pub texts : Vec (Vec ℕ Global) Global → List (List ℕ)
texts ids = map (λ id. id.items) ids.items

abbrev pub ids_in : Object → Option (List (List ℕ))
ids_in object.Raw = None
ids_in (object.Named o) = option_map texts o.ids

-- the interface of a name at what is under a key: there is no object, or the interface that it has
abbrev pub offered_at : Option Object → List ℕ → Interface
offered_at None name = no_object
offered_at (Some o) name = offered_by o name

abbrev pub is_raw_at : Option Object → Bool
is_raw_at None = false
is_raw_at (Some o) = is_raw o

abbrev pub ids_at : Option Object → Option (List (List ℕ))
ids_at None = None
ids_at (Some o) = ids_in o

-- what objects offer
abbrev pub offer_in : (List ℕ → Option Object) → Offer
offer_in f = record { interface = λ key. offered_at (f key); knows = λ key. is_some (f key) }

-- what a catalogue offers; which of its objects are raw as a whole; and the repository ids that each names, if it names any
abbrev pub offer_of : Interfaces → Offer
offer_of i = offer_in (at i.objects)

abbrev pub raw_objects : Interfaces → List ℕ → Bool
raw_objects i key = is_raw_at (at i.objects key)

abbrev pub ids_of : Interfaces → List ℕ → Option (List (List ℕ))
ids_of i key = ids_at (at i.objects key)

-- two catalogues offer the same, the same objects are raw as a whole, and name the same ids
abbrev pub OffersSame : Interfaces → Interfaces → Type 0
OffersSame i j = (offer_of i ≡ offer_of j) × (raw_objects i ≡ raw_objects j) × (ids_of i ≡ ids_of j)
