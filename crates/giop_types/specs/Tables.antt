-- What a table has under names, and what it tells of a body by it.
use Rattle.std.specs.Prelude.{◌≡◌, ◌≢◌, ℕ, List, [], ◌∷◌, Option, Some, None, map, take, slice_get}
use Rattle.std.specs.BTreeMap.{BTreeMap, get_by}
use Rattle.std.specs.Cmp.Lexicographic.{slice_cmp}
use Rattle.std.specs.Ordering.{nat_cmp}
use Rattle.std.specs.List.{AllByRecursion}
use Rattle.std.specs.Option.{option_map_or}
use Rattle.std.proofs.Common.{Vec, Global}
use Rattle.cdr_core.specs.declared.values.Val.{Val}
use Rattle.cdr_core.specs.Form.{Forms}
use Rattle.cdr_core.specs.View.{forms_of}
use Rattle.giop_core.specs.declared.message.Body.{Body}
use Rattle.giop_types.specs.declared.operations.Operation.{Operation}
use Rattle.giop_types.specs.declared.operations.Part.{Part}
use Rattle.giop_types.specs.declared.operations.Part.TheVariants.{Arguments, Results}
use Rattle.giop_types.specs.declared.signature.Signature.{Signature}
use Rattle.giop_types.specs.declared.table.Table.{Table}
use Rattle.giop_types.specs.declared.table.Told.{Told}
use Rattle.giop_types.specs.declared.table.Told.TheVariants.{Unknown, Unfit, Fits}
use Rattle.giop_types.specs.Reading.{Has}

-- the types of a signature
abbrev pub forms_in : Signature → Forms
forms_in s = forms_of s.forms.items

-- what a map has under a key
abbrev pub at : {X : Type 0} → BTreeMap (Vec ℕ Global) X → List ℕ → Option X
at m key = get_by (λ k. slice_cmp nat_cmp key k.items) m

-- the operations of a name in order, and the exception of a repository id
abbrev pub operations_of : Table → List ℕ → List Operation
operations_of t name = option_map_or (λ v. v.items) (at t.operations name) []

abbrev pub exception_of : Table → List ℕ → Option Signature
exception_of t id = at t.exceptions id

-- the arguments of each operation of a name, and its results; and the members of an exception, if there is one
abbrev pub arguments_of : Table → List ℕ → List Signature
arguments_of t name = map (λ o. o.arguments) (operations_of t name)

abbrev pub results_of : Table → List ℕ → List Signature
results_of t name = map (λ o. o.results) (operations_of t name)

abbrev pub raised_of : Table → List ℕ → List Signature
raised_of t id = option_map_or (λ s. s ∷ []) (exception_of t id) []

-- what the types of a signature have of a whole body
abbrev pub Tells : Signature → Body → Option (Vec Val Global) → Type 0
Tells s b values = Has (forms_in s) b.order b.at b.octets.now values

-- none of them has values of it
abbrev pub TellNone : List Signature → Body → Type 0
TellNone all b = AllByRecursion (λ s. Tells s b None) all

-- what is told of a body by signatures in order: that there are none; that none fit; or the first that does, and its values
abbrev pub IsTold : List Signature → Body → Told → Type 0
IsTold all b Unknown = all ≡ []
IsTold all b Unfit = (all ≢ []) × TellNone all b
IsTold all b (Fits f) = TellNone (take f.place all) b × (slice_get all f.place ≡ Some f.signature.now) × Tells f.signature.now b (Some f.values)

-- words of the code's own

-- a side of an operation
abbrev pub side_of : Part → Operation → Signature
side_of Arguments o = o.arguments
side_of Results o = o.results
