-- What a servant offers: its operations with the types of their arguments and of what they give.
use Rattle.std.specs.Prelude.{◌≡◌, ◌⊎◌, ℕ, Bool, true, false, List, [], ◌∷◌, ◌++◌, map, ⊤}
use Rattle.std.specs.List.{AllByRecursion}
use Rattle.std.proofs.Common.{Vec, Global}
use Rattle.cdr_core.specs.Fitting.{AreValid, FitsMembers}
use Rattle.cdr_core.specs.Form.{Forms}
use Rattle.cdr_core.specs.Parts.{ulong_value}
use Rattle.cdr_core.specs.Spelling.{IsClean, SpellsMembers}
use Rattle.cdr_core.specs.Value as value
use Rattle.cdr_core.specs.Value.{Values, values}
use Rattle.cdr_core.specs.View.{forms_of}
use Rattle.cdr_core.specs.declared.order.Order.{Order}
use Rattle.cdr_core.specs.declared.order.Order.TheVariants.{Big, Little}
use Rattle.cdr_core.specs.declared.types.Ty.{Ty}
use Rattle.giop_core.specs.Content.{Rest}
use Rattle.ft_log.specs.Performed.{Performed, raised, raw, returned, system}
use Rattle.ft_objects.specs.declared.signature.Lookup.{Lookup}
use Rattle.ft_objects.specs.declared.signature.Lookup.TheVariants as lookup
use Rattle.ft_objects.specs.declared.signature.Signature.{Signature}

-- the types of an operation's arguments, of its results (the return value, then the out and inout parameters), and of the
-- members of each exception that it declares, by its repository id
pub record Types : Type 0 where
  pub arguments : Forms
  pub results : Forms
  pub raises : List (List ℕ × Forms)

-- what an object key and an operation's name lead to: an operation of types; or one that is raw, whose bodies nobody but its
-- owner reads and writes; or one that is checked, whose owner takes and gives bodies as of a raw one, and whose arguments are
-- judged by their types all the same (own rule)
pub data Interface : Type 0 where
  no_object : Interface
  no_operation : Interface
  operation : Types → Interface
  raw_operation : Interface
  checked_operation : Types → Interface

-- all types are valid
abbrev pub AreValidTypes : Types → Type 0
AreValidTypes t = AreValid t.arguments × AreValid t.results × AllByRecursion (λ r. AreValid r.1) t.raises

abbrev pub IsValidInterface : Interface → Type 0
IsValidInterface (operation t) = AreValidTypes t
IsValidInterface (checked_operation t) = AreValidTypes t
IsValidInterface _ = ⊤

-- whether it is little-endian
abbrev pub is_little : Order → Bool
is_little Big = false
is_little Little = true

-- the arguments of a raw operation are the body of its request: the octets, whether they are little-endian, and their place in the
-- message
abbrev pub raw_arguments : Rest → Values
raw_arguments body = values (value.octets body.octets ∷ value.boolean (is_little body.order) ∷ ulong_value body.place ∷ [])

-- a front of the body spells the arguments, one after another, in the body's order and at its place
pub record AreSpelledBy (types : Types) (body : Rest) (arguments : Values) : Type 0 where
  pub front : List ℕ
  pub rest : List ℕ
  pub octets_are : body.octets ≡ front ++ rest
  pub spelled : SpellsMembers types.arguments body.order arguments body.place front

-- the arguments of a checked operation are the body too, of which a front spells values of its types
pub record IsChecked (types : Types) (body : Rest) (arguments : Values) : Type 0 where
  pub arguments_are : arguments ≡ raw_arguments body
  pub given : Values
  pub spelled : AreSpelledBy types body given

-- these are arguments of the operation
abbrev pub AreArgumentsOf : Interface → Values → Type 0
AreArgumentsOf (operation t) arguments = FitsMembers t.arguments arguments
AreArgumentsOf raw_operation arguments = (body : Rest) × (arguments ≡ raw_arguments body)
AreArgumentsOf (checked_operation t) arguments = (body : Rest) × IsChecked t body arguments
AreArgumentsOf _ arguments = ⊥

-- an exception is declared with this id, and these are its members
abbrev pub IsRaised : List (List ℕ × Forms) → List ℕ → Values → Type 0
IsRaised [] id members = ⊥
IsRaised (r ∷ rs) id members = ((r.0 ≡ id) × FitsMembers r.1 members) ⊎ IsRaised rs id members

-- an outcome is one of the operation: results of its types, or an exception that it declares; of a raw or a checked one a body of
-- octets, for which answers who hands it in. A system exception is one of each, and of an operation that is on offer no more (CORBA 3.3 Part 1, annex A: any invocation may raise one)
abbrev pub IsOutcomeOf : Interface → Performed → Type 0
IsOutcomeOf _ (system name minor completion) = ⊤
IsOutcomeOf (operation t) (returned results) = FitsMembers t.results results
IsOutcomeOf (operation t) (raised id members) = IsClean id × IsRaised t.raises id members
IsOutcomeOf raw_operation (raw status order body) = ⊤
IsOutcomeOf (checked_operation t) (raw status order body) = ⊤
IsOutcomeOf _ outcome = ⊥

-- an outcome that the owner of an engine may hand in for an operation: one of it, or the body of a Reply as it stands, as of an outcome
-- that was stored while the operation had other types
abbrev pub IsAnswerOf : Interface → Performed → Type 0
IsAnswerOf _ (raw status order body) = ⊤
IsAnswerOf i outcome = IsOutcomeOf i outcome

-- an exception of the code
abbrev pub raise_of : Vec ℕ Global × Vec Ty Global → List ℕ × Forms
raise_of r = (r.0.items, forms_of r.1.items)

-- a signature of the code
abbrev pub types_of : Signature → Types
types_of s = record { arguments = forms_of s.arguments.items; results = forms_of s.results.items; raises = map raise_of s.raises.items }

-- what the code's look-up says
abbrev pub interface_of : Lookup → Interface
interface_of lookup.NoObject = no_object
interface_of lookup.NoOperation = no_operation
interface_of (lookup.Operation s) = operation (types_of s.now)
interface_of lookup.Raw = raw_operation
interface_of (lookup.Checked s) = checked_operation (types_of s.now)
