-- That the types of an operation are valid is a fact: a type with at most one value. Nobody has to read this proof; it stands here
-- since a field of `Typed` cites it.
use Rattle.std.specs.List.{AllByRecursion-prop}
use Rattle.std.proofs.Props.{props}
use Rattle.cdr_core.specs.Fitting.{AreValid}
use Rattle.cdr_core.specs.Validity.{are_valid_prop, triple_prop}
use Rattle.ft_objects.specs.Interfaces.{AreValidTypes, Interface, IsValidInterface, Types, checked_operation, no_object, no_operation, operation, raw_operation}

types_prop : (t : Types) → IsProp (AreValidTypes t)
types_prop t = triple_prop (are_valid_prop t.arguments) (are_valid_prop t.results) (AllByRecursion-prop (λ r. AreValid r.1) (λ r. are_valid_prop r.1) t.raises)

pub valid_interface_prop : (i : Interface) → IsProp (IsValidInterface i)
valid_interface_prop (operation t) = types_prop t
valid_interface_prop (checked_operation t) = types_prop t
valid_interface_prop no_object = hlevel props
valid_interface_prop no_operation = hlevel props
valid_interface_prop raw_operation = hlevel props
