use Rattle.std.proofs.Common.{◌↔◌, drop}
use Rattle.cdr_core.specs.Fitting.{AreValid, FitsMembers}
use Rattle.cdr_core.specs.View.{forms_of, values_of}
use Rattle.ft_orb.proofs.outcomes.are_of.Given as goal

-- the values before this are of their types
abbrev pub invariant-loop-i : goal.invariant-loop-i
invariant-loop-i l = record {
  valid : AreValid (forms_of (drop l.i l.types));
  left : FitsMembers (forms_of l.types) (values_of l.values) ↔ FitsMembers (forms_of (drop l.i l.types)) (values_of (drop l.i l.values));
}
