use Rattle.std.proofs.Common.{◌↔◌, drop, Option, Box, Global}
use Rattle.cdr_core.specs.View.{cases_of}
use Rattle.cdr_core.specs.Fitting.{IsNoLabel}
use Rattle.cdr_core.specs.declared.types.Ty.{Ty}
use Rattle.cdr_core.proofs.validity.is_no_label.Given as goal

abbrev pub invariant-loop-case : goal.invariant-loop-case
invariant-loop-case l = (o : Option (Box Ty Global)) → (IsNoLabel l.label (cases_of l.cases o) ↔ IsNoLabel l.label (cases_of (drop l.case-index l.cases) o))
