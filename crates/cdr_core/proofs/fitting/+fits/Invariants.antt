use Rattle.std.proofs.Common.{◌↔◌, drop}
use Rattle.cdr_core.specs.View.{form_of, values_of, forms_of, cases_of, held, value_of}
use Rattle.cdr_core.specs.Value.{label}
use Rattle.cdr_core.specs.Private.{HasChosen}
use Rattle.cdr_core.specs.Fitting.{AllFit, Fits, FitsMembers, FitsChosen}
use Rattle.cdr_core.proofs.fitting.+fits.Given as goal

abbrev pub invariant-all_fit-loop-value : goal.invariant-all_fit-loop-value
invariant-all_fit-loop-value l = AllFit (Fits (form_of l.ty)) (values_of l.all) ↔ AllFit (Fits (form_of l.ty)) (values_of (drop l.value-index l.all))

abbrev pub invariant-chosen_fits-loop-case : goal.invariant-chosen_fits-loop-case
invariant-chosen_fits-loop-case l = HasChosen (form_of l.union) (label (value_of l.discriminator)) (held l.member) ↔ FitsChosen (cases_of (drop l.case-index l.case-items) l.default) (label (value_of l.discriminator)) (held l.member)

abbrev pub invariant-members_fit-loop-i : goal.invariant-members_fit-loop-i
invariant-members_fit-loop-i l = FitsMembers (forms_of l.types) (values_of l.all) ↔ FitsMembers (forms_of (drop l.i l.types)) (values_of (drop l.i l.all))
