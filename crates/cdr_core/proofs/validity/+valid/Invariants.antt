use Rattle.std.proofs.Common.{◌↔◌, drop}
use Rattle.cdr_core.specs.View.{cases_of, form_of, forms_of}
use Rattle.cdr_core.specs.Private.{HasCases}
use Rattle.cdr_core.specs.Fitting.{AreCases, AreValid}
use Rattle.cdr_core.proofs.validity.+valid.Given as goal

abbrev pub invariant-are_valid-loop-ty : goal.invariant-are_valid-loop-ty
invariant-are_valid-loop-ty l = AreValid (forms_of l.types) ↔ AreValid (forms_of (drop l.ty-index l.types))

abbrev pub invariant-are_cases-loop-i : goal.invariant-are_cases-loop-i
invariant-are_cases-loop-i l = HasCases (form_of l.union) ↔ AreCases (form_of l.discriminator.value) (cases_of (drop l.i l.cases.items) l.default)
