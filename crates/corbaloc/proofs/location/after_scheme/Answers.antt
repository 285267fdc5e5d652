use Rattle.std.proofs.Common.{ℕ, List, subst, sym, ◌∙◌}
use Rattle.std.specs.Prelude.{◌≡◌, codes}
use Rattle.std.specs.Str.{str_to_ascii_lowercase}
use Rattle.std.proofs.lemmas.Bool.{false≢true}
use Rattle.corbaloc.proofs.Cuts.{cut_once, free_not_cut}
use Rattle.corbaloc.proofs.Exits.{at_none, unless}
use Rattle.corbaloc.proofs.location.after_scheme.Goals as goal

pub returns-in_err-scheme-clause-none : goal.returns-in_err-scheme-clause-none
returns-in_err-scheme-clause-none c =
    at_none c.from_residual.result (λ rest h. free_not_cut 58 c.args.text.now h.0 rest c.in_err-scheme.ensures h.1)

pub returns-clause-none : goal.returns-clause-none
returns-clause-none c =
    unless c.eq_ignore_ascii_case.result c.in_ok-scheme.rest c.then_some.result c.then_some.ensures (λ no rest h.
    let same = (cut_once 58 c.args.text.now h.0 rest c.in_ok-scheme.scheme.now c.in_ok-scheme.rest.now h.1 c.in_ok-scheme.ensures).0 in
    false≢true (sym no ∙ c.eq_ignore_ascii_case.ensures.test.1 (subst (λ (t : List ℕ). str_to_ascii_lowercase t ≡ codes "corbaloc") same h.2)))
