use Rattle.std.proofs.Common.{◌∙◌, sym}
use Rattle.lemonrudder.proofs.Coding.{lacks_sequence, takes_no_element, takes_sequence}
use Rattle.std.proofs.lemmas.Result.{err_from_is_err_and}
use Rattle.lemonrudder.proofs.types.Spelling.sequence.Goals as goal

pub returns-in_default : goal.returns-in_default
returns-in_default c = takes_no_element _ c.args.self.now.types.items (sym c.args.self.now.types.ok.0 ∙ c.in_default.ensures.cases.0)

pub returns : goal.returns
returns c = takes_sequence _ c.args.self.now.types.items c.pop.new.self.items _ c.in-Some.element c.in_ok-element.element c.in-Some.ensures.items c.in_ok-element.ensures.ok c.in_ok-push.ensures.items

pub returns-in_err-element : goal.returns-in_err-element
returns-in_err-element c =
    let p = err_from_is_err_and c.from_residual.result c.from_residual.ensures.1 in
    rw (p.1, p.2) (λ none codes read. lacks_sequence _ c.args.self.now.types.items c.pop.new.self.items c.in-Some.element c.in-Some.ensures.items none codes read)
