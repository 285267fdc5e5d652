use Rattle.std.proofs.Common.{◌≡◌, ◌∙◌, ◌+◌, [], ◌∷◌, ◌++◌, ap, length, arith}
use Rattle.cdr_core.specs.declared.types.Ty.TheVariants as ty
use Rattle.lemonrudder.proofs.Coding.{lacks_members, takes_members, takes_no_members}
use Rattle.std.proofs.lemmas.Result.{err_from_is_err_and}
use Rattle.lemonrudder.proofs.types.Spelling.join.Goals as goal

pub returns-in_default : goal.returns-in_default
returns-in_default c = λ none codes read.
    takes_no_members c.args.self.now.types.items c.args.count c.from-count.result c.len.result c.from-count.ensures (c.len.ensures ∙ c.args.self.now.types.ok.0) c.in_default.ensures codes read

pub returns : goal.returns
returns c = λ none codes read.
    let ts = c.args.self.now.types in
    let place : c.in-Some.at + c.from-count.result ≡ length ts.items = omega (arith, c.in-Some.ensures.0, c.in-Some.ensures.1, c.len.ensures, ts.ok.0) in
    takes_members _ ts.items _ c.in-Some.at c.args.count c.from-count.result c.in_ok-members.members c.from-count.ensures place c.in_ok-members.ensures.tail (c.in_ok-push.ensures.items ∙ ap (λ xs. xs ++ ty.Struct c.in_ok-members.members ∷ []) c.in_ok-members.ensures.items) none codes read

pub returns-in_err-members : goal.returns-in_err-members
returns-in_err-members c =
    let ts = c.args.self.now.types in
    let p = err_from_is_err_and c.from_residual.result c.from_residual.ensures.1 in
    let place : c.in-Some.at + c.from-count.result ≡ length ts.items = omega (arith, c.in-Some.ensures.0, c.in-Some.ensures.1, c.len.ensures, ts.ok.0) in
    rw (p.1, p.2) (λ none codes read. lacks_members ts.items c.in-Some.at c.args.count c.from-count.result c.from-count.ensures place codes read)

pub returns-in_err-push : goal.returns-in_err-push
returns-in_err-push c =
    let ts = c.args.self.now.types in
    let p = err_from_is_err_and c.from_residual-in_err-push.result c.from_residual-in_err-push.ensures.1 in
    let place : c.in-Some.at + c.from-count.result ≡ length ts.items = omega (arith, c.in-Some.ensures.0, c.in-Some.ensures.1, c.len.ensures, ts.ok.0) in
    rw (p.1, p.2) (λ none codes read. lacks_members ts.items c.in-Some.at c.args.count c.from-count.result c.from-count.ensures place codes read)
