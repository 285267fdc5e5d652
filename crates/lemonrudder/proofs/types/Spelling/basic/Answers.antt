use Rattle.std.proofs.Common.{refl}
use Rattle.lemonrudder.proofs.Coding.{lacks_basic, takes_basic, takes_no_basic}
use Rattle.std.proofs.lemmas.Result.{err_from_is_err_and}
use Rattle.lemonrudder.proofs.types.Spelling.basic.Goals as goal

pub returns-in_default : goal.returns-in_default
returns-in_default c = takes_no_basic _ c.args.self.now.types.items c.args.code (c.in_default.ensures.none refl) c.requires

pub returns : goal.returns
returns c = takes_basic _ c.args.self.now.types.items _ c.in-Some.ty c.args.code c.in-Some.ensures.some c.in_ok-push.ensures.items

pub returns-in_err-push : goal.returns-in_err-push
returns-in_err-push c =
    let p = err_from_is_err_and c.from_residual.result c.from_residual.ensures.1 in
    rw (p.1, p.2) (λ none codes read. lacks_basic _ c.args.self.now.types.items c.in-Some.ty c.args.code c.in-Some.ensures.some none codes read)
