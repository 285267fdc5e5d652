use Rattle.std.proofs.Common.{Some, subst}
use Rattle.cdr_core.specs.View.{forms_of}
use Rattle.lemonrudder.specs.Decoding.{HasRead}
use Rattle.lemonrudder.proofs.Coding.{lacks_names, takes_names}
use Rattle.std.proofs.lemmas.Result.{err_from_is_err_and}
use Rattle.lemonrudder.proofs.types.Spelling.count.Goals as goal

pub returns-in_ok-push-in-Enum : goal.returns-in_ok-push-in-Enum
returns-in_ok-push-in-Enum c = takes_names _ c.args.self.now.types.items _ _ c.args.number c.from.result c.in-Enum.is c.in_ok-push-in-Enum.ensures.items c.from.ensures

pub returns-in-Struct : goal.returns-in-Struct
returns-in-Struct c = λ none codes read. c.join.ensures none codes (subst (λ k. HasRead (Some k) (forms_of c.args.self.now.types.items) codes) c.in-Struct.is read)

pub returns-in_err-push-in-Enum : goal.returns-in_err-push-in-Enum
returns-in_err-push-in-Enum c =
    let p = err_from_is_err_and c.from_residual.result c.from_residual.ensures.1 in
    rw (p.1, p.2) (λ none codes read. lacks_names c.args.self.now.types.items c.args.counted c.args.number c.in-Enum.is codes read)
