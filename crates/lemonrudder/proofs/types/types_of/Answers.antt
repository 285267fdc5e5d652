use Rattle.std.proofs.Common.{◌≡◌, ◌∙◌, ◌+◌, ◌∷◌, ◌++◌, [], Err, get_or, take, drop, ap, sym, subst, arith}
use Rattle.std.proofs.lemmas.List.{take-append-drop, take_all, take_more}
use Rattle.std.proofs.lemmas.Result.{err_from_is_err_and}
use Rattle.cdr_core.specs.View.{forms_of}
use Rattle.lemonrudder.specs.Decoding.{HasRead}
use Rattle.lemonrudder.proofs.Coding.{none_waits, refused_types, some_last, some_waits}
use Rattle.lemonrudder.proofs.types.types_of.Goals as goal
use Rattle.lemonrudder.proofs.types.types_of.Goals.{then-is_some-via-then-is_some, then-is_some-via-else-is_some+then-not-are_valid}

pub returns-in_err-take : goal.returns-in_err-take
returns-in_err-take c =
    let codes = c.args.codes.now in
    let k = c.loop-code.code-index in
    let p = err_from_is_err_and c.from_residual.result c.from_residual.ensures.1 in
    let more : codes ≡ (take k codes ++ get_or codes k 0 ∷ []) ++ drop (k + 1) codes = sym (take-append-drop (k + 1) codes) ∙ ap (λ xs. xs ++ drop (k + 1) codes) (take_more codes k 0 (omega arith)) in
    refused_types codes (take k codes ++ get_or codes k 0 ∷ []) (drop (k + 1) codes) c.take.new.self c.in_err-take.field-0.0 c.from_residual.result more (some_last (take k codes) (get_or codes k 0)) (c.in_err-take.ensures (take k codes) c.loop-code.invariant) (p.1 ∙ ap Err p.2)

pub returns-then-is_some : goal.returns-then-is_some
returns-then-is_some c =
    let codes = c.args.codes.now in
    let s = c.loop-code.spelling in
    let whole : take c.loop-code.code-index codes ≡ codes = take_all c.loop-code.code-index codes (omega arith) in
    let read : HasRead s.waits (forms_of s.types.items) codes = subst (λ xs. HasRead s.waits (forms_of s.types.items) xs) whole c.loop-code.invariant in
    elim c.then-is_some.branch [
      | then-is_some-via-then-is_some w ↦ some_waits s.waits c.is_some.result s.types.items codes c.is_some.ensures w.if-is_some.true read
      | then-is_some-via-else-is_some+then-not-are_valid w ↦ none_waits s.waits c.is_some.result w.are_valid.result s.types.items _ codes c.is_some.ensures w.if-is_some.false w.are_valid.ensures w.deref.ensures.value w.if-not-are_valid.true read
    ]
