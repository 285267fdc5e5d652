use Rattle.std.proofs.lemmas.Result.{err_from_is_err_and}
use Rattle.cdr_core.specs.Parts.{raw}
use Rattle.ior_core.specs.Grammar.{tagged}
use Rattle.giop_core.specs.Rows.{selected}
use Rattle.giop_core.proofs.Choices.{choice_short}
use Rattle.giop_core.proofs.target_address.read_any_target.Goals as goal

pub returns-in_err-discriminator : goal.returns-in_err-discriminator
returns-in_err-discriminator c =
    let old = c.args.cursor.now in
    let p = err_from_is_err_and c.from_residual.result c.from_residual.ensures.1 in
    rw (p.1, p.2) (choice_short raw tagged selected old.order old.place old.rest c.in_err-discriminator.field-0.0 c.in_err-discriminator.ensures.0)
