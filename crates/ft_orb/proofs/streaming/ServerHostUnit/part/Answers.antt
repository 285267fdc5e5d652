use Rattle.std.proofs.Common.{List, ℕ, ◌++◌, is_err, inr, ap, refl, ◌∙◌}
use Rattle.ft_orb.specs.Outputs.{table_says}
use Rattle.ft_orb.specs.Standing.{note_of}
use Rattle.ft_orb.proofs.Streams.{closed-by, given-up}
use Rattle.ft_orb.proofs.streaming.ServerHostUnit.part.Goals as goal

pub returns-in-Ok-clause-table : goal.returns-in-Ok-clause-table
returns-in-Ok-clause-table g c made calls past st going =
    let w = c.close.ensures.table made past st in
    let is = closed-by made.limits g.S.Servant.meaning.knows (table_says g.S.Servant.meaning made) past c.args.connection c.close.result w.0 (ap is_err c.in-Ok.is) going w.2 in
    (note_of c.close.result, ap note_of c.in-Ok.is, w.1 ∙ ap (λ (xs : List ℕ). c.args.out.now.items ++ xs) is, w.3)

pub returns-in-Err-clause-table : goal.returns-in-Err-clause-table
returns-in-Err-clause-table g c made calls past st going =
    let w = c.close.ensures.table made past st in
    (note_of c.close.result, given-up made.limits g.S.Servant.meaning.knows (table_says g.S.Servant.meaning made) past c.args.connection c.close.result w.0 (ap is_err c.in-Err.is) going w.2, tt, w.3)

pub returns-in-Ok-clause-late : goal.returns-in-Ok-clause-late
returns-in-Ok-clause-late g c s held calls past waiting x = absurd x

pub returns-in-Err-clause-late : goal.returns-in-Err-clause-late
returns-in-Err-clause-late g c s held calls past waiting x = absurd x

pub returns-in-Err-clause-cut : goal.returns-in-Err-clause-cut
returns-in-Err-clause-cut g c = inr refl
