use Rattle.std.proofs.Common.{None, subst}
use Rattle.giop_types.specs.Tables.{Tells, side_of}
use Rattle.giop_types.proofs.Fronts.{front_more}
use Rattle.giop_types.proofs.table.told_by.Goals as goal

pub loop-place-preserved : goal.loop-place-preserved
loop-place-preserved c =
    λ small.
    let values = c.in_ok-values.ensures small in
    let none = subst (λ v. Tells c.side-signature.result.now c.args.body.now v) c.in_default.is values in
    let here = subst (λ s. Tells s c.args.body.now None) c.side-signature.ensures none in
    front_more (side_of c.args.part) (λ s. Tells s c.args.body.now None) c.args.known.now c.loop-place.place c.index-known-place.result c.index-known-place.is (c.loop-place.invariant small) here
