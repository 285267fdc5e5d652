use Rattle.std.proofs.Common.{◌∙◌, sym, arith}
use Rattle.ft_orb.proofs.Countings.{parked_on-take}
use Rattle.ft_orb.proofs.lot.Lot.take.Goals as goal

pub invariant_of-self-2-clause-counted : goal.invariant_of-self-2-clause-counted
invariant_of-self-2-clause-counted c q =
    let left = parked_on-take c.args.self.now.requests c.remove.new.self c.args.number c.in_ok-parked.parked q c.remove.ensures.entries (sym c.remove.ensures.value ∙ c.in_ok-parked.was) in
    let less = c.count_down.ensures q in
    let counted = c.args.self.now.counted q in
    omega (arith, left, less, counted)
