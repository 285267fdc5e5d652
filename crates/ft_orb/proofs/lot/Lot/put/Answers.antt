use Rattle.std.proofs.Common.{◌∙◌, ap, sym, arith}
use Rattle.ft_orb.proofs.Countings.{came_if, parked_on-put}
use Rattle.ft_orb.proofs.Streams.{on_ok-is}
use Rattle.ft_orb.proofs.lot.Lot.put.Goals as goal

pub invariant_of-self-in-Ok-None-clause-counted : goal.invariant_of-self-in-Ok-None-clause-counted
invariant_of-self-in-Ok-None-clause-counted c q =
    let put = parked_on-put c.args.self.now.requests c.insert.new.self c.args.number c.args.parked c.in-Ok-None.field-0 q c.insert.ensures.was_ordered c.in-Ok-None.ensures.entries c.in-Ok-None.ensures.old in
    let more = (on_ok-is c.count_up.result (sym c.is_err.ensures.value ∙ c.if-is_err.false) c.count_up.ensures.more) q in
    let counted = c.args.self.now.counted q in
    let none = ap (came_if q) c.in-Ok-None.field-0-is in
    omega (arith, put, more, counted, none)

pub invariant_of-self-in-Ok-Some-clause-counted : goal.invariant_of-self-in-Ok-Some-clause-counted
invariant_of-self-in-Ok-Some-clause-counted c q =
    let put = parked_on-put c.args.self.now.requests c.insert.new.self c.args.number c.args.parked c.in-Ok-Some.field-0 q c.insert.ensures.was_ordered c.in-Ok-Some.ensures.entries c.in-Ok-Some.ensures.old in
    let more = (on_ok-is c.count_up.result (sym c.is_err.ensures.value ∙ c.if-is_err.false) c.count_up.ensures.more) q in
    let less = c.count_down.ensures q in
    let counted = c.args.self.now.counted q in
    let before = ap (came_if q) c.in-Ok-Some.field-0-is in
    omega (arith, put, more, less, counted, before)
