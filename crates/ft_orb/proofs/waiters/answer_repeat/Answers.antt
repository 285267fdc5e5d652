use Rattle.std.proofs.Common.{◌≡◌, Some, arith}
use Rattle.std.proofs.lemmas.Grind.{common_steps}
use Rattle.std.specs.BTreeMap.{get}
use Rattle.std.specs.Ordering.{nat_cmp}
use Rattle.ft_orb.proofs.Countings.{counted-written, few-written, joins-same}
use Rattle.ft_orb.proofs.waiters.answer_repeat.Goals as goal

pub invariant_of-parked-2 : goal.invariant_of-parked-2
invariant_of-parked-2 c =
    let lot = c.args.parked.now in
    let was : get nat_cmp lot.requests c.args.repeat.number ≡ Some c.in-Some.first.now = grind (arith, common_steps) in
    let same = joins-same _ c.args.most _ c.in-Some.first.now c.join.new.self c.join.result c.join.ensures.joins in
    record {
      few = few-written lot.requests (c.get_mut.follows.lender c.join.new.self) c.args.repeat.number c.join.new.self (c.get_mut.follows.holds _) lot.few;
      counted = counted-written lot.requests (c.get_mut.follows.lender c.join.new.self) lot.counts c.args.repeat.number c.in-Some.first.now c.join.new.self (c.get_mut.follows.holds _) was same lot.counted;
    }
