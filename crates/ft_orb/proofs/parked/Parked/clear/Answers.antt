use Rattle.std.proofs.Common.{rules, ◌≡◌, length, ap, arith, refl, sym, subst}
use Rattle.std.proofs.lemmas.Fn.{filter_same}
use Rattle.ft_orb.specs.Parked.{IsClear, going_in, on_going}
use Rattle.ft_orb.proofs.Clearing.{going-few, cleared-is, cleared-of, going-clear}
use Rattle.ft_orb.proofs.parked.Parked.clear.Goals as goal

pub returns-then-not-is_going : goal.returns-then-not-is_going
returns-then-not-is_going c =
    let kept : c.retain.new.self.items ≡ on_going (going_in c.args.links.now) c.args.self.now.waiters.items = filter_same _ _ _ (λ x b f' k. search rules) _ _ c.retain.ensures.filtered in
    let few = going-few (going_in c.args.links.now) c.args.self.now.waiters.items in
    let long = ap length kept in
    ((refl, refl), cleared-is (going_in c.args.links.now) c.args.self.now.waiters.items c.retain.new.self.items kept, subst (IsClear (going_in c.args.links.now)) (sym kept) (going-clear (going_in c.args.links.now) c.args.self.now.waiters.items), cleared-of (going_in c.args.links.now) c.args.self.now.waiters.items c.retain.new.self.items kept, omega (arith, few, long))
