use Rattle.std.proofs.Common.{rules, ◌≡◌, [], ◌∷◌, length, refl, ap, ◌∙◌, arith, length-append}
use Rattle.std.proofs.lemmas.Fn.{filter_same}
use Rattle.ft_orb.specs.Parked.{going_in, on_going}
use Rattle.ft_orb.proofs.Clearing.{cleared-is, cleared-of, few-still, going-few, joined-is, joined-of, same-of, wished-is}
use Rattle.ft_orb.proofs.parked.Parked.join.Goals as goal
use Rattle.ft_orb.proofs.parked.Parked.join.Goals.{then-len-most, else-len-most}

pub returns-then-len-most-2 : goal.returns-then-len-most-2
returns-then-len-most-2 c =
    elim c.if-len-most.branch [
      | then-len-most w ↦
          let kept : w.retain.new.self.items ≡ on_going (going_in c.args.links.now) c.args.self.now.waiters.items = filter_same _ _ _ (λ x b f' k. search rules) _ _ w.retain.ensures.filtered in
          let size = rw w.self-is at c.len-2.ensures in
          let more = c.if-len-most-2.true in
          let long = ap length kept in
          let fewer = going-few (going_in c.args.links.now) c.args.self.now.waiters.items in
          rw w.self-is (record {
            joins = (wished-is c.args.waiter.asker.wish c.in_default.not-None, omega (arith, size, more, long), (refl, refl), cleared-is (going_in c.args.links.now) c.args.self.now.waiters.items w.retain.new.self.items kept, cleared-of (going_in c.args.links.now) c.args.self.now.waiters.items w.retain.new.self.items kept);
            few = λ before. omega (arith, long, fewer, before);
          })
      | else-len-most w ↦
          absurd (
          let size = rw w.self-is at c.len-2.ensures in
          let was = c.len.ensures in
          let few = w.if-len-most.false in
          let more = c.if-len-most-2.true in
          omega (arith, size, was, few, more)
          )
    ]

pub returns-in-Ok : goal.returns-in-Ok
returns-in-Ok c =
    let goes = going_in c.args.links.now in
    let old = c.args.self.now.waiters.items in
    elim c.if-len-most.branch [
      | then-len-most w ↦
          let kept : w.retain.new.self.items ≡ on_going (going_in c.args.links.now) c.args.self.now.waiters.items = filter_same _ _ _ (λ x b f' k. search rules) _ _ w.retain.ensures.filtered in
          let same = cleared-is goes old w.retain.new.self.items kept in
          let size = rw w.self-is at c.len-2.ensures in
          let few = c.if-len-most-2.false in
          let pushed = rw w.self-is at c.in-Ok.ensures.items in
          record {
            joins = (wished-is c.args.waiter.asker.wish c.in_default.not-None, few-still goes old w.retain.new.self.items c.args.most same (omega (arith, size, few)), (refl, refl), joined-is goes old w.retain.new.self.items c.push_back.new.self.items c.args.waiter same pushed, joined-of old w.retain.new.self.items c.push_back.new.self.items c.args.waiter (cleared-of goes old w.retain.new.self.items kept) pushed);
            few = λ before. (let more = ap length pushed in let sum = length-append w.retain.new.self.items (c.args.waiter ∷ []) in omega (arith, size, few, more, sum));
          }
      | else-len-most w ↦
          let size = rw w.self-is at c.len-2.ensures in
          let few = c.if-len-most-2.false in
          let pushed = rw w.self-is at c.in-Ok.ensures.items in
          record {
            joins = (wished-is c.args.waiter.asker.wish c.in_default.not-None, few-still goes old old c.args.most refl (omega (arith, size, few)), (refl, refl), joined-is goes old old c.push_back.new.self.items c.args.waiter refl pushed, joined-of old old c.push_back.new.self.items c.args.waiter (λ test h. h) pushed);
            few = λ before. (let more = ap length pushed in let sum = length-append old (c.args.waiter ∷ []) in omega (arith, size, few, more, sum));
          }
    ]

pub returns-in-Err : goal.returns-in-Err
returns-in-Err c =
    let goes = going_in c.args.links.now in
    let old = c.args.self.now.waiters.items in
    elim c.if-len-most.branch [
      | then-len-most w ↦
          let kept : w.retain.new.self.items ≡ on_going (going_in c.args.links.now) c.args.self.now.waiters.items = filter_same _ _ _ (λ x b f' k. search rules) _ _ w.retain.ensures.filtered in
          let same = cleared-is goes old w.retain.new.self.items kept in
          let size = rw w.self-is at c.len-2.ensures in
          let few = c.if-len-most-2.false in
          let left = rw w.self-is at c.in-Err.ensures.items in
          record {
            joins = (wished-is c.args.waiter.asker.wish c.in_default.not-None, few-still goes old w.retain.new.self.items c.args.most same (omega (arith, size, few)), (refl, refl), ap (on_going goes) left ∙ same, same-of old w.retain.new.self.items c.push_back.new.self.items (cleared-of goes old w.retain.new.self.items kept) left);
            few = λ before. (let same' = ap length left in omega (arith, size, few, same'));
          }
      | else-len-most w ↦
          let size = rw w.self-is at c.len-2.ensures in
          let few = c.if-len-most-2.false in
          let left = rw w.self-is at c.in-Err.ensures.items in
          record {
            joins = (wished-is c.args.waiter.asker.wish c.in_default.not-None, few-still goes old old c.args.most refl (omega (arith, size, few)), (refl, refl), ap (on_going goes) left, same-of old old c.push_back.new.self.items (λ test h. h) left);
            few = λ before. (let same' = ap length left in omega (arith, size, few, same'));
          }
    ]
