use Rattle.std.proofs.Common.{◌≡◌, ℕ, cond, ap, arith, rules}
use Rattle.ft_log.specs.Logged.{logged}
use Rattle.ft_log.proofs.store.Store.forget.Goals as goal

pub loop-init : goal.loop-init
unfolding logged
loop-init c = search rules

pub loop-smaller : goal.loop-smaller
unfolding logged
loop-smaller c =
    let yes : ◌≡◌ {A = ℕ} (cond c.forget_next.result 1 0) 1 = ap (λ b. cond b 1 0) c.loop-test.true in
    omega (arith, yes, c.forget_next.ensures.one)

pub loop-preserved : goal.loop-preserved
unfolding logged
loop-preserved c = search rules

pub returns : goal.returns
unfolding logged
returns c = search rules
