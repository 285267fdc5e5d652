use Rattle.std.proofs.Common.{◌≡◌, inl, inr, ℕ, cond, refl, ap, ◌∙◌, List, arith}
use Rattle.ft_log.specs.Holding.{Holding}
use Rattle.ft_log.specs.Kept.{KeptOutcome}
use Rattle.ft_log.specs.Logged.{logged}
use Rattle.ft_log.specs.Store.{live_from, shown}
use Rattle.ft_log.proofs.store.Store.forget_some.Goals as goal
use Rattle.ft_log.proofs.store.Store.forget_some.Goals.{After-forget_next}

-- what is live stays
same : (c : After-forget_next) → live_from c.args.now (logged (shown c.forget_next.new.self)) ≡ live_from c.args.now (logged (shown c.args.self.now))
unfolding logged
same c =
    ap (live_from c.args.now) c.forget_next.ensures.others
    ∙ ap (λ (l : List (KeptOutcome Holding)). record (logged (shown c.loop-dropped.self)) { entries = l }) c.forget_next.ensures.same ∙ c.loop-dropped.invariant.same

pub loop-dropped-preserved : goal.loop-dropped-preserved
unfolding logged
loop-dropped-preserved c =
    let yes : ◌≡◌ {A = ℕ} (cond c.forget_next.result 1 0) 1 = ap (λ b. cond b 1 0) c.if-not-forget_next.false in
    record {
      same = same (goal.at.loop-dropped-preserved c).After-forget_next;
      one = omega (arith, yes, c.forget_next.ensures.one, c.loop-dropped.invariant.one);
      held = λ client. omega (arith, c.forget_next.ensures.held client, c.loop-dropped.invariant.held client);
      absent = λ key h. c.forget_next.ensures.absent key (c.loop-dropped.invariant.absent key h);
    }

pub returns-then-not-forget_next-clause-same : goal.returns-then-not-forget_next-clause-same
unfolding logged
returns-then-not-forget_next-clause-same c = same (goal.at.returns-then-not-forget_next-clause-same c).After-forget_next

pub returns-then-not-forget_next-clause-absent : goal.returns-then-not-forget_next-clause-absent
unfolding logged
returns-then-not-forget_next-clause-absent c = λ key h. c.forget_next.ensures.absent key (c.loop-dropped.invariant.absent key h)

pub returns-then-not-forget_next-clause-few : goal.returns-then-not-forget_next-clause-few
unfolding logged
returns-then-not-forget_next-clause-few c =
    let no : ◌≡◌ {A = ℕ} (cond c.forget_next.result 1 0) 0 = ap (λ b. cond b 1 0) c.if-not-forget_next.true in
    omega (arith, no, c.forget_next.ensures.one, c.loop-dropped.invariant.one, c.loop-dropped-test.true)

pub returns-then-not-forget_next-clause-left : goal.returns-then-not-forget_next-clause-left
unfolding logged
returns-then-not-forget_next-clause-left c = inr (c.forget_next.ensures.none c.if-not-forget_next.true)

pub returns-clause-left : goal.returns-clause-left
unfolding logged
returns-clause-left c = inl (omega (arith, c.loop-dropped.invariant.one, c.loop-dropped-test.false))

pub loop-dropped-init : goal.loop-dropped-init
unfolding logged
loop-dropped-init c = record { same = refl; one = omega arith; held = λ client. omega arith; absent = λ key h. h }

pub returns-then-not-forget_next-clause-held : goal.returns-then-not-forget_next-clause-held
unfolding logged
returns-then-not-forget_next-clause-held c = λ client. omega (arith, c.forget_next.ensures.held client, c.loop-dropped.invariant.held client)

pub returns-clause-held : goal.returns-clause-held
unfolding logged
returns-clause-held c = c.loop-dropped.invariant.held
