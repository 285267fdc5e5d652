use Rattle.std.proofs.Common.{◌<◌, List, ℕ, [], refl, subst, arith, rules}
use Rattle.std.proofs.lemmas.List.{take_all}
use Rattle.ft_orb.specs.Sessions.{TookAll}
use Rattle.ft_orb.proofs.Streams.{grows-none, on_err-of, took_more, took_none, write_failed}
use Rattle.ft_orb.proofs.hosting.write_all.Goals as goal

pub loop-taken-init : goal.loop-taken-init
loop-taken-init g c = record { within = omega arith; wired = ([], ([], refl, refl), grows-none (g.W.Wire.traffic c.args.wire.now)) }

pub returns-in_err-n-clause-err : goal.returns-in_err-n-clause-err
returns-in_err-n-clause-err g c =
    on_err-of c.from_residual.result (write_failed (g.W.Wire.traffic c.args.wire.now) (g.W.Wire.traffic c.loop-taken.wire) (g.W.Wire.traffic c.write.new.self) c.args.octets.now c.split_at.result.1.now c.loop-taken.taken
    c.split_at.ensures.back c.loop-taken.invariant.wired c.loop-taken-test.true c.in_err-n.ensures.traffic)

pub returns-then-n-eq0-clause-err : goal.returns-then-n-eq0-clause-err
returns-then-n-eq0-clause-err g c =
    took_none (g.W.Wire.traffic c.args.wire.now) (g.W.Wire.traffic c.loop-taken.wire) (g.W.Wire.traffic c.write.new.self) c.args.octets.now c.split_at.result.1.now c.loop-taken.taken
    c.split_at.ensures.back c.loop-taken.invariant.wired c.in_ok-n.n c.if-n-eq0.true c.loop-taken-test.true c.in_ok-n.ensures.traffic

pub loop-taken-preserved : goal.loop-taken-preserved
loop-taken-preserved g c =
    let some : 0 < c.in_ok-n.n = let h = c.if-n-eq0.false in omega (arith, h) in
    record {
      within = let n = c.in_ok-n.ensures.count in let l = c.split_at.ensures.back_len in let v = c.loop-taken.invariant.within in omega (arith, n, l, v);
      wired = took_more (g.W.Wire.traffic c.args.wire.now) (g.W.Wire.traffic c.loop-taken.wire) (g.W.Wire.traffic c.write.new.self) c.args.octets.now c.split_at.result.1.now c.loop-taken.taken
          c.split_at.ensures.back c.loop-taken.invariant.wired c.in_ok-n.n some c.in_ok-n.ensures.traffic;
    }

pub returns-in_err-n-clause-ok : goal.returns-in_err-n-clause-ok
returns-in_err-n-clause-ok g c = search rules

pub returns-then-n-eq0-clause-ok : goal.returns-then-n-eq0-clause-ok
returns-then-n-eq0-clause-ok g c = search rules

pub returns-clause-ok : goal.returns-clause-ok
returns-clause-ok g c =
    subst (λ (xs : List ℕ). TookAll xs (g.W.Wire.traffic c.args.wire.now) (g.W.Wire.traffic c.loop-taken.wire)) (take_all c.loop-taken.taken c.args.octets.now c.loop-taken-test.false) c.loop-taken.invariant.wired

pub returns-clause-err : goal.returns-clause-err
returns-clause-err g c = search rules
