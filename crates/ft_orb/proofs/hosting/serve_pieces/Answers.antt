use Rattle.std.proofs.Common.{None, Some, refl, ◌∙◌, arith}
use Rattle.ft_orb.specs.Wires.{past_with}
use Rattle.ft_orb.proofs.Causes.{did-as, did-then, read-last, read-more, read-no-more}
use Rattle.ft_orb.proofs.Elsewhere.{late-none, late-then, on-joined, pieces-joined, read-none, visited-then}
use Rattle.ft_orb.proofs.Handing.{attends-none, attends-so, attends-then, stay-then}
use Rattle.ft_orb.proofs.Streams.{visit-last, visit-more, visit-none}
use Rattle.ft_orb.proofs.hosting.serve_pieces.Goals as goal

pub loop-reads-init : goal.loop-reads-init
loop-reads-init g c = record {
  within = omega arith;
  room = refl;
  idle = c.requires.idle;
  parked = λ q. (refl, refl);
  waiting = λ q. refl;
  cause = read-no-more (g.W.Wire.traffic c.args.wire.now);
  late = late-none g.H.Host.HoldsLate c.args.connection _ (λ limits past. (tt, read-none (g.W.Wire.traffic c.args.wire.now))) _ c.args.host.now;
  goes = attends-none g.H.Host.as_owner _ (λ w calls past x. visit-none (g.H.Host.as_owner w) (g.H.Host.says w) past c.args.connection _ _ (g.H.Host.Holds w calls c.args.host.now) x.0 x.1);
}

pub returns-in-Some-clause-parked : goal.returns-in-Some-clause-parked
returns-in-Some-clause-parked g c = stay-then g.H.Host.parked_under g.H.Host.told_under c.args.host.now c.loop-reads.host c.serve_piece.new.host c.loop-reads.invariant.parked c.in-Some.ensures.parked

pub returns-in-Some-clause-waiting : goal.returns-in-Some-clause-waiting
returns-in-Some-clause-waiting g c q = c.in-Some.ensures.waiting q ∙ c.loop-reads.invariant.waiting q

pub returns-in-Some-clause-table : goal.returns-in-Some-clause-table
returns-in-Some-clause-table g c =
    attends-then g.H.Host.as_owner c.loop-reads.invariant.goes c.in-Some.ensures.table (λ w calls then past at x. (
      past_with (g.H.Host.as_owner w).limits past c.args.connection x.0,
      (x.1.turned.stands, x.1.ongoing.1),
      λ later y. visit-last (g.H.Host.as_owner w) (g.H.Host.says w) past c.args.connection _ _ c.loop-reads.reads (g.H.Host.Holds w then c.loop-reads.host) (g.H.Host.Holds w later c.serve_piece.new.host) _ _ _ _ x c.args.max_reads c.in-Some.end c.loop-reads-test.true y,
    ))

pub loop-reads-preserved : goal.loop-reads-preserved
loop-reads-preserved g c = record {
  within = let t = c.loop-reads-test.true in omega (arith, t);
  room = c.serve_piece.auto.room ∙ c.loop-reads.invariant.room;
  idle = c.in_default.ensures.idle;
  parked = stay-then g.H.Host.parked_under g.H.Host.told_under c.args.host.now c.loop-reads.host c.serve_piece.new.host c.loop-reads.invariant.parked c.in_default.ensures.parked;
  waiting = λ q. c.in_default.ensures.waiting q ∙ c.loop-reads.invariant.waiting q;
  cause = did-then _ _ _ (λ xs ys x y. read-more c.loop-reads.reads xs ys x y) _ _ _ c.loop-reads.invariant.cause c.in_default.ensures.cause;
  late = late-then g.H.Host.HoldsLate c.args.connection _ _ _ (λ limits past a b x y. (pieces-joined c.args.connection a b x.0 y.0, visited-then None a b _ _ _ x.1 y.1)) _ _ _ c.args.host.now c.loop-reads.host c.serve_piece.new.host c.loop-reads.invariant.late c.in_default.ensures.late;
  goes =
      attends-then g.H.Host.as_owner c.loop-reads.invariant.goes c.in_default.ensures.table (λ w calls then past at x. (
        past_with (g.H.Host.as_owner w).limits past c.args.connection x.0,
        (x.1.turned.stands, x.1.ongoing.1),
        λ later y. visit-more (g.H.Host.as_owner w) (g.H.Host.says w) past c.args.connection _ _ c.loop-reads.reads (g.H.Host.Holds w then c.loop-reads.host) (g.H.Host.Holds w later c.serve_piece.new.host) _ _ _ _ x y,
      ));
}

pub returns-clause-table : goal.returns-clause-table
returns-clause-table g c =
    attends-so g.H.Host.as_owner c.loop-reads.invariant.goes (λ w calls later past x y. (y.0, y.1, (let all = y.2 in let n = c.loop-reads.invariant.within in let t = c.loop-reads-test.false in omega (arith, all, n, t))))

pub returns-in-Some-clause-late : goal.returns-in-Some-clause-late
returns-in-Some-clause-late g c = late-then g.H.Host.HoldsLate c.args.connection _ _ _ (λ limits past a b x y. (on-joined limits past c.args.connection c.in-Some.end a b x.0 y.0, visited-then (Some c.in-Some.end) a b _ _ _ x.1 y.1)) _ _ _ c.args.host.now c.loop-reads.host c.serve_piece.new.host c.loop-reads.invariant.late c.in-Some.ensures.late

pub returns-in-Some-clause-cause : goal.returns-in-Some-clause-cause
returns-in-Some-clause-cause g c =
    did-then _ _ _ (λ xs ys x y. read-last c.loop-reads.reads c.args.max_reads c.in-Some.end c.loop-reads-test.true xs ys x y) _ _ _ c.loop-reads.invariant.cause c.in-Some.ensures.cause

pub returns-clause-cause : goal.returns-clause-cause
returns-clause-cause g c =
    did-as _ _ (λ acts x. (x.0, (let all = x.1 in let n = c.loop-reads.invariant.within in let t = c.loop-reads-test.false in omega (arith, all, n, t)))) _ _ c.loop-reads.invariant.cause
