use Rattle.std.proofs.Common.{◌≤◌, List, ℕ, Err, Ok, ◌++◌, ap, drop, length, inl, inr, refl, sym, subst, ◌∙◌, arith}
use Rattle.std.proofs.lemmas.List.{take_all}
use Rattle.std.proofs.lemmas.Result.{err_from_is_err_and}
use Rattle.ft_orb.specs.declared.events.Note.TheVariants.{Done}
use Rattle.ft_orb.specs.declared.wire.StreamEnd.{StreamEnd}
use Rattle.ft_orb.specs.Handovers.{AreOn, octets_in}
use Rattle.ft_orb.specs.History.{Piece}
use Rattle.ft_orb.specs.Owners.{Owner}
use Rattle.ft_orb.specs.Parking.{parked_in, told_in}
use Rattle.ft_orb.specs.Sessions.{IsCut, IsEnded}
use Rattle.ft_orb.specs.Visits.{TakesPart}
use Rattle.ft_orb.proofs.Elsewhere.{late-none, late-so, late-then, octets-joined, on-joined, part-joined, pieces-joined, rest-joined}
use Rattle.ft_orb.proofs.Handing.{all-taken, attends-none, attends-so, attends-then, ends-so, part-ended, part-taken, stay-then}
use Rattle.ft_orb.proofs.attending.EngineHost.feed_whole.Goals as goal

pub loop-taken-init : goal.loop-taken-init
loop-taken-init g c = record {
  within = omega arith;
  idle = c.requires.idle;
  parked = λ q. (refl, refl);
  waiting = λ q. refl;
  late = late-none _ c.args.connection _ (λ limits past. (tt, refl)) _ c.args.self.now;
  goes = attends-none (λ (o : Owner). o) _ (λ o calls past x. (inl (refl, x.0, refl), inr (λ m less. absurd (omega (arith, less)))));
}

pub loop-taken-preserved : goal.loop-taken-preserved
loop-taken-preserved g c =
    let some = c.loop-taken-test.true in
    let within : c.in_ok-taken.field-0 ≤ length (drop c.loop-taken.taken c.args.piece.now) = subst (λ (l : List ℕ). c.in_ok-taken.field-0 ≤ length l) c.split_at.ensures.back c.in_ok-taken.ensures.taken.1 in
    record {
      within = let n = c.in_ok-taken.ensures.taken.1 in let l = c.split_at.ensures.back_len in omega (arith, n, l, some);
      idle = c.in_ok-taken.ensures.idle;
      parked = stay-then parked_in told_in c.args.self.now c.loop-taken.self c.attend_part.new.engine c.loop-taken.invariant.parked c.in_ok-taken.ensures.parked;
      waiting = λ q. c.in_ok-taken.ensures.waiting q ∙ c.loop-taken.invariant.waiting q;
      late = late-then _ c.args.connection _ _ _ (λ limits past a b x y. (pieces-joined c.args.connection a b x.0 y.0, octets-joined b a ∙ part-joined c.loop-taken.taken c.in_ok-taken.field-0 c.args.piece.now c.split_at.result.1.now (octets_in a) (octets_in b) c.split_at.ensures.back x.1 y.1)) _ _ _ c.args.self.now c.loop-taken.self c.attend_part.new.engine c.loop-taken.invariant.late c.in_ok-taken.ensures.late;
      goes =
          attends-then (λ (o : Owner). o) c.loop-taken.invariant.goes c.in_ok-taken.ensures.table (λ o calls then past at x.
          let p = part-taken g.C.Catalogue.offers o c.streams_are_heard.ensures.grows c.streams_are_heard.ensures.stays c.streams_are_heard.ensures.silent past c.args.connection c.args.moment then c.args.piece.now c.loop-taken.taken
          c.loop-taken.self c.attend_part.new.engine c.args.out.now.items c.loop-taken.out.items c.attend_part.new.out.items at.1 some x.0 x.1 c.in_ok-taken.field-0 within in
          (p.0, p.1, λ later t. p.2 later (subst (λ (l : List ℕ). TakesPart g.C.Catalogue.offers o later p.0 c.args.connection c.args.moment l (Ok c.in_ok-taken.field-0) c.attend_part.new.engine c.loop-taken.out.items c.attend_part.new.out.items) c.split_at.ensures.back t)));
    }

pub returns-in_err-taken-clause-parked : goal.returns-in_err-taken-clause-parked
returns-in_err-taken-clause-parked g c = stay-then parked_in told_in c.args.self.now c.loop-taken.self c.attend_part.new.engine c.loop-taken.invariant.parked c.in_err-taken.ensures.parked

pub returns-in_err-taken-clause-waiting : goal.returns-in_err-taken-clause-waiting
returns-in_err-taken-clause-waiting g c q = c.in_err-taken.ensures.waiting q ∙ c.loop-taken.invariant.waiting q

pub returns-in_err-taken-clause-table : goal.returns-in_err-taken-clause-table
returns-in_err-taken-clause-table g c =
    let r = err_from_is_err_and c.from_residual.result c.from_residual.ensures.1 in
    let some = c.loop-taken-test.true in
    rw r.1
    (attends-then (λ (o : Owner). o) c.loop-taken.invariant.goes c.in_err-taken.ensures.table (λ o calls then past at x.
    let p = part-ended g.C.Catalogue.offers o c.streams_are_heard.ensures.grows c.streams_are_heard.ensures.stays c.streams_are_heard.ensures.silent past c.args.connection c.args.moment then c.args.piece.now c.loop-taken.taken
    c.loop-taken.self c.attend_part.new.engine c.args.out.now.items c.loop-taken.out.items c.attend_part.new.out.items at.1 some x.0 x.1 c.in_err-taken.field-0.0 in (
      p.0,
      p.1,
      λ later t.
          let e = p.2 later (subst (λ (l : List ℕ). TakesPart g.C.Catalogue.offers o later p.0 c.args.connection c.args.moment l (Err c.in_err-taken.field-0.0) c.attend_part.new.engine c.loop-taken.out.items c.attend_part.new.out.items) c.split_at.ensures.back t) in
          (e.0, subst (λ (end : StreamEnd). IsEnded {A = Unit {0}} (Err end) e.0) (sym r.2) e.1, e.2),
    )))

pub returns-clause-table : goal.returns-clause-table
returns-clause-table g c =
    attends-so (λ (o : Owner). o) c.loop-taken.invariant.goes (λ o calls later past at x. (
      Done,
      refl,
      ends-so g.C.Catalogue.offers o later past (Piece c.args.connection c.args.moment c.args.piece.now) Done c.loop-taken.self c.args.out.now.items c.loop-taken.out.items
          (all-taken g.C.Catalogue.offers o later past c.args.connection c.args.moment c.args.piece.now c.loop-taken.taken c.loop-taken.self c.args.out.now.items c.loop-taken.out.items c.requires.some c.loop-taken-test.false x.0),
    ))

pub returns-in_err-taken-clause-late : goal.returns-in_err-taken-clause-late
returns-in_err-taken-clause-late g c =
    let r = err_from_is_err_and c.from_residual.result c.from_residual.ensures.1 in
    rw r.1
    (late-then _ c.args.connection _ _ _ (λ limits past a b x y. (
      subst (λ (end : StreamEnd). AreOn limits past c.args.connection end (b ++ a)) (sym r.2) (on-joined limits past c.args.connection c.in_err-taken.field-0.0 a b x.0 y.0),
      y.1,
      rest-joined c.loop-taken.taken c.args.piece.now c.split_at.result.1.now (octets_in a) (octets_in b) y.1 c.split_at.ensures.back x.1 y.2 ∙ ap (λ (l : List ℕ). l ++ y.1) (sym (octets-joined b a)),
      λ apart. y.3 (λ same. apart (r.2 ∙ same)),
    )) _ _ _ c.args.self.now c.loop-taken.self c.attend_part.new.engine c.loop-taken.invariant.late c.in_err-taken.ensures.late)

pub returns-clause-late : goal.returns-clause-late
returns-clause-late g c =
    late-so _ c.args.connection _ _ _ _ c.args.self.now c.loop-taken.self (λ s held calls past events those stay x. (x.0, x.1 ∙ take_all c.loop-taken.taken c.args.piece.now c.loop-taken-test.false)) c.loop-taken.invariant.late

pub returns-in_err-taken-clause-cut : goal.returns-in_err-taken-clause-cut
returns-in_err-taken-clause-cut g c =
    let r = err_from_is_err_and c.from_residual.result c.from_residual.ensures.1 in
    rw r.1 (subst IsCut (sym r.2) c.in_err-taken.ensures.cut)
