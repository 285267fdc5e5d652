use Rattle.std.proofs.Common.{ℕ, List, Some, None, Ok, Err, subst, arith}
use Rattle.ft_orb.specs.declared.error.ServeError.TheVariants.{Memory, NoConnection}
use Rattle.ft_orb.specs.Engines.{shown_in}
use Rattle.ft_orb.specs.Performing.{TakesFront}
use Rattle.ft_orb.proofs.Servants.{done-all, done-cut, done-more, done-refused, done-whole}
use Rattle.ft_orb.proofs.engine.Engine.perform_piece.Goals as goal

pub returns-in-Ok-None-clause-table : goal.returns-in-Ok-None-clause-table
returns-in-Ok-None-clause-table g c made past st =
    done-whole g.S.Servant.meaning made c.streams_are_heard.ensures.grows c.streams_are_heard.ensures.stays c.streams_are_heard.ensures.silent past c.args.connection c.args.moment c.args.piece.now c.loop-part.done (shown_in c.loop-part.self) (shown_in c.perform_part.new.self)
    c.args.out.now.items c.loop-part.out.items c.perform_part.new.out.items (c.loop-part.invariant.goes made past st)
    (λ q stood. subst (λ (l : List ℕ). TakesFront g.S.Servant.meaning made q c.args.connection c.args.moment l (Ok None) (shown_in c.perform_part.new.self) c.loop-part.out.items c.perform_part.new.out.items) c.split_at.ensures.back (rw c.in-Ok-None.field-0-is at (c.in-Ok-None.ensures.table made q stood)))

pub returns-in-Err-NoConnection-clause-table : goal.returns-in-Err-NoConnection-clause-table
returns-in-Err-NoConnection-clause-table g c made past st =
    done-refused g.S.Servant.meaning made c.streams_are_heard.ensures.grows c.streams_are_heard.ensures.stays c.streams_are_heard.ensures.silent past c.args.connection c.args.moment c.args.piece.now c.loop-part.done (shown_in c.loop-part.self) (shown_in c.perform_part.new.self)
    c.args.out.now.items c.loop-part.out.items c.perform_part.new.out.items (c.loop-part.invariant.goes made past st)
    (λ q stood. subst (λ (l : List ℕ). TakesFront g.S.Servant.meaning made q c.args.connection c.args.moment l (Err NoConnection) (shown_in c.perform_part.new.self) c.loop-part.out.items c.perform_part.new.out.items) c.split_at.ensures.back (rw c.in-Err-NoConnection.field-0-is at (c.in-Err-NoConnection.ensures.table made q stood)))

pub returns-in-Err-Memory-clause-table : goal.returns-in-Err-Memory-clause-table
returns-in-Err-Memory-clause-table g c made past st =
    done-cut g.S.Servant.meaning made c.streams_are_heard.ensures.grows c.streams_are_heard.ensures.stays c.streams_are_heard.ensures.silent past c.args.connection c.args.moment c.args.piece.now c.loop-part.done (shown_in c.loop-part.self) (shown_in c.perform_part.new.self)
    c.args.out.now.items c.loop-part.out.items c.perform_part.new.out.items (c.loop-part.invariant.goes made past st) c.loop-part.invariant.within c.in-Err-Memory.handled c.in-Err-Memory.answered
    (λ q stood. subst (λ (l : List ℕ). TakesFront g.S.Servant.meaning made q c.args.connection c.args.moment l (Err (Memory c.in-Err-Memory.handled c.in-Err-Memory.answered)) (shown_in c.perform_part.new.self) c.loop-part.out.items c.perform_part.new.out.items) c.split_at.ensures.back (rw c.in-Err-Memory.field-0-is at (c.in-Err-Memory.ensures.table made q stood)))

pub returns-then-done-piece-clause-table : goal.returns-then-done-piece-clause-table
returns-then-done-piece-clause-table g c made past st =
    let some = (rw c.in-Ok-Some.field-0-is at c.in-Ok-Some.ensures.ok).0 in
    let so =
    done-more g.S.Servant.meaning made c.streams_are_heard.ensures.grows c.streams_are_heard.ensures.stays c.streams_are_heard.ensures.silent past c.args.connection c.args.moment c.args.piece.now c.loop-part.done (shown_in c.loop-part.self) (shown_in c.perform_part.new.self)
    c.args.out.now.items c.loop-part.out.items c.perform_part.new.out.items (c.loop-part.invariant.goes made past st) c.in-Ok-Some.part some
    (λ q stood. subst (λ (l : List ℕ). TakesFront g.S.Servant.meaning made q c.args.connection c.args.moment l (Ok (Some c.in-Ok-Some.part)) (shown_in c.perform_part.new.self) c.loop-part.out.items c.perform_part.new.out.items) c.split_at.ensures.back (rw c.in-Ok-Some.field-0-is at (c.in-Ok-Some.ensures.table made q stood))) in
    done-all g.S.Servant.meaning made past c.args.connection c.args.moment c.args.piece.now _ (shown_in c.perform_part.new.self) c.args.out.now.items c.perform_part.new.out.items (omega (arith, some)) c.if-done-piece.true so

pub loop-part-preserved : goal.loop-part-preserved
loop-part-preserved g c =
    let part = rw c.in-Ok-Some.field-0-is at c.in-Ok-Some.ensures.ok in
    let some = part.0 in
    let v = c.loop-part.invariant in
    let within = v.within in
    let size = c.split_at.ensures.back_len in
    let small = part.1 in
    let few = v.few in
    let fewer = part.2 in
    record {
      within = omega (arith, within, size, small);
      few = omega (arith, few, fewer);
      idle = c.perform_part.ensures.idle;
      free = c.perform_part.ensures.free;
      goes = λ made past st.
          done-more g.S.Servant.meaning made c.streams_are_heard.ensures.grows c.streams_are_heard.ensures.stays c.streams_are_heard.ensures.silent past c.args.connection c.args.moment c.args.piece.now c.loop-part.done (shown_in c.loop-part.self) (shown_in c.perform_part.new.self)
          c.args.out.now.items c.loop-part.out.items c.perform_part.new.out.items (v.goes made past st) c.in-Ok-Some.part some
          (λ q stood. subst (λ (l : List ℕ). TakesFront g.S.Servant.meaning made q c.args.connection c.args.moment l (Ok (Some c.in-Ok-Some.part)) (shown_in c.perform_part.new.self) c.loop-part.out.items c.perform_part.new.out.items) c.split_at.ensures.back (rw c.in-Ok-Some.field-0-is at (c.in-Ok-Some.ensures.table made q stood)));
    }
