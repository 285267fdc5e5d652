use Rattle.std.proofs.Common.{◌≡◌, ℕ, true, [], Ok, Err, inl, inr, ap, refl, sym, subst, ◌++◌, drop, take, ◌∙◌}
use Rattle.std.proofs.Math.Seq.{take-length}
use Rattle.std.proofs.lemmas.List.{append-nil}
use Rattle.std.proofs.lemmas.Result.{err_from_is_err_and}
use Rattle.ft_orb.specs.declared.engine.Fed.{Fed}
use Rattle.ft_orb.specs.declared.wire.StreamEnd.{StreamEnd}
use Rattle.ft_orb.specs.declared.error.ServeError.{ServeError}
use Rattle.ft_orb.specs.declared.events.Note.TheVariants.{Done, Refused}
use Rattle.ft_orb.specs.Handovers.{AreOn, octets_in}
use Rattle.ft_orb.specs.History.{Piece}
use Rattle.ft_orb.specs.Laws.{is_memory}
use Rattle.ft_orb.specs.Owners.{Owner}
use Rattle.ft_orb.specs.Parking.{parked_in, told_in}
use Rattle.ft_orb.specs.Standing.{note_of}
use Rattle.ft_orb.specs.Sessions.{IsCut, IsEnded, calls_with}
use Rattle.ft_orb.specs.Tellings.{nothing_yet}
use Rattle.ft_orb.specs.Visits.{ServesAsked}
use Rattle.ft_orb.proofs.Elsewhere.{asked-late, event-late, front-of, late-alone, off-piece, repeat-late, short-left}
use Rattle.ft_orb.proofs.Handing.{attends-none, ended-memory, err-not-done, memory-ended, part-asked, part-left, part-whole, refused-there, stay-then}
use Rattle.ft_orb.proofs.attending.attend_part.Goals as goal

pub returns-in_err-attend_ask-in-Ok-Asks-clause-parked : goal.returns-in_err-attend_ask-in-Ok-Asks-clause-parked
returns-in_err-attend_ask-in-Ok-Asks-clause-parked g c = stay-then parked_in told_in c.args.engine.now c.feed.new.self c.attend_ask.new.engine c.in-Ok-Asks.ensures.parked c.in_err-attend_ask-in-Ok-Asks.ensures.parked

pub returns-in_ok-attend_ask-in-Ok-Asks-clause-parked : goal.returns-in_ok-attend_ask-in-Ok-Asks-clause-parked
returns-in_ok-attend_ask-in-Ok-Asks-clause-parked g c = stay-then parked_in told_in c.args.engine.now c.feed.new.self c.attend_ask.new.engine c.in-Ok-Asks.ensures.parked c.in_ok-attend_ask-in-Ok-Asks.ensures.parked

pub returns-in_err-attend_ask-in-Ok-Asks-clause-waiting : goal.returns-in_err-attend_ask-in-Ok-Asks-clause-waiting
returns-in_err-attend_ask-in-Ok-Asks-clause-waiting g c q =
    let place = rw c.in-Ok-Asks.field-0-is at c.in-Ok-Asks.ensures.place in
    c.in_err-attend_ask-in-Ok-Asks.ensures.waiting _ place.6 q ∙ c.in-Ok-Asks.ensures.waiting q

pub returns-in_ok-attend_ask-in-Ok-Asks-clause-waiting : goal.returns-in_ok-attend_ask-in-Ok-Asks-clause-waiting
returns-in_ok-attend_ask-in-Ok-Asks-clause-waiting g c q =
    let place = rw c.in-Ok-Asks.field-0-is at c.in-Ok-Asks.ensures.place in
    c.in_ok-attend_ask-in-Ok-Asks.ensures.waiting _ place.6 q ∙ c.in-Ok-Asks.ensures.waiting q

pub returns-in_err-attend_ask-in-Ok-Asks-clause-table : goal.returns-in_err-attend_ask-in-Ok-Asks-clause-table
returns-in_err-attend_ask-in-Ok-Asks-clause-table g c =
    let p = err_from_is_err_and c.from_residual.result c.from_residual.ensures.1 in
    let asked = c.in_err-attend_ask-in-Ok-Asks.ensures.table in
    rw p.1 (record {
      log = asked.0;
      said = asked.1;
      so = λ o calls past x agrees.
          let s = rw c.in-Ok-Asks.field-0-is at (c.in-Ok-Asks.ensures.table o calls past x.0) in
          let place = rw c.in-Ok-Asks.field-0-is at c.in-Ok-Asks.ensures.place in
          let r = asked.2 o calls past c.args.moment (take c.in-Ok-Asks.taken c.args.piece.now) s.written (record { number = s.number; connection = c.args.connection; call = s.call; field = s.field; refused = s.refused }) s.asks x.1 agrees in
          let m = memory-ended (Unit {0}) ℕ c.in_err-attend_ask-in-Ok-Asks.field-0.0 r.1 r.2 in (
            r.0,
            (
              r.1,
              subst (λ (end : StreamEnd). IsEnded {A = ℕ} (Err end) r.1) (sym p.2) (m.1 r.1 m.0),
              part-left g.C.Catalogue.offers o c.streams_are_heard.ensures.grows c.streams_are_heard.ensures.stays c.streams_are_heard.ensures.silent past c.args.connection c.args.moment calls (calls_with calls asked.0) c.args.piece.now c.in-Ok-Asks.taken c.feed.new.self c.attend_ask.new.engine
                  c.args.out.now.items c.feed.new.out.items c.attend_ask.new.out.items r.1 place.1 s m.0 r.3,
            ),
          );
    })

pub returns-in-Ok-Whole-clause-table : goal.returns-in-Ok-Whole-clause-table
returns-in-Ok-Whole-clause-table g c =
    attends-none (λ (o : Owner). o) _ (λ o calls past x. part-whole g.C.Catalogue.offers o calls past c.args.connection c.args.moment c.args.piece.now c.feed.new.self c.args.out.now.items c.feed.new.out.items (rw c.in-Ok-Whole.field-0-is at (c.in-Ok-Whole.ensures.table o calls past x.0)))

pub returns-in_ok-attend_ask-in-Ok-Asks-clause-table : goal.returns-in_ok-attend_ask-in-Ok-Asks-clause-table
returns-in_ok-attend_ask-in-Ok-Asks-clause-table g c =
    let asked = c.in_ok-attend_ask-in-Ok-Asks.ensures.table in
    record {
      log = asked.0;
      said = asked.1;
      so = λ o calls past x agrees.
          let s = rw c.in-Ok-Asks.field-0-is at (c.in-Ok-Asks.ensures.table o calls past x.0) in
          let place = rw c.in-Ok-Asks.field-0-is at c.in-Ok-Asks.ensures.place in
          let r = asked.2 o calls past c.args.moment (take c.in-Ok-Asks.taken c.args.piece.now) s.written (record { number = s.number; connection = c.args.connection; call = s.call; field = s.field; refused = s.refused }) s.asks x.1 agrees in (
            r.0,
            part-asked g.C.Catalogue.offers o c.streams_are_heard.ensures.grows c.streams_are_heard.ensures.stays c.streams_are_heard.ensures.silent past c.args.connection c.args.moment calls (calls_with calls asked.0) c.args.piece.now c.in-Ok-Asks.taken c.feed.new.self c.attend_ask.new.engine
                c.args.out.now.items c.feed.new.out.items c.attend_ask.new.out.items r.1 place.1 s r.2 r.3,
          );
    }

pub returns-in-Err-NoConnection-clause-table : goal.returns-in-Err-NoConnection-clause-table
returns-in-Err-NoConnection-clause-table g c =
    attends-none (λ (o : Owner). o) _ (λ o calls past x. absurd (refused-there past c.args.connection x.1 (rw c.in-Err-NoConnection.field-0-is at (c.in-Err-NoConnection.ensures.table o calls past x.0)).writes.1))

pub returns-in-Err-Memory-clause-table : goal.returns-in-Err-Memory-clause-table
returns-in-Err-Memory-clause-table g c =
    attends-none (λ (o : Owner). o) _ (λ o calls past x.
    let note = note_of {A = Fed} (Err c.in-Err-Memory.field-0) in
    let ends = c.in-Err-Memory.ensures.table o calls past x.0 in
    (note, ended-memory g.C.Catalogue.offers o calls past c.args.connection c.args.moment c.args.piece.now note c.feed.new.self c.args.out.now.items c.feed.new.out.items x.1 ends (err-not-done Fed c.in-Err-Memory.field-0), ends))

-- where each outcome is known nothing repeats what is parked
pub returns-in-Ok-Repeats-clause-table : goal.returns-in-Ok-Repeats-clause-table
returns-in-Ok-Repeats-clause-table g c = attends-none (λ (o : Owner). o) _ (λ o calls past x. absurd (rw c.in-Ok-Repeats.field-0-is at (c.in-Ok-Repeats.ensures.table o calls past x.0)))

pub returns-in_err-attend_ask-in-Ok-Asks-clause-late : goal.returns-in_err-attend_ask-in-Ok-Asks-clause-late
returns-in_err-attend_ask-in-Ok-Asks-clause-late g c =
    let p = err_from_is_err_and c.from_residual.result c.from_residual.ensures.1 in
    let asked = c.in_err-attend_ask-in-Ok-Asks.ensures.late in
    rw p.1 (record {
      log = asked.0;
      said = asked.1;
      so = λ s held calls past waiting x.
          let st = (rw c.in-Ok-Asks.field-0-is at (c.in-Ok-Asks.ensures.late s held calls past waiting x)).asks in
          asked-late g.C.Catalogue.offers s held calls past waiting c.args.connection st.3 st.4 asked.0 c.attend_ask.new.engine (λ d. ServesAsked d (take c.in-Ok-Asks.taken c.args.piece.now) (Err c.in_err-attend_ask-in-Ok-Asks.field-0.0)) _ (λ events h. (subst (λ (end : StreamEnd). AreOn s.limits past c.args.connection end events) (sym p.2) h.0, h.1 ++ drop c.in-Ok-Asks.taken c.args.piece.now, front-of c.in-Ok-Asks.taken c.args.piece.now (octets_in events) h.1 h.2, λ apart. absurd (apart (p.2 ∙ h.3)))) (asked.2 s held calls past waiting c.args.moment (take c.in-Ok-Asks.taken c.args.piece.now) st.0 st.3 st.5);
    })

pub returns-in_ok-attend_ask-in-Ok-Asks-clause-late : goal.returns-in_ok-attend_ask-in-Ok-Asks-clause-late
returns-in_ok-attend_ask-in-Ok-Asks-clause-late g c =
    let asked = c.in_ok-attend_ask-in-Ok-Asks.ensures.late in
    record {
      log = asked.0;
      said = asked.1;
      so = λ s held calls past waiting x.
          let st = (rw c.in-Ok-Asks.field-0-is at (c.in-Ok-Asks.ensures.late s held calls past waiting x)).asks in
          asked-late g.C.Catalogue.offers s held calls past waiting c.args.connection st.3 st.4 asked.0 c.attend_ask.new.engine (λ d. ServesAsked d (take c.in-Ok-Asks.taken c.args.piece.now) (Ok (tt {0}))) _ (λ events h. h) (asked.2 s held calls past waiting c.args.moment (take c.in-Ok-Asks.taken c.args.piece.now) st.0 st.3 st.5);
    }

pub returns-in-Ok-Whole-clause-late : goal.returns-in-Ok-Whole-clause-late
returns-in-Ok-Whole-clause-late g c =
    late-alone _ c.args.connection _ _ c.args.engine.now c.feed.new.self (λ s held calls past waiting x.
    event-late g.C.Catalogue.offers s held calls past waiting c.args.connection _ (Piece c.args.connection c.args.moment c.args.piece.now) Done c.feed.new.self refl ((refl, tt), sym (take-length c.args.piece.now)) (rw c.in-Ok-Whole.field-0-is at (c.in-Ok-Whole.ensures.late s held calls past waiting x)).stays)

pub returns-in-Ok-Repeats-clause-late : goal.returns-in-Ok-Repeats-clause-late
returns-in-Ok-Repeats-clause-late g c =
    late-alone _ c.args.connection _ _ c.args.engine.now c.feed.new.self (λ s held calls past waiting x.
    repeat-late g.C.Catalogue.offers s held calls past waiting c.args.connection _ c.args.moment c.args.piece.now c.in-Ok-Repeats.taken c.feed.new.self c.args.out.now.items c.feed.new.out.items (rw c.in-Ok-Repeats.field-0-is at (c.in-Ok-Repeats.ensures.late s held calls past waiting x)) ((refl, tt), refl))

pub returns-in-Err-NoConnection-clause-late : goal.returns-in-Err-NoConnection-clause-late
returns-in-Err-NoConnection-clause-late g c =
    late-alone _ c.args.connection _ _ c.args.engine.now c.feed.new.self (λ s held calls past waiting x.
    let ends = rw c.in-Err-NoConnection.field-0-is at (c.in-Err-NoConnection.ensures.late s held calls past waiting x) in
    let off = off-piece s.limits past c.args.connection c.args.moment c.args.piece.now (ends.ends nothing_yet).writes.1 in
    event-late g.C.Catalogue.offers s held calls past waiting c.args.connection _ (Piece c.args.connection c.args.moment c.args.piece.now) Refused c.feed.new.self refl (((refl, tt), off), [], sym (append-nil c.args.piece.now), λ apart. refl) ends.stays)

pub returns-in-Err-Memory-clause-late : goal.returns-in-Err-Memory-clause-late
returns-in-Err-Memory-clause-late g c =
    late-alone _ c.args.connection _ _ c.args.engine.now c.feed.new.self (λ s held calls past waiting x.
    let note = note_of {A = Fed} (Err c.in-Err-Memory.field-0) in
    let short : is_memory note ≡ true = ap (λ (e : ServeError). is_memory (note_of {A = Fed} (Err e))) c.in-Err-Memory.field-0-is in
    let cut = short-left s.limits c.args.connection past c.args.moment c.args.piece.now note short in
    event-late g.C.Catalogue.offers s held calls past waiting c.args.connection _ (Piece c.args.connection c.args.moment c.args.piece.now) note c.feed.new.self refl (cut.0, cut.1, cut.2, λ apart. absurd (apart refl)) (c.in-Err-Memory.ensures.late s held calls past waiting x).stays)

pub returns-in_err-attend_ask-in-Ok-Asks-clause-cut : goal.returns-in_err-attend_ask-in-Ok-Asks-clause-cut
returns-in_err-attend_ask-in-Ok-Asks-clause-cut g c =
    let p = err_from_is_err_and c.from_residual.result c.from_residual.ensures.1 in
    rw p.1 (subst IsCut (sym p.2) c.in_err-attend_ask-in-Ok-Asks.ensures.cut)

pub returns-in-Err-NoConnection-clause-cut : goal.returns-in-Err-NoConnection-clause-cut
returns-in-Err-NoConnection-clause-cut g c = inl refl

pub returns-in-Err-Memory-clause-cut : goal.returns-in-Err-Memory-clause-cut
returns-in-Err-Memory-clause-cut g c = inr refl
