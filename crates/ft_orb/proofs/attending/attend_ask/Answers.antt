use Rattle.std.proofs.Common.{◌≡◌, [], ◌∷◌, ◌∙◌, true, Result, Err, inr, ap, refl}
use Rattle.ft_log.specs.View.{performed_in}
use Rattle.ft_orb.specs.declared.error.ServeError.{ServeError}
use Rattle.ft_orb.specs.declared.events.Note.TheVariants.{Done, Memory}
use Rattle.ft_orb.specs.Engines.{awaited_lent}
use Rattle.ft_orb.specs.History.{Piece}
use Rattle.ft_orb.specs.Laws.{is_memory}
use Rattle.ft_orb.specs.Standing.{note_of}
use Rattle.ft_orb.specs.Sessions.{calls_with}
use Rattle.ft_orb.proofs.Elsewhere.{event-late, performed-late, short-left}
use Rattle.ft_orb.proofs.Handing.{ask-answered, ask-left, ask-resumes, err-not-done, resumed-memory}
use Rattle.ft_orb.proofs.attending.attend_ask.Goals as goal

pub returns-in_default-perform-clause-table : goal.returns-in_default-perform-clause-table
returns-in_default-perform-clause-table g c = (
  [],
  c.in_default-perform.ensures.answered,
  λ o calls past moment octets written w a there agrees. (
    tt,
    Memory c.give_up.result c.give_up.result,
    refl,
    ask-left g.C.Catalogue.offers o calls past w.connection moment octets written (Memory c.give_up.result c.give_up.result) c.give_up.new.self c.args.out.now.items (c.give_up.ensures.table o calls past moment octets written w a),
  ),
)

pub returns-in-Ok-clause-table : goal.returns-in-Ok-clause-table
returns-in-Ok-clause-table g c =
    let x = awaited_lent c.in-Some.asked in
    let gave = performed_in c.in-Some-perform.outcome in
    let handed = performed_in c.fitting-outcome.result in (
      record { call = x.call; gave = gave; handed = handed } ∷ [],
      c.in-Some-perform.ensures.answered,
      λ o calls past moment octets written w a there agrees.
          let h = ask-answered g.C.Catalogue.offers o c.args.engine.now x gave handed c.in-Some.ensures c.fitting-outcome.ensures.handed calls past moment octets written w a agrees in
          let r = c.in-Ok.ensures.table o calls past moment octets written w a h.2 in
          (h.0, Done, refl, ask-resumes g.C.Catalogue.offers o calls past w.connection moment octets written w x gave handed Done c.answer.new.self c.args.out.now.items c.answer.new.out.items h.1 r),
    )

pub returns-in-Err-clause-table : goal.returns-in-Err-clause-table
returns-in-Err-clause-table g c =
    let x = awaited_lent c.in-Some.asked in
    let gave = performed_in c.in-Some-perform.outcome in
    let handed = performed_in c.fitting-outcome.result in (
      record { call = x.call; gave = gave; handed = handed } ∷ [],
      c.in-Some-perform.ensures.answered,
      λ o calls past moment octets written w a there agrees.
          let h = ask-answered g.C.Catalogue.offers o c.args.engine.now x gave handed c.in-Some.ensures c.fitting-outcome.ensures.handed calls past moment octets written w a agrees in
          let note = note_of c.answer.result in
          let all = ask-resumes g.C.Catalogue.offers o calls past w.connection moment octets written w x gave handed note c.answer.new.self c.args.out.now.items c.answer.new.out.items h.1 (c.answer.ensures.table o calls past moment octets written w a h.2) in
          (h.0, note, resumed-memory g.C.Catalogue.offers o (calls_with calls (record { call = x.call; gave = gave; handed = handed } ∷ [])) past w.connection moment octets written note c.answer.new.self c.args.out.now.items c.answer.new.out.items there all (rw c.in-Err.is (err-not-done (Unit {0}) c.in-Err.field-0)), all),
    )

pub returns-in_default-perform-clause-late : goal.returns-in_default-perform-clause-late
returns-in_default-perform-clause-late g c = (
  [],
  c.in_default-perform.ensures.answered,
  λ s held calls past waiting moment octets written w a.
      event-late g.C.Catalogue.offers s held calls past waiting w.connection _ (Piece w.connection moment octets) (Memory c.give_up.result c.give_up.result) c.give_up.new.self refl (let cut = short-left s.limits w.connection past moment octets (Memory c.give_up.result c.give_up.result) refl in (cut.0, cut.1, cut.2, refl)) (c.give_up.ensures.late s held calls past waiting moment octets written w a).stays,
)

pub returns-in-Ok-clause-late : goal.returns-in-Ok-clause-late
returns-in-Ok-clause-late g c =
    let x = awaited_lent c.in-Some.asked in
    let gave = performed_in c.in-Some-perform.outcome in
    let handed = performed_in c.fitting-outcome.result in (
      record { call = x.call; gave = gave; handed = handed } ∷ [],
      c.in-Some-perform.ensures.answered,
      λ s held calls past waiting moment octets written w a.
          performed-late g.C.Catalogue.offers s held calls past waiting c.args.engine.now x gave handed c.in-Some.ensures c.fitting-outcome.ensures.handed moment octets written w a Done c.answer.new.self c.args.out.now.items c.answer.new.out.items (c.in-Ok.ensures.late s held calls past waiting moment octets written w a) _ ((refl, tt), refl),
    )

pub returns-in-Err-clause-late : goal.returns-in-Err-clause-late
returns-in-Err-clause-late g c =
    let x = awaited_lent c.in-Some.asked in
    let gave = performed_in c.in-Some-perform.outcome in
    let handed = performed_in c.fitting-outcome.result in (
      record { call = x.call; gave = gave; handed = handed } ∷ [],
      c.in-Some-perform.ensures.answered,
      λ s held calls past waiting moment octets written w a.
          let short : is_memory (note_of c.answer.result) ≡ true = ap (λ (r : Result (Unit {0}) ServeError). is_memory (note_of r)) c.in-Err.is ∙ ap (λ (e : ServeError). is_memory (note_of {A = Unit {0}} (Err e))) c.in-Err.ensures.few in
          let cut = short-left s.limits w.connection past moment octets (note_of c.answer.result) short in
          performed-late g.C.Catalogue.offers s held calls past waiting c.args.engine.now x gave handed c.in-Some.ensures c.fitting-outcome.ensures.handed moment octets written w a (note_of c.answer.result) c.answer.new.self c.args.out.now.items c.answer.new.out.items (c.answer.ensures.late s held calls past waiting moment octets written w a) _ (cut.0, cut.1, cut.2, refl),
    )

pub returns-in_default-perform-clause-cut : goal.returns-in_default-perform-clause-cut
returns-in_default-perform-clause-cut g c = inr refl

pub returns-in-Err-clause-cut : goal.returns-in-Err-clause-cut
returns-in-Err-clause-cut g c = inr refl
