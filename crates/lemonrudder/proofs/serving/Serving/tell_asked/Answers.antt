use Rattle.std.proofs.Common.{drop, Ok, Err, ap, refl, ◌∙◌}
use Rattle.ft_log.specs.View.{performed_in}
use Rattle.ft_objects.specs.Families.{families_offer}
use Rattle.ft_orb.specs.Engines.{handled_in}
use Rattle.ft_orb.specs.Parking.{DeclinesLate}
use Rattle.lemonrudder.specs.Connected.{owed_in}
use Rattle.lemonrudder.specs.Serves.{owed_on}
use Rattle.lemonrudder.proofs.Asked.{asked-idle, carry, found-there, only-only}
use Rattle.lemonrudder.proofs.Ending.{ends-declined}
use Rattle.lemonrudder.proofs.Noting.{noted-noted, notes-why, only-noted}
use Rattle.lemonrudder.proofs.OwingLate.{declines-late-owed}
use Rattle.lemonrudder.proofs.serving.Serving.tell_asked.Goals as goal

pub returns-in-Ok : goal.returns-in-Ok
returns-in-Ok c =
    let s = c.args.self.now in
    let d = c.take-due.result in
    let n = d.taken in
    let before = d.octets.items in
    let out = c.tell-told.new.out.items in
    let placed = c.take-due.ensures.placed in
    let there = found-there s.connections s.engine c.args.number c.args.connection c.requires.found s.asked in
    let old = c.take-due.ensures.owed in
    let only = only-only c.args.connection s.connections c.take-due.new.self c.put.new.self c.take-due.ensures.only c.put.ensures.only in
    let new = (c.note.ensures.same c.args.connection).1 ∙ c.put.ensures.owed (c.take-due.ensures.only.0 ∙ there) in
    let noted = notes-why c.args.connection c.ending-why.result _ s.connections c.put.new.self c.note.new.self c.ending-why.ensures only.0 (noted-noted s.connections c.take-due.new.self c.put.new.self c.take-due.ensures.noted c.put.ensures.noted) c.note.ensures.noted in
    let e = c.tell-told.ensures in
    let refusal = performed_in c.args.outcome.now in (
      Ok (tt {0}),
      refl,
      e.idle,
      (only-noted c.args.connection s.connections c.put.new.self c.note.new.self only c.note.ensures.same, refl),
      (e.catalogue, refl),
      (e.asks, e.parked, e.counted),
      λ x held calls past waiting moment octets written w asks.
          carry (λ a b. DeclinesLate families_offer x held calls past waiting moment octets written w refusal c.tell-told.new.self a b) (drop n before) (drop n out) (owed_on s c.args.connection) (owed_in c.note.new.self c.args.connection) old new
          (declines-late-owed families_offer x held calls past waiting n before out placed moment octets written w refusal c.tell-told.new.self (c.in-Ok.ensures.late x held calls past waiting moment octets written w asks)),
      noted,
      c.in-Ok.ensures.ended,
    )

pub returns-in-Err : goal.returns-in-Err
returns-in-Err c =
    let s = c.args.self.now in
    let d = c.take-due.result in
    let there = found-there s.connections s.engine c.args.number c.args.connection c.requires.found s.asked in
    let old = c.take-due.ensures.owed in
    let only = only-only c.args.connection s.connections c.take-due.new.self c.put.new.self c.take-due.ensures.only c.put.ensures.only in
    let new = (c.note.ensures.same c.args.connection).1 ∙ c.put.ensures.owed (c.take-due.ensures.only.0 ∙ there) in
    let noted = notes-why c.args.connection c.ending-why.result _ s.connections c.put.new.self c.note.new.self c.ending-why.ensures only.0 (noted-noted s.connections c.take-due.new.self c.put.new.self c.take-due.ensures.noted c.put.ensures.noted) c.note.ensures.noted in
    let e = c.tell-told.ensures in
    let none = c.in-Err.ensures.unwritten in (
      Err c.in-Err.error,
      ap Err c.from.ensures,
      e.idle,
      (only-noted c.args.connection s.connections c.put.new.self c.note.new.self only c.note.ensures.same, refl),
      (e.catalogue, refl),
      (e.asks, e.parked, e.counted),
      (
        new ∙ (ap (drop d.taken) none ∙ old),
        handled_in s.engine,
        c.in-Err.ensures.err,
        λ x held calls past waiting moment octets written w asks. (c.in-Err.ensures.counts x held calls past waiting moment octets written w asks, c.in-Err.ensures.given_up x held calls past waiting moment octets written w asks),
        c.in-Err.ensures.due,
      ),
      noted,
      ends-declined c.args.number c.args.connection s.engine c.tell-told.new.self c.in-Err.error _ _ c.requires.found c.in-Err.ensures.err (λ w is. c.in-Err.ensures.short w is),
    )

pub invariant_of-self : goal.invariant_of-self
invariant_of-self c = record { asked = asked-idle c.note.new.self c.tell-told.new.self c.tell-told.ensures.idle }
