use Rattle.std.proofs.Common.{◌≡◌, drop, Ok, Err, ap, refl, ◌∙◌, arith}
use Rattle.std.proofs.lemmas.Grind.{common_steps}
use Rattle.ft_objects.specs.Families.{families_offer}
use Rattle.ft_orb.specs.declared.error.CloseError.TheVariants as closing
use Rattle.ft_orb.specs.declared.error.ServeError.TheVariants as serving
use Rattle.ft_orb.specs.declared.events.Note.TheVariants.{Done, Memory, Refused}
use Rattle.ft_orb.specs.History.{Close}
use Rattle.ft_orb.specs.Parking.{EndsLate}
use Rattle.ft_orb.specs.Standing.{note_of_closing}
use Rattle.lemonrudder.specs.Connected.{owed_in}
use Rattle.lemonrudder.specs.Serves.{owed_on}
use Rattle.lemonrudder.proofs.Asked.{asked-idle, carry, only-only}
use Rattle.lemonrudder.proofs.Noting.{noted-noted, notes-why, only-noted}
use Rattle.lemonrudder.proofs.Owing.{closed-as}
use Rattle.lemonrudder.proofs.OwingLate.{ends-late-owed}
use Rattle.lemonrudder.proofs.serving.Serving.close.Goals as goal

pub returns-in-Ok-clause-closed : goal.returns-in-Ok-clause-closed
returns-in-Ok-clause-closed c =
    let s = c.args.self.now in
    let d = c.take-due.result in
    let n = d.taken in
    let before = d.octets.items in
    let out = c.close-closed.new.out.items in
    let e = c.close-closed.new.self in
    let placed = c.take-due.ensures.placed in
    let only = only-only c.args.connection s.connections c.take-due.new.self c.put.new.self c.take-due.ensures.only c.put.ensures.only in
    let old = c.take-due.ensures.owed in
    let new = (c.note.ensures.same c.args.connection).1 ∙ c.put.ensures.owed (c.take-due.ensures.only.0 ∙ c.requires.there) in
    let ended : c.close-closed.result ≡ Ok (tt {0}) = grind (arith, common_steps) in (
      Ok (tt {0}),
      refl,
      (
        c.close-closed.ensures.idle,
        (only-noted c.args.connection s.connections c.put.new.self c.note.new.self only c.note.ensures.same, refl),
        (c.close-closed.ensures.catalogue, refl),
        (c.close-closed.ensures.asks, c.close-closed.ensures.parked, c.close-closed.ensures.counts),
        λ x held calls past waiting rests.
            let late = closed-as c.close-closed.result (Done) _ (ap note_of_closing ended) (c.close-closed.ensures.late x held calls past waiting rests) in
            carry (λ a b. EndsLate families_offer x held calls past waiting (Close c.args.connection) (Done) e a b) (drop n before) (drop n out) (owed_on s c.args.connection) (owed_in c.note.new.self c.args.connection) old new
            (ends-late-owed families_offer x held calls past waiting n before out placed _ _ e late),
        rw ended at c.close-closed.ensures.ended,
        notes-why c.args.connection c.ending-why.result _ s.connections c.put.new.self c.note.new.self c.ending-why.ensures only.0 (noted-noted s.connections c.take-due.new.self c.put.new.self c.take-due.ensures.noted c.put.ensures.noted) c.note.ensures.noted,
      ),
    )

pub returns-in-Err-NoConnection-clause-closed : goal.returns-in-Err-NoConnection-clause-closed
returns-in-Err-NoConnection-clause-closed c =
    let s = c.args.self.now in
    let d = c.take-due.result in
    let n = d.taken in
    let before = d.octets.items in
    let out = c.close-closed.new.out.items in
    let e = c.close-closed.new.self in
    let placed = c.take-due.ensures.placed in
    let only = only-only c.args.connection s.connections c.take-due.new.self c.put.new.self c.take-due.ensures.only c.put.ensures.only in
    let old = c.take-due.ensures.owed in
    let new = (c.note.ensures.same c.args.connection).1 ∙ c.put.ensures.owed (c.take-due.ensures.only.0 ∙ c.requires.there) in
    let ended : c.close-closed.result ≡ Err closing.NoConnection = grind (arith, common_steps) in (
      Err serving.NoConnection,
      refl,
      (
        c.close-closed.ensures.idle,
        (only-noted c.args.connection s.connections c.put.new.self c.note.new.self only c.note.ensures.same, refl),
        (c.close-closed.ensures.catalogue, refl),
        (c.close-closed.ensures.asks, c.close-closed.ensures.parked, c.close-closed.ensures.counts),
        λ x held calls past waiting rests.
            let late = closed-as c.close-closed.result (Refused) _ (ap note_of_closing ended) (c.close-closed.ensures.late x held calls past waiting rests) in
            carry (λ a b. EndsLate families_offer x held calls past waiting (Close c.args.connection) (Refused) e a b) (drop n before) (drop n out) (owed_on s c.args.connection) (owed_in c.note.new.self c.args.connection) old new
            (ends-late-owed families_offer x held calls past waiting n before out placed _ _ e late),
        c.close-closed.ensures.none ended,
        notes-why c.args.connection c.ending-why.result _ s.connections c.put.new.self c.note.new.self c.ending-why.ensures only.0 (noted-noted s.connections c.take-due.new.self c.put.new.self c.take-due.ensures.noted c.put.ensures.noted) c.note.ensures.noted,
      ),
    )

pub returns-in-Err-Memory-clause-closed : goal.returns-in-Err-Memory-clause-closed
returns-in-Err-Memory-clause-closed c =
    let s = c.args.self.now in
    let d = c.take-due.result in
    let n = d.taken in
    let before = d.octets.items in
    let out = c.close-closed.new.out.items in
    let e = c.close-closed.new.self in
    let placed = c.take-due.ensures.placed in
    let only = only-only c.args.connection s.connections c.take-due.new.self c.put.new.self c.take-due.ensures.only c.put.ensures.only in
    let old = c.take-due.ensures.owed in
    let new = (c.note.ensures.same c.args.connection).1 ∙ c.put.ensures.owed (c.take-due.ensures.only.0 ∙ c.requires.there) in
    let ended : c.close-closed.result ≡ Err closing.Memory = grind (arith, common_steps) in (
      Err (serving.Memory 0 0),
      refl,
      (
        c.close-closed.ensures.idle,
        (only-noted c.args.connection s.connections c.put.new.self c.note.new.self only c.note.ensures.same, refl),
        (c.close-closed.ensures.catalogue, refl),
        (c.close-closed.ensures.asks, c.close-closed.ensures.parked, c.close-closed.ensures.counts),
        λ x held calls past waiting rests.
            let late = closed-as c.close-closed.result (Memory 0 0) _ (ap note_of_closing ended) (c.close-closed.ensures.late x held calls past waiting rests) in
            carry (λ a b. EndsLate families_offer x held calls past waiting (Close c.args.connection) (Memory 0 0) e a b) (drop n before) (drop n out) (owed_on s c.args.connection) (owed_in c.note.new.self c.args.connection) old new
            (ends-late-owed families_offer x held calls past waiting n before out placed _ _ e late),
        c.close-closed.ensures.short ended,
        notes-why c.args.connection c.ending-why.result _ s.connections c.put.new.self c.note.new.self c.ending-why.ensures only.0 (noted-noted s.connections c.take-due.new.self c.put.new.self c.take-due.ensures.noted c.put.ensures.noted) c.note.ensures.noted,
      ),
    )

pub returns-in-Err-Waits-clause-closed : goal.returns-in-Err-Waits-clause-closed
returns-in-Err-Waits-clause-closed c =
    let ended : c.close-closed.result ≡ Err closing.Waits = grind (arith, common_steps) in
    absurd (let w = c.close-closed.ensures.waits.0 ended in let nobody = c.requires.nobody in omega (arith, w, nobody))

pub invariant_of-self : goal.invariant_of-self
invariant_of-self c = record { asked = asked-idle c.note.new.self c.close-closed.new.self c.close-closed.ensures.idle }
