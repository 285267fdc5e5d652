use Rattle.std.proofs.Common.{◌≡◌, [], ◌∷◌, ◌++◌, List, ℕ, Some, ap, length, drop, map, refl, rules, sym, ◌∙◌}
use Rattle.giop_core.specs.Items.{item_at}
use Rattle.ft_objects.specs.Families.{families_offer}
use Rattle.ft_log.specs.Holding.{known}
use Rattle.ft_log.specs.View.{performed_in}
use Rattle.ft_orb.specs.Carrying.{asker_in, reply_if, unless_failed}
use Rattle.ft_orb.specs.Parking.{ResumesLate, put_at}
use Rattle.ft_orb.specs.Standing.{note_of}
use Rattle.lemonrudder.specs.declared.connections.Connection.{Connection}
use Rattle.lemonrudder.specs.declared.connections.Connections.{Connections}
use Rattle.lemonrudder.specs.declared.due.Due.{Due}
use Rattle.lemonrudder.specs.Connected.{AreAsNoted, OnlyDue, owed_in}
use Rattle.lemonrudder.specs.Dues.{owed}
use Rattle.lemonrudder.specs.Serves.{owed_on}
use Rattle.lemonrudder.proofs.Asked.{asked-idle, carry, found-there}
use Rattle.lemonrudder.proofs.Carrying.{carried-are, carried_by}
use Rattle.lemonrudder.proofs.Ending.{ends-if-short}
use Rattle.lemonrudder.proofs.Noting.{notes-why, only-noted}
use Rattle.lemonrudder.proofs.Owing.{grows}
use Rattle.lemonrudder.proofs.OwingLate.{resumes-late-owed}
use Rattle.lemonrudder.proofs.serving.Serving.answer_asked.Goals as goal

pub returns-in_default : goal.returns-in_default
returns-in_default c =
    let there = found-there c.args.self.now.connections c.args.self.now.engine c.args.number c.args.connection c.requires.found c.args.self.now.asked in
    absurd (search (rules, there))

pub returns : goal.returns
returns c =
    let s = c.args.self.now in
    let d = c.place.new.self in
    let n = d.taken in
    let before = d.octets.items in
    let o = c.answer_carrying-answered.result in
    let out = c.answer_carrying-answered.new.out.items in
    let outcome = performed_in c.args.outcome in
    let said = map item_at c.args.contexts.now in
    let carried = carried_by said (asker_in s.engine) (Some outcome) in
    let carrying = carried-are said (asker_in s.engine) (Some outcome) in
    let sent : List ℕ = unless_failed o (reply_if carried (asker_in s.engine) (Some outcome)) in
    let bare : List ℕ = unless_failed o (reply_if [] (asker_in s.engine) (Some outcome)) in
    let due : Due = record d { octets = c.answer_carrying-answered.new.out } in
    let grown : Connection = record c.in-Some.found.now { due = due } in
    let k : Connections = record s.connections { entries = c.get_mut.follows.lender grown } in
    let placed = c.place.ensures.placed in
    let only : OnlyDue c.args.connection s.connections k = search rules in
    let noted : AreAsNoted s.connections k = search rules in
    let found : owed c.in-Some.found.now.due ≡ owed_on s c.args.connection = search rules in
    let fresh : owed_in k c.args.connection ≡ owed due = search rules in
    let old = c.place.ensures.owed ∙ found in
    let new = (c.note.ensures.same c.args.connection).1 ∙ fresh in (
      o,
      c.done_of.ensures,
      c.answer_carrying-answered.ensures.idle,
      (only-noted c.args.connection s.connections k c.note.new.self only c.note.ensures.same, refl),
      (c.answer_carrying-answered.ensures.catalogue, refl),
      (c.answer_carrying-answered.ensures.asks, c.answer_carrying-answered.ensures.parked, c.answer_carrying-answered.ensures.counted),
      (carried, carrying, new ∙ (grows n before sent out placed (c.answer_carrying-answered.ensures.sent carried carrying) ∙ ap (λ (l : List ℕ). l ++ sent) old)),
      λ x held calls past waiting moment octets written w asks.
          carry (λ a b. ResumesLate families_offer x (put_at (length calls) (known outcome) held) (calls ++ w.call ∷ []) past waiting w.connection moment octets written (note_of o) c.answer_carrying-answered.new.engine a b) (drop n before) (drop n (before ++ bare)) (owed_on s c.args.connection) (owed_on s c.args.connection ++ bare) old
          (sym (grows n before bare (before ++ bare) placed refl ∙ ap (λ (l : List ℕ). l ++ bare) old))
          (resumes-late-owed families_offer x (put_at (length calls) (known outcome) held) (calls ++ w.call ∷ []) past waiting n before (before ++ bare) placed w.connection moment octets written (note_of o) c.answer_carrying-answered.new.engine (c.answer_carrying-answered.ensures.late x held calls past waiting moment octets written w asks)),
      notes-why c.args.connection c.ending-why.result _ s.connections k c.note.new.self c.ending-why.ensures only.0 noted c.note.ensures.noted,
      ends-if-short c.args.number c.args.connection s.engine c.answer_carrying-answered.new.engine o c.requires.found c.answer_carrying-answered.ensures.ended c.answer_carrying-answered.ensures.short,
    )

pub invariant_of-self : goal.invariant_of-self
invariant_of-self c =
    let there = found-there c.args.self.now.connections c.args.self.now.engine c.args.number c.args.connection c.requires.found c.args.self.now.asked in
    absurd (search (rules, there))

pub invariant_of-self-2 : goal.invariant_of-self-2
invariant_of-self-2 c = record { asked = asked-idle c.note.new.self c.answer_carrying-answered.new.engine c.answer_carrying-answered.ensures.idle }
