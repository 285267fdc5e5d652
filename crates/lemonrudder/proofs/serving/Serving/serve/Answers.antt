use Rattle.std.proofs.Common.{◌≡◌, ◌<◌, length, drop, refl, ◌∙◌, arith, rules}
use Rattle.std.proofs.lemmas.Grind.{common_steps}
use Rattle.ft_objects.specs.Families.{families_offer}
use Rattle.ft_orb.specs.Bounds.{fed_in, piece_in}
use Rattle.ft_orb.specs.Parking.{FeedsLate}
use Rattle.lemonrudder.specs.declared.connections.Connection.{Connection}
use Rattle.lemonrudder.specs.declared.connections.Connections.{Connections}
use Rattle.lemonrudder.specs.declared.due.Due.{Due}
use Rattle.lemonrudder.specs.Connected.{AreAsNoted, OnlyDue, owed_in}
use Rattle.lemonrudder.specs.Dues.{owed}
use Rattle.lemonrudder.specs.Serves.{owed_on}
use Rattle.lemonrudder.proofs.Asked.{asked-left, carry}
use Rattle.lemonrudder.proofs.Bounded.{comes-due, stops-where-due}
use Rattle.lemonrudder.proofs.Noting.{notes-why, only-noted}
use Rattle.lemonrudder.proofs.OwingLate.{feeds-late-owed}
use Rattle.lemonrudder.proofs.serving.Serving.serve.Goals as goal

pub feed_within-fed-requires : goal.feed_within-fed-requires
feed_within-fed-requires c = record { idle = c.requires.idle }

pub returns-in_default : goal.returns-in_default
returns-in_default c = absurd (search rules)

pub returns : goal.returns
returns c =
    let s = c.args.self.now in
    let d = c.place.new.self in
    let n = d.taken in
    let before = d.octets.items in
    let f = c.feed_within-fed.result in
    let out = c.feed_within-fed.new.out.items in
    let piece = piece_in c.args.octets.now f in
    let due : Due = record d { octets = c.feed_within-fed.new.out } in
    let fed : Connection = record c.in-Some.found.now { due = due } in
    let k : Connections = record s.connections { entries = c.get_mut.follows.lender fed } in
    let placed = c.place.ensures.placed in
    let only : OnlyDue c.args.connection s.connections k = search rules in
    let noted : AreAsNoted s.connections k = search rules in
    let found : owed c.in-Some.found.now.due ≡ owed_on s c.args.connection = search rules in
    let fresh : owed_in k c.args.connection ≡ owed due = search rules in
    let old = c.place.ensures.owed ∙ found in
    let new = (c.note.ensures.same c.args.connection).1 ∙ fresh in
    let short : length c.feed_within-fed.new.out.items < 18446744073709551615 = grind (arith, common_steps) in
    let e = c.feed_within-fed.new.self in (
      f,
      c.taken_of.ensures,
      (only-noted c.args.connection s.connections k c.note.new.self only c.note.ensures.same, refl),
      (c.feed_within-fed.ensures.catalogue, refl),
      c.feed_within-fed.ensures.parked,
      (
        c.feed_within-fed.ensures.place,
        c.feed_within-fed.ensures.number,
        c.feed_within-fed.ensures.fit,
        comes-due s.setup.terms.due n c.most-most.result out (owed_in c.note.new.self c.args.connection) (length c.args.octets.now) f c.most-most.ensures short new c.feed_within-fed.ensures.due,
        c.feed_within-fed.ensures.ended,
        λ x held calls past waiting rests. (
          carry (λ a b. FeedsLate families_offer x held calls past waiting c.args.connection c.args.moment piece (fed_in f) e a b) (drop n before) (drop n out) (owed_on s c.args.connection) (owed_in c.note.new.self c.args.connection) old new
              (feeds-late-owed families_offer x held calls past waiting n before out placed c.args.connection c.args.moment piece (fed_in f) e (c.feed_within-fed.ensures.late x held calls past waiting rests)),
          stops-where-due x held past s.setup.terms.due n c.most-most.result before (owed_on s c.args.connection) placed c.most-most.ensures old c.args.connection c.args.moment c.args.octets.now f (c.feed_within-fed.ensures.below x held calls past waiting rests),
          c.feed_within-fed.ensures.heard x held calls past waiting rests,
          c.feed_within-fed.ensures.counted x held calls past waiting rests,
        ),
      ),
      notes-why c.args.connection c.ending-why.result _ s.connections k c.note.new.self c.ending-why.ensures only.0 noted c.note.ensures.noted,
    )

pub invariant_of-self : goal.invariant_of-self
invariant_of-self c = absurd (search rules)

pub invariant_of-self-2 : goal.invariant_of-self-2
invariant_of-self-2 c =
    let s = c.args.self.now in
    let due : Due = record c.place.new.self { octets = c.feed_within-fed.new.out } in
    let fed : Connection = record c.in-Some.found.now { due = due } in
    let k : Connections = record s.connections { entries = c.get_mut.follows.lender fed } in
    let fresh : OnlyDue c.args.connection s.connections k = search rules in
    let only = only-noted c.args.connection s.connections k c.note.new.self fresh c.note.ensures.same in
    record { asked = asked-left c.note.new.self c.feed_within-fed.new.self c.args.connection _ (fed_in c.feed_within-fed.result) c.feed_within-fed.ensures.place (only.0 ∙ c.requires.there) }
