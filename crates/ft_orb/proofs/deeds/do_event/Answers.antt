use Rattle.std.proofs.Common.{◌≡◌, ℕ, List, [], length, refl, sym, ap, ◌∙◌, arith}
use Rattle.std.proofs.lemmas.Grind.{common_steps}
use Rattle.ft_orb.specs.History as history
use Rattle.ft_orb.specs.declared.deeds.Deed.TheVariants as code
use Rattle.ft_orb.specs.declared.events.Event.TheVariants as event
use Rattle.ft_orb.specs.Standing.{note_of_opening}
use Rattle.ft_orb.proofs.Acting.{ends-deed, feeds-deed, lost-deed, resting}
use Rattle.ft_orb.proofs.deeds.do_event.Goals.{in-Opened, in-Piece, in-Lost}
use Rattle.ft_orb.proofs.deeds.do_event.Goals as goal

pub returns-clause-ok : goal.returns-clause-ok
returns-clause-ok g c s h holds =
    let r = resting g.C.Catalogue.offers s h c.args.engine.now holds c.requires.idle in
    elim c.match-event.branch [
      | in-Opened w ↦
          let d = ends-deed g.C.Catalogue.offers s h c.args.engine.now w.connect.new.self r (history.Opened w.in-Opened.c) (note_of_opening w.connect.result) [] [] refl (w.connect.ensures.late s h.held h.calls h.past h.waiting r.stays) w.connect.ensures.parked w.connect.ensures.asks tt refl (code.Event (event.Opened w.in-Opened.c)) refl in
          rw (w.engine-is, w.octets-is, w.connection-is, w.in-Opened.is, w.opened.ensures, c.new-octets.ensures.items) d
      | in-Piece w ↦
          let size : w.len.result ≡ length w.deref.result.now = w.len.ensures ∙ grind (arith, common_steps) in
          let d = feeds-deed g.C.Catalogue.offers s h c.args.engine.now w.feed-fed.new.self r w.in-Piece.c w.in-Piece.moment w.deref.result.now w.feed-fed.result c.new-octets.result.items w.feed-fed.new.out.items c.new-octets.ensures.items (w.feed-fed.ensures.late s h.held h.calls h.past h.waiting r.stays)
          w.feed-fed.ensures.parked w.feed-fed.ensures.number (event.Piece w.in-Piece.c w.in-Piece.moment w.in-Piece.piece) (ap (λ (l : List ℕ). history.Piece w.in-Piece.c w.in-Piece.moment l) (sym w.deref.ensures.value)) in
          rw (w.engine-is, w.octets-is, w.connection-is, w.in-Piece.is, w.fed_as-note.ensures.note, w.fed_as-note.ensures.left, size) d
      | in-Lost w ↦
          let d = lost-deed g.C.Catalogue.offers s h c.args.engine.now w.lost.new.self r w.in-Lost.c (w.lost.ensures.late s h.held h.calls h.past h.waiting r.stays) w.lost.ensures.parked w.lost.ensures.asks (code.Event (event.Lost w.in-Lost.c)) refl in
          rw (w.engine-is, w.octets-is, w.connection-is, w.in-Lost.is, c.new-octets.ensures.items) d
    ]
