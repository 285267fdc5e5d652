use Rattle.std.proofs.Common.{[], ◌∷◌, sym, subst, ◌∙◌}
use Rattle.ft_orb.specs.declared.events.Note.{Note}
use Rattle.ft_orb.specs.History.{Opened}
use Rattle.ft_orb.specs.Outputs.{Writes, after, table_says}
use Rattle.ft_orb.specs.Standing.{Stands}
use Rattle.ft_orb.proofs.Streams.{grows-none}
use Rattle.ft_tcp.specs.Visits.{dropped, served}
use Rattle.ft_tcp.proofs.Visits.{note-done, note-other, opened-going}
use Rattle.ft_tcp.proofs.serving.serve_connection.Goals as goal

pub returns-then-is_ok : goal.returns-then-is_ok
returns-then-is_ok g c made past st =
    let w = c.connect.ensures.table made past st in
    let done = note-done c.connect.result (sym c.is_ok.ensures.value ∙ c.if-is_ok.true) in
    let opened = subst (λ (n : Note). Writes made.limits g.S.Servant.meaning.knows (table_says g.S.Servant.meaning made) past (Opened c.args.connection) [] n) done w.0 in
    let stands = subst (λ (n : Note). Stands g.S.Servant.meaning made c.connect.new.self (after made.limits past (Opened c.args.connection) n)) done w.1 in
    let going = opened-going made.limits past c.args.connection (c.streams_are_heard.ensures.nothing made.limits).1 opened.1 in
    let x = c.serve_stream.ensures.table made (Opened c.args.connection ∷ past) stands going in
    (served x.0 c.serve_stream.result x.1, (opened, record { plays = x.2; noted = x.3; ended = x.4; timely = x.5; small = x.6; few = x.7 }), x.8, x.9, x.10)

pub returns-else-is_ok : goal.returns-else-is_ok
returns-else-is_ok g c made past st =
    let w = c.connect.ensures.table made past st in
    (dropped _, (note-other c.connect.result (sym c.is_ok.ensures.value ∙ c.if-is_ok.false), w.0), w.1, grows-none (g.W.Wire.traffic c.args.wire.now), grows-none (g.C.Clock.given c.args.clock.now))
