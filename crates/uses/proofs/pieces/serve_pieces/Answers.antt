use Rattle.std.proofs.Common.{[], ◌∷◌, ◌++◌, ℕ, List, ap, map, ◌∙◌}
use Rattle.ft_orb.specs.History.{Opened}
use Rattle.ft_orb.specs.Outputs.{table_says}
use Rattle.uses.specs.Pieces.{event_of, octets_for, past_of}
use Rattle.uses.specs.Serving.{tickets_made}
use Rattle.uses.specs.Tickets.{is_tickets, tickets_meaning}
use Rattle.uses.proofs.Fed.{octets-once}
use Rattle.uses.proofs.Served.{as_made}
use Rattle.uses.proofs.pieces.serve_pieces.Goals as goal

pub returns : goal.returns
returns c = λ one.
    let made = tickets_made c.args.limits in
    let es = map event_of c.args.pieces.now in
    let start = as_made c.args.limits c.in_ok-tickets.tickets c.new-server.result c.in_ok-tickets.ensures c.new-server.ensures.stands in
    let opened = (c.in_ok-connect.ensures.table made [] start).1 in
    let outputs = c.plays_write_their_outputs.ensures in (
      c.in_ok-feed_all.ensures.written made (Opened 1 ∷ []) opened
          ∙ ap (λ (xs : List ℕ). xs ++ octets_for c.args.limits is_tickets (table_says tickets_meaning made) (Opened 1 ∷ []) es) c.new-out.ensures.items
          ∙ octets-once tickets_meaning c.tables_act_once.ensures.play outputs.written outputs.past outputs.any made (Opened 1 ∷ []) es one,
      c.given.ensures ∙ c.servant.ensures.state made (past_of es) (c.in_ok-feed_all.ensures.stands made (Opened 1 ∷ []) opened) one,
    )
