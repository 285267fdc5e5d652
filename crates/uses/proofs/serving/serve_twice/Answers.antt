use Rattle.std.proofs.Common.{[], ◌∷◌}
use Rattle.ft_orb.specs.History.{Lost, Opened, Piece}
use Rattle.uses.specs.Serving.{first_output, second_output, tickets_made}
use Rattle.uses.proofs.Served.{appended}
use Rattle.uses.proofs.serving.serve_twice.Goals as goal

pub returns-clause-first : goal.returns-clause-first
returns-clause-first c = λ limits start.
    let made = tickets_made limits in
    let opened = (c.in_ok-connect.ensures.table made [] start).1 in
    let fed = c.in_ok-feed.ensures.table made (Opened 1 ∷ []) opened in
    appended c.feed.new.out.items c.new-first.result.items fed.0 (first_output limits c.args.octets.now) c.new-first.ensures.items fed.1 fed.2.0

pub returns-clause-second : goal.returns-clause-second
returns-clause-second c = λ limits start.
    let made = tickets_made limits in
    let opened = (c.in_ok-connect.ensures.table made [] start).1 in
    let fed = c.in_ok-feed.ensures.table made (Opened 1 ∷ []) opened in
    let lost = c.lost.ensures.table made (Piece 1 50 c.args.octets.now ∷ Opened 1 ∷ []) fed.3 in
    let again = (c.in_ok-connect-2.ensures.table made (Lost 1 ∷ Piece 1 50 c.args.octets.now ∷ Opened 1 ∷ []) lost).1 in
    let repeat = c.in_ok-feed-2.ensures.table made (Opened 2 ∷ Lost 1 ∷ Piece 1 50 c.args.octets.now ∷ Opened 1 ∷ []) again in
    appended c.feed-2.new.out.items c.new-second.result.items repeat.0 (second_output limits c.args.octets.now) c.new-second.ensures.items repeat.1 repeat.2.0
