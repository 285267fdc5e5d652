use Rattle.std.proofs.Common.{◌≡◌, ℕ, List, [], ◌∷◌, take, sym, subst, ◌∙◌}
use Rattle.giop_core.specs.Content.{Content}
use Rattle.giop_core.specs.Lent as lent
use Rattle.giop_link.specs.Listening.{lent_by}
use Rattle.giop_tap.specs.Tracing.{PairsStand, counts, news, said_after}
use Rattle.giop_tap.proofs.News.{brought, spoken-here}
use Rattle.giop_tap.proofs.tracer.hear.Goals as goal

pub returns-in-Ok-clause-pairs : goal.returns-in-Ok-clause-pairs
returns-in-Ok-clause-pairs c = λ limits s earlier stands pairs.
    let octets : List ℕ = take c.in_ok-taken.taken c.args.piece.now in
    let brings = c.in_ok-taken.ensures.brings limits s stands in
    let end = c.is_closed.ensures.end c.if-is_closed.false in
    let one : news limits s octets ≡ lent.content_of c.in-Some.message.content ∷ [] =
    brought limits s octets (lent_by counts c.feed.new.self) brings ∙ spoken-here c.feed.new.self c.in-Some.message end c.in-Some.ensures.lent in
    subst (λ (ms : List Content). PairsStand c.take.new.self (said_after c.args.connection c.args.sender ms earlier)) (sym one) (c.in-Ok.ensures.stands earlier pairs)
