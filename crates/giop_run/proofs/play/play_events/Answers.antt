use Rattle.std.proofs.Common.{rules, ◌≡◌, [], w64, to_z, of_z}
use Rattle.giop_run.proofs.Scripts.{law_of, made_with, now_of, table_of}
use Rattle.giop_run.proofs.play.play_events.Goals as goal

pub returns-clause-table : goal.returns-clause-table
returns-clause-table c =
    let start : c.in_ok-counter.counter ≡ c.args.terms.start = search rules in
    let played = c.in_ok-play.ensures.table (made_with c.args.terms c.in_ok-counter.counter) [] c.new-server.ensures.stands in
    table_of c.args.terms c.in_ok-counter.counter c.args.events.now c.new-written.result.items c.play.new.out.items played.0 start c.new-written.ensures.items played.1 played.2

pub returns-clause-once : goal.returns-clause-once
returns-clause-once c =
    let start : c.in_ok-counter.counter ≡ c.args.terms.start = search rules in
    let played = c.in_ok-play.ensures.once (made_with c.args.terms c.in_ok-counter.counter) [] c.new-server.ensures.stands in
    let total : to_z w64 (of_z w64 c.total-total.result) ≡ c.play.new.server.servant = search rules in
    law_of c.args.terms c.in_ok-counter.counter c.args.events.now c.new-written.result.items c.play.new.out.items played.0 c.play.new.server.servant _ start c.new-written.ensures.items played.1 total played.2

pub returns-clause-now : goal.returns-clause-now
returns-clause-now c =
    let start : c.in_ok-counter.counter ≡ c.args.terms.start = search rules in
    let played = c.in_ok-play.ensures.now (made_with c.args.terms c.in_ok-counter.counter) [] c.new-server.ensures.stands in
    let total : to_z w64 (of_z w64 c.total-total.result) ≡ c.play.new.server.servant = search rules in
    now_of c.args.terms c.in_ok-counter.counter c.args.events.now c.new-written.result.items c.play.new.out.items played.0 c.play.new.server.servant _ start c.new-written.ensures.items played.1 total (played.2, played.3)
