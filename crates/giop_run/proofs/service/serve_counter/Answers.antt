use Rattle.std.proofs.Common.{rules, ◌≡◌, ◌∙◌}
use Rattle.giop_run.proofs.service.serve_counter.Goals as goal

pub serve_logged-requires : goal.serve_logged-requires
serve_logged-requires g c =
    let t = c.args.terms in
    let start : c.new-logged.result ≡ t.start = search rules in
    let s = c.new_server-server.ensures in
    (t, c.requires.asked, record { limits_are = s.limits_are; capacity_is = s.capacity_is; share_is = s.share_is; servant_is = s.servant_is ∙ start; moment = s.moment; opened = s.opened; held = s.held; kept = s.kept })

pub serve_plain-requires : goal.serve_plain-requires
serve_plain-requires g c =
    let t = c.args.terms in
    let start : c.args.counter ≡ t.start = search rules in
    let s = c.new_server-server-2.ensures in
    (t, c.requires.asked, record { limits_are = s.limits_are; capacity_is = s.capacity_is; share_is = s.share_is; servant_is = s.servant_is ∙ start; moment = s.moment; opened = s.opened; held = s.held; kept = s.kept })
