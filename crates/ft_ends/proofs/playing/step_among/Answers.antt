use Rattle.std.proofs.Common.{◌≤◌, length, get_or, set, ap, arith}
use Rattle.ft_ends.specs.Playing.{step_as}
use Rattle.ft_ends.specs.Private.{tells}
use Rattle.ft_ends.specs.World.{client_of}
use Rattle.ft_ends.proofs.Held.{held-clients, held-posts, runs-stepped, runs-still}
use Rattle.ft_ends.proofs.Moving.{ok-both}
use Rattle.ft_ends.proofs.playing.step_among.Goals.{then-clients-place-via-then-clients-place, then-clients-place-via-else-clients-place+then-posts-place}
use Rattle.ft_ends.proofs.playing.step_among.Goals as goal

pub returns-then-clients-place-clause-stepped : goal.returns-then-clients-place-clause-stepped
returns-then-clients-place-clause-stepped g c made before w h ready =
    let says = tells g.S.Servant.meaning made w.past in
    let at = c.client-client.ensures in
    let clients = held-clients says w.members c.args.clients.now c.args.posts.now h.held in
    let posts = held-posts says w.members c.args.clients.now c.args.posts.now h.held in
    let none : length w.members ≤ client_of (step_as c.args.step.now) = elim c.then-clients-place.branch [
      | then-clients-place-via-then-clients-place v ↦ let t = v.if-clients-place.true in omega (arith, clients, at, t)
      | then-clients-place-via-else-clients-place+then-posts-place v ↦ let t = v.if-posts-place.true in omega (arith, posts, at, t)
    ] in
    runs-still g.S.Servant.meaning made before c.args.server.now c.args.opened.now c.args.clients.now c.args.posts.now c.args.out.now.items w (step_as c.args.step.now) none h

pub returns-clause-stepped : goal.returns-clause-stepped
returns-clause-stepped g c = ok-both c.give_out.result (λ given stood made before w h ready.
    let cs = c.args.clients.now in
    let us = c.args.posts.now in
    let k = c.client-client.result in
    let next = set cs k c.take_step.new.client in
    runs-stepped g.S.Servant.meaning made before c.args.server.now c.take_step.new.server c.args.opened.now c.take_step.new.opened cs us c.args.out.now.items c.give_out.new.out.items w (step_as c.args.step.now) k
    (get_or cs k c.index-clients-place.result) c.take_step.new.client (get_or next k c.index-clients-place-2.result) c.give_out.new.client (get_or us k c.index-posts-place.result) c.take_step.new.post
    c.client-client.ensures c.if-clients-place.false c.if-posts-place.false (ap (λ x. get_or cs k x) c.index-clients-place.is) (ap (λ x. get_or us k x) c.index-posts-place.is)
    (c.in_ok-take_step.ensures.moved made w.past) c.in_ok-take_step.ensures.taken (ap (λ x. get_or next k x) c.index-clients-place-2.is) given stood h ready) c.give_out.ensures.given c.give_out.ensures.stands
