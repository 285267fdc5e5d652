use Rattle.std.proofs.Common.{◌≡◌, ◌≤◌, Bool, true, false, cond, List, [], length, sym, ap, subst, ◌∙◌, arith}
use Rattle.giop_link.specs.declared.awaited.Outstanding.{Outstanding}
use Rattle.giop_link.specs.Answering.{answer_to}
use Rattle.giop_link.specs.ClientLinking.{ClientLinked, ClientStands}
use Rattle.giop_link.specs.Ids.{Ids}
use Rattle.giop_link.specs.Listening.{spoken_by}
use Rattle.giop_link.specs.Private.{settled_left, settles}
use Rattle.giop_link.proofs.Taking.{fed, settled-fewer, takes-fed}
use Rattle.giop_link.proofs.client.ClientLink.feed.Goals as goal

pub invariant_of-self-else-is_closed : goal.invariant_of-self-else-is_closed
invariant_of-self-else-is_closed c =
    let l = c.self.inside in
    let fewer : length c.settle-self-inside.new.waiting.items ≤ length l.outstanding.items =
    subst (λ (os : List Outstanding). length os ≤ length l.outstanding.items) (sym c.settle-self-inside.ensures.left) (settled-fewer (spoken_by answer_to c.feed-fed.new.self.message) l.outstanding.items) in
    let few = c.self.invariant.few in
    let goes : c.feed-fed.new.self.is_closed ≡ false = sym c.is_closed.ensures.closed ∙ c.if-is_closed.false in
    record {
      few = omega arith;
      none = λ shut. absurd (let k : false ≡ true = sym goes ∙ shut in cc);
    }

pub returns-then-is_closed-clause-takes : goal.returns-then-is_closed-clause-takes
returns-then-is_closed-clause-takes c = λ terms x st.
    let l = c.self.inside in
    let f = c.feed-fed.ensures in
    let m = c.feed-fed.new.self in
    let ids : Ids = record { given = l.given; outstanding = l.outstanding.items } in
    let shut : m.is_closed ≡ true = sym c.is_closed.ensures.closed ∙ c.if-is_closed.true in
    let left = settled_left (spoken_by answer_to m.message) ids.outstanding in
    let by = settles (spoken_by answer_to m.message) ids.outstanding in
    takes-fed l.version l.most terms ids l.delivers l.listener m x c.args.piece.now c.feed-fed.result c.clear.new.self.items false
    (c.clear.ensures.items ∙ ap (λ (b : Bool). cond b [] left) (sym shut)) (ap (λ (b : Bool). cond b false by) (sym shut))
    (fed l.version l.most terms ids l.delivers l.listener m x c.args.piece.now c.feed-fed.result (subst (λ (v : ClientLinked). ClientStands terms v x) (sym c.self.view_is) st)
    f.stands f.brings f.first f.all f.idle f.closed f.limits (λ is. c.is_closed.ensures.message (c.is_closed.ensures.closed ∙ is)) (λ is. c.is_closed.ensures.end (c.is_closed.ensures.closed ∙ is)))

pub returns-else-is_closed-clause-takes : goal.returns-else-is_closed-clause-takes
returns-else-is_closed-clause-takes c = λ terms x st.
    let l = c.self.inside in
    let f = c.feed-fed.ensures in
    let m = c.feed-fed.new.self in
    let ids : Ids = record { given = l.given; outstanding = l.outstanding.items } in
    let goes : m.is_closed ≡ false = sym c.is_closed.ensures.closed ∙ c.if-is_closed.false in
    let left = settled_left (spoken_by answer_to m.message) ids.outstanding in
    let by = settles (spoken_by answer_to m.message) ids.outstanding in
    takes-fed l.version l.most terms ids l.delivers l.listener m x c.args.piece.now c.feed-fed.result c.settle-self-inside.new.waiting.items c.settle-self-inside.result
    (c.settle-self-inside.ensures.left ∙ ap (λ (b : Bool). cond b [] left) (sym goes)) (c.settle-self-inside.ensures.by ∙ ap (λ (b : Bool). cond b false by) (sym goes))
    (fed l.version l.most terms ids l.delivers l.listener m x c.args.piece.now c.feed-fed.result (subst (λ (v : ClientLinked). ClientStands terms v x) (sym c.self.view_is) st)
    f.stands f.brings f.first f.all f.idle f.closed f.limits (λ is. c.is_closed.ensures.message (c.is_closed.ensures.closed ∙ is)) (λ is. c.is_closed.ensures.end (c.is_closed.ensures.closed ∙ is)))
