use Rattle.std.proofs.Common.{◌≡◌, IsTrue, List, [], ◌∷◌, ◌++◌, drop, length, map, take, refl, sym, ap, ◌∙◌, subst, take_at, arith}
use Rattle.std.proofs.lemmas.Bool.{eqb-true}
use Rattle.std.proofs.lemmas.List.{append-nil}
use Rattle.std.proofs.lemmas.Result.{on_ok_weaker}
use Rattle.ft_orb.specs.Standing.{events_played}
use Rattle.ft_client.specs.Standing.{down}
use Rattle.ft_ends.specs.declared.steps.Step.{Step as CodeStep}
use Rattle.ft_ends.specs.Laws.{sides_of}
use Rattle.ft_ends.specs.Playing.{AreClientsOf, given_of, numbered, step_as}
use Rattle.ft_ends.specs.World.{world}
use Rattle.ft_ends.proofs.Held.{new-stand}
use Rattle.ft_ends.proofs.Ready.{first-fine, new-clean, set-is}
use Rattle.ft_ends.proofs.playing.both_ends.Goals as goal

no-steps : (ss : List CodeStep) → length ss ≡ 0 → ss ≡ []
no-steps [] none = refl
no-steps (s ∷ ss) none = absurd (omega (arith, none))

pub returns-then-is_empty-clause-once : goal.returns-then-is_empty-clause-once
returns-then-is_empty-clause-once g c made newcomers begins =
    let state = subst (λ s. IsTrue (g.S.Servant.meaning.is_state s)) (c.servant.ensures.lent ∙ begins.stands.table.state) c.known.ensures in
    let steps = c.args.steps.now in
    c.both_ends_act_once.ensures made newcomers (map step_as (take (length steps) steps)) state begins.distinct (new-clean newcomers c.args.clients.now.items begins.clients_are) (first-fine (length steps) steps c.are_fine.ensures)

pub returns-then-is_empty-clause-given : goal.returns-then-is_empty-clause-given
returns-then-is_empty-clause-given g c made newcomers begins =
    let none = no-steps c.args.steps.now (eqb-true (length c.args.steps.now) 0 (sym c.is_empty.ensures ∙ c.if-is_empty.true)) in
    let told = map given_of c.args.out.now.items in
    subst (λ (ss : List CodeStep). told ≡ told ++ map numbered (world (sides_of g.S.Servant.meaning made down) newcomers (map step_as (take (length ss) ss))).completions) (sym none) (sym (append-nil told))

pub returns-then-is_empty-clause-clients : goal.returns-then-is_empty-clause-clients
returns-then-is_empty-clause-clients g c made newcomers begins =
    let none = no-steps c.args.steps.now (eqb-true (length c.args.steps.now) 0 (sym c.is_empty.ensures ∙ c.if-is_empty.true)) in
    subst (λ (ss : List CodeStep). AreClientsOf (world (sides_of g.S.Servant.meaning made down) newcomers (map step_as ss)).members c.args.clients.now.items) (sym none)
    (new-stand newcomers c.args.clients.now.items begins.clients_are)

pub returns-in_default-clause-once : goal.returns-in_default-clause-once
returns-in_default-clause-once g c made newcomers begins =
    let state = subst (λ s. IsTrue (g.S.Servant.meaning.is_state s)) (c.servant.ensures.lent ∙ begins.stands.table.state) c.known.ensures in
    c.both_ends_act_once.ensures made newcomers (map step_as (take 0 c.args.steps.now)) state begins.distinct (new-clean newcomers c.args.clients.now.items begins.clients_are) (first-fine 0 c.args.steps.now c.are_fine.ensures)

pub returns-clause-given : goal.returns-clause-given
returns-clause-given g c made newcomers begins =
    let state = subst (λ s. IsTrue (g.S.Servant.meaning.is_state s)) (c.servant.ensures.lent ∙ begins.stands.table.state) c.known.ensures in
    let count : c.len.result ≡ length c.args.clients.now.items = let len = c.len.ensures in omega (arith, len) in
    c.run.ensures.given made newcomers
    (set-is g.S.Servant.meaning made newcomers c.args.server.now c.args.clients.now.items c.deref_mut.result.now c.in-Ok.posts.items c.deref_mut-2.result.now c.len.result c.deref_mut.ensures.value c.deref_mut-2.ensures.value count state c.in-Ok.ensures begins)

pub returns-clause-server : goal.returns-clause-server
returns-clause-server g c = on_ok_weaker c.run.result (λ stands made newcomers begins.
    let state = subst (λ s. IsTrue (g.S.Servant.meaning.is_state s)) (c.servant.ensures.lent ∙ begins.stands.table.state) c.known.ensures in
    let count : c.len.result ≡ length c.args.clients.now.items = let len = c.len.ensures in omega (arith, len) in
    stands made newcomers
    (set-is g.S.Servant.meaning made newcomers c.args.server.now c.args.clients.now.items c.deref_mut.result.now c.in-Ok.posts.items c.deref_mut-2.result.now c.len.result c.deref_mut.ensures.value c.deref_mut-2.ensures.value count state c.in-Ok.ensures begins))
    c.run.ensures.stands

pub returns-clause-clients : goal.returns-clause-clients
returns-clause-clients g c = on_ok_weaker c.run.result (λ stands made newcomers begins.
    let state = subst (λ s. IsTrue (g.S.Servant.meaning.is_state s)) (c.servant.ensures.lent ∙ begins.stands.table.state) c.known.ensures in
    let count : c.len.result ≡ length c.args.clients.now.items = let len = c.len.ensures in omega (arith, len) in
    let many : length c.run.new.clients ≡ c.args.clients.now.len = let kept = c.run.auto.clients in let same = ap length c.deref_mut.ensures.value in let len = c.len.ensures in omega (arith, kept, same, len) in
    let back = take_at c.run.new.clients (drop (length c.run.new.clients) c.args.clients.now.items) c.args.clients.now.len many in
    subst (λ cs. AreClientsOf (world (sides_of g.S.Servant.meaning made down) newcomers (map step_as c.args.steps.now)).members cs) (sym back)
    (stands made newcomers
    (set-is g.S.Servant.meaning made newcomers c.args.server.now c.args.clients.now.items c.deref_mut.result.now c.in-Ok.posts.items c.deref_mut-2.result.now c.len.result c.deref_mut.ensures.value c.deref_mut-2.ensures.value count state c.in-Ok.ensures begins)))
    c.run.ensures.clients

pub returns-clause-once : goal.returns-clause-once
returns-clause-once g c made newcomers begins =
    let state = subst (λ s. IsTrue (g.S.Servant.meaning.is_state s)) (c.servant.ensures.lent ∙ begins.stands.table.state) c.known.ensures in
    let steps = c.args.steps.now in
    let n = events_played (length steps) c.run.result in
    c.both_ends_act_once.ensures made newcomers (map step_as (take n steps)) state begins.distinct (new-clean newcomers c.args.clients.now.items begins.clients_are) (first-fine n steps c.are_fine.ensures)
