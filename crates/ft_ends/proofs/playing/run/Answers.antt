use Rattle.std.proofs.Common.{List, ◌++◌, length, map, take, refl, sym, ap, ◌∙◌, subst, arith}
use Rattle.std.proofs.lemmas.List.{append-nil, take_all}
use Rattle.ft_client.specs.Standing.{down}
use Rattle.ft_orb.specs.Standing.{Stands}
use Rattle.ft_ends.specs.declared.steps.Step.{Step as CodeStep}
use Rattle.ft_ends.specs.Laws.{IsFineStep, sides_of}
use Rattle.ft_ends.specs.Playing.{AreClientsOf, IsCallable, given_of, numbered, step_as}
use Rattle.ft_ends.specs.Private.{Runs, tells}
use Rattle.ft_ends.specs.World.{world}
use Rattle.ft_ends.proofs.Held.{held-stand}
use Rattle.ft_ends.proofs.Moving.{err-then, ok-then}
use Rattle.ft_ends.proofs.Ready.{callable-at, fine-at, first-fine, ready-is, steps-more, world-is}
use Rattle.ft_ends.proofs.Worlds.{world-push}
use Rattle.ft_ends.proofs.playing.run.Goals as goal

pub loop-i-init : goal.loop-i-init
loop-i-init g c = record {
  few = omega arith;
  runs = λ made newcomers set. record { server_is = set.stands; opened_is = refl; held = set.held; given = sym (append-nil (map given_of c.args.out.now.items)) };
}

pub step_among-requires-clause-few : goal.step_among-requires-clause-few
step_among-requires-clause-few g c = let few = c.loop-i.invariant.few in omega (arith, few)

pub step_among-requires-clause-callable : goal.step_among-requires-clause-callable
step_among-requires-clause-callable g c = subst IsCallable (sym c.index-steps-i.is) (callable-at c.args.steps.now c.loop-i.i c.index-steps-i.result c.loop-i-test.true c.requires.callable)

pub loop-i-preserved : goal.loop-i-preserved
loop-i-preserved g c = record {
  few = let few = c.loop-i.invariant.few in let one = c.step_among.ensures.opened in omega (arith, few, one);
  runs = λ made newcomers set.
      let meaning = g.S.Servant.meaning in
      let sides = sides_of meaning made down in
      let steps = c.args.steps.now in
      let i = c.loop-i.i in
      let s = c.index-steps-i.result in
      let front = map step_as (take i steps) in
      let h = c.loop-i.invariant.runs made newcomers set in
      let of_clients = c.clients_keep_their_laws.ensures in
      let faithful = c.directions_are_faithful.ensures made.limits in
      let grow = c.streams_are_heard.ensures.grows in
      let short = c.answers_are_short.ensures made set.state in
      let fine = subst (λ d. IsFineStep (step_as d)) (sym c.index-steps-i.is) (fine-at steps i s c.loop-i-test.true c.requires.fine) in
      let is_world = world-is meaning made newcomers set.distinct of_clients faithful grow short set.clean front (first-fine i steps c.requires.fine) in
      let ready = ready-is meaning made newcomers set.distinct of_clients faithful grow short set.clean (world sides newcomers front) (step_as s) fine is_world in
      let next = ok-then c.step_among.result (sym c.is_err.ensures.value ∙ c.if-is_err.false) c.step_among.ensures.stepped made (map given_of c.args.out.now.items) (world sides newcomers front) h ready in
      subst (λ ss. Runs meaning made c.step_among.new.server c.step_among.new.opened c.step_among.new.clients c.step_among.new.posts (map given_of c.args.out.now.items) c.step_among.new.out.items (world sides newcomers ss))
      (sym (steps-more steps i s c.loop-i-test.true c.index-steps-i.is))
      (subst (λ w. Runs meaning made c.step_among.new.server c.step_among.new.opened c.step_among.new.clients c.step_among.new.posts (map given_of c.args.out.now.items) c.step_among.new.out.items w)
      (sym (world-push sides newcomers front (step_as s))) next);
}

pub returns-clause-given : goal.returns-clause-given
returns-clause-given g c made newcomers set =
    let steps = c.args.steps.now in
    let h = c.loop-i.invariant.runs made newcomers set in
    let all = take_all c.loop-i.i steps c.loop-i-test.false ∙ sym (take_all (length steps) steps (omega arith)) in
    h.given ∙ ap (λ (ss : List CodeStep). map given_of c.args.out.now.items ++ map numbered (world (sides_of g.S.Servant.meaning made down) newcomers (map step_as ss)).completions) all

pub returns-clause-stands : goal.returns-clause-stands
returns-clause-stands g c made newcomers set =
    let h = c.loop-i.invariant.runs made newcomers set in
    subst (λ (ss : List CodeStep). Stands g.S.Servant.meaning made c.loop-i.server (world (sides_of g.S.Servant.meaning made down) newcomers (map step_as ss)).past) (take_all c.loop-i.i c.args.steps.now c.loop-i-test.false) h.server_is

pub returns-clause-clients : goal.returns-clause-clients
returns-clause-clients g c made newcomers set =
    let meaning = g.S.Servant.meaning in
    let w = world (sides_of meaning made down) newcomers (map step_as (take c.loop-i.i c.args.steps.now)) in
    let h = c.loop-i.invariant.runs made newcomers set in
    subst (λ (ss : List CodeStep). AreClientsOf (world (sides_of meaning made down) newcomers (map step_as ss)).members c.loop-i.clients) (take_all c.loop-i.i c.args.steps.now c.loop-i-test.false)
    (held-stand (tells meaning made w.past) w.members c.loop-i.clients c.loop-i.posts h.held)

pub returns-then-is_err-clause-given : goal.returns-then-is_err-clause-given
returns-then-is_err-clause-given g c made newcomers set =
    let h = c.loop-i.invariant.runs made newcomers set in
    ap (map given_of) (err-then c.step_among.result (sym c.is_err.ensures.value ∙ c.if-is_err.true) c.step_among.ensures.err) ∙ h.given
