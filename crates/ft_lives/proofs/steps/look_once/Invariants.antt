use Rattle.std.proofs.Common.{◌≡◌, false}
use Rattle.ft_log.specs.View.{key_of}
use Rattle.ft_lives.specs.Private.{IsSoFar}
use Rattle.ft_lives.specs.Steps.{ask_of}
use Rattle.ft_lives.proofs.steps.look_once.Given as goal

abbrev pub invariant-loop-attempt : goal.invariant-loop-attempt
invariant-loop-attempt g l = record {
  life : g.S.Store.life l.store ≡ g.S.Store.life l.fn.store;
  far : IsSoFar g.S.Store.apply (g.S.Store.life l.fn.store) (record { ask = ask_of (g.S.Store.life l.fn.store) l.asked; key = key_of l.request.key.now; expiration = l.request.expiration }) false (g.S.Store.shown l.fn.store) (g.S.Store.shown l.store);
}
