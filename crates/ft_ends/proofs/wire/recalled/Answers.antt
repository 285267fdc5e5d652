use Rattle.std.proofs.Common.{refl}
use Rattle.ft_client.specs.Calling.{call_of}
use Rattle.ft_ends.specs.Playing.{call_as}
use Rattle.ft_ends.proofs.Calling.{resumed-as}
use Rattle.ft_ends.proofs.wire.recalled.Goals as goal

pub returns-then-not-is_taken-clause-ok : goal.returns-then-not-is_taken-clause-ok
returns-then-not-is_taken-clause-ok c = λ tells m o stands linked held.
    resumed-as tells c.args.client.now c.recall-outcome.new.self c.args.wire.now (record c.args.wire.now { up = record c.args.wire.now.up { octets = c.recall-outcome.new.out } }) m o stands linked held refl refl refl c.args.now c.args.number
    (call_of c.deref.result.now c.deref-2.result.now c.deref-3.result.now c.args.call.now.expiration) (call_as c.args.call.now) c.recall-outcome.result
    (λ i. call_of (c.deref.ensures.value i) (c.deref-2.ensures.value i) (c.deref-3.ensures.value i) c.args.call.now.expiration)
    c.recall-outcome.ensures.stands c.recall-outcome.ensures.out c.recall-outcome.ensures.err c.recall-outcome.ensures.same c.recall-outcome.ensures.unwritten c.in_ok-is_taken.ensures.ok

pub returns-clause-ok : goal.returns-clause-ok
returns-clause-ok c = λ tells m o stands linked held.
    resumed-as tells c.args.client.now c.recall-outcome.new.self c.args.wire.now (record c.args.wire.now { up = record c.args.wire.now.up { octets = c.recall-outcome.new.out } }) m o stands linked held refl refl refl c.args.now c.args.number
    (call_of c.deref.result.now c.deref-2.result.now c.deref-3.result.now c.args.call.now.expiration) (call_as c.args.call.now) c.recall-outcome.result
    (λ i. call_of (c.deref.ensures.value i) (c.deref-2.ensures.value i) (c.deref-3.ensures.value i) c.args.call.now.expiration)
    c.recall-outcome.ensures.stands c.recall-outcome.ensures.out c.recall-outcome.ensures.err c.recall-outcome.ensures.same c.recall-outcome.ensures.unwritten c.in_ok-is_taken.ensures.ok
