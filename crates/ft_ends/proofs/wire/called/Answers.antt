use Rattle.std.proofs.Common.{◌≡◌, map, refl}
use Rattle.std.specs.Result.{result_ok}
use Rattle.std.proofs.lemmas.Result.{on_err_weaker, on_ok_weaker}
use Rattle.ft_client.specs.Calling.{call_of}
use Rattle.ft_ends.specs.Playing.{call_as}
use Rattle.ft_client.specs.Clients.{Called, Client, made}
use Rattle.ft_client.specs.Standing.{FtStands}
use Rattle.ft_ends.specs.Private.{noted, numbered_call}
use Rattle.ft_ends.proofs.Calling.{called-is, memory-is}
use Rattle.ft_ends.proofs.Noted.{called-noted, ok-with}
use Rattle.ft_ends.proofs.wire.called.Goals as goal

pub returns-clause-err : goal.returns-clause-err
returns-clause-err c = on_err_weaker c.after_call.result
    (λ is. memory-is c.args.client.now c.args.now (call_of c.deref.result.now c.deref-2.result.now c.deref-3.result.now c.args.call.now.expiration) (call_as c.args.call.now) c.call.result
    (λ i. call_of (c.deref.ensures.value i) (c.deref-2.ensures.value i) (c.deref-3.ensures.value i) c.args.call.now.expiration) c.call.ensures.err is)
    c.after_call.ensures.err

pub returns-clause-ok : goal.returns-clause-ok
returns-clause-ok c = on_ok_weaker c.after_call.result (λ refusal tells m o stands linked held.
    called-is tells c.args.client.now c.call.new.self c.args.wire.now (record c.args.wire.now { up = record c.args.wire.now.up { octets = c.call.new.out } }) m o stands linked held refl refl refl c.args.now
    (call_of c.deref.result.now c.deref-2.result.now c.deref-3.result.now c.args.call.now.expiration) (call_as c.args.call.now) c.call.result
    (λ i. call_of (c.deref.ensures.value i) (c.deref-2.ensures.value i) (c.deref-3.ensures.value i) c.args.call.now.expiration)
    c.call.ensures.stands c.call.ensures.out c.call.ensures.err c.call.ensures.same c.call.ensures.unwritten refusal) c.after_call.ensures.ok

pub returns-clause-number : goal.returns-clause-number
returns-clause-number c =
    ok-with (λ o. o ≡ result_ok c.call.result) (λ o. (m : Client) → FtStands c.args.client.now m → noted o (call_as c.args.call.now) ≡ map numbered_call (made (Called c.args.now (call_as c.args.call.now)) m)) c.after_call.result
    (λ o is refusal m stands.
    called-noted c.args.client.now c.args.now (call_of c.deref.result.now c.deref-2.result.now c.deref-3.result.now c.args.call.now.expiration) (call_as c.args.call.now)
    (λ i. call_of (c.deref.ensures.value i) (c.deref-2.ensures.value i) (c.deref-3.ensures.value i) c.args.call.now.expiration) m stands c.call.result o is c.call.ensures.number c.call.ensures.taken c.call.ensures.err refusal)
    c.after_call.ensures.number c.after_call.ensures.ok
