use Rattle.std.proofs.Common.{rules, ◌≡◌, take}
use Rattle.memory_wire.specs.Tapes.{said_by}
use Rattle.memory_wire.proofs.Said.{said-as, read-none, read-some}
use Rattle.memory_wire.proofs.tape.with_read.Goals as goal

pub returns-then-n-eq0 : goal.returns-then-n-eq0
returns-then-n-eq0 c = said-as (said_by c.args.tape) (said_by c.with_act.result) _ _ (read-none c.args.buffer.now c.args.n c.if-n-eq0.true) c.with_act.ensures

pub returns : goal.returns
returns c =
    let piece : c.in_ok-octets.octets.items ≡ take c.args.n c.args.buffer.now = search rules in
    said-as (said_by c.args.tape) (said_by c.with_act-2.result) _ _ (read-some c.args.buffer.now c.in_ok-octets.octets.items c.args.n c.if-n-eq0.false piece) c.with_act-2.ensures
