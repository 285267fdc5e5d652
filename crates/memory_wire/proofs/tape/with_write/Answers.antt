use Rattle.std.proofs.Common.{rules, ◌≡◌, take}
use Rattle.memory_wire.specs.Tapes.{said_by}
use Rattle.memory_wire.proofs.Said.{said-as, write-none, write-some}
use Rattle.memory_wire.proofs.tape.with_write.Goals as goal

pub returns-then-n-eq0 : goal.returns-then-n-eq0
returns-then-n-eq0 c = said-as (said_by c.args.tape) (said_by c.with_act.result) _ _ (write-none c.args.octets.now c.args.n c.if-n-eq0.true) c.with_act.ensures

pub returns : goal.returns
returns c =
    let taken : c.in_ok-taken.taken.items ≡ take c.args.n c.args.octets.now = search rules in
    said-as (said_by c.args.tape) (said_by c.with_act-2.result) _ _ (write-some c.args.octets.now c.in_ok-taken.taken.items c.args.n c.if-n-eq0.false taken) c.with_act-2.ensures
