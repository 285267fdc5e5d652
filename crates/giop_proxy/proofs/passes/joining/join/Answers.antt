use Rattle.std.proofs.Common.{arith}
use Rattle.giop_proxy.proofs.PassingJoins.{joined-is}
use Rattle.giop_proxy.proofs.passes.joining.join.Goals as goal

pub returns : goal.returns
returns c = λ f payload.
    joined-is c.args.message f c.extend_from_slice.new.self.items c.push.new.self.items c.args.payload.now c.len.result c.in_ok-push.ensures.items c.in_ok-extend_from_slice.ensures.items (omega (arith, c.len.ensures)) payload
