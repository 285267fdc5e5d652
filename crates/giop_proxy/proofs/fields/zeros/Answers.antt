use Rattle.std.proofs.Common.{arith}
use Rattle.giop_proxy.proofs.Requesting.{zeros-taken}
use Rattle.giop_proxy.proofs.fields.zeros.Goals as goal

pub returns : goal.returns
returns c = grind (arith, zeros-taken c.args.size c.requires)
