use Rattle.std.proofs.Common.{arith, rules, tests}
use Rattle.corbaloc.proofs.Fronts.{key_end, octet_step}
use Rattle.corbaloc.proofs.key.key_in.Goals as goal

pub loop-left-preserved : goal.loop-left-preserved
loop-left-preserved c =
    octet_step c.args.text.now c.loop-left.left.now c.in_ok-octet.rest.now c.in_ok-octet.octet c.loop-left.key.items c.push.new.self.items (search rules) c.in_ok-octet.ensures.spelled c.loop-left.invariant

pub returns-clause-spelled : goal.returns-clause-spelled
returns-clause-spelled c =
    key_end c.args.text.now c.loop-left.left.now c.loop-left.key.items (first_of (grind arith, omega arith, search (rules, tests))) c.loop-left.invariant
