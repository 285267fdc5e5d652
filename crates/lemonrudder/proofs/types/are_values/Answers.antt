use Rattle.cdr_core.specs.View.{forms_of}
use Rattle.lemonrudder.proofs.Reading.{passed-all, passed-none}
use Rattle.lemonrudder.proofs.types.are_values.Goals as goal

pub returns-in-Ok : goal.returns-in-Ok
returns-in-Ok c = passed-all (forms_of c.args.types.now) c.args.order c.args.octets.now c.pass_list.result c.in-Ok.passed c.in-Ok.is c.pass_list.ensures.passes c.pass_list.ensures.only

pub returns-in-Err : goal.returns-in-Err
returns-in-Err c = passed-none (forms_of c.args.types.now) c.args.order c.args.octets.now c.pass_list.result _ c.in-Err.is c.pass_list.ensures.only
