use Rattle.std.proofs.Common.{Some}
use Rattle.ft_log.specs.View.{performed_in}
use Rattle.ft_orb.specs.Carrying.{asker_in}
use Rattle.ft_orb.proofs.Carried.{carries-none}
use Rattle.lemonrudder.proofs.serving.replying.answer_carrying.Goals as goal

pub answer_with-requires-2-clause-carries : goal.answer_with-requires-2-clause-carries
answer_with-requires-2-clause-carries c = carries-none (asker_in c.args.engine.now) (Some (performed_in c.args.outcome))
