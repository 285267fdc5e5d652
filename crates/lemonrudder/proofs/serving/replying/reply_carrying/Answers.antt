use Rattle.ft_orb.specs.Carrying.{due_in}
use Rattle.ft_orb.specs.Parking.{told_in}
use Rattle.ft_orb.proofs.Carried.{carries-none}
use Rattle.lemonrudder.proofs.serving.replying.reply_carrying.Goals as goal

pub reply_with-requires-2-clause-carries : goal.reply_with-requires-2-clause-carries
reply_with-requires-2-clause-carries c = carries-none (due_in c.args.engine.now c.args.number) (told_in c.args.engine.now c.args.number)
