use Rattle.std.proofs.Common.{Some, rules}
use Rattle.ft_log.specs.View.{performed_in}
use Rattle.ft_orb.specs.Carrying.{asker_in}
use Rattle.lemonrudder.proofs.Carrying.{carries-empty}
use Rattle.lemonrudder.proofs.serving.replying.carries.Goals as goal

pub returns-then-is_empty : goal.returns-then-is_empty
returns-then-is_empty c = (λ _. carries-empty c.args.contexts.now (asker_in c.args.engine.now) (Some (performed_in c.args.outcome.now)) (search rules), λ _. search rules)
