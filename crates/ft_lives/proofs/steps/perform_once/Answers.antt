use Rattle.std.proofs.Common.{false, refl, ◌∙◌}
use Rattle.ft_log.specs.View.{key_of}
use Rattle.ft_lives.specs.Steps.{ask_of}
use Rattle.ft_lives.proofs.Tried.{again-along, far-begun, told-along, told-unknown}
use Rattle.ft_lives.proofs.steps.perform_once.Goals as goal

pub loop-attempt-init : goal.loop-attempt-init
loop-attempt-init g c = record { life = refl; far = far-begun g.S.Store.apply _ _ _ }
