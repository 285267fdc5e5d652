use Rattle.std.proofs.Common.{◌∙◌}
use Rattle.ft_orb.proofs.Declined.{pasts-stand}
use Rattle.ft_orb.proofs.engine.Engine.calls_stand.Goals as goal

pub returns : goal.returns
returns g c s held calls past waiting h = h.rests.stands.table.state ∙ ((pasts-stand s).table held past).1.state
