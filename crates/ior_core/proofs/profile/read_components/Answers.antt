use Rattle.std.proofs.Common.{rules}
use Rattle.ior_core.proofs.profile.read_components.Goals as goal

pub returns-then-minor-eq0-clause-gives : goal.returns-then-minor-eq0-clause-gives
returns-then-minor-eq0-clause-gives c = search rules

pub returns-then-minor-eq0-clause-none : goal.returns-then-minor-eq0-clause-none
returns-then-minor-eq0-clause-none c = search rules
