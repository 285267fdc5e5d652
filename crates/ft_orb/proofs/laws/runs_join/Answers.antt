use Rattle.ft_orb.proofs.Ledgers.{deeds-are-runs, runs-join}
use Rattle.ft_orb.proofs.laws.runs_join.Goals as goal

pub returns-clause-one : goal.returns-clause-one
returns-clause-one c = deeds-are-runs

pub returns-clause-join : goal.returns-clause-join
returns-clause-join c = runs-join
