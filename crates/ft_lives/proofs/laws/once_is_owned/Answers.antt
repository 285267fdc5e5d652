use Rattle.ft_lives.proofs.Keeping.{once-is-owned, stores-may-forget}
use Rattle.ft_lives.proofs.laws.once_is_owned.Goals as goal

pub returns-clause-forget : goal.returns-clause-forget
returns-clause-forget g c = stores-may-forget

pub returns-clause-owned : goal.returns-clause-owned
returns-clause-owned g c = once-is-owned g.S.Store.apply
