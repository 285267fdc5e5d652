use Rattle.ft_lives.proofs.Committed.{commits-come-later, held-is-committed, key-commits-once}
use Rattle.ft_lives.proofs.laws.keys_commit_once.Goals as goal

pub returns-clause-later : goal.returns-clause-later
returns-clause-later c = commits-come-later

pub returns-clause-once : goal.returns-clause-once
returns-clause-once c = key-commits-once

pub returns-clause-held : goal.returns-clause-held
returns-clause-held c = held-is-committed
