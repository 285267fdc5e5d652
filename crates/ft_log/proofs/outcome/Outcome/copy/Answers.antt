use Rattle.std.proofs.Common.{rules}
use Rattle.ft_log.proofs.outcome.Outcome.copy.Goals as goal

pub returns-in_err-copied-in-Returned : goal.returns-in_err-copied-in-Returned
returns-in_err-copied-in-Returned c = search rules

pub returns-in_err-id-in-Raised : goal.returns-in_err-id-in-Raised
returns-in_err-id-in-Raised c = search rules

pub returns-in_err-copied-in-Raised : goal.returns-in_err-copied-in-Raised
returns-in_err-copied-in-Raised c = search rules

pub returns-in_ok-copied-in-Returned : goal.returns-in_ok-copied-in-Returned
returns-in_ok-copied-in-Returned c = search rules

pub returns-in_ok-copied-in-Raised : goal.returns-in_ok-copied-in-Raised
returns-in_ok-copied-in-Raised c = search rules

pub returns-in-System : goal.returns-in-System
returns-in-System c = search rules
