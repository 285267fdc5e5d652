use Rattle.ft_lives.specs.Lives.{ledger_of}
use Rattle.ft_lives.proofs.Repeated.{declined-are-free, refused-are-free}
use Rattle.ft_lives.proofs.laws.refused_are_free.Goals as goal

pub returns-clause-engine : goal.returns-clause-engine
returns-clause-engine c = refused-are-free

pub returns-clause-owner : goal.returns-clause-owner
returns-clause-owner c = declined-are-free

pub returns-clause-first : goal.returns-clause-first
returns-clause-first c = λ lives steps front rest n d a o q name key expiration is says content field present in_time first within.
    c.firsts_are_asked.ensures.refused (lives n).settings (ledger_of lives n front).held _ a o q key expiration name content field present in_time first within says.says
