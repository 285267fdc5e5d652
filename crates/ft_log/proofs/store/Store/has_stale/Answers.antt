use Rattle.std.proofs.lemmas.Bool.{ltb-false, ltb-true}
use Rattle.ft_log.specs.Logged.{logged}
use Rattle.ft_log.specs.View.{entries_at}
use Rattle.ft_log.proofs.Gone.{some_gone}
use Rattle.ft_log.proofs.store.Store.has_stale.Goals as goal

pub returns-in-Some-clause-yes : goal.returns-in-Some-clause-yes
unfolding logged
returns-in-Some-clause-yes c = λ yes. some_gone c.args.now c.in-Some.least (entries_at c.args.self.now.story.entries) c.in-Some.ensures.least (ltb-true _ _ yes)

pub returns-in-Some-clause-no : goal.returns-in-Some-clause-no
unfolding logged
returns-in-Some-clause-no c = λ no. c.in-Some.ensures.stays c.args.now (ltb-false _ _ no)

pub returns-in-None-clause-no : goal.returns-in-None-clause-no
unfolding logged
returns-in-None-clause-no c = λ no. c.in-None.ensures.stays c.args.now tt
