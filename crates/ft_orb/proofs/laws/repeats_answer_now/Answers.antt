use Rattle.ft_orb.proofs.NowFirsts.{repeats-answer-now, repeats-in-events-answer-now}
use Rattle.ft_orb.proofs.laws.repeats_answer_now.Goals as goal

pub returns-clause-past : goal.returns-clause-past
returns-clause-past g c = repeats-answer-now g.S.Servant.meaning

pub returns-clause-event : goal.returns-clause-event
returns-clause-event g c = repeats-in-events-answer-now g.S.Servant.meaning
