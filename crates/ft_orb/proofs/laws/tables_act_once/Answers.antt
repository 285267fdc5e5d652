use Rattle.ft_orb.proofs.Headline.{plays-agree, servant-is, writes-agree}
use Rattle.ft_orb.proofs.laws.tables_act_once.Goals as goal

pub returns-clause-event : goal.returns-clause-event
returns-clause-event g c = λ made. writes-agree g.S.Servant.meaning made

pub returns-clause-play : goal.returns-clause-play
returns-clause-play g c = λ made. plays-agree g.S.Servant.meaning made

pub returns-clause-servant : goal.returns-clause-servant
returns-clause-servant g c = λ made. servant-is g.S.Servant.meaning made
