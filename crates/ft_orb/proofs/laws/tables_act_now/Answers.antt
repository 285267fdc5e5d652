use Rattle.ft_orb.proofs.Said.{events-act-now, plays-act-now, servants-act-now}
use Rattle.ft_orb.proofs.laws.tables_act_now.Goals as goal

pub returns-clause-event : goal.returns-clause-event
returns-clause-event g c = events-act-now g.S.Servant.meaning

pub returns-clause-play : goal.returns-clause-play
returns-clause-play g c = plays-act-now g.S.Servant.meaning

pub returns-clause-servant : goal.returns-clause-servant
returns-clause-servant g c = servants-act-now g.S.Servant.meaning
