use Rattle.ft_ends.proofs.Worlds.{both-ends-act-once}
use Rattle.ft_ends.proofs.laws.both_ends_act_once.Goals as goal

pub returns : goal.returns
returns g c = both-ends-act-once g.S.Servant.meaning c.clients_keep_their_laws.ensures c.keys_act_once.ensures.once c.streams_are_heard.ensures.grows c.answers_are_short.ensures c.directions_are_faithful.ensures
