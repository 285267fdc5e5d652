use Rattle.ft_lives.proofs.Together.{lives-act-once}
use Rattle.ft_lives.proofs.laws.lives_act_once.Goals as goal

pub returns : goal.returns
returns c lives = lives-act-once lives c.streams_are_heard.ensures.grows
