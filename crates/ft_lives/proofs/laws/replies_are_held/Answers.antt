use Rattle.ft_lives.proofs.Repeated.{repeats-are-held, told-are-held, unkept-are-right, waiters-are-told-rightly}
use Rattle.ft_lives.proofs.laws.replies_are_held.Goals as goal

pub returns-clause-repeats : goal.returns-clause-repeats
returns-clause-repeats c lives = repeats-are-held lives c.streams_are_heard.ensures.grows

pub returns-clause-told : goal.returns-clause-told
returns-clause-told c lives = told-are-held lives c.streams_are_heard.ensures.grows

pub returns-clause-unkept : goal.returns-clause-unkept
returns-clause-unkept c = unkept-are-right

pub returns-clause-waiters : goal.returns-clause-waiters
returns-clause-waiters c lives = waiters-are-told-rightly lives c.streams_are_heard.ensures.grows
