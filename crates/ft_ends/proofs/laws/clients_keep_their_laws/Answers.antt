use Rattle.ft_ends.proofs.laws.clients_keep_their_laws.Goals as goal

pub returns : goal.returns
returns c = record { once = c.a_call_completes_once.ensures; goes_on = c.a_life_goes_on.ensures; as_long = c.requests_are_as_long.ensures }
