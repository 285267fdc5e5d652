use Rattle.ft_orb.specs.Engines.{as_server}
use Rattle.ft_orb.specs.Owners.{made_of, meaning_of}
use Rattle.ft_orb.proofs.Said.{servant-now}
use Rattle.ft_orb.proofs.engine.Engine.calls_are_answered_now.Goals as goal

pub returns : goal.returns
returns g c owner calls past h = servant-now (meaning_of owner) (made_of owner) (as_server c.args.self.now calls) past h.stands
