use Rattle.ft_objects.proofs.Emptiness.{none_offered, none_there}
use Rattle.ft_objects.proofs.interfaces.Interfaces.is_empty.Goals as goal

pub returns : goal.returns
returns c = (λ is. none_offered c.args.self.now.objects (c.is_empty.ensures.0 is), λ none. c.is_empty.ensures.1 (none_there c.args.self.now.objects none))
