use Rattle.giop_proxy.proofs.Places.{requests_placed}
use Rattle.giop_proxy.proofs.placing_laws.requests_have_places.Goals as goal

pub returns : goal.returns
returns c = requests_placed
