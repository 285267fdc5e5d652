use Rattle.giop_proxy.proofs.CutAgain.{cuts_take}
use Rattle.giop_proxy.proofs.placing_laws.cuts_take_headers.Goals as goal

pub returns : goal.returns
returns c = cuts_take
