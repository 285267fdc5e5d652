use Rattle.giop_proxy.proofs.CutAgain.{cut_again}
use Rattle.giop_proxy.proofs.placing_laws.cut_messages_are_read.Goals as goal

pub returns : goal.returns
returns c = cut_again c.headers_are_read_again.ensures
