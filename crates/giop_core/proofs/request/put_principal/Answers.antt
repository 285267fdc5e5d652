use Rattle.std.proofs.Common.{rules}
use Rattle.giop_core.proofs.request.put_principal.Goals as goal

pub returns : goal.returns
returns c = search rules
