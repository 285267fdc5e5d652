use Rattle.std.proofs.Common.{rules}
use Rattle.giop_link.proofs.client.ClientLink.send_request.Goals as goal

pub returns-in_err-before : goal.returns-in_err-before
returns-in_err-before c = search rules
