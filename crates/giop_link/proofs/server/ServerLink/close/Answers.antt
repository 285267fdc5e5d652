use Rattle.std.proofs.Common.{rules}
use Rattle.giop_link.proofs.server.ServerLink.close.Goals as goal

pub returns-in_err-write_close-clause-err : goal.returns-in_err-write_close-clause-err
returns-in_err-write_close-clause-err c = search rules

pub returns-clause-ok : goal.returns-clause-ok
returns-clause-ok c = search rules

pub returns-clause-closed : goal.returns-clause-closed
returns-clause-closed c = search rules
