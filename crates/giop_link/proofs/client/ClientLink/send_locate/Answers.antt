use Rattle.std.proofs.Common.{rules}
use Rattle.giop_link.proofs.client.ClientLink.send_locate.Goals as goal

pub returns-in-Some-clause-err : goal.returns-in-Some-clause-err
returns-in-Some-clause-err c = search rules

pub returns-in_err-before-clause-err : goal.returns-in_err-before-clause-err
returns-in_err-before-clause-err c = search rules

pub returns-in-Err-clause-err : goal.returns-in-Err-clause-err
returns-in-Err-clause-err c = search rules

pub returns-clause-ok : goal.returns-clause-ok
returns-clause-ok c = search rules

pub returns-clause-out : goal.returns-clause-out
returns-clause-out c = search rules

pub returns-clause-sent : goal.returns-clause-sent
returns-clause-sent c = search rules

pub returns-clause-stands : goal.returns-clause-stands
returns-clause-stands c = search rules
