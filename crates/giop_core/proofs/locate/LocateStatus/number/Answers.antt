use Rattle.std.proofs.Common.{rules}
use Rattle.giop_core.proofs.locate.LocateStatus.number.Goals as goal

pub returns-in-UnknownObject : goal.returns-in-UnknownObject
returns-in-UnknownObject c = search rules

pub returns-in-ObjectHere : goal.returns-in-ObjectHere
returns-in-ObjectHere c = search rules

pub returns-in-ObjectForward : goal.returns-in-ObjectForward
returns-in-ObjectForward c = search rules

pub returns-in-ObjectForwardPerm : goal.returns-in-ObjectForwardPerm
returns-in-ObjectForwardPerm c = search rules

pub returns-in-SystemException : goal.returns-in-SystemException
returns-in-SystemException c = search rules
