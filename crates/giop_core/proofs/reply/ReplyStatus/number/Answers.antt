use Rattle.std.proofs.Common.{rules}
use Rattle.giop_core.proofs.reply.ReplyStatus.number.Goals as goal

pub returns-in-NoException : goal.returns-in-NoException
returns-in-NoException c = search rules

pub returns-in-UserException : goal.returns-in-UserException
returns-in-UserException c = search rules

pub returns-in-SystemException : goal.returns-in-SystemException
returns-in-SystemException c = search rules

pub returns-in-LocationForward : goal.returns-in-LocationForward
returns-in-LocationForward c = search rules

pub returns-in-LocationForwardPerm : goal.returns-in-LocationForwardPerm
returns-in-LocationForwardPerm c = search rules
