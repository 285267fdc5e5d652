use Rattle.std.proofs.Common.{rules}
use Rattle.giop_frames.proofs.naming.Named.is.Goals as goal

pub returns-in-Id : goal.returns-in-Id
returns-in-Id c = search rules

pub returns-in-Unread : goal.returns-in-Unread
returns-in-Unread c = search rules
