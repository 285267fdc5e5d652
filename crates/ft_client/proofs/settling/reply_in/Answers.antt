use Rattle.std.proofs.Common.{rules}
use Rattle.ft_client.proofs.settling.reply_in.Goals as goal

pub returns-in_err-copied-in-Reply : goal.returns-in_err-copied-in-Reply
returns-in_err-copied-in-Reply c = search rules

pub returns-in_err-copied-in-Forward : goal.returns-in_err-copied-in-Forward
returns-in_err-copied-in-Forward c = search rules

pub returns : goal.returns
returns c = search rules
