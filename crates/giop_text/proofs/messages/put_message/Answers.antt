use Rattle.std.proofs.Common.{arith, rules}
use Rattle.std.proofs.lemmas.Grind.{common_steps}
use Rattle.giop_text.proofs.messages.put_message.Goals as goal

pub returns-in_err-write : goal.returns-in_err-write
returns-in_err-write c = search rules

pub returns : goal.returns
returns c = grind (arith, common_steps)
