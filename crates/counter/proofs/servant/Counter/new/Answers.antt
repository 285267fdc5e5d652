use Rattle.std.proofs.Common.{rules}
use Rattle.counter.proofs.servant.Counter.new.Goals as goal

pub returns-in_err-add_signature : goal.returns-in_err-add_signature
returns-in_err-add_signature c = search rules

pub returns-in_err-get_signature : goal.returns-in_err-get_signature
returns-in_err-get_signature c = search rules

pub returns : goal.returns
returns c = search rules
