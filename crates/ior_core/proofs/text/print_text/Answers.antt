use Rattle.std.proofs.Common.{rules}
use Rattle.ior_core.proofs.text.print_text.Goals as goal

pub returns-in_err-encapsulated : goal.returns-in_err-encapsulated
returns-in_err-encapsulated c = search rules

pub returns-in_err-digits : goal.returns-in_err-digits
returns-in_err-digits c = search rules

pub returns-in_err-text : goal.returns-in_err-text
returns-in_err-text c = search rules

pub returns-in_err-push_str : goal.returns-in_err-push_str
returns-in_err-push_str c = search rules

pub returns : goal.returns
returns c = search rules
