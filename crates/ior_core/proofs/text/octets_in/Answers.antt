use Rattle.std.proofs.Common.{rules}
use Rattle.ior_core.proofs.text.octets_in.Goals as goal

pub returns-in_err-digits : goal.returns-in_err-digits
returns-in_err-digits c = search rules

pub returns-in_err-decode : goal.returns-in_err-decode
returns-in_err-decode c = search rules

pub returns : goal.returns
returns c = search rules
