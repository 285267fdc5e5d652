use Rattle.std.proofs.Common.{◌≡◌, take, string_bytes}
use Rattle.giop_text.specs.Text as text
use Rattle.giop_text.proofs.text.text_of.Given as goal

-- the octets so far stand in the line
abbrev pub invariant-loop-octet : goal.invariant-loop-octet
invariant-loop-octet l = string_bytes l.line ≡ text.text_of (take l.octet-index l.octets)
