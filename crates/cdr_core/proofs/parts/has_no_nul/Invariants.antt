use Rattle.std.proofs.Common.{◌↔◌, drop}
use Rattle.cdr_core.specs.Spelling.{IsClean}
use Rattle.cdr_core.proofs.parts.has_no_nul.Given as goal

abbrev pub invariant-loop-octet : goal.invariant-loop-octet
invariant-loop-octet l = IsClean l.text ↔ IsClean (drop l.octet-index l.text)
