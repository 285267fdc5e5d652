use Rattle.std.proofs.Common.{◌≡◌, ◌≤◌, length, take}
use Rattle.digits.specs.Private.{without_blanks}
use Rattle.digits.proofs.reading.refusal.Given as goal

-- the digits so far are counted
abbrev pub invariant-loop-octet : goal.invariant-loop-octet
invariant-loop-octet l = record {
  counted : l.count ≡ length (without_blanks (take l.octet-index l.text));
  few : l.count ≤ l.octet-index;
}
