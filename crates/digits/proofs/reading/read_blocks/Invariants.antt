use Rattle.std.proofs.Common.{◌-◌, ◌*◌, ◌≤◌, length}
use Rattle.std.specs.Vec.{vec_capacity, vec_len}
use Rattle.digits.specs.Private.{IsRead}
use Rattle.digits.proofs.reading.read_blocks.Given as goal

-- blocks alone were read, and their octets are there
abbrev pub invariant-loop-at : goal.invariant-loop-at
invariant-loop-at l = record {
  from : l.from ≤ l.at;
  within : l.at ≤ length l.text;
  few : 2 * vec_len l.octets ≤ l.at;
  room : vec_capacity l.fn.octets ≤ vec_capacity l.octets;
  read : IsRead l.text l.from l.at l.fn.octets.items l.octets.items;
}

abbrev pub decreases-loop-at : goal.decreases-loop-at
decreases-loop-at l = length l.text - l.at
