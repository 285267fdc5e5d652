use Rattle.std.proofs.Common.{◌≡◌, ◌-◌, ◌*◌, ◌/◌, ◌<◌, ◌≤◌, false, length, drop, slice_index}
use Rattle.std.specs.Vec.{vec_capacity, vec_len}
use Rattle.digits.specs.Digits.{is_blank}
use Rattle.digits.specs.Private.{after, given, without_blanks}
use Rattle.digits.proofs.reading.octets_of.Given as goal

-- the octets so far stand before those that the rest gives, and they have room
abbrev pub invariant-loop-at : goal.invariant-loop-at
invariant-loop-at l = record {
  within : l.at ≤ length l.text;
  stops : l.at < length l.text → is_blank (slice_index l.text l.at) ≡ false;
  whole : given (without_blanks l.text) ≡ after l.octets.items (given (without_blanks (drop l.at l.text)));
  few : 2 * vec_len l.octets ≤ l.at;
  room : length l.text / 2 ≤ vec_capacity l.octets;
}

abbrev pub decreases-loop-at : goal.decreases-loop-at
decreases-loop-at l = length l.text - l.at
