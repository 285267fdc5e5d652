use Rattle.std.proofs.Common.{length, take, ◌-◌, ◌≡◌, ◌≤◌}
use Rattle.giop_frames.specs.Standing.{StandsFor}
use Rattle.giop_frames.specs.Streams.{messages_of}
use Rattle.uses.proofs.capture.read_capture.Given as goal

-- the assembler stands for the octets that were taken, and the messages in them are counted
abbrev pub invariant-loop-taken : goal.invariant-loop-taken
invariant-loop-taken l = record {
  within : l.taken ≤ length l.octets;
  few : l.messages ≤ l.taken;
  limits : l.assembler.limits ≡ l.fn.limits;
  stands : StandsFor l.assembler (take l.taken l.octets);
  count : l.messages ≡ length (messages_of l.fn.limits (take l.taken l.octets));
}

-- at least one octet is taken each time
abbrev pub decreases-loop-taken : goal.decreases-loop-taken
decreases-loop-taken l = length l.octets - l.taken
