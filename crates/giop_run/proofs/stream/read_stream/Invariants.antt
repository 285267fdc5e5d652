use Rattle.std.proofs.Common.{length, take, ◌-◌, ◌≡◌, ◌≤◌}
use Rattle.std.specs.Io.KnownBytes.{Appends}
use Rattle.giop_frames.specs.Standing.{StandsFor}
use Rattle.giop_frames.specs.Streams.{messages_of}
use Rattle.giop_run.specs.Private.{printed}
use Rattle.giop_run.specs.StreamLines.{stream_lines}
use Rattle.giop_run.proofs.stream.read_stream.Given as goal

-- the assembler stands for the octets that were taken, and the messages in them are counted and printed
abbrev pub invariant-loop-taken : goal.invariant-loop-taken
invariant-loop-taken g l = record {
  within : l.taken ≤ length l.octets;
  few : l.messages ≤ l.taken;
  limits : l.assembler.limits ≡ l.fn.limits;
  stands : StandsFor l.assembler (take l.taken l.octets);
  count : l.messages ≡ length (messages_of l.fn.limits (take l.taken l.octets));
  lines : Appends (g.W.Write.contents l.fn.out) (g.W.Write.contents l.out) (printed l.fn.detail (stream_lines l.fn.limits (take l.taken l.octets)));
}

-- at least one octet is taken each time
abbrev pub decreases-loop-taken : goal.decreases-loop-taken
decreases-loop-taken g l = length l.octets - l.taken
