use Rattle.std.proofs.Common.{◌≡◌, ◌+◌, drop}
use Rattle.giop_frames.specs.Standing.{entries, parts_held}
use Rattle.giop_frames.proofs.assembler.parts_held.Given as goal

abbrev pub invariant-loop-part : goal.invariant-loop-part
invariant-loop-part l = l.held + parts_held (entries (drop l.part-index l.parts)) ≡ parts_held (entries l.parts)
