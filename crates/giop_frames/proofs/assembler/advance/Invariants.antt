use Rattle.std.proofs.Common.{◌≡◌, ℕ, ◌-◌, ◌≤◌, List, [], length, take, None}
use Rattle.giop_frames.specs.Private.{Needs, IsStep}
use Rattle.giop_frames.specs.Standing.{AreWithin, entries}
use Rattle.giop_frames.specs.Streams.{Stands}
use Rattle.giop_frames.proofs.assembler.advance.Given as goal

abbrev pub invariant-loop-taken : goal.invariant-loop-taken
invariant-loop-taken l = record {
  in_range : l.taken ≤ length l.piece;
  needed : Needs l.limits l.frame.items l.needed;
  stands : (s : List ℕ) → Stands l.limits l.fn.frame.items (entries l.fn.parts.items) s → IsStep l.limits s (take l.taken l.piece) None l.frame.items (entries l.parts.items);
  empty : l.piece ≡ [] → (l.frame.items ≡ l.fn.frame.items) × (l.parts.items ≡ l.fn.parts.items);
  within : AreWithin l.limits (entries l.fn.parts.items) → AreWithin l.limits (entries l.parts.items);
}

abbrev pub decreases-loop-taken : goal.decreases-loop-taken
decreases-loop-taken l = length l.piece - l.taken
