use Rattle.std.proofs.Common.{◌≡◌, ◌+◌, ◌<◌, ◌^◌, ◌++◌, [], length}
use Rattle.std.specs.List.{flat_map}
use Rattle.giop_frames.specs.Cutting.{fragments_of, frame_octets, chunks_from}
use Rattle.giop_frames.specs.Private.{IsAppended}
use Rattle.giop_frames.proofs.fragmenter.put_fragments.Given as goal

abbrev pub invariant-loop-left : goal.invariant-loop-left
invariant-loop-left l = record {
  same : l.out.items ++ flat_map frame_octets (fragments_of l.header l.id (chunks_from l.payload [] l.left)) ≡ l.fn.out.items ++ flat_map frame_octets (fragments_of l.header l.id (chunks_from l.payload [] l.octets));
  more : IsAppended l.fn.out.items l.out.items;
  small : length l.id + length l.left < 2 ^ 32;
}

abbrev pub decreases-loop-left : goal.decreases-loop-left
decreases-loop-left l = length l.left
