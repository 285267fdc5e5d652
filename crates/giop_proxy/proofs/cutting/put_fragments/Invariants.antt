use Rattle.std.proofs.Common.{◌≡◌, ◌<◌, ◌^◌, ◌++◌, [], length, drop}
use Rattle.std.specs.List.{flat_map}
use Rattle.giop_frames.specs.Cutting.{fragments_of, frame_octets}
use Rattle.giop_frames.specs.Private.{IsAppended}
use Rattle.giop_proxy.specs.Cuts.{chunks_at, in_message}
use Rattle.giop_proxy.proofs.cutting.put_fragments.Given as goal

abbrev pub invariant-loop-at : goal.invariant-loop-at
invariant-loop-at l = record {
  same : l.out.items ++ flat_map frame_octets (fragments_of l.header [] (chunks_at l.from (in_message l.place (drop l.at-index l.cuts)) l.left)) ≡ l.fn.out.items ++ flat_map frame_octets (fragments_of l.header [] (chunks_at l.start (in_message l.place l.cuts) l.octets));
  more : IsAppended l.fn.out.items l.out.items;
  near : l.from < 2 ^ 34;
  small : length l.left < 2 ^ 32;
}
