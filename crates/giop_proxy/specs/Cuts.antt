-- GIOP 9.4.9: a message of 1.1, cut at given places into a first frame and Fragments. Where it is cut is free: the clause does not
-- say from where what stands in a Fragment of 1.1 is aligned, so a body that is passed on is cut where it was.
use Rattle.std.specs.Prelude.{◌≡◌, ℕ, ◌+◌, ◌-◌, ◌*◌, ◌<◌, ◌≤◌, true, List, [], ◌∷◌, length, take, drop, map, None, Ok, IsOk}
use Rattle.std.specs.List.{flat_map}
use Rattle.giop_core.specs.declared.header.Header.{Header}
use Rattle.giop_core.specs.Headers.{header_of}
use Rattle.giop_frames.specs.declared.limits.Limits.{Limits}
use Rattle.giop_frames.specs.declared.limits.Cuts.TheVariants.{Anywhere}
use Rattle.giop_frames.specs.declared.partial.Key.TheVariants.{Of11}
use Rattle.giop_frames.specs.Cutting.{first_frame, fragments_of, frame_octets, is_cuttable_11}
use Rattle.giop_frames.specs.Fragments.{content_of, partial_of, partials_in}
use Rattle.giop_frames.specs.Frames.{Frame}
use Rattle.giop_frames.specs.ReadAgain.{Completes, under}
use Rattle.giop_frames.specs.Streams.{fault_of, frames_of, rest_of}

-- octets, of which the first stands at a place, in chunks that end at these places, and a last one; at a place that has passed
-- a chunk of no octets ends, and at one behind the end all that is left
abbrev pub chunks_at : ℕ → List ℕ → List ℕ → List (List ℕ)
chunks_at from [] octets = octets ∷ []
chunks_at from (at ∷ ats) octets = take (at - from) octets ∷ chunks_at (from + (at - from)) ats (drop (at - from) octets)

-- chunks as a first frame and Fragments
abbrev pub frames_at : Header → List (List ℕ) → List Frame
frames_at h [] = []
frames_at h (chunk ∷ chunks) = first_frame h chunk ∷ fragments_of h [] chunks

-- the places of cuts in a message, by those in its body, which begins at a place
abbrev pub in_message : ℕ → List ℕ → List ℕ
in_message place cuts = map (λ at. place + at) cuts

-- a message under a header, cut at these places of its body; without a cut it is left as it is
abbrev pub cut_octets : ℕ → List ℕ → Header → List ℕ → List ℕ
cut_octets place [] h message = message
cut_octets place (at ∷ ats) h message = flat_map frame_octets (frames_at h (chunks_at 12 (in_message place (at ∷ ats)) (drop 12 message)))

-- A message of 1.1 is read again from what it is cut into, alone and whole, at the end of a stream without a fault and without a
-- rest, where no message of 1.1 is partial, one more may be, and messages may be cut anywhere, if it is valid within the limit.
abbrev pub CutIsReadAgain : Type 0
CutIsReadAgain = (limits : Limits) (s message : List ℕ) (place : ℕ) (cuts : List ℕ) (h : Header)
    → fault_of limits s ≡ None → rest_of limits s ≡ [] → partial_of (frames_of limits s) Of11 ≡ None → partials_in (frames_of limits s) < limits.partials
    → limits.cuts ≡ Anywhere → is_cuttable_11 message ≡ true → header_of (take 12 message) ≡ Ok h
    → length message ≤ limits.message → IsOk (content_of h (drop 12 message))
    → Completes limits s (cut_octets place cuts h message) (under h message)

-- Each cut adds the twelve octets of one header.
abbrev pub CutsTakeHeaders : Type 0
CutsTakeHeaders = (message : List ℕ) (place : ℕ) (cuts : List ℕ) (h : Header) → 12 ≤ length message
    → length (cut_octets place cuts h message) ≡ length message + 12 * length cuts
