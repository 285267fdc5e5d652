-- Octets to frames (GIOP 9.4.1): a frame is a header and the octets after it; where a frame ends, and where a header is
-- refused.
use Rattle.std.specs.Prelude.{ℕ, ◌+◌, ◌%◌, ◌==◌, ◌&&◌, ◌||◌, nat_lt, not, Bool, false, List, [], ◌∷◌, ◌++◌, length, take, drop, Option, Some, None, Result, Ok, Err, if◌then◌else◌}
use Rattle.giop_core.specs.declared.header.Header.{Header}
use Rattle.giop_core.specs.declared.header.HeaderFault.{HeaderFault}
use Rattle.giop_core.specs.declared.header.Version.{Version}
use Rattle.giop_core.specs.Headers.{header_of}
use Rattle.giop_core.specs.Rows.{has_id_first}
use Rattle.giop_frames.specs.declared.fault.StreamFault.{StreamFault}
use Rattle.giop_frames.specs.declared.fault.StreamFault.TheVariants.{Header as BadHeader, TooLarge, UnalignedFragment}
use Rattle.giop_frames.specs.declared.limits.Cuts.{Cuts}
use Rattle.giop_frames.specs.declared.limits.Cuts.TheVariants.{Aligned, Anywhere}
use Rattle.giop_frames.specs.declared.limits.Limits.{Limits}

-- a header, and the octets after it
pub record Frame : Type 0 where
  pub header : Header
  pub octets : List ℕ

-- GIOP 9.4.1: how many octets a frame has; a header says how many come after it
abbrev pub frame_size : Header → ℕ
frame_size h = 12 + h.size

-- GIOP 9.4.9: how many octets of a Fragment come before its payload: those of its request id, where the version has it there
abbrev pub id_length : Version → ℕ
id_length v = if has_id_first v then 4 else 0

-- GIOP 9.4.9: the length modulo 8 of each frame of a cut message but the last, such that the octets after the header of a
-- Fragment, and after its request id, stand, modulo 8, where they stand in the whole message: in 1.2 it is divisible by 8.
-- Own rule, where the clause is silent: in 1.1, where a Fragment has no id, it is 4 modulo 8.
abbrev pub cut_place : Version → ℕ
cut_place v = (12 + id_length v) % 8

-- Own rule: limits may let messages of 1.1 be cut after any octet, since frames are joined by their octets.
abbrev pub has_free_cuts : Cuts → Version → Bool
has_free_cuts Aligned v = false
has_free_cuts Anywhere v = not (has_id_first v)

-- whether a message may be cut after a frame of n octets
abbrev pub may_be_cut : Cuts → Version → ℕ → Bool
may_be_cut cuts v n = has_free_cuts cuts v || (n % 8 == cut_place v)

-- more frames follow one after which it may not
abbrev pub is_unaligned : Cuts → Header → Bool
is_unaligned cuts h = h.more && not (may_be_cut cuts h.version (frame_size h))

-- a header judged by itself, under the limits; the order of these judgements is an own rule
abbrev pub admitted : Limits → Header → Result Header StreamFault
admitted limits h =
    if nat_lt limits.message (frame_size h) then Err TooLarge else
    (if is_unaligned limits.cuts h then Err UnalignedFragment else Ok h)

-- the first twelve octets of a frame, judged
abbrev pub judged_header : Limits → Result Header HeaderFault → Result Header StreamFault
judged_header limits (Err e) = Err (BadHeader e)
judged_header limits (Ok h) = admitted limits h

-- what octets are that begin where a frame begins: too few, a whole frame, or refused at the header
pub data Sight : Type 0 where
  Waiting : Sight
  Whole : Frame → Sight
  Refused : StreamFault → Sight

-- octets under the header that their first twelve give
abbrev pub under_header : List ℕ → Result Header StreamFault → Sight
under_header b (Err e) = Refused e
under_header b (Ok h) = if nat_lt (length b) (frame_size h) then Waiting else Whole (record { header = h; octets = drop 12 b })

-- a header is judged as soon as its twelve octets have come (own rule)
unfoldable pub sight : Limits → List ℕ → Sight
sight limits b = if nat_lt (length b) 12 then Waiting else under_header b (judged_header limits (header_of (take 12 b)))

-- a stream as frames, then a rest that is no whole frame, and the fault of a header, if one is refused
pub record Split : Type 0 where
  pub frames : List Frame
  pub rest : List ℕ
  pub fault : Option StreamFault

-- a stream as frames, with one frame before
abbrev pub after_frame : Frame → Split → Split
after_frame f s = record s { frames = f ∷ s.frames }

-- octet by octet: each is buffered, until they are a frame
abbrev pub split_from : Limits → List ℕ → List ℕ → Split
split_from limits waiting [] = record { frames = []; rest = waiting; fault = None }
split_from limits waiting (x ∷ xs) =
    elim (sight limits (waiting ++ x ∷ [])) [
      | Waiting ↦ split_from limits (waiting ++ x ∷ []) xs
      | Whole f ↦ after_frame f (split_from limits [] xs)
      | Refused e ↦ record { frames = []; rest = waiting ++ x ∷ []; fault = Some e }
    ]

-- a stream as frames
unfoldable pub split : Limits → List ℕ → Split
split limits s = split_from limits [] s
