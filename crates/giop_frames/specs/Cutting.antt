-- GIOP 9.4.9: a message, cut into a first frame and Fragments.
use Rattle.std.specs.Prelude.{ℕ, ◌+◌, ◌-◌, ◌==◌, ◌&&◌, nat_le, not, Bool, true, false, List, [], ◌∷◌, ◌++◌, length, take, drop, Result, Ok, Err, if◌then◌else◌}
use Rattle.std.specs.List.{flat_map}
use Rattle.giop_core.specs.declared.header.Header.{Header}
use Rattle.giop_core.specs.declared.header.HeaderFault.{HeaderFault}
use Rattle.giop_core.specs.declared.header.MessageKind.{MessageKind}
use Rattle.giop_core.specs.declared.header.MessageKind.TheVariants.{Fragment}
use Rattle.giop_core.specs.declared.header.Version.{Version}
use Rattle.giop_core.specs.declared.header.Version.TheVariants.{V11, V12}
use Rattle.giop_core.specs.Headers.{can_be_cut, header_octets, header_of, minor_of}
use Rattle.giop_frames.specs.Frames.{Frame, frame_size, id_length}

-- a Fragment is a part of a message that is cut, and no message
abbrev pub is_fragment : MessageKind → Bool
is_fragment Fragment = true
is_fragment _ = false

-- a header of so many octets that are one whole message of a version that can be cut
abbrev pub is_cuttable_under : Version → ℕ → Result Header HeaderFault → Bool
is_cuttable_under v n (Err e) = false
is_cuttable_under v n (Ok h) = (minor_of h.version == minor_of v) && can_be_cut h.version h.kind && not (is_fragment h.kind) && not h.more && (frame_size h == n)

-- octets that are one whole message of a version that can be cut
abbrev pub is_cuttable_in : Version → List ℕ → Bool
is_cuttable_in v octets = nat_le 12 (length octets) && is_cuttable_under v (length octets) (header_of (take 12 octets))

-- one of 1.2 ..
abbrev pub is_cuttable : List ℕ → Bool
is_cuttable octets = is_cuttable_in V12 octets

-- .. or of 1.1
abbrev pub is_cuttable_11 : List ℕ → Bool
is_cuttable_11 octets = is_cuttable_in V11 octets

-- the octets of a frame
abbrev pub frame_octets : Frame → List ℕ
frame_octets f = header_octets f.header ++ f.octets

-- octets in chunks of n, but for the last, which has what remains; the first chunk goes on from the octets given
abbrev pub chunks_from : ℕ → List ℕ → List ℕ → List (List ℕ)
chunks_from n chunk [] = chunk ∷ []
chunks_from n chunk (x ∷ xs) = if length chunk == n then chunk ∷ chunks_from n (x ∷ []) xs else chunks_from n (chunk ++ x ∷ []) xs

-- a first frame
abbrev pub first_frame : Header → List ℕ → Frame
first_frame h octets = record { header = record h { more = true; size = length octets }; octets = octets }

-- a Fragment of a request id, of which there are no octets in 1.1, with a payload, and whether more follow
abbrev pub fragment_of : Header → List ℕ → Bool → List ℕ → Frame
fragment_of h id more octets = record { header = record h { kind = Fragment; more = more; size = length id + length octets }; octets = id ++ octets }

-- a Fragment for each chunk, the last without the bit
abbrev pub fragments_of : Header → List ℕ → List (List ℕ) → List Frame
fragments_of h id [] = []
fragments_of h id (p ∷ []) = fragment_of h id false p ∷ []
fragments_of h id (p ∷ (q ∷ ps)) = fragment_of h id true p ∷ fragments_of h id (q ∷ ps)

-- a message under a header in frames of n octets, but for the last; one that is no longer is left as it is
abbrev pub cut_octets : ℕ → Header → List ℕ → List ℕ
cut_octets n h message =
    if nat_le (length message) n then message else
    flat_map frame_octets (first_frame h (drop 12 (take n message)) ∷ fragments_of h (take (id_length h.version) (drop 12 message)) (chunks_from (n - (12 + id_length h.version)) [] (drop n message)))
