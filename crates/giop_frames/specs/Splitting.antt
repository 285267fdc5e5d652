-- A stream as frames and a rest, without a reader.
use Rattle.std.specs.Prelude.{◌≡◌, ℕ, List, [], ◌∷◌, ◌++◌, length, take, drop, Ok}
use Rattle.giop_core.specs.Headers.{header_of}
use Rattle.giop_frames.specs.declared.limits.Limits.{Limits}
use Rattle.giop_frames.specs.Frames.{Frame, admitted, frame_size}

-- GIOP 9.4.1: the octets are those of a header that is admitted, and as many after it as it says
pub record IsFrame (limits : Limits) (f : Frame) (octets : List ℕ) : Type 0 where
  pub header : header_of (take 12 octets) ≡ Ok f.header
  pub taken : admitted limits f.header ≡ Ok f.header
  pub long : length octets ≡ frame_size f.header
  pub rest : f.octets ≡ drop 12 octets

-- the stream is these frames, one after the other, and then the rest
abbrev pub Splits : Limits → List ℕ → List Frame → List ℕ → Type 0
Splits limits s [] rest = s ≡ rest
Splits limits s (f ∷ fs) rest = (front : List ℕ) × (later : List ℕ) × (s ≡ front ++ later) × IsFrame limits f front × Splits limits later fs rest
