-- What is kept of the frames of a stream, without a reader.
use Rattle.std.specs.Prelude.{◌≡◌, ℕ, List, [], ◌∷◌, ◌++◌, length, take, drop, Ok, None}
use Rattle.giop_core.specs.Headers.{header_of}
use Rattle.giop_frames.specs.declared.limits.Limits.{Limits}
use Rattle.giop_frames.specs.Frames.{Frame, Waiting, frame_size}
use Rattle.giop_proxy.specs.Passing.{kept_size, sight, split}

-- GIOP 9.4.1: the octets are those of a header, and as many after it as it says; of these so many are kept
pub record IsKeptOf (limits : Limits) (f : Frame) (octets : List ℕ) : Type 0 where
  pub header : header_of (take 12 octets) ≡ Ok f.header
  pub long : length octets ≡ frame_size f.header
  pub kept : f.octets ≡ drop 12 (take (kept_size limits f.header) octets)

-- the stream is these frames, one after the other, and then the rest
abbrev pub KeepsFrames : Limits → List ℕ → List Frame → List ℕ → Type 0
KeepsFrames limits s [] rest = s ≡ rest
KeepsFrames limits s (f ∷ fs) rest = (front : List ℕ) × (later : List ℕ) × (s ≡ front ++ later) × IsKeptOf limits f front × KeepsFrames limits later fs rest

-- A stream that is frames and a rest of which no frame can be told yet has these frames, of which so much is kept.
abbrev pub FramesAreTheOnes : Type 0
FramesAreTheOnes = (limits : Limits) (s : List ℕ) (fs : List Frame) (rest : List ℕ) → KeepsFrames limits s fs rest → sight limits rest ≡ Waiting → split limits s ≡ record { frames = fs; rest = rest; over = 0; fault = None }
