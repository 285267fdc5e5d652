-- Where a stream is refused: at the first of its frames, or of the headers where a frame would begin, whose judgement is
-- a fault.
use Rattle.std.specs.Prelude.{◌≡◌, ℕ, List, [], ◌∷◌, ◌++◌, ◌⊎◌, length, Err}
use Rattle.giop_core.specs.Headers.{header_of}
use Rattle.giop_frames.specs.declared.fault.StreamFault.{StreamFault}
use Rattle.giop_frames.specs.declared.limits.Limits.{Limits}
use Rattle.giop_frames.specs.Fragments.{Bad, Done, Quiet, Verdict, judged}
use Rattle.giop_frames.specs.Frames.{Frame, judged_header}
use Rattle.giop_frames.specs.Splitting.{IsFrame, Splits}

-- octets begin with twelve that are judged as a header, and refused
pub record RefusesHeader (limits : Limits) (octets : List ℕ) (e : StreamFault) : Type 0 where
  pub head : List ℕ
  pub later : List ℕ
  pub parts : octets ≡ head ++ later
  pub twelve : length head ≡ 12
  pub judged : judged_header limits (header_of head) ≡ Err e

-- octets begin with a frame that is refused, after those earlier ones
pub record RefusesFrame (limits : Limits) (earlier : List Frame) (octets : List ℕ) (e : StreamFault) : Type 0 where
  pub frame : Frame
  pub front : List ℕ
  pub later : List ℕ
  pub parts : octets ≡ front ++ later
  pub is : IsFrame limits frame front
  pub judged : judged limits earlier frame ≡ Bad e

-- a judgement that is no fault
abbrev pub IsFine : Verdict → Type 0
IsFine (Bad e) = ⊥
IsFine Quiet = Unit {0}
IsFine (Done m) = Unit {0}

-- each of these frames is judged fine, after those before it
abbrev pub AreFine : Limits → List Frame → List Frame → Type 0
AreFine limits earlier [] = Unit {0}
AreFine limits earlier (f ∷ fs) = IsFine (judged limits earlier f) × AreFine limits (f ∷ earlier) fs

-- frames after earlier ones, the latest first
abbrev pub after : List Frame → List Frame → List Frame
after earlier [] = earlier
after earlier (f ∷ fs) = after (f ∷ earlier) fs

-- a stream is frames that are judged fine, and then octets of which a header or a frame is refused
pub record Refuses (limits : Limits) (s : List ℕ) (e : StreamFault) : Type 0 where
  pub frames : List Frame
  pub front : List ℕ
  pub later : List ℕ
  pub parts : s ≡ front ++ later
  pub splits : Splits limits front frames []
  pub fine : AreFine limits [] frames
  pub refused : RefusesHeader limits later e ⊎ RefusesFrame limits (after [] frames) later e
