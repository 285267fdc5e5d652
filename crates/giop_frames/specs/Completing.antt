-- What each message of a stream is, and where messages complete.
use Rattle.std.specs.Prelude.{◌≡◌, ℕ, ◌+◌, ◌≤◌, false, List, [], ◌∷◌, length, IsOk}
use Rattle.std.specs.List.{AllByRecursion}
use Rattle.giop_core.specs.declared.header.MessageKind.TheVariants.{Fragment}
use Rattle.giop_frames.specs.declared.limits.Limits.{Limits}
use Rattle.giop_frames.specs.Fragments.{content_of}
use Rattle.giop_frames.specs.Frames.{Frame}
use Rattle.giop_frames.specs.Streams.{Completed}

-- a message that completes reads, is whole by its header, is within the limit, and is no Fragment
pub record IsMessage (limits : Limits) (m : Frame) : Type 0 where
  pub reads : IsOk (content_of m.header m.octets)
  pub alone : m.header.more ≡ false
  pub size : m.header.size ≡ length m.octets
  pub within : 12 + length m.octets ≤ limits.message
  pub kind : m.header.kind ≡ Fragment → ⊥

-- so is each of these
abbrev pub AreMessages : Limits → List Completed → Type 0
AreMessages limits ms = AllByRecursion (λ m. IsMessage limits m.message) ms

-- each completes twelve octets or more after the one before, the first after the place n, and none after the end
abbrev pub AreRising : ℕ → ℕ → List Completed → Type 0
AreRising n end [] = Unit {0}
AreRising n end (m ∷ ms) = (n + 12 ≤ m.place) × (m.place ≤ end) × AreRising m.place end ms
