-- Octets to frames (GIOP 9.4.1): a stream is one frame after the other, each a header and as many octets after it as that says.
-- Of a frame that is longer than a message may be the beginning is kept, and the rest passed over (own rule).
use Rattle.std.specs.Prelude.{◌≡◌, ℕ, zero, suc, ◌+◌, ◌-◌, ◌≤◌, nat_lt, min, Bool, false, List, [], ◌∷◌, ◌++◌, length, take, drop, Option, Some, None, Result, Ok, Err, if◌then◌else◌}
use Rattle.giop_core.specs.declared.header.Header.{Header}
use Rattle.giop_core.specs.declared.header.HeaderFault.{HeaderFault}
use Rattle.giop_core.specs.Headers.{header_of}
use Rattle.giop_frames.specs.declared.fault.StreamFault.{StreamFault}
use Rattle.giop_frames.specs.declared.fault.StreamFault.TheVariants.{Header as BadHeader, TooLarge, UnalignedFragment, StrayFragment, TwiceStarted, TooManyPartial, Body, MixedOrder, Memory, Failed}
use Rattle.giop_frames.specs.declared.limits.Limits.{Limits}
use Rattle.giop_frames.specs.Frames.{Frame, Sight, Refused, Waiting, Whole, frame_size}

-- whether a frame is longer than a message may be
abbrev pub is_long : Limits → Header → Bool
is_long limits h = nat_lt limits.message (frame_size h)

-- how many octets of a frame are kept: all, or 65,536 at most of one that is longer than a message may be
abbrev pub kept_size : Limits → Header → ℕ
kept_size limits h = if is_long limits h then min limits.message 65536 else frame_size h

-- how many octets of a frame are passed over
abbrev pub over_size : Limits → Header → ℕ
over_size limits h = frame_size h - kept_size limits h

-- the octets that are kept of a frame: too few, all, or refused at the header
abbrev pub under_header : Limits → List ℕ → Result Header HeaderFault → Sight
under_header limits b (Err e) = Refused (BadHeader e)
under_header limits b (Ok h) = if nat_lt (length b) (kept_size limits h) then Waiting else Whole (record { header = h; octets = drop 12 b })

-- what octets are that begin where a frame begins; a header is judged as soon as its twelve octets have come (own rule)
unfoldable pub sight : Limits → List ℕ → Sight
sight limits b = if nat_lt (length b) 12 then Waiting else under_header limits b (header_of (take 12 b))

-- a stream as what is kept of its frames, the octets kept so far of one more, how many octets are passed over before that, and
-- the fault of a header, if one is refused
pub record Split : Type 0 where
  pub frames : List Frame
  pub rest : List ℕ
  pub over : ℕ
  pub fault : Option StreamFault

-- a stream as frames, with one frame before
abbrev pub after_frame : Frame → Split → Split
after_frame f s = record s { frames = f ∷ s.frames }

-- octet by octet: so many are passed over, and then each is kept, until they are what is kept of a frame
abbrev pub split_from : Limits → List ℕ → ℕ → List ℕ → Split
split_from limits waiting over [] = record { frames = []; rest = waiting; over = over; fault = None }
split_from limits waiting (suc over) (x ∷ xs) = split_from limits waiting over xs
split_from limits waiting zero (x ∷ xs) =
    elim (sight limits (waiting ++ x ∷ [])) [
      | Waiting ↦ split_from limits (waiting ++ x ∷ []) 0 xs
      | Whole f ↦ after_frame f (split_from limits [] (over_size limits f.header) xs)
      | Refused e ↦ record { frames = []; rest = waiting ++ x ∷ []; over = 0; fault = Some e }
    ]

-- a stream as frames
unfoldable pub split : Limits → List ℕ → Split
split limits s = split_from limits [] 0 s

-- what is kept of the frames of a stream, before a header that is refused
abbrev pub frames_of : Limits → List ℕ → List Frame
frames_of limits s = (split limits s).frames

-- the fault of the header that is refused, if one is
abbrev pub fault_of : Limits → List ℕ → Option StreamFault
fault_of limits s = (split limits s).fault

-- what callers see of a reader of frames: its limits, whether there was a fault, the octets kept of the frame that has not
-- come, how many are passed over before, and the frame that is lent
pub record Splitting : Type 0 where
  pub limits : Limits
  pub failed : Bool
  pub pending : List ℕ
  pub over : ℕ
  pub frame : Option Frame

-- it stands for the stream s
pub record FramesStand (a : Splitting) (s : List ℕ) : Type 0 where
  pub live : a.failed ≡ false
  pub faultless : fault_of a.limits s ≡ None
  pub waiting : a.pending ≡ (split a.limits s).rest
  pub passed : a.over ≡ (split a.limits s).over

-- the frame that is lent, if one is
abbrev pub given : {A : Type 0} → Option A → List A
given None = []
given (Some f) = f ∷ []

-- whether the frame that is lent is longer than a message may be
abbrev pub is_lent_long : Splitting → Bool
is_lent_long a = elim a.frame [ None ↦ false | Some f ↦ is_long a.limits f.header ]

-- what is kept of it after its header
abbrev pub octets_lent : Option Frame → List ℕ
octets_lent None = []
octets_lent (Some f) = f.octets

-- a fact about the fault of a header; an allocation that failed is none, and there are no others
abbrev pub OnHeaderFault : StreamFault → Type 0 → Type 0
OnHeaderFault Memory P = Unit {0}
OnHeaderFault (BadHeader e) P = P
OnHeaderFault TooLarge P = ⊥
OnHeaderFault UnalignedFragment P = ⊥
OnHeaderFault StrayFragment P = ⊥
OnHeaderFault TwiceStarted P = ⊥
OnHeaderFault TooManyPartial P = ⊥
OnHeaderFault (Body e) P = ⊥
OnHeaderFault MixedOrder P = ⊥
OnHeaderFault Failed P = ⊥

-- the fault of a stream s with more octets, and no frame before it
pub record Refuses (limits : Limits) (s c : List ℕ) (e : StreamFault) : Type 0 where
  pub is : fault_of limits (s ++ c) ≡ Some e
  pub same : frames_of limits (s ++ c) ≡ frames_of limits s

-- an error is that an allocation failed, or the fault of the stream s with more octets
abbrev pub IsFrameFault : Limits → List ℕ → List ℕ → StreamFault → Type 0
IsFrameFault limits s c e = OnHeaderFault e (Refuses limits s c e)

-- how many octets are held: those of the frame that has not come, or of the one that is lent
abbrev pub octets_held : Option Frame → List ℕ → ℕ
octets_held None pending = length pending
octets_held (Some f) pending = 12 + length f.octets

-- they are no more than a message may have
abbrev pub IsHeld : Splitting → Type 0
IsHeld a = octets_held a.frame a.pending ≤ a.limits.message
