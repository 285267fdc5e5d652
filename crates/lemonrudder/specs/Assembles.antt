-- What a call on an assembler does.
use Rattle.std.specs.Prelude.{◌≡◌, ℕ, ◌<◌, ◌≤◌, ◌==◌, if◌then◌else◌, IsTrue, false, List, [], ◌++◌, length, take, Option, Some, None, Result, Ok, Err}
use Rattle.giop_core.specs.declared.header.HeaderFault.{HeaderFault}
use Rattle.giop_core.specs.declared.header.HeaderFault.TheVariants as header
use Rattle.giop_frames.specs.declared.fault.StreamFault.{StreamFault}
use Rattle.giop_frames.specs.declared.fault.StreamFault.TheVariants as fault
use Rattle.giop_frames.specs.declared.limits.Cuts.{Cuts}
use Rattle.giop_frames.specs.Standing.{IsFault, StandsFor, completed_at}
use Rattle.giop_frames.specs.Streams.{messages_of}
use Rattle.lemonrudder.specs.Assembled.{Assembled}
use Rattle.lemonrudder.specs.declared.refusal.Refusal.{Refusal}
use Rattle.lemonrudder.specs.declared.refusal.Refusal.TheVariants.{Range, Stream}
use Rattle.lemonrudder.specs.Naming.{AreLimits, HasLimits}

abbrev pub header_number : HeaderFault → ℕ
header_number header.BadMagic = 1
header_number header.BadVersion = 2
header_number header.BadFlags = 3
header_number header.BadType = 4
header_number header.BadCut = 5

-- the number of a fault of a stream
abbrev pub fault_number : StreamFault → ℕ
fault_number (fault.Header f) = header_number f
fault_number fault.TooLarge = 6
fault_number fault.UnalignedFragment = 7
fault_number fault.StrayFragment = 8
fault_number fault.TwiceStarted = 9
fault_number fault.TooManyPartial = 10
fault_number (fault.Body f) = 11
fault_number fault.MixedOrder = 12
fault_number fault.Memory = 13
fault_number fault.Failed = 0

-- the first fault is kept
abbrev pub kept_fault : ℕ → StreamFault → ℕ
kept_fault old f = if old == 0 then fault_number f else old

-- an assembler of a stream of which nothing has come; or its limits are none
abbrev pub IsNewWith : (message partials : ℕ) → Cuts → Result Assembled Refusal → Type 0
IsNewWith message partials cuts (Ok s) = StandsFor s.assembler [] × (s.assembler.message ≡ None) × HasLimits message partials cuts s.assembler.limits × (s.fault ≡ 0)
IsNewWith message partials cuts (Err e) = (e ≡ Range) × (¬ (AreLimits message partials))

-- .. or no cuts have their number
abbrev pub IsNew : (message partials : ℕ) → Option Cuts → Result Assembled Refusal → Type 0
IsNew message partials None r = r ≡ Err Range
IsNew message partials (Some cuts) r = IsNewWith message partials cuts r

-- octets were taken, of a stream without a fault: the messages are those before, and the one that is lent, if there is one
abbrev pub Takes : List ℕ → ℕ → Assembled → Assembled → Type 0
Takes piece n s t =
    (¬ (IsTrue s.assembler.failed)) × (t.assembler.limits ≡ s.assembler.limits)
    × (n ≤ length piece) × (0 < length piece → 0 < n) × (t.assembler.message ≡ None → n ≡ length piece) × (t.assembler.failed ≡ false) × (t.fault ≡ s.fault)
    × ((all : List ℕ) → StandsFor s.assembler all
    → StandsFor t.assembler (all ++ take n piece)
    × (messages_of s.assembler.limits (all ++ take n piece) ≡ messages_of s.assembler.limits all ++ completed_at (length (all ++ take n piece)) t.assembler.message))

-- the stream has a fault, or an allocation failed, now or before: nothing is lent
abbrev pub Fails : List ℕ → Assembled → Assembled → Type 0
Fails piece s t =
    IsTrue t.assembler.failed × (t.assembler.limits ≡ s.assembler.limits) × (t.assembler.message ≡ None)
    × ((f : StreamFault) × (t.fault ≡ kept_fault s.fault f) × ((all : List ℕ) → StandsFor s.assembler all → IsFault s.assembler.limits all piece f))

-- octets are fed
abbrev pub OnFeed : List ℕ → Assembled → Assembled → Result ℕ Refusal → Type 0
OnFeed piece s t (Ok n) = Takes piece n s t
OnFeed piece s t (Err e) = (e ≡ Stream) × Fails piece s t

-- the first fault of the stream is asked for
abbrev pub OnFault : Assembled → Assembled → Result ℕ Refusal → Type 0
OnFault s t r = (t ≡ s) × (r ≡ Ok s.fault)
