-- How a stream ends, and how many messages completed in it.
use Rattle.std.specs.Prelude.{◌≡◌, ◌<◌, ◌+◌, ℕ, List, length, Some, None}
use Rattle.giop_frames.specs.declared.limits.Limits.{Limits}
use Rattle.giop_frames.specs.Fragments.{partials_in}
use Rattle.giop_frames.specs.Streams.{fault_of, frames_of, messages_of, rest_of}
use Rattle.giop_run.specs.declared.stream.Ending.{Ending}
use Rattle.giop_run.specs.declared.stream.Ending.TheVariants.{Clean, Rest, Fault}
use Rattle.giop_run.specs.declared.stream.Summary.{Summary}

-- without a fault, an octet that is left over, or a partial message
abbrev pub EndsWell : Limits → List ℕ → Type 0
EndsWell limits s = (fault_of limits s ≡ None) × (length (rest_of limits s) ≡ 0) × (partials_in (frames_of limits s) ≡ 0)

-- well; without a fault, but with octets after the last whole frame or partial messages; or in the first fault
abbrev pub IsEnding : Limits → List ℕ → Ending → Type 0
IsEnding limits s Clean = EndsWell limits s
IsEnding limits s (Rest octets partial) = (fault_of limits s ≡ None) × (octets ≡ length (rest_of limits s)) × (partial ≡ partials_in (frames_of limits s)) × (0 < octets + partial)
IsEnding limits s (Fault fault) = fault_of limits s ≡ Some fault

abbrev pub IsSummary : Limits → List ℕ → Summary → Type 0
IsSummary limits s r = (r.messages ≡ length (messages_of limits s)) × IsEnding limits s r.ending
