-- Why a connection ended, as a number of the header.
use Rattle.std.specs.Prelude.{◌≡◌, ℕ, true, false, Option, Some, None, Result, Ok, Err}
use Rattle.giop_link.specs.declared.error.LinkFault.TheVariants.{Stream, WrongDirection}
use Rattle.ft_orb.specs.declared.ending.Ending.{Ending}
use Rattle.ft_orb.specs.declared.ending.Ending.TheVariants as why
use Rattle.lemonrudder.specs.declared.refusal.Refusal.{Refusal}
use Rattle.lemonrudder.specs.declared.refusal.Refusal.TheVariants as refusal
use Rattle.lemonrudder.specs.declared.serving.Serving.{Serving}
use Rattle.lemonrudder.specs.Assembles.{fault_number}
use Rattle.lemonrudder.specs.Connected.{is_there}
use Rattle.lemonrudder.specs.Serves.{why_on}

-- the number of the header (`LR_WHY_..`): that of the fault, where a stream has one, and 0 for a connection that goes on
abbrev pub why_number : Option Ending → ℕ
why_number None = 0
why_number (Some (why.Faulty (Stream fault))) = fault_number fault
why_number (Some (why.Faulty WrongDirection)) = 32
why_number (Some why.PeerClosed) = 33
why_number (Some why.PeerError) = 34
why_number (Some why.Closed) = 35
why_number (Some why.GivenUp) = 36
why_number (Some why.Memory) = 37

-- it is reported why a connection ended, if there is one of the number: as is noted by the calls that may end one
abbrev pub OnWhy : ℕ → Serving → Serving → Result ℕ Refusal → Type 0
OnWhy c s t r = (t ≡ s) × (is_there s.connections c ≡ false → r ≡ Err refusal.Connection) × (is_there s.connections c ≡ true → r ≡ Ok (why_number (why_on s c)))
