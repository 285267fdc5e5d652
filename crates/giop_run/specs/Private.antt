-- Vocabulary of private functions. Nothing that the crate promises needs it.
use Rattle.std.specs.Prelude.{ℕ, ◌==◌, ◌&&◌, List, [], if◌then◌else◌}
use Rattle.giop_run.specs.declared.stream.Detail.{Detail}
use Rattle.giop_run.specs.declared.stream.Detail.TheVariants.{Messages, EndAlone}
use Rattle.giop_run.specs.declared.stream.Ending.{Ending}
use Rattle.giop_run.specs.declared.stream.Ending.TheVariants.{Clean, Rest}

-- what is printed of the lines of a stream's messages
abbrev pub printed : Detail → List ℕ → List ℕ
printed Messages lines = lines
printed EndAlone lines = []

-- how a stream ends without a fault, by its octets and its partial messages that are left
abbrev pub ending_with : ℕ → ℕ → Ending
ending_with octets partial = if octets == 0 && partial == 0 then Clean else Rest octets partial
