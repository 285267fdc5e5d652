-- What is reported of a script that is refused.
use Rattle.std.specs.Prelude.{◌≤◌, ⊤}
use Rattle.giop_run.specs.declared.script.ScriptError.{ScriptError}
use Rattle.giop_run.specs.declared.script.ScriptError.TheVariants as script

-- lines are counted from 1
abbrev pub CountsFromOne : ScriptError → Type 0
CountsFromOne (script.BadLine n) = 1 ≤ n
CountsFromOne script.Memory = ⊤
