use Rattle.std.proofs.Common.{◌≡◌, ◌++◌, take, string_bytes}
use Rattle.ior_core.specs.View.{tagged_values}
use Rattle.giop_run.specs.ReferenceLines as lines
use Rattle.giop_run.proofs.reference.put_components.Given as goal

-- the lines of the components so far stand after the text
abbrev pub invariant-loop-component : goal.invariant-loop-component
invariant-loop-component l = string_bytes l.text ≡ string_bytes l.fn.text ++ lines.component_lines (tagged_values (take l.component-index l.all))
