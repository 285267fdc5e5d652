use Rattle.std.proofs.Common.{◌≡◌, ◌++◌, take, string_bytes}
use Rattle.giop_run.specs.ReferenceLines as lines
use Rattle.giop_run.proofs.reference.put_profiles.Given as goal

-- the lines of the profiles so far stand after the text
abbrev pub invariant-loop-place : goal.invariant-loop-place
invariant-loop-place l = string_bytes l.text ≡ string_bytes l.fn.text ++ lines.lines_from 0 (take l.place l.all)
