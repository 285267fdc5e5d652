-- An outcome that is not there yet.
use Rattle.std.specs.Prelude.{Option, Some, None}
use Rattle.ft_log.specs.Performed.{Performed}
use Rattle.ft_objects.specs.Replies.{IsRenderable}

-- it can be sent, where it is there
abbrev pub IsRenderableIf : Option Performed → Type 0
IsRenderableIf None = Unit {0}
IsRenderableIf (Some p) = IsRenderable p
