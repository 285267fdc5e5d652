-- That outcomes that are kept, or told, can be sent is a fact: a type with at most one value. Nobody has to read this proof; it stands
-- here since a field of `Keeper` and one of `Parked` cite it.
use Rattle.std.specs.Prelude.{List, Option, Some, None}
use Rattle.std.specs.List.{AllByRecursion-prop}
use Rattle.std.proofs.Props.{props}
use mathlib.Core.HLevel.{×_prop}
use Rattle.cdr_core.specs.Value as value
use Rattle.giop_core.specs.facts.Writable.{writable_prop}
use Rattle.ft_log.specs.Holding.{Holding, known, parked}
use Rattle.ft_log.specs.Kept.{KeptOutcome}
use Rattle.ft_log.specs.Performed.{Performed}
use Rattle.ft_objects.specs.Replies.{AreRenderable, IsHeldRenderable, body_of}
use Rattle.ft_orb.specs.Sendable.{IsRenderableIf}

held_prop : (h : Holding) → IsProp (IsHeldRenderable h)
held_prop (known p) = ×_prop (writable_prop (value.structure (body_of p))) (hlevel props)
held_prop (parked number) = hlevel props

pub renderable_if_prop : (o : Option Performed) → IsProp (IsRenderableIf o)
renderable_if_prop (Some p) = ×_prop (writable_prop (value.structure (body_of p))) (hlevel props)
renderable_if_prop None = hlevel props

pub are_renderable_prop : (entries : List (KeptOutcome Holding)) → IsProp (AreRenderable entries)
are_renderable_prop entries = AllByRecursion-prop (λ e. IsHeldRenderable e.outcome) (λ e. held_prop e.outcome) entries
