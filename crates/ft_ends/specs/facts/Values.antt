-- That values can be written is a fact: a type with at most one value. Nobody has to read this proof; it stands here since a field of
-- `Taken` cites it.
use Rattle.std.proofs.Props.{props}
use mathlib.Core.HLevel.{×_prop}
use Rattle.cdr_core.specs.Value as value
use Rattle.cdr_core.specs.Value.{Value, Values}
use Rattle.cdr_core.specs.Writing.{AreWritable, IsWritable}
use Rattle.ft_client.specs.facts.Texts.{clean_prop}

mutual
  writable_prop : (v : Value) → IsProp (IsWritable v)
  writable_prop (value.string text) = ×_prop (hlevel props) (clean_prop text)
  writable_prop (value.octets all) = hlevel props
  writable_prop (value.sequence vs) = ×_prop (hlevel props) (are_writable_prop vs)
  writable_prop (value.array vs) = ×_prop (hlevel props) (are_writable_prop vs)
  writable_prop (value.structure vs) = are_writable_prop vs
  writable_prop (value.union d ms) = ×_prop (writable_prop d) (are_writable_prop ms)
  writable_prop _ = hlevel props

  pub are_writable_prop : (vs : Values) → IsProp (AreWritable vs)
  are_writable_prop value.no_values = hlevel props
  are_writable_prop (value.value v vs) = ×_prop (writable_prop v) (are_writable_prop vs)
