-- That a value may be written is a fact: a type with at most one value. A field of `IorView` cites it.
use Rattle.std.proofs.Common.{ℕ, List, [], ◌∷◌}
use Rattle.std.proofs.Props.{props}
use mathlib.Core.HLevel.{×_prop}
use Rattle.cdr_core.specs.Spelling.{IsClean}
use Rattle.cdr_core.specs.Value as value
use Rattle.cdr_core.specs.Value.{Value, Values}
use Rattle.cdr_core.specs.Writing.{AreWritable, IsWritable}

clean_prop : (text : List ℕ) → IsProp (IsClean text)
clean_prop [] = hlevel props
clean_prop (x ∷ xs) = ×_prop (hlevel props) (clean_prop xs)

mutual
  pub writable_prop : (v : Value) → IsProp (IsWritable v)
  writable_prop (value.string text) = ×_prop (hlevel props) (clean_prop text)
  writable_prop (value.octets all) = hlevel props
  writable_prop (value.sequence vs) = ×_prop (hlevel props) (all_prop vs)
  writable_prop (value.array vs) = ×_prop (hlevel props) (all_prop vs)
  writable_prop (value.structure vs) = all_prop vs
  writable_prop (value.union d ms) = ×_prop (writable_prop d) (all_prop ms)
  writable_prop _ = hlevel props

  all_prop : (vs : Values) → IsProp (AreWritable vs)
  all_prop value.no_values = hlevel props
  all_prop (value.value v vs) = ×_prop (writable_prop v) (all_prop vs)
