-- That types are valid is a fact: a type with at most one value. Nobody has to read this proof; it stands here since fields of
-- structs in the crates above cite it.
use Rattle.std.specs.Prelude.{ℤ}
use Rattle.std.proofs.Props.{props}
use mathlib.Core.HLevel.{×_prop}
use Rattle.cdr_core.specs.Fitting.{AreCases, AreValid, InRange, IsDiscriminator, IsLabel, IsNoLabel, IsValid}
use Rattle.cdr_core.specs.Form as form
use Rattle.cdr_core.specs.Form.{Form, Forms, Cases, Number}

pub triple_prop : {A B C : Type 0} → IsProp A → IsProp B → IsProp C → IsProp (A × B × C)
triple_prop a b c x y = λ i. (a x.0 y.0 i, b x.1 y.1 i, c x.2 y.2 i)

four_prop : {A B C D : Type 0} → IsProp A → IsProp B → IsProp C → IsProp D → IsProp (A × B × C × D)
four_prop a b c d x y = λ i. (a x.0 y.0 i, b x.1 y.1 i, c x.2 y.2 i, d x.3 y.3 i)

range_prop : (kind : Number) (z : ℤ) → IsProp (InRange kind z)
range_prop form.char z = hlevel props
range_prop form.octet z = hlevel props
range_prop form.short z = hlevel props
range_prop form.ushort z = hlevel props
range_prop form.long z = hlevel props
range_prop form.ulong z = hlevel props
range_prop form.longlong z = hlevel props
range_prop form.ulonglong z = hlevel props

label_prop : (d : Form) (l : ℤ) → IsProp (IsLabel d l)
label_prop form.boolean l = hlevel props
label_prop (form.number kind) l = range_prop kind l
label_prop (form.enumeration n) l = hlevel props
label_prop _ l = hlevel props

number_prop : (kind : Number) → IsProp (IsDiscriminator (form.number kind))
number_prop form.octet = hlevel props
number_prop _ = hlevel props

discriminator_prop : (d : Form) → IsProp (IsDiscriminator d)
discriminator_prop form.boolean = hlevel props
discriminator_prop (form.number kind) = number_prop kind
discriminator_prop (form.enumeration n) = hlevel props
discriminator_prop _ = hlevel props

no_label_prop : (l : ℤ) (cs : Cases) → IsProp (IsNoLabel l cs)
no_label_prop l form.otherwise_nothing = hlevel props
no_label_prop l (form.otherwise t) = hlevel props
no_label_prop l (form.labelled k t cs) = ×_prop (hlevel props) (no_label_prop l cs)

mutual
  valid_prop : (t : Form) → IsProp (IsValid t)
  valid_prop (form.sequence bound t) = valid_prop t
  valid_prop (form.array n t) = triple_prop (hlevel props) (hlevel props) (valid_prop t)
  valid_prop (form.enumeration n) = hlevel props
  valid_prop (form.structure ts) = ×_prop (hlevel props) (are_valid_prop ts)
  valid_prop (form.union d cs) = triple_prop (discriminator_prop d) (valid_prop d) (cases_prop d cs)
  valid_prop _ = hlevel props

  pub are_valid_prop : (ts : Forms) → IsProp (AreValid ts)
  are_valid_prop form.no_forms = hlevel props
  are_valid_prop (form.form t ts) = ×_prop (valid_prop t) (are_valid_prop ts)

  cases_prop : (d : Form) (cs : Cases) → IsProp (AreCases d cs)
  cases_prop d form.otherwise_nothing = hlevel props
  cases_prop d (form.otherwise t) = valid_prop t
  cases_prop d (form.labelled k t cs) = four_prop (label_prop d k) (no_label_prop k cs) (valid_prop t) (cases_prop d cs)
