-- A value that fits a type can be written.
use Rattle.std.proofs.Common.{ℤ, Bool, true, false}
use Rattle.cdr_core.specs.Fitting.{AllFit, Fits, FitsChosen, FitsMembers, OneFits}
use Rattle.cdr_core.specs.Form as form
use Rattle.cdr_core.specs.Form.{Cases, Form, Forms}
use Rattle.cdr_core.specs.Spelling.{Chosen}
use Rattle.cdr_core.specs.Value as value
use Rattle.cdr_core.specs.Value.{Value, Values, label}
use Rattle.cdr_core.specs.Writing.{AreWritable, IsWritable}

each_may : (P : Value → Type 0) → ((v : Value) → P v → IsWritable v) → (vs : Values) → AllFit P vs → AreWritable vs
each_may P may value.no_values h = tt
each_may P may (value.value v vs) h = (may v h.0, each_may P may vs h.1)

one_may : (P : Value → Type 0) → ((v : Value) → P v → IsWritable v) → (ms : Values) → OneFits P ms → AreWritable ms
one_may P may value.no_values h = tt
one_may P may (value.value v value.no_values) h = (may v h, tt)
one_may P may (value.value v (value.value w ws)) h = absurd h

either_may : (b : Bool) (A B C : Type 0) → (A → C) → (B → C) → Chosen b A B → C
either_may true A B C f g h = f h
either_may false A B C f g h = g h

mutual
  pub may : (t : Form) (v : Value) → Fits t v → IsWritable v
  may form.boolean (value.boolean b) h = tt
  may (form.number kind) (value.number same z) h = tt
  may (form.string bound) (value.string text) h = (h.1, h.2)
  may (form.octets bound) (value.octets all) h = h.1
  may (form.sequence bound t) (value.sequence vs) h = (h.1, each_may (Fits t) (λ v f. may t v f) vs h.2)
  may (form.array n t) (value.array vs) h = (h.1, each_may (Fits t) (λ v f. may t v f) vs h.2)
  may (form.enumeration n) (value.enumeration x) h = tt
  may (form.structure ts) (value.structure vs) h = members_may ts vs h
  may (form.union d cs) (value.union v ms) h = (may d v h.0, chosen_may cs (label v) ms h.1)
  may _ _ h = absurd h

  members_may : (ts : Forms) (vs : Values) → FitsMembers ts vs → AreWritable vs
  members_may form.no_forms value.no_values h = tt
  members_may (form.form t ts) (value.value v vs) h = (may t v h.0, members_may ts vs h.1)
  members_may form.no_forms (value.value v vs) h = absurd h
  members_may (form.form t ts) value.no_values h = absurd h

  chosen_may : (cs : Cases) (l : ℤ) (ms : Values) → FitsChosen cs l ms → AreWritable ms
  chosen_may form.otherwise_nothing l value.no_values h = tt
  chosen_may form.otherwise_nothing l (value.value v vs) h = absurd h
  chosen_may (form.otherwise t) l ms h = one_may (Fits t) (λ v f. may t v f) ms h
  chosen_may (form.labelled k t cs) l ms h = either_may _ _ _ _ (λ f. one_may (Fits t) (λ v g. may t v g) ms f) (λ f. chosen_may cs l ms f) h
