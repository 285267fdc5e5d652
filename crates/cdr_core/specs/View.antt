-- What a `Ty` and a `Val` of the code stand for: the type or value with its boxes and vectors left out.
use Rattle.std.specs.Prelude.{ℤ, pos, List, [], ◌∷◌, map, Option, Some, None}
use Rattle.std.proofs.Common.{Box, Global}
use Rattle.cdr_core.specs.Form as form
use Rattle.cdr_core.specs.Form.{Form, Forms, Cases}
use Rattle.cdr_core.specs.Value as value
use Rattle.cdr_core.specs.Value.{Value, Values, values}
use Rattle.cdr_core.specs.declared.types.Ty.{Ty, fold-Ty}
use Rattle.cdr_core.specs.declared.types.Ty.TheOpen.{Ty-F, Case-F}
use Rattle.cdr_core.specs.declared.types.Case.{Case, fold-Case}
use Rattle.cdr_core.specs.declared.values.Val.{Val, fold-Val}
use Rattle.cdr_core.specs.declared.values.Val.TheOpen.{Val-F}

-- types as they stand in a list
abbrev pub forms : List Form → Forms
forms [] = form.no_forms
forms (f ∷ fs) = form.form f (forms fs)

-- what a union holds at every other label
abbrev pub last_case : Option Form → Cases
last_case None = form.otherwise_nothing
last_case (Some f) = form.otherwise f

-- the cases of a union, and its default if it has one
abbrev pub cases : List (ℤ × Form) → Option Form → Cases
cases [] default = last_case default
cases (c ∷ cs) default = form.labelled c.0 c.1 (cases cs default)

-- f of what is there, if anything is
abbrev pub optional : {A B : Type 0} → (A → B) → Option A → Option B
optional f None = None
optional f (Some x) = Some (f x)

-- one level of a type, in which each type inside is a form already
abbrev pub form_step : Ty-F Form (ℤ × Form) → Form
form_step Ty-F.Boolean = form.boolean
form_step Ty-F.Char = form.number form.char
form_step Ty-F.Octet = form.number form.octet
form_step Ty-F.Short = form.number form.short
form_step Ty-F.UShort = form.number form.ushort
form_step Ty-F.Long = form.number form.long
form_step Ty-F.ULong = form.number form.ulong
form_step Ty-F.LongLong = form.number form.longlong
form_step Ty-F.ULongLong = form.number form.ulonglong
form_step (Ty-F.Str n) = form.string n
form_step (Ty-F.Octets n) = form.octets n
form_step (Ty-F.Seq n t) = form.sequence n t.value
form_step (Ty-F.Array n t) = form.array n t.value
form_step (Ty-F.Enum n) = form.enumeration n
form_step (Ty-F.Struct ts) = form.structure (forms ts.items)
form_step (Ty-F.Union d cs o) = form.union d.value (cases cs.items (optional (λ b. b.value) o))

-- one level of a case
abbrev pub case_step : Case-F Form (ℤ × Form) → ℤ × Form
case_step c = (c.label, c.member)

-- the type that a `Ty` stands for
abbrev pub form_of : Ty → Form
form_of = fold-Ty Form (ℤ × Form) form_step case_step

-- the label and the type of a `Case`
abbrev pub case_of : Case → ℤ × Form
case_of = fold-Case Form (ℤ × Form) form_step case_step

-- the types that a list of `Ty` stands for
abbrev pub forms_of : List Ty → Forms
forms_of ts = forms (map form_of ts)

-- the cases that a list of `Case` and a default stand for
abbrev pub cases_of : List Case → Option (Box Ty Global) → Cases
cases_of cs o = cases (map case_of cs) (optional (λ b. form_of b.value) o)

-- one level of a value, in which each value inside is one already
abbrev pub value_step : Val-F Value → Value
value_step (Val-F.Boolean b) = value.boolean b
value_step (Val-F.Char c) = value.number form.char (pos c)
value_step (Val-F.Octet n) = value.number form.octet (pos n)
value_step (Val-F.Short z) = value.number form.short z
value_step (Val-F.UShort n) = value.number form.ushort (pos n)
value_step (Val-F.Long z) = value.number form.long z
value_step (Val-F.ULong n) = value.number form.ulong (pos n)
value_step (Val-F.LongLong z) = value.number form.longlong z
value_step (Val-F.ULongLong n) = value.number form.ulonglong (pos n)
value_step (Val-F.Str v) = value.string v.items
value_step (Val-F.Octets v) = value.octets v.items
value_step (Val-F.Seq v) = value.sequence (values v.items)
value_step (Val-F.Array v) = value.array (values v.items)
value_step (Val-F.Enum n) = value.enumeration n
value_step (Val-F.Struct v) = value.structure (values v.items)
value_step (Val-F.Union d None) = value.union d.value value.no_values
value_step (Val-F.Union d (Some m)) = value.union d.value (value.value m.value value.no_values)

-- the value that a `Val` stands for
abbrev pub value_of : Val → Value
value_of = fold-Val Value value_step

-- the values that a list of `Val` stands for
abbrev pub values_of : List Val → Values
values_of vs = values (map value_of vs)

-- the member that a union holds, if it holds one
abbrev pub held : Option (Box Val Global) → Values
held None = value.no_values
held (Some m) = value.value (value_of m.value) value.no_values
