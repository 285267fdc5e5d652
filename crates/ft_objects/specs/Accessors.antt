-- The arguments of an operation, each by its index from 0.
use Rattle.std.specs.Prelude.{ℕ, zero, suc, ℤ, pos, Bool, List, Option, Some, None, option_and_then}
use Rattle.cdr_core.specs.Form as form
use Rattle.cdr_core.specs.Form.{Form, Forms}
use Rattle.cdr_core.specs.Value as value
use Rattle.cdr_core.specs.Value.{Value, Values}

-- the argument at an index
abbrev pub argument_at : ℕ → Values → Option Value
argument_at i value.no_values = None
argument_at zero (value.value v vs) = Some v
argument_at (suc i) (value.value v vs) = argument_at i vs

-- the type of the argument at an index
abbrev pub form_at : ℕ → Forms → Option Form
form_at i form.no_forms = None
form_at zero (form.form t ts) = Some t
form_at (suc i) (form.form t ts) = form_at i ts

-- what a value of each basic type is, and no value of another type: a boolean, a character, an octet
abbrev pub boolean_of : Value → Option Bool
boolean_of (value.boolean b) = Some b
boolean_of _ = None

abbrev pub char_of : Value → Option ℕ
char_of (value.number form.char (pos n)) = Some n
char_of _ = None

abbrev pub octet_of : Value → Option ℕ
octet_of (value.number form.octet (pos n)) = Some n
octet_of _ = None

-- an enumeration's ordinal, from 0
abbrev pub ordinal_of : Value → Option ℕ
ordinal_of (value.enumeration n) = Some n
ordinal_of _ = None

-- numbers of two octets
abbrev pub short_of : Value → Option ℤ
short_of (value.number form.short z) = Some z
short_of _ = None

abbrev pub ushort_of : Value → Option ℕ
ushort_of (value.number form.ushort (pos n)) = Some n
ushort_of _ = None

-- a text without its NUL
abbrev pub string_of : Value → Option (List ℕ)
string_of (value.string text) = Some text
string_of _ = None

-- a sequence of octets
abbrev pub octets_in : Value → Option (List ℕ)
octets_in (value.octets all) = Some all
octets_in _ = None

-- numbers of four octets, and of eight
abbrev pub long_of : Value → Option ℤ
long_of (value.number form.long z) = Some z
long_of _ = None

abbrev pub ulong_of : Value → Option ℕ
ulong_of (value.number form.ulong (pos n)) = Some n
ulong_of _ = None

abbrev pub longlong_of : Value → Option ℤ
longlong_of (value.number form.longlong z) = Some z
longlong_of _ = None

abbrev pub ulonglong_of : Value → Option ℕ
ulonglong_of (value.number form.ulonglong (pos n)) = Some n
ulonglong_of _ = None

-- what one of these reads of the argument at an index, where there is one and it is of the type
abbrev pub read_at : {A : Type 0} → (Value → Option A) → ℕ → Values → Option A
read_at of i arguments = option_and_then of (argument_at i arguments)
