-- The parts that a `Cursor` reads: their types, and the values that the code's numbers and lent octets stand for.
use Rattle.std.specs.Prelude.{ℕ, ℤ, pos, List}
use Rattle.std.specs.Borrow.{Bor}
use Rattle.cdr_core.specs.Form as form
use Rattle.cdr_core.specs.Form.{Form}
use Rattle.cdr_core.specs.Value as value
use Rattle.cdr_core.specs.Value.{Value}

-- CDR 9.3.2: the greatest length, since a length is an unsigned long
abbrev pub most : ℕ
most = 4294967295

-- numbers of one octet and of two
abbrev pub char : Form
char = form.number form.char

abbrev pub octet : Form
octet = form.number form.octet

abbrev pub short : Form
short = form.number form.short

abbrev pub ushort : Form
ushort = form.number form.ushort

-- unbounded octets, and an unbounded string
abbrev pub raw : Form
raw = form.octets most

abbrev pub text : Form
text = form.string most

-- numbers of four octets and of eight
abbrev pub long : Form
long = form.number form.long

abbrev pub ulong : Form
ulong = form.number form.ulong

abbrev pub longlong : Form
longlong = form.number form.longlong

abbrev pub ulonglong : Form
ulonglong = form.number form.ulonglong

-- the values of numbers, and of an enumeration's ordinal
abbrev pub char_value : ℕ → Value
char_value n = value.number form.char (pos n)

abbrev pub octet_value : ℕ → Value
octet_value n = value.number form.octet (pos n)

abbrev pub short_value : ℤ → Value
short_value z = value.number form.short z

abbrev pub ushort_value : ℕ → Value
ushort_value n = value.number form.ushort (pos n)

abbrev pub long_value : ℤ → Value
long_value z = value.number form.long z

abbrev pub ulong_value : ℕ → Value
ulong_value n = value.number form.ulong (pos n)

abbrev pub longlong_value : ℤ → Value
longlong_value z = value.number form.longlong z

abbrev pub ulonglong_value : ℕ → Value
ulonglong_value n = value.number form.ulonglong (pos n)

abbrev pub enum_value : ℕ → Value
enum_value n = value.enumeration n

-- the values of lent octets, and of a lent text
abbrev pub raw_value : Bor (List ℕ) → Value
raw_value x = value.octets x.now

abbrev pub text_value : Bor (List ℕ) → Value
text_value x = value.string x.now
