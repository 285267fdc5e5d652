-- The types of CDR 9.3.1 and CDR 9.3.2, as far as this crate carries them.
use Rattle.std.specs.Prelude.{ℕ, ℤ}

-- CDR 9.3.1: the types whose values are whole numbers, by their IDL names
pub data Number : Type 0 where
  char : Number
  octet : Number
  short : Number
  ushort : Number
  long : Number
  ulong : Number
  longlong : Number
  ulonglong : Number

-- CDR 9.3.1.1: how many octets a number has, which is its alignment too
abbrev pub size : Number → ℕ
size char = 1
size octet = 1
size short = 2
size ushort = 2
size long = 4
size ulong = 4
size longlong = 8
size ulonglong = 8

mutual
  -- CDR 9.3.2: strings, octets (a sequence of octet) and sequences have a bound on their length, arrays a length,
  -- enumerations a number of names
  pub data Form : Type 0 where
    boolean : Form
    number : Number → Form
    string : ℕ → Form
    octets : ℕ → Form
    sequence : ℕ → Form → Form
    array : ℕ → Form → Form
    enumeration : ℕ → Form
    structure : Forms → Form
    union : Form → Cases → Form

  -- the types of a struct's members, in order
  pub data Forms : Type 0 where
    no_forms : Forms
    form : Form → Forms → Forms

  -- CDR 9.3.2.3: the members of a union by their labels, and at every other label nothing, or a default member
  pub data Cases : Type 0 where
    otherwise_nothing : Cases
    otherwise : Form → Cases
    labelled : ℤ → Form → Cases → Cases
