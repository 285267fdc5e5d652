-- The values of those types.
use Rattle.std.specs.Prelude.{ℕ, suc, ℤ, pos, Bool, true, false, List, [], ◌∷◌}
use Rattle.cdr_core.specs.Form.{Number}

mutual
  -- a string without its NUL, an enumeration by its ordinal from 0, a union as its discriminator and at most one member
  pub data Value : Type 0 where
    boolean : Bool → Value
    number : Number → ℤ → Value
    string : List ℕ → Value
    octets : List ℕ → Value
    sequence : Values → Value
    array : Values → Value
    enumeration : ℕ → Value
    structure : Values → Value
    union : Value → Values → Value

  -- values in order
  pub data Values : Type 0 where
    no_values : Values
    value : Value → Values → Values

-- values as they stand in a list
abbrev pub values : List Value → Values
values [] = no_values
values (v ∷ vs) = value v (values vs)

-- how many values there are
abbrev pub count : Values → ℕ
count no_values = 0
count (value v vs) = suc (count vs)

-- CDR 9.3.2.3: the label that a discriminator stands for: a boolean 0 or 1, a character its octet, an enumeration its
-- ordinal
abbrev pub label : Value → ℤ
label (boolean false) = pos 0
label (boolean true) = pos 1
label (number kind z) = z
label (enumeration n) = pos n
label _ = pos 0
