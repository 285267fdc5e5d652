-- Padding, and numbers as octets in either order. A place counts octets from the beginning of the message or
-- encapsulation, as alignment does (CDR 9.3.1.1).
use Rattle.std.specs.Prelude.{ℕ, ◌<◌, ◌-◌, ◌%◌, ℤ, pos, unsigned_abs, List, codes}
use Rattle.std.specs.List.{AllByRecursion}
use Rattle.std.specs.Int.{w16, w32, w64, cast_signed, cast_unsigned}
use Rattle.byteorder.specs.Endian.{big_number, little_number, big_bytes, little_bytes}
use Rattle.cdr_core.specs.declared.order.Order.{Order}
use Rattle.cdr_core.specs.declared.order.Order.TheVariants.{Big, Little}
use Rattle.cdr_core.specs.Form as form
use Rattle.cdr_core.specs.Form.{Number}

-- each element is an octet, a number of eight bits
abbrev pub AreOctets : List ℕ → Type 0
AreOctets octets = AllByRecursion (λ x. x < 256) octets

-- CDR 9.3.1.1: how many octets of padding stand between a place and the next place divisible by n
abbrev pub padding : ℕ → ℕ → ℕ
padding place n = (n - place % n) % n

-- CDR 9.3.1.2: the number that the first n octets give in an order
abbrev pub number_of : Order → ℕ → List ℕ → ℕ
number_of Big n octets = big_number n octets
number_of Little n octets = little_number n octets

-- CDR 9.3.1.2: the n octets of a number in an order
abbrev pub digits_of : Order → ℕ → ℕ → List ℕ
digits_of Big n x = big_bytes n x
digits_of Little n x = little_bytes n x

-- the text that an `Order` displays
abbrev pub order_text : Order → List ℕ
order_text Big = codes "big"
order_text Little = codes "little"

-- CDR 9.3.1.2: the number that the bits x stand for, in two's complement for the signed types
abbrev pub meaning : Number → ℕ → ℤ
meaning form.short x = cast_signed w16 x
meaning form.long x = cast_signed w32 x
meaning form.longlong x = cast_signed w64 x
meaning _ x = pos x

-- CDR 9.3.1.2: the bits that stand for a number
abbrev pub bits_of : Number → ℤ → ℕ
bits_of form.short z = cast_unsigned w16 z
bits_of form.long z = cast_unsigned w32 z
bits_of form.longlong z = cast_unsigned w64 z
bits_of _ z = unsigned_abs z
