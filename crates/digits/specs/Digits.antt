-- The octets that a text of digits gives.
use Rattle.std.specs.Prelude.{ℕ, Bool, not, ◌||◌, ◌==◌, List, filter, Result, Ok, Err}
use Rattle.hex.specs.Hex.{decode_of}
use Rattle.hex.specs.declared.error.FromHexError.{FromHexError}
use Rattle.hex.specs.declared.error.FromHexError.TheVariants as hex
use Rattle.digits.specs.declared.reading.DigitError.{DigitError}
use Rattle.digits.specs.declared.reading.DigitError.TheVariants as digit

-- what may stand between digits and means nothing: a space, a tab, a CR or an LF
abbrev pub is_blank : ℕ → Bool
is_blank octet = (octet == 32 || octet == 9) || (octet == 13 || octet == 10)

-- why digits are no octets
abbrev pub error_of : FromHexError → DigitError
error_of hex.OddLength = digit.Odd
error_of (hex.InvalidHexCharacter c index) = digit.Bad
error_of hex.InvalidStringLength = digit.Memory
error_of hex.OutOfMemory = digit.Memory

abbrev pub decoded : Result (List ℕ) FromHexError → Result (List ℕ) DigitError
decoded (Ok octets) = Ok octets
decoded (Err e) = Err (error_of e)

-- the octets in the digits of a text, the blanks between them left out
abbrev pub octets_in : List ℕ → Result (List ℕ) DigitError
octets_in text = decoded (decode_of (filter (λ octet. not (is_blank octet)) text))
