-- Vocabulary of private functions. Nothing that the crate promises needs it.
use Rattle.std.specs.Prelude.{◌≡◌, ℕ, ◌%◌, ◌==◌, not, List, ◌++◌, drop, filter, Result, Ok, Err, if◌then◌else◌}
use Rattle.hex.specs.Hex.{decode_of}
use Rattle.digits.specs.declared.reading.DigitError.{DigitError}
use Rattle.digits.specs.declared.reading.DigitError.TheVariants.{Odd, Bad}
use Rattle.digits.specs.Digits.{decoded, is_blank}

-- a text without its blanks
abbrev pub without_blanks : List ℕ → List ℕ
without_blanks text = filter (λ octet. not (is_blank octet)) text

-- what digits give
abbrev pub given : List ℕ → Result (List ℕ) DigitError
given digits = decoded (decode_of digits)

-- octets, and what the digits after theirs give
abbrev pub after : List ℕ → Result (List ℕ) DigitError → Result (List ℕ) DigitError
after octets (Ok more) = Ok (octets ++ more)
after octets (Err e) = Err e

-- digits stand between two places of a text, and their octets were appended to others
pub record IsRead (text : List ℕ) (from to : ℕ) (before now : List ℕ) : Type 0 where
  pub digits : List ℕ
  pub more : List ℕ
  pub stand : drop from text ≡ digits ++ drop to text
  pub give : given digits ≡ Ok more
  pub appended : now ≡ before ++ more

-- why so many digits are no octets, of which one is no digit
abbrev pub odd_or_bad : ℕ → DigitError
odd_or_bad count = if count % 2 == 1 then Odd else Bad
