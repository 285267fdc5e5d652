-- The text of a reference.
use Rattle.std.specs.Prelude.{◌≡◌, ℕ, ◌+◌, ◌==◌, ◌||◌, ◌&&◌, Bool, List, ◌∷◌, ◌++◌, codes, Option, Some, None, IsSome, Result, Ok, Err, if◌then◌else◌}
use Rattle.hex.specs.Hex.{decode_of, encode_lower}
use Rattle.hex.specs.declared.error.FromHexError.{FromHexError}
use Rattle.hex.specs.declared.error.FromHexError.TheVariants as digits
use Rattle.cdr_core.specs.declared.fault.Fault.{Fault}
use Rattle.cdr_core.specs.Encapsulation.{encapsulated, IsEncapsulated}
use Rattle.cdr_core.specs.Reading.{value_at}
use Rattle.cdr_core.specs.Spelling.{Spells}
use Rattle.cdr_core.specs.Value.{Value}
use Rattle.ior_core.specs.declared.error.IorError.{IorError}
use Rattle.ior_core.specs.declared.error.IorError.TheVariants.{BadDigit, BadMajor, Cdr, Memory, NoPrefix, OddDigits}
use Rattle.ior_core.specs.declared.reference.Ior.{Ior}
use Rattle.ior_core.specs.Grammar.{reference}
use Rattle.ior_core.specs.View.{ior_value}
use Rattle.ior_core.specs.Writing.{encapsulation_of}

-- a letter in either case, given in upper case
abbrev pub is_letter : ℕ → ℕ → Bool
is_letter upper x = (x == upper) || (x == upper + 32)

-- IOP 7.6.9: what follows the prefix IOR:, whose letters may be in either case
abbrev pub after_prefix : List ℕ → Option (List ℕ)
after_prefix (i ∷ o ∷ r ∷ c ∷ digits) = if is_letter 73 i && is_letter 79 o && is_letter 82 r && (c == 58) then Some digits else None
after_prefix _ = None

-- what is wrong with digits
abbrev pub hex_error : FromHexError → IorError
hex_error digits.OddLength = OddDigits
hex_error (digits.InvalidHexCharacter c i) = BadDigit i
hex_error _ = Memory

abbrev pub decoded : Result (List ℕ) FromHexError → Result (List ℕ) IorError
decoded (Ok octets) = Ok octets
decoded (Err e) = Err (hex_error e)

abbrev pub digits_in : Option (List ℕ) → Result (List ℕ) IorError
digits_in (Some digits) = decoded (decode_of digits)
digits_in None = Err NoPrefix

-- the octets whose digits follow the prefix of a text
abbrev pub text_octets : List ℕ → Result (List ℕ) IorError
text_octets text = digits_in (after_prefix text)

-- The reference in an encapsulation. That octets after it are ignored is an own rule.
abbrev pub reference_in : List ℕ → Result Value Fault
reference_in octets = encapsulated (value_at reference) octets

-- the octets are an encapsulation of the reference
abbrev pub IsReference : Value → List ℕ → Type 0
IsReference v octets = IsEncapsulated (λ order. Spells reference order v) octets

-- The text of a reference as it is written. That its digits are in lower case is an own rule.
abbrev pub reference_text : Value → List ℕ
reference_text v = codes "IOR:" ++ encode_lower (encapsulation_of v)

-- What parsing a text gives. That a wrong prefix comes first, then an odd number of digits, then a bad digit, and then
-- a fault of the octets is an own rule. Memory is taken only after the prefix.
abbrev pub ReadsText : List ℕ → Result Ior IorError → Type 0
ReadsText text (Ok ior) = (octets : List ℕ) × (text_octets text ≡ Ok octets) × (reference_in octets ≡ Ok (ior_value ior))
ReadsText text (Err (Cdr f)) = (octets : List ℕ) × (text_octets text ≡ Ok octets) × (reference_in octets ≡ Err f)
ReadsText text (Err Memory) = IsSome (after_prefix text)
ReadsText text (Err BadMajor) = ⊥
ReadsText text (Err e) = text_octets text ≡ Err e
