-- A text, step by step.
use Rattle.std.proofs.Common.{◌≡◌, ℕ, List, Option, Some, None, Result, Ok, Err, ◌⊎◌, inl, inr, refl, subst, rules}
use Rattle.std.specs.Bool.{⊤}
use Rattle.std.specs.Prelude.{IsSome}
use Rattle.hex.specs.Hex.{decode_of}
use Rattle.hex.specs.declared.error.FromHexError.{FromHexError}
use Rattle.hex.specs.declared.error.FromHexError.TheVariants as digits
use Rattle.cdr_core.specs.declared.fault.CdrError.{CdrError}
use Rattle.cdr_core.specs.declared.fault.CdrError.TheVariants as errors
use Rattle.cdr_core.specs.declared.fault.Fault.{Fault}
use Rattle.cdr_core.specs.declared.order.Order.{Order}
use Rattle.cdr_core.specs.Private.{Fails}
use Rattle.cdr_core.specs.Encapsulation.{encapsulated, order_at}
use Rattle.cdr_core.specs.Reading.{value_at}
use Rattle.cdr_core.specs.Value.{Value}
use Rattle.ior_core.specs.declared.error.IorError.{IorError}
use Rattle.ior_core.specs.declared.error.IorError.TheVariants.{BadDigit, BadMajor, Cdr, Memory, NoPrefix, OddDigits}
use Rattle.ior_core.specs.Calls.{ior_error}
use Rattle.ior_core.specs.Grammar.{reference}
use Rattle.ior_core.specs.Text.{after_prefix, decoded, digits_in, hex_error, reference_in, text_octets, ReadsText}

is_some_of : (digits : List ℕ) → IsSome (Some digits)
is_some_of digits = search rules

-- what is read of a text follows its prefix
has_prefix : (found : Option (List ℕ)) (octets : List ℕ) → digits_in found ≡ Ok octets → IsSome found
has_prefix (Some digits) octets h = is_some_of digits
has_prefix None octets h = absurd cc

module _ (octets : List ℕ) where
  pub order_fails : (f : Fault) → order_at octets ≡ Err f → reference_in octets ≡ Err f
  unfolding encapsulated
  order_fails f e = rw e refl

  module _ (order : Order) (p : ℕ) (rest : List ℕ) (ordered : order_at octets ≡ Ok (order, p, rest)) where
    pub reference_fails : (f : Fault) → value_at reference order p rest ≡ Err f → reference_in octets ≡ Err f
    unfolding encapsulated
    reference_fails f e = rw (ordered, e) refl

    pub reference_is : (v : Value) (q : ℕ) (left : List ℕ) → value_at reference order p rest ≡ Ok (v, q, left) → reference_in octets ≡ Ok v
    unfolding encapsulated
    reference_is v q left e = rw (ordered, e) refl

    pub reference_ends : (text : List ℕ) → text_octets text ≡ Ok octets → (e : CdrError) → Fails e (value_at reference order p rest) → ReadsText text (Err (ior_error e))
    reference_ends text t (errors.Bad f) h = (octets, t, reference_fails f h)
    reference_ends text t errors.Memory h = has_prefix (after_prefix text) octets t

-- what a text's digits may be refused for
abbrev IsOfDigits : IorError → Type 0
IsOfDigits (Cdr f) = ⊥
IsOfDigits BadMajor = ⊥
IsOfDigits _ = ⊤

hex_of_digits : (x : FromHexError) → IsOfDigits (hex_error x)
hex_of_digits (digits.InvalidHexCharacter c i) = tt
hex_of_digits digits.OddLength = tt
hex_of_digits digits.InvalidStringLength = tt
hex_of_digits digits.OutOfMemory = tt

decoded_of_digits : (r : Result (List ℕ) FromHexError) (e : IorError) → decoded r ≡ Err e → IsOfDigits e
decoded_of_digits (Ok octets) e h = absurd cc
decoded_of_digits (Err x) e h =
    let is : hex_error x ≡ e = cc in
    subst IsOfDigits is (hex_of_digits x)

digits_of_digits : (found : Option (List ℕ)) (e : IorError) → digits_in found ≡ Err e → IsOfDigits e
digits_of_digits (Some digits) e h = decoded_of_digits (decode_of digits) e h
digits_of_digits None e h =
    let is : NoPrefix ≡ e = cc in
    subst IsOfDigits is tt

pub digits_end : (text : List ℕ) (e : IorError) → ((e ≡ Memory) × IsSome (after_prefix text)) ⊎ (text_octets text ≡ Err e) → ReadsText text (Err e)
digits_end text e (inl memory) = rw memory.0 memory.1
digits_end text (Cdr f) (inr h) = absurd (digits_of_digits (after_prefix text) (Cdr f) h)
digits_end text BadMajor (inr h) = absurd (digits_of_digits (after_prefix text) BadMajor h)
digits_end text Memory (inr h) = prefix_of (after_prefix text) h
  where
    prefix_of : (found : Option (List ℕ)) → digits_in found ≡ Err Memory → IsSome found
    prefix_of (Some digits) h = is_some_of digits
    prefix_of None h = absurd cc
digits_end text NoPrefix (inr h) = h
digits_end text OddDigits (inr h) = h
digits_end text (BadDigit i) (inr h) = h
