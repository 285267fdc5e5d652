-- The lengths of numbers as they are written.
use Rattle.std.proofs.Common.{◌≡◌, ℕ, zero, suc, ◌+◌, length, replicate, refl, ap, arith, length-append}
use Rattle.std.specs.Int.{bytes_high_first, bytes_low_first}
use Rattle.std.proofs.lemmas.List.{length-replicate}
use Rattle.cdr_core.specs.declared.order.Order.{Order}
use Rattle.cdr_core.specs.declared.order.Order.TheVariants.{Big, Little}
use Rattle.cdr_core.specs.Numbers.{digits_of, padding}
use Rattle.cdr_core.specs.Writing.{number_octets}

pub digits_length : (order : Order) (n x : ℕ) → length (digits_of order n x) ≡ n
digits_length Big n x = high n
  where
    high : (n : ℕ) → length (bytes_high_first n x) ≡ n
    high zero = refl
    high (suc n) = ap suc (high n)
digits_length Little n x = low 0 n
  where
    low : (i n : ℕ) → length (bytes_low_first i n x) ≡ n
    low i zero = refl
    low i (suc n) = ap suc (low (suc i) n)

pub number_length : (order : Order) (n o x : ℕ) → length (number_octets order n o x) ≡ padding o n + n
number_length order n o x = omega (arith, length-append (replicate (padding o n) 0) (digits_of order n x), length-replicate {A = ℕ} (padding o n) 0, digits_length order n x)
