-- What is written for a value is octets, if the texts and the octets in it are.
use Rattle.std.proofs.Common.{ℕ, zero, suc, ◌+◌, ◌<◌, true, false, List, [], ◌∷◌, ◌++◌, length, replicate, arith}
use Rattle.std.specs.Int.{byte_at, bytes_high_first, bytes_low_first}
use Rattle.cdr_core.specs.declared.order.Order.{Order}
use Rattle.cdr_core.specs.declared.order.Order.TheVariants.{Big, Little}
use Rattle.cdr_core.specs.Form.{size}
use Rattle.cdr_core.specs.Numbers.{bits_of, digits_of, padding, AreOctets}
use Rattle.cdr_core.specs.Octets.{HoldAll, HoldsOctets}
use Rattle.cdr_core.specs.Value as value
use Rattle.cdr_core.specs.Value.{Value, Values, count}
use Rattle.cdr_core.specs.Writing.{number_octets, octets_of, octets_of_all}

both : (front rest : List ℕ) → AreOctets front → AreOctets rest → AreOctets (front ++ rest)
both [] rest a b = b
both (x ∷ front) rest a b = (a.0, both front rest a.1 b)

zeros : (n : ℕ) → AreOctets (replicate n 0)
zeros zero = tt
zeros (suc n) = (omega arith, zeros n)

one_byte : (i x : ℕ) → byte_at i x < 256
one_byte zero x = omega arith
one_byte (suc i) x = omega arith

digits : (order : Order) (n x : ℕ) → AreOctets (digits_of order n x)
digits Big n x = high n
  where
    high : (n : ℕ) → AreOctets (bytes_high_first n x)
    high zero = tt
    high (suc n) = (one_byte n x, high n)
digits Little n x = low 0 n
  where
    low : (i n : ℕ) → AreOctets (bytes_low_first i n x)
    low i zero = tt
    low i (suc n) = (one_byte i x, low (suc i) n)

number : (order : Order) (n o x : ℕ) → AreOctets (number_octets order n o x)
number order n o x = both (replicate (padding o n) 0) (digits_of order n x) (zeros (padding o n)) (digits order n x)

mutual
  pub written_octets : (order : Order) (v : Value) → HoldsOctets v → (o : ℕ) → AreOctets (octets_of order v o)
  written_octets order (value.boolean false) h o = (omega arith, tt)
  written_octets order (value.boolean true) h o = (omega arith, tt)
  written_octets order (value.number kind z) h o = number order (size kind) o (bits_of kind z)
  written_octets order (value.string text) h o =
      let front = number_octets order 4 o (length text + 1) in
      both (front ++ text) (0 ∷ []) (both front text (number order 4 o (length text + 1)) h) (omega arith, tt)
  written_octets order (value.octets all) h o = both (number_octets order 4 o (length all)) all (number order 4 o (length all)) h
  written_octets order (value.sequence vs) h o =
      let front = number_octets order 4 o (count vs) in
      both front (octets_of_all order vs (o + length front)) (number order 4 o (count vs)) (all_octets order vs h (o + length front))
  written_octets order (value.array vs) h o = all_octets order vs h o
  written_octets order (value.enumeration n) h o = number order 4 o n
  written_octets order (value.structure vs) h o = all_octets order vs h o
  written_octets order (value.union d ms) h o =
      let front = octets_of order d o in
      both front (octets_of_all order ms (o + length front)) (written_octets order d h.0 o) (all_octets order ms h.1 (o + length front))

  all_octets : (order : Order) (vs : Values) → HoldAll vs → (o : ℕ) → AreOctets (octets_of_all order vs o)
  all_octets order value.no_values h o = tt
  all_octets order (value.value v vs) h o =
      let front = octets_of order v o in
      both front (octets_of_all order vs (o + length front)) (written_octets order v h.0 o) (all_octets order vs h.1 (o + length front))
