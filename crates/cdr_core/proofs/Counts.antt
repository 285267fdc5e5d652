-- A length without a bound is an unsigned long.
use Rattle.std.proofs.Common.{◌≡◌, ℕ, ℤ, ◌+◌, ◌-◌, ◌<◌, ◌^◌, false, cond, ltb, List, Ok, Err, refl, arith}
use Rattle.std.proofs.lemmas.Bool.{le-ltb}
use Rattle.cdr_core.specs.declared.fault.Kind.TheVariants as kind
use Rattle.cdr_core.specs.declared.order.Order.{Order}
use Rattle.cdr_core.specs.Form as form
use Rattle.cdr_core.specs.Laws.{LengthIsUnsignedLong}
use Rattle.cdr_core.specs.Numbers.{meaning, padding, AreOctets}
use Rattle.cdr_core.specs.Parts.{most, ulong_value}
use Rattle.cdr_core.specs.Reading.{◌>>=◌, Read, fault, length_at, number_at, value_at, whole_at}
use Rattle.cdr_core.specs.Value as value
use Rattle.cdr_core.specs.Value.{Value}
use Rattle.cdr_core.proofs.SpelledFits.{number_small, parts_of}
use Rattle.cdr_core.proofs.Taken.{number_takes}

-- the numbers that are read are unsigned longs
small : (order : Order) (o : ℕ) (octets : List ℕ) → AreOctets octets → (x p : ℕ) (rest : List ℕ) → number_at order 4 o octets ≡ Ok (x, p, rest) → x < 2 ^ 32
small order o octets are x p rest h =
    let t = number_takes order 4 (omega arith) o octets x p rest h in
    number_small order 4 x o t.front (parts_of octets t.front rest t.parts are).0 t.holds

-- the steps after the number of four octets
abbrev meant : ℕ × ℕ × List ℕ → Read ℤ
meant x = Ok (meaning form.ulong x.0, x.1, x.2)

abbrev valued : ℤ × ℕ × List ℕ → Read Value
valued x = Ok (value.number form.ulong x.0, x.1, x.2)

abbrev judged : ℕ → ℕ × ℕ × List ℕ → Read ℕ
judged o x = cond (ltb most (x.0 - 0)) (fault kind.OverBound (o + padding o 4)) (Ok x)

abbrev counted : ℕ × ℕ × List ℕ → Read Value
counted n = Ok (ulong_value n.0, n.1, n.2)

pub count_is : LengthIsUnsignedLong
unfolding value_at whole_at length_at
count_is order o octets are = by (number_at order 4 o octets) (small order o octets are)
  where
    by : (r : Read ℕ) → ((x p : ℕ) (rest : List ℕ) → r ≡ Ok (x, p, rest) → x < 2 ^ 32) → ◌≡◌ {A = Read Value} (r >>= meant >>= valued) (r >>= judged o >>= counted)
    by (Ok x) below =
        let within : ltb most (x.0 - 0) ≡ false = le-ltb _ _ (omega (arith, below x.0 x.1 x.2 refl)) in
        rw within refl
    by (Err f) below = refl
