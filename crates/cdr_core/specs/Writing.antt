-- The octets of a value that are written. Among those that the standard allows they are this project's choice: padding
-- is written as zeros, and an empty string with its NUL.
use Rattle.std.specs.Prelude.{◌≡◌, ℕ, ◌+◌, ◌-◌, ◌<◌, ◌≤◌, ◌^◌, true, false, List, [], ◌∷◌, ◌++◌, length, replicate, Option, Some, None, Result, Ok, Err, ⊤}
use Rattle.cdr_core.specs.declared.order.Order.{Order}
use Rattle.cdr_core.specs.Form.{size}
use Rattle.cdr_core.specs.Value as value
use Rattle.cdr_core.specs.Value.{Value, Values, count}
use Rattle.cdr_core.specs.Numbers.{padding, digits_of, bits_of}
use Rattle.cdr_core.specs.Spelling.{IsClean}

-- CDR 9.3.1.1, CDR 9.3.1.2: zeros up to the next place divisible by n, and the n octets of a number
abbrev pub number_octets : Order → ℕ → ℕ → ℕ → List ℕ
number_octets order n o x = replicate (padding o n) 0 ++ digits_of order n x

-- octets from offset o on, and what follows them at the offset where they end
abbrev pub and_then : ℕ → List ℕ → (ℕ → List ℕ) → List ℕ
and_then o front rest = front ++ rest (o + length front)

-- CDR 9.3.1, CDR 9.3.2: the octets of a value at offset o
abbrev mutual
  pub octets_of : Order → Value → ℕ → List ℕ
  octets_of order (value.boolean false) o = 0 ∷ []
  octets_of order (value.boolean true) o = 1 ∷ []
  octets_of order (value.number kind z) o = number_octets order (size kind) o (bits_of kind z)
  octets_of order (value.string text) o = number_octets order 4 o (length text + 1) ++ text ++ 0 ∷ []
  octets_of order (value.octets all) o = number_octets order 4 o (length all) ++ all
  octets_of order (value.sequence vs) o = and_then o (number_octets order 4 o (count vs)) (octets_of_all order vs)
  octets_of order (value.array vs) o = octets_of_all order vs o
  octets_of order (value.enumeration n) o = number_octets order 4 o n
  octets_of order (value.structure vs) o = octets_of_all order vs o
  octets_of order (value.union d ms) o = and_then o (octets_of order d o) (octets_of_all order ms)

  -- the octets of values, one after another
  pub octets_of_all : Order → Values → ℕ → List ℕ
  octets_of_all order value.no_values o = []
  octets_of_all order (value.value v vs) o = and_then o (octets_of order v o) (octets_of_all order vs)

-- the values that can be written: lengths, with a string's NUL, fit an unsigned long, and no string holds a NUL (CDR 9.3.2)
abbrev mutual
  pub IsWritable : Value → Type 0
  IsWritable (value.string text) = (length text + 1 < 2 ^ 32) × IsClean text
  IsWritable (value.octets all) = length all < 2 ^ 32
  IsWritable (value.sequence vs) = (count vs < 2 ^ 32) × AreWritable vs
  IsWritable (value.array vs) = (count vs < 2 ^ 32) × AreWritable vs
  IsWritable (value.structure vs) = AreWritable vs
  IsWritable (value.union d ms) = IsWritable d × AreWritable ms
  IsWritable _ = ⊤

  -- each of the values can be written
  pub AreWritable : Values → Type 0
  AreWritable value.no_values = ⊤
  AreWritable (value.value v vs) = IsWritable v × AreWritable vs

-- the place where octets end, or none if it is not below 2^64
abbrev pub EndsAt : Option ℕ → ℕ → Type 0
EndsAt None place = 2 ^ 64 ≤ place
EndsAt (Some x) place = x ≡ place

-- What a `Writer` stands for: the byte order, and the place `at` of the octet that stands at `start` in an output.
pub record Writing : Type 0 where
  pub order : Order
  pub at : ℕ
  pub start : ℕ

-- the place of the next octet that is appended to an output
abbrev pub place_in : Writing → List ℕ → ℕ
place_in w out = w.at + (length out - w.start)

-- a value is appended to an output, aligned by its place there
abbrev pub Appends : Writing → Value → List ℕ → List ℕ → Type 0
Appends w v old new = new ≡ old ++ octets_of w.order v (place_in w old)

-- values are appended one after another
abbrev pub PutsAll : Writing → Values → List ℕ → List ℕ → Type 0
PutsAll w vs old new = new ≡ old ++ octets_of_all w.order vs (place_in w old)

-- a value is appended, or at an error nothing
abbrev pub Puts : {A E : Type 0} → Writing → Value → Result A E → List ℕ → List ℕ → Type 0
Puts w v (Ok x) old new = Appends w v old new
Puts w v (Err e) old new = new ≡ old
