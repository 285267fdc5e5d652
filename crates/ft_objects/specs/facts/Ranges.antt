-- That a number which a test allows is in the range of its type, and back. Nobody has to read these proofs; they stand here since those
-- of servants cite them.
use Rattle.std.specs.Prelude.{◌≡◌, ℕ, ◌<◌, ◌≤◌, ◌^◌, ℤ, pos, negsuc, ◌≤ℤ◌, ◌<ℤ◌, int_le, int_lt, true, ◌&&◌}
use Rattle.std.proofs.Common.{◌∙◌, arith, ltb-true, leb-true}
use Rattle.std.proofs.Math.Bool.{and-true}
use Rattle.std.proofs.Math.Dec.{leb}
use Rattle.std.proofs.lemmas.Bool.{and_parts, le-leb, lt-ltb}
use Rattle.std.proofs.lemmas.Bool.Decides.{nat_tests}
use Rattle.std.proofs.lemmas.Int.{ints}
use Rattle.cdr_core.specs.Fitting.{InRange}
use Rattle.cdr_core.specs.Form as form
use Rattle.cdr_core.specs.Form.{Number}
use Rattle.ft_objects.specs.Ranges.{is_in_range}

unsigned_in : (n : ℕ) (z : ℤ) → int_le (pos 0) z && int_lt z (pos n) ≡ true → (pos 0 ≤ℤ z) × (z <ℤ pos n)
unsigned_in n (pos m) h = let less : m < n = ltb-true m n (and_parts (int_le (pos 0) (pos m)) (int_lt (pos m) (pos n)) h).1 in (omega (arith, ints), omega (arith, ints, less))
unsigned_in n (negsuc m) h = absurd cc

unsigned_by : (n : ℕ) (z : ℤ) → (pos 0 ≤ℤ z) × (z <ℤ pos n) → int_le (pos 0) z && int_lt z (pos n) ≡ true
unsigned_by n z h = grind (arith, ints, nat_tests, h.0, h.1)

-- a negative number is tested by how far it is below -1
negative_in : (n most : ℕ) → leb n most && true ≡ true → n ≤ most
negative_in n most h = leb-true n most (and_parts (leb n most) true h).0

negative_by : (n most : ℕ) → n ≤ most → leb n most && true ≡ true
negative_by n most h = and-true (leb n most) ∙ le-leb n most h

-- a number is in the range of its type where the test says so ..
pub range_by_test : (kind : Number) (z : ℤ) → is_in_range kind z ≡ true → InRange kind z
range_by_test form.char z h = unsigned_in (2 ^ 8) z h
range_by_test form.octet z h = unsigned_in (2 ^ 8) z h
range_by_test form.short (pos n) h = record { sfits = ltb-true _ _ h }
range_by_test form.short (negsuc n) h = let at = negative_in n 32767 h in record { sfits = omega arith }
range_by_test form.ushort z h = unsigned_in (2 ^ 16) z h
range_by_test form.long (pos n) h = record { sfits = ltb-true _ _ h }
range_by_test form.long (negsuc n) h = let at = negative_in n 2147483647 h in record { sfits = omega arith }
range_by_test form.ulong z h = unsigned_in (2 ^ 32) z h
range_by_test form.longlong (pos n) h = record { sfits = ltb-true _ _ h }
range_by_test form.longlong (negsuc n) h = let at = negative_in n 9223372036854775807 h in record { sfits = omega arith }
range_by_test form.ulonglong z h = unsigned_in (2 ^ 64) z h

-- .. and back
pub test_by_range : (kind : Number) (z : ℤ) → InRange kind z → is_in_range kind z ≡ true
test_by_range form.char z h = unsigned_by (2 ^ 8) z h
test_by_range form.octet z h = unsigned_by (2 ^ 8) z h
test_by_range form.short (pos n) h = lt-ltb _ _ h.sfits
test_by_range form.short (negsuc n) h = let at : n < 32768 = h.sfits in negative_by n 32767 (omega arith)
test_by_range form.ushort z h = unsigned_by (2 ^ 16) z h
test_by_range form.long (pos n) h = lt-ltb _ _ h.sfits
test_by_range form.long (negsuc n) h = let at : n < 2147483648 = h.sfits in negative_by n 2147483647 (omega arith)
test_by_range form.ulong z h = unsigned_by (2 ^ 32) z h
test_by_range form.longlong (pos n) h = lt-ltb _ _ h.sfits
test_by_range form.longlong (negsuc n) h = let at : n < 9223372036854775808 = h.sfits in negative_by n 9223372036854775807 (omega arith)
test_by_range form.ulonglong z h = unsigned_by (2 ^ 64) z h
