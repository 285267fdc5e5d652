-- Which numbers a type of IDL has, as a test.
use Rattle.std.specs.Prelude.{◌^◌, ℤ, pos, neg_ℤ, int_le, int_lt, Bool, ◌&&◌}
use Rattle.cdr_core.specs.Form as form
use Rattle.cdr_core.specs.Form.{Number}

-- the number lies in the range of its type (CDR 9.3.1.2, CDR 9.3.1.4, CDR 9.3.1.6)
abbrev pub is_in_range : Number → ℤ → Bool
is_in_range form.char z = int_le (pos 0) z && int_lt z (pos (2 ^ 8))
is_in_range form.octet z = int_le (pos 0) z && int_lt z (pos (2 ^ 8))
is_in_range form.short z = int_le (neg_ℤ (pos (2 ^ 15))) z && int_lt z (pos (2 ^ 15))
is_in_range form.ushort z = int_le (pos 0) z && int_lt z (pos (2 ^ 16))
is_in_range form.long z = int_le (neg_ℤ (pos (2 ^ 31))) z && int_lt z (pos (2 ^ 31))
is_in_range form.ulong z = int_le (pos 0) z && int_lt z (pos (2 ^ 32))
is_in_range form.longlong z = int_le (neg_ℤ (pos (2 ^ 63))) z && int_lt z (pos (2 ^ 63))
is_in_range form.ulonglong z = int_le (pos 0) z && int_lt z (pos (2 ^ 64))
