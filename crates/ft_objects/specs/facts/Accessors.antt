-- That arguments which fit types are there for the accessors, each in its range. Nobody has to read these proofs; they stand here
-- since those of servants cite them.
use Rattle.std.specs.Prelude.{◌≡◌, ℕ, zero, suc, ◌<◌, ◌≤◌, ◌^◌, ℤ, pos, negsuc, ◌≤ℤ◌, ◌<ℤ◌, length, Option, Some, option_and_then, FitsSigned, ⊤}
use Rattle.std.specs.Int.{w16, w32, w64}
use Rattle.std.proofs.Common.{refl, ap, ◌∙◌, subst, arith}
use Rattle.std.proofs.lemmas.Int.{ints}
use Rattle.cdr_core.specs.Fitting.{Fits, FitsMembers, InRange}
use Rattle.cdr_core.specs.Form as form
use Rattle.cdr_core.specs.Form.{Form, Forms, Number}
use Rattle.cdr_core.specs.Spelling.{IsClean}
use Rattle.cdr_core.specs.Value as value
use Rattle.cdr_core.specs.Value.{Value, Values}
use Rattle.ft_objects.specs.Accessors.{argument_at, form_at, read_at, boolean_of, char_of, long_of, longlong_of, octet_of, octets_in, ordinal_of, short_of, string_of, ulong_of, ulonglong_of, ushort_of}

-- an argument that fits a type is of the type
argument_fits : (ts : Forms) (arguments : Values) (i : ℕ) (t : Form) → form_at i ts ≡ Some t → FitsMembers ts arguments → (v : Value) × (argument_at i arguments ≡ Some v) × Fits t v
argument_fits form.no_forms arguments i t is h = absurd cc
argument_fits (form.form u ts) value.no_values i t is h = absurd h
argument_fits (form.form u ts) (value.value v vs) zero t is h = (v, refl, subst (λ w. Fits w v) (some u t is) h.0)
  where
    some : (u t : Form) → Some u ≡ Some t → u ≡ t
    some u t e = cc
argument_fits (form.form u ts) (value.value v vs) (suc i) t is h = argument_fits ts vs i t is h.1

-- each value that fits the type is read, and what is read is so
abbrev IsRead : {A : Type 0} → Form → (Value → Option A) → (A → Type 0) → Type 0
IsRead {A} t of P = (v : Value) → Fits t v → (x : A) × (of v ≡ Some x) × P x

-- an argument of the type is there, and is so
abbrev pub IsThere : {A : Type 0} → Form → (Value → Option A) → (A → Type 0) → Type 0
IsThere {A} t of P = (ts : Forms) (arguments : Values) (i : ℕ) → form_at i ts ≡ Some t → FitsMembers ts arguments → (x : A) × (read_at of i arguments ≡ Some x) × P x

there : {A : Type 0} (t : Form) (of : Value → Option A) (P : A → Type 0) → IsRead t of P → IsThere t of P
there t of P each ts arguments i is h =
    let found = argument_fits ts arguments i t is h in
    let x = each found.0 found.2 in
    (x.0, ap (option_and_then of) found.1 ∙ x.1, x.2)

unsigned : (kind : Number) (size : ℕ) (of : Value → Option ℕ) → ((n : ℕ) → of (value.number kind (pos n)) ≡ Some n) → ((z : ℤ) → InRange kind z → (pos 0 ≤ℤ z) × (z <ℤ pos (2 ^ size))) → IsThere (form.number kind) of (λ n. n < 2 ^ size)
unsigned kind size of is range = there (form.number kind) of (λ n. n < 2 ^ size) each
  where
    each : IsRead (form.number kind) of (λ n. n < 2 ^ size)
    each (value.number same (pos n)) h = (n, ap (λ k. of (value.number k (pos n))) h.0 ∙ is n, let less = (range (pos n) h.1).1 in omega (arith, ints, less))
    each (value.number same (negsuc n)) h = absurd (let more = (range (negsuc n) h.1).0 in omega (arith, ints, more))
    each _ h = absurd h

signed : (kind : Number) (of : Value → Option ℤ) → ((z : ℤ) → of (value.number kind z) ≡ Some z) → IsThere (form.number kind) of (InRange kind)
signed kind of is = there (form.number kind) of (InRange kind) each
  where
    each : IsRead (form.number kind) of (InRange kind)
    each (value.number same z) h = (z, ap (λ k. of (value.number k z)) h.0 ∙ is z, h.1)
    each _ h = absurd h

pub char_fits : IsThere (form.number form.char) char_of (λ n. n < 2 ^ 8)
char_fits = unsigned form.char 8 char_of (λ n. refl) (λ z h. h)

pub octet_fits : IsThere (form.number form.octet) octet_of (λ n. n < 2 ^ 8)
octet_fits = unsigned form.octet 8 octet_of (λ n. refl) (λ z h. h)

pub short_fits : IsThere (form.number form.short) short_of (FitsSigned w16)
short_fits = signed form.short short_of (λ z. refl)

pub ushort_fits : IsThere (form.number form.ushort) ushort_of (λ n. n < 2 ^ 16)
ushort_fits = unsigned form.ushort 16 ushort_of (λ n. refl) (λ z h. h)

pub long_fits : IsThere (form.number form.long) long_of (FitsSigned w32)
long_fits = signed form.long long_of (λ z. refl)

pub ulong_fits : IsThere (form.number form.ulong) ulong_of (λ n. n < 2 ^ 32)
ulong_fits = unsigned form.ulong 32 ulong_of (λ n. refl) (λ z h. h)

pub longlong_fits : IsThere (form.number form.longlong) longlong_of (FitsSigned w64)
longlong_fits = signed form.longlong longlong_of (λ z. refl)

pub ulonglong_fits : IsThere (form.number form.ulonglong) ulonglong_of (λ n. n < 2 ^ 64)
ulonglong_fits = unsigned form.ulonglong 64 ulonglong_of (λ n. refl) (λ z h. h)

boolean_read : IsRead form.boolean boolean_of (λ b. ⊤)
boolean_read (value.boolean b) h = (b, refl, tt)
boolean_read _ h = absurd h

pub boolean_fits : IsThere form.boolean boolean_of (λ b. ⊤)
boolean_fits = there form.boolean boolean_of (λ b. ⊤) boolean_read

string_read : (bound : ℕ) → IsRead (form.string bound) string_of (λ text. (length text ≤ bound) × IsClean text)
string_read bound (value.string text) h = (text, refl, (h.0, h.2))
string_read bound _ h = absurd h

pub string_fits : (bound : ℕ) → IsThere (form.string bound) string_of (λ text. (length text ≤ bound) × IsClean text)
string_fits bound = there (form.string bound) string_of (λ text. (length text ≤ bound) × IsClean text) (string_read bound)

octets_read : (bound : ℕ) → IsRead (form.octets bound) octets_in (λ all. length all ≤ bound)
octets_read bound (value.octets all) h = (all, refl, h.0)
octets_read bound _ h = absurd h

pub octets_fits : (bound : ℕ) → IsThere (form.octets bound) octets_in (λ all. length all ≤ bound)
octets_fits bound = there (form.octets bound) octets_in (λ all. length all ≤ bound) (octets_read bound)

ordinal_read : (n : ℕ) → IsRead (form.enumeration n) ordinal_of (λ x. x < n)
ordinal_read n (value.enumeration x) h = (x, refl, h.0)
ordinal_read n _ h = absurd h

pub ordinal_fits : (n : ℕ) → IsThere (form.enumeration n) ordinal_of (λ x. x < n)
ordinal_fits n = there (form.enumeration n) ordinal_of (λ x. x < n) (ordinal_read n)
