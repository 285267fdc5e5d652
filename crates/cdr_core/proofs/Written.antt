-- What is written for a value is a spelling by every type that the value fits.
use Rattle.std.proofs.Common.{◌≡◌, ℕ, ◌+◌, ◌<◌, ◌^◌, ℤ, pos, negsuc, ◌≤ℤ◌, ◌<ℤ◌, unsigned_abs, Bool, true, false, inr, List, [], ◌∷◌, ◌++◌, length, replicate, refl, sym, ap, ◌∙◌, arith, append_assoc}
use Rattle.std.proofs.lemmas.Int.{ints}
use Rattle.std.proofs.Math.Facts.{Fits-of_z, to_z-of_z}
use Rattle.std.proofs.lemmas.List.{append-nil, drop_at, length-replicate}
use Rattle.std.specs.Int.{w16, w32, w64}
use Rattle.byteorder.specs.Numbers.{big_number-reads_back, little_number-reads_back}
use Rattle.cdr_core.specs.declared.order.Order.{Order}
use Rattle.cdr_core.specs.declared.order.Order.TheVariants.{Big, Little}
use Rattle.cdr_core.specs.Fitting.{AllFit, Fits, FitsChosen, FitsMembers, InRange, OneFits}
use Rattle.cdr_core.specs.Form as form
use Rattle.cdr_core.specs.Form.{Cases, Form, Forms, Number, size}
use Rattle.cdr_core.specs.Numbers.{bits_of, digits_of, meaning, number_of, padding}
use Rattle.cdr_core.specs.Spelling.{Chosen, Each, IsNumber, OneOf, Spells, SpellsChosen, SpellsMembers}
use Rattle.cdr_core.specs.Value as value
use Rattle.cdr_core.specs.Value.{Value, Values, count, label}
use Rattle.cdr_core.specs.Writing.{number_octets, octets_of, octets_of_all}
use Rattle.cdr_core.proofs.Lengths.{number_length}

digits_back : (order : Order) (n x : ℕ) → x < 256 ^ n → number_of order n (digits_of order n x) ≡ x
digits_back Big n x lt = ap (number_of Big n) (sym (append-nil (digits_of Big n x))) ∙ big_number-reads_back n x [] lt
digits_back Little n x lt = ap (number_of Little n) (sym (append-nil (digits_of Little n x))) ∙ little_number-reads_back n x [] lt

pub number_spelled : (order : Order) (n o x : ℕ) → x < 256 ^ n → IsNumber order n x o (number_octets order n o x)
number_spelled order n o x lt = record {
  long = number_length order n o x;
  gives = ap (number_of order n) (drop_at (replicate (padding o n) 0) (digits_of order n x) (padding o n) (length-replicate {A = ℕ} (padding o n) 0)) ∙ digits_back order n x lt;
}

natural : (k : ℕ) (z : ℤ) → pos 0 ≤ℤ z → z <ℤ pos k → (unsigned_abs z < k) × (z ≡ pos (unsigned_abs z))
natural k (pos n) le lt = (omega (arith, ints, lt), refl)
natural k (negsuc n) le lt = absurd (omega (arith, ints, le))

-- the bits of a number give it back
bits_back : (kind : Number) (z : ℤ) → InRange kind z → (bits_of kind z < 256 ^ size kind) × (z ≡ meaning kind (bits_of kind z))
bits_back form.char z h = natural 256 z h.0 h.1
bits_back form.octet z h = natural 256 z h.0 h.1
bits_back form.short z h = ((Fits-of_z {w = w16} h).fits, sym (to_z-of_z {w = w16} h))
bits_back form.ushort z h = natural 65536 z h.0 h.1
bits_back form.long z h = ((Fits-of_z {w = w32} h).fits, sym (to_z-of_z {w = w32} h))
bits_back form.ulong z h = natural 4294967296 z h.0 h.1
bits_back form.longlong z h = ((Fits-of_z {w = w64} h).fits, sym (to_z-of_z {w = w64} h))
bits_back form.ulonglong z h = natural 18446744073709551616 z h.0 h.1

-- each of the values is spelled
abbrev Spelled : (Value → Type 0) → Order → (Value → ℕ → List ℕ → Type 0) → Type 0
Spelled P order Is = (v : Value) → P v → (o : ℕ) → Is v o (octets_of order v o)

each_spelled : (P : Value → Type 0) (order : Order) (Is : Value → ℕ → List ℕ → Type 0) → Spelled P order Is → (vs : Values) → AllFit P vs → (o : ℕ) → Each Is vs o (octets_of_all order vs o)
each_spelled P order Is spelled value.no_values h o = refl
each_spelled P order Is spelled (value.value v vs) h o = record {
  front = octets_of order v o;
  rest = octets_of_all order vs (o + length (octets_of order v o));
  parts = refl;
  first = spelled v h.0 o;
  second = each_spelled P order Is spelled vs h.1 (o + length (octets_of order v o));
}

one_spelled : (P : Value → Type 0) (order : Order) (Is : Value → ℕ → List ℕ → Type 0) → Spelled P order Is → (ms : Values) → OneFits P ms → (o : ℕ) → OneOf Is ms o (octets_of_all order ms o)
one_spelled P order Is spelled value.no_values h o = absurd h
one_spelled P order Is spelled (value.value v value.no_values) h o = rw (append-nil (octets_of order v o)) (spelled v h o)
one_spelled P order Is spelled (value.value v (value.value w ws)) h o = absurd h

pub chosen_both : (b : Bool) (A B C D : Type 0) → (A → C) → (B → D) → Chosen b A B → Chosen b C D
chosen_both true A B C D f g h = f h
chosen_both false A B C D f g h = g h

string_spelled : (bound : ℕ) (order : Order) (text : List ℕ) → Fits (form.string bound) (value.string text) → (o : ℕ) → Spells (form.string bound) order (value.string text) o (octets_of order (value.string text) o)
string_spelled bound order text h o = (
  h.0,
  length text + 1,
  record {
    front = number_octets order 4 o (length text + 1);
    rest = text ++ 0 ∷ [];
    parts = append_assoc (number_octets order 4 o (length text + 1)) text (0 ∷ []);
    first = number_spelled order 4 o (length text + 1) (omega (arith, h.1));
    second = inr (refl, h.2, refl);
  },
)

mutual
  pub spelled : (t : Form) (order : Order) (v : Value) → Fits t v → (o : ℕ) → Spells t order v o (octets_of order v o)
  spelled form.boolean order (value.boolean true) h o = refl
  spelled form.boolean order (value.boolean false) h o = refl
  spelled (form.number kind) order (value.number same z) h o =
      let b = bits_back same z (rw (h.0) (h.1)) in
      (h.0, bits_of same z, rw (← h.0) (number_spelled order (size same) o (bits_of same z) b.0), rw (← h.0) b.1)
  spelled (form.string bound) order (value.string text) h o = string_spelled bound order text h o
  spelled (form.octets bound) order (value.octets all) h o = (
    h.0,
    record {
      front = number_octets order 4 o (length all);
      rest = all;
      parts = refl;
      first = number_spelled order 4 o (length all) (omega (arith, h.1));
      second = refl;
    },
  )
  spelled (form.sequence bound t) order (value.sequence vs) h o = (
    h.0,
    record {
      front = number_octets order 4 o (count vs);
      rest = octets_of_all order vs (o + length (number_octets order 4 o (count vs)));
      parts = refl;
      first = number_spelled order 4 o (count vs) (omega (arith, h.1));
      second = each_spelled (Fits t) order (Spells t order) (λ v f p. spelled t order v f p) vs h.2 (o + length (number_octets order 4 o (count vs)));
    },
  )
  spelled (form.array n t) order (value.array vs) h o = (h.0, each_spelled (Fits t) order (Spells t order) (λ v f p. spelled t order v f p) vs h.2 o)
  spelled (form.enumeration n) order (value.enumeration x) h o = (h.0, number_spelled order 4 o x (omega (arith, h.1)))
  spelled (form.structure ts) order (value.structure vs) h o = members_spelled ts order vs h o
  spelled (form.union d cs) order (value.union v ms) h o = record {
    front = octets_of order v o;
    rest = octets_of_all order ms (o + length (octets_of order v o));
    parts = refl;
    first = spelled d order v h.0 o;
    second = chosen_spelled cs order (label v) ms h.1 (o + length (octets_of order v o));
  }
  spelled _ order _ h o = absurd h

  pub members_spelled : (ts : Forms) (order : Order) (vs : Values) → FitsMembers ts vs → (o : ℕ) → SpellsMembers ts order vs o (octets_of_all order vs o)
  members_spelled form.no_forms order value.no_values h o = refl
  members_spelled (form.form t ts) order (value.value v vs) h o = record {
    front = octets_of order v o;
    rest = octets_of_all order vs (o + length (octets_of order v o));
    parts = refl;
    first = spelled t order v h.0 o;
    second = members_spelled ts order vs h.1 (o + length (octets_of order v o));
  }
  members_spelled form.no_forms order (value.value v vs) h o = absurd h
  members_spelled (form.form t ts) order value.no_values h o = absurd h

  chosen_spelled : (cs : Cases) (order : Order) (l : ℤ) (ms : Values) → FitsChosen cs l ms → (o : ℕ) → SpellsChosen cs order l ms o (octets_of_all order ms o)
  chosen_spelled form.otherwise_nothing order l value.no_values h o = refl
  chosen_spelled form.otherwise_nothing order l (value.value v vs) h o = absurd h
  chosen_spelled (form.otherwise t) order l ms h o = one_spelled (Fits t) order (Spells t order) (λ v f p. spelled t order v f p) ms h o
  chosen_spelled (form.labelled k t cs) order l ms h o =
      chosen_both _ _ _ _ _ (λ f. one_spelled (Fits t) order (Spells t order) (λ v g p. spelled t order v g p) ms f o) (λ f. chosen_spelled cs order l ms f o) h
