-- What octets spell by a valid type fits it.
use Rattle.std.proofs.Common.{◌≡◌, ℕ, zero, suc, ◌+◌, ◌<◌, ◌^◌, ℤ, inl, inr, List, [], ◌∷◌, ◌++◌, length, drop, take, get_or, slice_index_or, Ok, subst, sym, arith}
use Rattle.std.proofs.lemmas.Int.{ints}
use Rattle.std.proofs.Math.Facts.{Fits-of_lt, sfits_to_z}
use Rattle.std.proofs.lemmas.List.{take-append-drop}
use Rattle.std.specs.Int.{w16, w32, w64}
use Rattle.byteorder.specs.Numbers.{big_from-lt, little_from-lt}
use Rattle.cdr_core.specs.declared.order.Order.{Order}
use Rattle.cdr_core.specs.declared.order.Order.TheVariants.{Big, Little}
use Rattle.cdr_core.specs.Fitting.{AllFit, AreCases, AreValid, Fits, FitsChosen, FitsMembers, InRange, IsValid, OneFits}
use Rattle.cdr_core.specs.Form as form
use Rattle.cdr_core.specs.Form.{Cases, Form, Forms, Number, size}
use Rattle.cdr_core.specs.Numbers.{AreOctets, meaning, number_of, padding}
use Rattle.cdr_core.specs.Reading.{value_at}
use Rattle.cdr_core.specs.Spelling.{Each, IsNumber, OneOf, Spells, SpellsChosen, SpellsMembers}
use Rattle.cdr_core.specs.Value as value
use Rattle.cdr_core.specs.Value.{Value, Values, count, label}
use Rattle.cdr_core.specs.Writing.{IsWritable}
use Rattle.cdr_core.proofs.Found.{found}
use Rattle.cdr_core.proofs.MayWrite.{may}
use Rattle.cdr_core.proofs.Written.{chosen_both}

-- the octets of a part, and of what follows it
front_of : (front rest : List ℕ) → AreOctets (front ++ rest) → AreOctets front × AreOctets rest
front_of [] rest a = (tt, a)
front_of (x ∷ front) rest a = let more = front_of front rest a.1 in ((a.0, more.0), more.1)

pub parts_of : (octets front rest : List ℕ) → octets ≡ front ++ rest → AreOctets octets → AreOctets front × AreOctets rest
parts_of octets front rest e a = front_of front rest (subst AreOctets e a)

one_of : (octets : List ℕ) → AreOctets octets → (k : ℕ) → get_or octets k 0 < 256
one_of [] a k = omega arith
one_of (x ∷ octets) a zero = a.0
one_of (x ∷ octets) a (suc k) = one_of octets a.1 k

pub number_small : (order : Order) (n x o : ℕ) (octets : List ℕ) → AreOctets octets → IsNumber order n x o octets → x < 256 ^ n
number_small order n x o octets a h =
    let digits = drop (padding o n) octets in
    let are : AreOctets digits = (parts_of octets (take (padding o n) octets) digits (sym (take-append-drop (padding o n) octets)) a).1 in
    subst (λ y. y < 256 ^ n) h.gives (below order digits (one_of digits are))
  where
    below : (order : Order) (xs : List ℕ) → ((k : ℕ) → get_or xs k 0 < 256) → number_of order n xs < 256 ^ n
    below Big xs f = big_from-lt 0 n xs f
    below Little xs f = little_from-lt 0 n xs f

number_fits : (kind : Number) (x : ℕ) → x < 256 ^ size kind → InRange kind (meaning kind x)
number_fits form.char x lt = (omega (arith, ints), omega (arith, ints, lt))
number_fits form.octet x lt = (omega (arith, ints), omega (arith, ints, lt))
number_fits form.short x lt = sfits_to_z (Fits-of_lt {w = w16} lt)
number_fits form.ushort x lt = (omega (arith, ints), omega (arith, ints, lt))
number_fits form.long x lt = sfits_to_z (Fits-of_lt {w = w32} lt)
number_fits form.ulong x lt = (omega (arith, ints), omega (arith, ints, lt))
number_fits form.longlong x lt = sfits_to_z (Fits-of_lt {w = w64} lt)
number_fits form.ulonglong x lt = (omega (arith, ints), omega (arith, ints, lt))

-- each of the values that octets spell fits
abbrev Fitted : (Value → Type 0) → (Value → ℕ → List ℕ → Type 0) → Type 0
Fitted P Is = (v : Value) (o : ℕ) (octets : List ℕ) → AreOctets octets → Is v o octets → P v

each_fits : (P : Value → Type 0) (Is : Value → ℕ → List ℕ → Type 0) → Fitted P Is → (vs : Values) (o : ℕ) (octets : List ℕ) → AreOctets octets → Each Is vs o octets → AllFit P vs
each_fits P Is fitted value.no_values o octets a h = tt
each_fits P Is fitted (value.value v vs) o octets a h =
    let p = parts_of octets h.front h.rest h.parts a in
    (fitted v o h.front p.0 h.first, each_fits P Is fitted vs (o + length h.front) h.rest p.1 h.second)

one_fits : (P : Value → Type 0) (Is : Value → ℕ → List ℕ → Type 0) → Fitted P Is → (ms : Values) (o : ℕ) (octets : List ℕ) → AreOctets octets → OneOf Is ms o octets → OneFits P ms
one_fits P Is fitted value.no_values o octets a h = absurd h
one_fits P Is fitted (value.value v value.no_values) o octets a h = fitted v o octets a h
one_fits P Is fitted (value.value v (value.value w ws)) o octets a h = absurd h

string_fits : (bound : ℕ) (order : Order) (text : List ℕ) (o : ℕ) (octets : List ℕ) → AreOctets octets → Spells (form.string bound) order (value.string text) o octets → Fits (form.string bound) (value.string text)
string_fits bound order text o octets a h =
    let p = parts_of octets h.2.front h.2.rest h.2.parts a in
    let small = number_small order 4 h.1 o h.2.front p.0 h.2.first in
    elim h.2.second [ inl e ↦ (h.0, rw (e.1) (omega arith), rw (e.1) tt) | inr e ↦ (h.0, omega (arith, small, e.0), e.1) ]

mutual
  pub spelled_fits : (t : Form) (order : Order) (v : Value) (o : ℕ) (octets : List ℕ) → IsValid t → AreOctets octets → Spells t order v o octets → Fits t v
  spelled_fits form.boolean order (value.boolean b) o octets valid a h = tt
  spelled_fits (form.number kind) order (value.number same z) o octets valid a h = (h.0, rw (h.3) (number_fits kind h.1 (number_small order (size kind) h.1 o octets a h.2)))
  spelled_fits (form.string bound) order (value.string text) o octets valid a h = string_fits bound order text o octets a h
  spelled_fits (form.octets bound) order (value.octets all) o octets valid a h = (h.0, omega (arith, number_small order 4 (length all) o h.1.front (parts_of octets h.1.front h.1.rest h.1.parts a).0 h.1.first))
  spelled_fits (form.sequence bound t) order (value.sequence vs) o octets valid a h =
      let p = parts_of octets h.1.front h.1.rest h.1.parts a in
      (h.0, omega (arith, number_small order 4 (count vs) o h.1.front p.0 h.1.first), each_fits (Fits t) (Spells t order) (λ v q front b s. spelled_fits t order v q front valid b s) vs (o + length h.1.front) h.1.rest p.1 h.1.second)
  spelled_fits (form.array n t) order (value.array vs) o octets valid a h =
      (h.0, omega (arith, h.0, valid.1), each_fits (Fits t) (Spells t order) (λ v q front b s. spelled_fits t order v q front valid.2 b s) vs o octets a h.1)
  spelled_fits (form.enumeration n) order (value.enumeration x) o octets valid a h = (h.0, omega (arith, number_small order 4 x o octets a h.1))
  spelled_fits (form.structure ts) order (value.structure vs) o octets valid a h = members_fit ts order vs o octets valid.1 a h
  spelled_fits (form.union d cs) order (value.union v ms) o octets valid a h =
      let p = parts_of octets h.front h.rest h.parts a in
      (spelled_fits d order v o h.front valid.1 p.0 h.first, chosen_fits d cs order (label v) ms (o + length h.front) h.rest valid.2 p.1 h.second)
  spelled_fits _ order _ o octets valid a h = absurd h

  members_fit : (ts : Forms) (order : Order) (vs : Values) (o : ℕ) (octets : List ℕ) → AreValid ts → AreOctets octets → SpellsMembers ts order vs o octets → FitsMembers ts vs
  members_fit form.no_forms order value.no_values o octets valid a h = tt
  members_fit (form.form t ts) order (value.value v vs) o octets valid a h =
      let p = parts_of octets h.front h.rest h.parts a in
      (spelled_fits t order v o h.front valid.0 p.0 h.first, members_fit ts order vs (o + length h.front) h.rest valid.1 p.1 h.second)
  members_fit form.no_forms order (value.value v vs) o octets valid a h = absurd h
  members_fit (form.form t ts) order value.no_values o octets valid a h = absurd h

  chosen_fits : (d : Form) (cs : Cases) (order : Order) (l : ℤ) (ms : Values) (o : ℕ) (octets : List ℕ) → AreCases d cs → AreOctets octets → SpellsChosen cs order l ms o octets → FitsChosen cs l ms
  chosen_fits d form.otherwise_nothing order l value.no_values o octets valid a h = tt
  chosen_fits d form.otherwise_nothing order l (value.value v vs) o octets valid a h = absurd h
  chosen_fits d (form.otherwise t) order l ms o octets valid a h = one_fits (Fits t) (Spells t order) (λ v q front b s. spelled_fits t order v q front valid b s) ms o octets a h
  chosen_fits d (form.labelled k t cs) order l ms o octets valid a h =
      chosen_both _ _ _ _ _ (λ s. one_fits (Fits t) (Spells t order) (λ v q front b r. spelled_fits t order v q front valid.2 b r) ms o octets a s) (λ s. chosen_fits d cs order l ms o octets valid.3 a s) h

pub read_fits : (t : Form) (order : Order) (o : ℕ) (octets : List ℕ) (v : Value) (p : ℕ) (rest : List ℕ) → IsValid t → AreOctets octets → value_at t order o octets ≡ Ok (v, p, rest) → Fits t v × IsWritable v
read_fits t order o octets v p rest valid a h =
    let taken = found t order o octets v p rest h in
    let fits = spelled_fits t order v o taken.front valid (parts_of octets taken.front rest taken.parts a).0 taken.holds in
    (fits, may t v fits)

pub are_octets : (octets : List ℕ) → ((i : ℕ) → slice_index_or octets i 0 < 256) → AreOctets octets
are_octets [] h = tt
are_octets (x ∷ xs) h = (h 0, are_octets xs (λ i. h (suc i)))
