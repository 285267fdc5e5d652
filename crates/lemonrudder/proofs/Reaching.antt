-- Values end no sooner at a place than the octets that spell them do at one that lies before it by a multiple of 8, and some more.
use Rattle.std.proofs.Common.{◌≡◌, ℕ, ◌+◌, ◌*◌, ◌≤◌, ℤ, Bool, true, false, List, [], ◌∷◌, ◌++◌, length, inl, inr, ap, subst, sym, arith, length-append}
use Rattle.cdr_core.specs.declared.order.Order.{Order}
use Rattle.cdr_core.specs.Form as form
use Rattle.cdr_core.specs.Form.{Cases, Form, Forms, Number, size}
use Rattle.cdr_core.specs.Numbers.{bits_of, padding}
use Rattle.cdr_core.specs.Spelling.{Chosen, Each, IsNumber, OneOf, Spells, SpellsChosen, SpellsMembers}
use Rattle.cdr_core.specs.Value as value
use Rattle.cdr_core.specs.Value.{Value, Values, count, label}
use Rattle.cdr_core.specs.Writing.{number_octets, octets_of, octets_of_all}
use Rattle.cdr_core.proofs.Lengths.{number_length}

-- the padding before a number

padded_2 : (k o q : ℕ) → o + 8 * k ≤ q → o + 8 * k + padding o 2 ≤ q + padding q 2
padded_2 k o q far = omega arith

padded_4 : (k o q : ℕ) → o + 8 * k ≤ q → o + 8 * k + padding o 4 ≤ q + padding q 4
padded_4 k o q far = omega arith

padded_8 : (k o q : ℕ) → o + 8 * k ≤ q → o + 8 * k + padding o 8 ≤ q + padding q 8
padded_8 k o q far = omega arith

padded_1 : (k o q : ℕ) → o + 8 * k ≤ q → o + 8 * k + padding o 1 ≤ q + padding q 1
padded_1 k o q far = omega arith

padded : (kind : Number) (k o q : ℕ) → o + 8 * k ≤ q → o + 8 * k + padding o (size kind) ≤ q + padding q (size kind)
padded form.char = padded_1
padded form.octet = padded_1
padded form.short = padded_2
padded form.ushort = padded_2
padded form.long = padded_4
padded form.ulong = padded_4
padded form.longlong = padded_8
padded form.ulonglong = padded_8

-- where a length ends
length_ends : (order : Order) (n k o q : ℕ) (octets : List ℕ) → IsNumber order 4 n o octets → o + 8 * k ≤ q → o + 8 * k + length octets ≤ q + length (number_octets order 4 q n)
length_ends order n k o q octets is far = omega (arith, is.long, padded_4 k o q far, number_length order 4 q n)

-- where values end that follow a front
behind_front : (order : Order) (vs : Values) (k o q : ℕ) (octets front rest first : List ℕ) → octets ≡ front ++ rest → o + 8 * k + length front ≤ q + length first
    → (o + length front + 8 * k ≤ q + length first → o + length front + 8 * k + length rest ≤ q + length first + length (octets_of_all order vs (q + length first)))
    → o + 8 * k + length octets ≤ q + length (first ++ octets_of_all order vs (q + length first))
behind_front order vs k o q octets front rest first parts ends more =
    let there : o + length front + 8 * k ≤ q + length first = omega (arith, ends) in
    omega (arith, more there, ap length parts, length-append front rest, length-append first (octets_of_all order vs (q + length first)))

abbrev Reaching : Order → ℕ → (Value → ℕ → List ℕ → Type 0) → Type 0
Reaching order k Is = (v : Value) (o : ℕ) (octets : List ℕ) → Is v o octets → (q : ℕ) → o + 8 * k ≤ q → o + 8 * k + length octets ≤ q + length (octets_of order v q)

each_reaches : (order : Order) (k : ℕ) (Is : Value → ℕ → List ℕ → Type 0) → Reaching order k Is → (vs : Values) (o : ℕ) (octets : List ℕ) → Each Is vs o octets → (q : ℕ) → o + 8 * k ≤ q
    → o + 8 * k + length octets ≤ q + length (octets_of_all order vs q)
each_reaches order k Is reaches value.no_values o octets h q far = omega (arith, ap length h)
each_reaches order k Is reaches (value.value v vs) o octets h q far =
    behind_front order vs k o q octets h.front h.rest (octets_of order v q) h.parts (reaches v o h.front h.first q far)
    (λ there. each_reaches order k Is reaches vs (o + length h.front) h.rest h.second (q + length (octets_of order v q)) there)

one_reaches : (order : Order) (k : ℕ) (Is : Value → ℕ → List ℕ → Type 0) → Reaching order k Is → (ms : Values) (o : ℕ) (octets : List ℕ) → OneOf Is ms o octets → (q : ℕ) → o + 8 * k ≤ q
    → o + 8 * k + length octets ≤ q + length (octets_of_all order ms q)
one_reaches order k Is reaches value.no_values o octets h q far = absurd h
one_reaches order k Is reaches (value.value v value.no_values) o octets h q far = omega (arith, reaches v o octets h q far, length-append {A = ℕ} (octets_of order v q) [])
one_reaches order k Is reaches (value.value v (value.value w ws)) o octets h q far = absurd h

chosen_either : (b : Bool) (A B C : Type 0) → (A → C) → (B → C) → Chosen b A B → C
chosen_either true A B C f g h = f h
chosen_either false A B C f g h = g h

text_reaches : (order : Order) (bound k o q : ℕ) (text octets : List ℕ) → Spells (form.string bound) order (value.string text) o octets → o + 8 * k ≤ q → o + 8 * k + length octets ≤ q + length (octets_of order (value.string text) q)
text_reaches order bound k o q text octets h far =
    let front = h.2.front in
    let rest = h.2.rest in
    let first : List ℕ = number_octets order 4 q (length text + 1) in
    let ends : o + 8 * k + length front ≤ q + length first = omega (arith, h.2.first.long, padded_4 k o q far, number_length order 4 q (length text + 1)) in
    let whole : length rest ≤ length text + 1 = elim h.2.second [ inl e ↦ omega (arith, ap length e.2) | inr e ↦ omega (arith, ap length e.2, length-append text (0 ∷ [])) ] in
    omega (arith, ends, whole, ap length h.2.parts, length-append front rest, length-append (first ++ text) (0 ∷ []), length-append first text)

octets_reach : (order : Order) (k o q : ℕ) (all octets front rest : List ℕ) → octets ≡ front ++ rest → IsNumber order 4 (length all) o front → rest ≡ all → o + 8 * k ≤ q → o + 8 * k + length octets ≤ q + length (octets_of order (value.octets all) q)
octets_reach order k o q all octets front rest parts is same far =
    let first : List ℕ = number_octets order 4 q (length all) in
    omega (arith, length_ends order (length all) k o q front is far, ap length same, ap length parts, length-append front rest, length-append first all)

mutual
  reaches : (t : Form) (order : Order) (k : ℕ) (v : Value) (o : ℕ) (octets : List ℕ) → Spells t order v o octets → (q : ℕ) → o + 8 * k ≤ q → o + 8 * k + length octets ≤ q + length (octets_of order v q)
  reaches form.boolean order k (value.boolean false) o octets h q far = omega (arith, ap length h)
  reaches form.boolean order k (value.boolean true) o octets h q far = omega (arith, ap length h)
  reaches (form.number kind) order k (value.number same z) o octets h q far =
      subst (λ (x : Number). o + 8 * k + length octets ≤ q + length (number_octets order (size x) q (bits_of x z))) (sym h.0)
      (omega (arith, h.2.long, padded kind k o q far, number_length order (size kind) q (bits_of kind z)))
  reaches (form.string bound) order k (value.string text) o octets h q far = text_reaches order bound k o q text octets h far
  reaches (form.octets bound) order k (value.octets all) o octets h q far = octets_reach order k o q all octets h.1.front h.1.rest h.1.parts h.1.first h.1.second far
  reaches (form.sequence bound t) order k (value.sequence vs) o octets h q far =
      behind_front order vs k o q octets h.1.front h.1.rest (number_octets order 4 q (count vs)) h.1.parts (length_ends order (count vs) k o q h.1.front h.1.first far)
      (λ there. each_reaches order k (Spells t order) (λ v p part s. reaches t order k v p part s) vs (o + length h.1.front) h.1.rest h.1.second (q + length (number_octets order 4 q (count vs))) there)
  reaches (form.array n t) order k (value.array vs) o octets h q far = each_reaches order k (Spells t order) (λ v p part s. reaches t order k v p part s) vs o octets h.1 q far
  reaches (form.enumeration n) order k (value.enumeration x) o octets h q far = length_ends order x k o q octets h.1 far
  reaches (form.structure ts) order k (value.structure vs) o octets h q far = members_reach ts order k vs o octets h q far
  reaches (form.union d cs) order k (value.union v ms) o octets h q far =
      behind_front order ms k o q octets h.front h.rest (octets_of order v q) h.parts (reaches d order k v o h.front h.first q far)
      (λ there. chosen_reach cs order k (label v) ms (o + length h.front) h.rest h.second (q + length (octets_of order v q)) there)
  reaches _ order k _ o octets h q far = absurd h

  pub members_reach : (ts : Forms) (order : Order) (k : ℕ) (vs : Values) (o : ℕ) (octets : List ℕ) → SpellsMembers ts order vs o octets → (q : ℕ) → o + 8 * k ≤ q → o + 8 * k + length octets ≤ q + length (octets_of_all order vs q)
  members_reach form.no_forms order k value.no_values o octets h q far = omega (arith, ap length h)
  members_reach (form.form t ts) order k (value.value v vs) o octets h q far =
      behind_front order vs k o q octets h.front h.rest (octets_of order v q) h.parts (reaches t order k v o h.front h.first q far)
      (λ there. members_reach ts order k vs (o + length h.front) h.rest h.second (q + length (octets_of order v q)) there)
  members_reach form.no_forms order k (value.value v vs) o octets h q far = absurd h
  members_reach (form.form t ts) order k value.no_values o octets h q far = absurd h

  chosen_reach : (cs : Cases) (order : Order) (k : ℕ) (l : ℤ) (ms : Values) (o : ℕ) (octets : List ℕ) → SpellsChosen cs order l ms o octets → (q : ℕ) → o + 8 * k ≤ q → o + 8 * k + length octets ≤ q + length (octets_of_all order ms q)
  chosen_reach form.otherwise_nothing order k l value.no_values o octets h q far = omega (arith, ap length h)
  chosen_reach form.otherwise_nothing order k l (value.value v vs) o octets h q far = absurd h
  chosen_reach (form.otherwise t) order k l ms o octets h q far = one_reaches order k (Spells t order) (λ v p part s. reaches t order k v p part s) ms o octets h q far
  chosen_reach (form.labelled x t cs) order k l ms o octets h q far =
      chosen_either _ _ _ _ (λ s. one_reaches order k (Spells t order) (λ v p part r. reaches t order k v p part r) ms o octets s q far) (λ s. chosen_reach cs order k l ms o octets s q far) h
