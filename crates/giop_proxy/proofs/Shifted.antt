-- Values of which each is aligned to 4 at most have the same octets twelve places later; and what one more service context of four
-- octets moves.
use Rattle.std.proofs.Common.{◌≡◌, ℕ, ◌+◌, ◌≤◌, ◌%◌, Bool, true, false, List, [], ◌∷◌, ◌++◌, length, map, replicate, refl, sym, ap, ◌∙◌, arith, length-append}
use Rattle.std.proofs.lemmas.List.{append-nil}
use Rattle.cdr_core.specs.declared.order.Order.{Order}
use Rattle.cdr_core.specs.Numbers.{digits_of, padding}
use Rattle.cdr_core.specs.Parts.{ulong_value}
use Rattle.cdr_core.specs.Value as value
use Rattle.cdr_core.specs.Value.{Value, Values, count, values}
use Rattle.cdr_core.specs.Writing.{number_octets, octets_of, octets_of_all}
use Rattle.cdr_core.proofs.Appending.{octets-last}
use Rattle.cdr_core.proofs.Lengths.{number_length}
use Rattle.cdr_core.proofs.Turns.{values_push}
use Rattle.giop_core.specs.Items.{list_value, tagged_value}
use Rattle.giop_core.specs.Written.{zeros}
use Rattle.giop_core.proofs.OctetsBody.{body_read}

-- padding to 4

pub four_later : (o : ℕ) → padding (o + 12) 4 ≡ padding o 4
four_later o = omega arith

pub four_reached : (o : ℕ) → padding (o + padding o 4) 4 ≡ 0
four_reached o = omega arith

pub four_passed : (o n : ℕ) → padding o 4 ≡ 0 → n % 4 ≡ 0 → padding (o + n) 4 ≡ 0
four_passed o n here whole = omega (arith, here, whole)

-- the same octets twelve places later

abbrev pub Shifts : Order → Value → Type 0
Shifts order v = (o : ℕ) → octets_of order v (o + 12) ≡ octets_of order v o

number_shifts : (order : Order) (n o : ℕ) → number_octets order 4 (o + 12) n ≡ number_octets order 4 o n
number_shifts order n o = ap (λ p. replicate p 0 ++ digits_of order 4 n) (four_later o)

pub ulong_shifts : (order : Order) (n : ℕ) → Shifts order (ulong_value n)
ulong_shifts order n o = number_shifts order n o

pub enum_shifts : (order : Order) (n : ℕ) → Shifts order (value.enumeration n)
enum_shifts order n o = number_shifts order n o

pub bool_shifts : (order : Order) (b : Bool) → Shifts order (value.boolean b)
bool_shifts order true o = refl
bool_shifts order false o = refl

pub octets_shift : (order : Order) (xs : List ℕ) → Shifts order (value.octets xs)
octets_shift order xs o = ap (λ ys. ys ++ xs) (number_shifts order (length xs) o)

pub string_shifts : (order : Order) (xs : List ℕ) → Shifts order (value.string xs)
string_shifts order xs o = ap (λ ys. ys ++ xs ++ 0 ∷ []) (number_shifts order (length xs + 1) o)

-- three reserved octets are the same at each place
zeros_are : (order : Order) (o : ℕ) → octets_of order zeros o ≡ 0 ∷ 0 ∷ 0 ∷ []
zeros_are order o = sym (append-nil (octets_of order zeros o)) ∙ body_read order (0 ∷ 0 ∷ 0 ∷ []) o (omega arith, (omega arith, (omega arith, tt)))

pub zeros_shift : (order : Order) → Shifts order zeros
zeros_shift order o = zeros_are order (o + 12) ∙ sym (zeros_are order o)

abbrev pub AllShift : Order → List Value → Type 0
AllShift order [] = Unit {0}
AllShift order (v ∷ vs) = Shifts order v × AllShift order vs

pub all_shift : (order : Order) (vs : List Value) (o : ℕ) → AllShift order vs → octets_of_all order (values vs) (o + 12) ≡ octets_of_all order (values vs) o
all_shift order [] o h = refl
all_shift order (v ∷ vs) o h =
    let front = octets_of order v o in
    let place : (o + 12) + length front ≡ (o + length front) + 12 = omega arith in
    ap (λ xs. xs ++ octets_of_all order (values vs) ((o + 12) + length xs)) (h.0 o)
    ∙ ap (λ p. front ++ octets_of_all order (values vs) p) place
    ∙ ap (λ xs. front ++ xs) (all_shift order vs (o + length front) h.1)

-- one more context of four octets

module _ (order : Order) (cs : List (ℕ × List ℕ)) (id a b c d : ℕ) where
  abbrev pub one : ℕ × List ℕ
  one = (id, a ∷ b ∷ c ∷ d ∷ [])

  one_length : (o : ℕ) → length (octets_of order (tagged_value one) o) ≡ padding o 4 + 12
  one_length o =
      let first = number_octets order 4 o id in
      let n : length first ≡ padding o 4 + 4 = number_length order 4 o id in
      let second = number_octets order 4 (o + length first) 4 in
      let none : padding (o + length first) 4 ≡ 0 = ap (λ (m : ℕ). padding m 4) (ap (λ (m : ℕ). o + m) n) ∙ four_passed_here o in
      let m : length second ≡ padding (o + length first) 4 + 4 = number_length order 4 (o + length first) 4 in
      let data' = a ∷ b ∷ c ∷ d ∷ [] in
      omega (arith, n, m, none, length-append first ((second ++ data') ++ []), length-append (second ++ data') [], length-append second data')
    where
      four_passed_here : (o : ℕ) → padding (o + (padding o 4 + 4)) 4 ≡ 0
      four_passed_here o = omega arith

  pub list_more : (o : ℕ) → let n = length (octets_of order (list_value cs) o) in length (octets_of order (list_value (cs ++ one ∷ [])) o) ≡ n + (padding (o + n) 4 + 12)
  list_more o =
      let items = values (map tagged_value cs) in
      let more = values (map tagged_value (cs ++ one ∷ [])) in
      let front = number_octets order 4 o (count items) in
      let front' = number_octets order 4 o (count more) in
      let m : length front ≡ padding o 4 + 4 = number_length order 4 o (count items) in
      let m' : length front' ≡ padding o 4 + 4 = number_length order 4 o (count more) in
      let p = o + (padding o 4 + 4) in
      let old = octets_of_all order items p in
      let new = octets_of_all order more p in
      let last : new ≡ old ++ octets_of order (tagged_value one) (p + length old) = ap (λ (vs : Values). octets_of_all order vs p) (values_push tagged_value cs one) ∙ octets-last order items (tagged_value one) p in
      let here : length (octets_of order (list_value cs) o) ≡ (padding o 4 + 4) + length old =
      length-append front (octets_of_all order items (o + length front)) ∙ ap (λ (q : ℕ). q + length (octets_of_all order items (o + q))) m in
      let there : length (octets_of order (list_value (cs ++ one ∷ [])) o) ≡ (padding o 4 + 4) + length new =
      length-append front' (octets_of_all order more (o + length front')) ∙ ap (λ (q : ℕ). q + length (octets_of_all order more (o + q))) m' in
      let grown : length new ≡ length old + (padding (p + length old) 4 + 12) =
      ap length last ∙ length-append old (octets_of order (tagged_value one) (p + length old)) ∙ ap (λ (q : ℕ). length old + q) (one_length (p + length old)) in
      let same : padding (p + length old) 4 ≡ padding (o + length (octets_of order (list_value cs) o)) 4 = ap (λ (q : ℕ). padding q 4) (omega (arith, here)) in
      omega (arith, here, there, grown, same)

  -- before an unsigned long, and values that are aligned to 4 at most
  pub first_more : (n : ℕ) (vs : List Value) (o : ℕ) → AllShift order vs
      → length (octets_of_all order (values (list_value (cs ++ one ∷ []) ∷ ulong_value n ∷ vs)) o) ≡ length (octets_of_all order (values (list_value cs ∷ ulong_value n ∷ vs)) o) + 12
  first_more n vs o shift =
      let old = octets_of order (list_value cs) o in
      let new = octets_of order (list_value (cs ++ one ∷ [])) o in
      let p = o + length old in
      let p' = o + length new in
      let grown : length new ≡ length old + (padding p 4 + 12) = list_more o in
      let none : padding p' 4 ≡ 0 = ap (λ (q : ℕ). padding q 4) (omega (arith, grown)) ∙ reached p in
      let id_old = number_octets order 4 p n in
      let id_new = number_octets order 4 p' n in
      let i : length id_old ≡ padding p 4 + 4 = number_length order 4 p n in
      let i' : length id_new ≡ padding p' 4 + 4 = number_length order 4 p' n in
      let rest = octets_of_all order (values vs) (p + length id_old) in
      let rest' = octets_of_all order (values vs) (p' + length id_new) in
      let places : p' + length id_new ≡ (p + length id_old) + 12 = omega (arith, grown, none, i, i') in
      let same : rest' ≡ rest = ap (λ (q : ℕ). octets_of_all order (values vs) q) places ∙ all_shift order vs (p + length id_old) shift in
      omega (arith, grown, none, i, i', ap length same, length-append old (id_old ++ rest), length-append id_old rest, length-append new (id_new ++ rest'), length-append id_new rest')
    where
      reached : (q : ℕ) → padding (q + (padding q 4 + 12)) 4 ≡ 0
      reached q = omega arith

-- a value that is longer at each place makes what ends with it longer
pub last_longer : (order : Order) (vs : List Value) (v w : Value) (n : ℕ) → ((o : ℕ) → length (octets_of order v o) + n ≤ length (octets_of order w o))
    → (o : ℕ) → length (octets_of_all order (values (vs ++ v ∷ [])) o) + n ≤ length (octets_of_all order (values (vs ++ w ∷ [])) o)
last_longer order [] v w n h o = omega (arith, h o, length-append (octets_of order v o) [], length-append (octets_of order w o) [])
last_longer order (x ∷ vs) v w n h o =
    let front = octets_of order x o in
    omega (arith, last_longer order vs v w n h (o + length front), length-append front (octets_of_all order (values (vs ++ v ∷ [])) (o + length front)), length-append front (octets_of_all order (values (vs ++ w ∷ [])) (o + length front)))
