-- What is spelled is read, whatever follows, for every type.
use Rattle.std.proofs.Common.{◌≡◌, ℕ, ◌+◌, ◌-◌, ◌≤◌, ℤ, Bool, true, false, cond, ltb, inl, inr, List, [], ◌∷◌, length, Ok, refl, arith}
use Rattle.std.proofs.lemmas.Bool.{lt-ltb}
use Rattle.std.specs.Ordering.{int_eq}
use Rattle.cdr_core.specs.declared.order.Order.{Order}
use Rattle.cdr_core.specs.Form as form
use Rattle.cdr_core.specs.Form.{Form, Forms, Cases, size}
use Rattle.cdr_core.specs.Value as value
use Rattle.cdr_core.specs.Value.{Value, Values, count, label}
use Rattle.cdr_core.specs.Reading.{◌>>=◌, Read, taken, whole_at, boolean_at, ordinal_at, length_at, text_at, string_at, octets_at, each_at, value_at, members_at, chosen_at}
use Rattle.cdr_core.specs.Spelling.{InTurn, IsNumber, IsText, Each, OneOf, Chosen, Spells, SpellsMembers, SpellsChosen}
use Rattle.cdr_core.proofs.Taken.{octet_is}
use Rattle.cdr_core.proofs.Gets.{Gets, in_turn, mapped, taken_gets, number_gets, length_gets, text_gets, each_gets, nothing}

boolean_only : (order : Order) (b : Bool) → Gets (Spells form.boolean order (value.boolean b)) (value_at form.boolean order) (value.boolean b)
unfolding value_at boolean_at
boolean_only order true o front rest h = rw (h, number_gets order 1 1 o (1 ∷ []) rest (octet_is order 1 o)) refl
boolean_only order false o front rest h = rw (h, number_gets order 1 0 o (0 ∷ []) rest (octet_is order 0 o)) refl

number_only : (kind : form.Number) (order : Order) (same : form.Number) (z : ℤ) → Gets (Spells (form.number kind) order (value.number same z)) (value_at (form.number kind) order) (value.number same z)
unfolding value_at whole_at
number_only kind order same z o front rest h = rw (h.0, number_gets order (size kind) h.1 o front rest h.2, h.3) refl

string_only : (bound : ℕ) (order : Order) (text : List ℕ) → Gets (Spells (form.string bound) order (value.string text)) (value_at (form.string bound) order) (value.string text)
unfolding value_at string_at
string_only bound order text o front rest h =
    mapped (InTurn (IsNumber order 4 h.1) (IsText h.1 text)) (string_at order bound) text value.string
    (in_turn (IsNumber order 4 h.1) (IsText h.1 text) (length_at order 1 bound) (λ n o octets. text_at n o octets) h.1 text (length_gets order 1 bound h.1 (long h.1 h.2)) (text_gets h.1 text)) o front rest h.2
  where
    long_text : (n o : ℕ) (front : List ℕ) → IsText n text o front → n ≤ length text + 1
    long_text n o front t = elim t [ inl e ↦ omega (arith, e.0) | inr e ↦ omega (arith, e.0) ]

    long : (n : ℕ) → InTurn (IsNumber order 4 n) (IsText n text) o front → n - 1 ≤ bound
    long n t = omega (arith, long_text n (o + length t.front) t.rest t.second, h.0)

octets_only : (bound : ℕ) (order : Order) (all : List ℕ) → Gets (Spells (form.octets bound) order (value.octets all)) (value_at (form.octets bound) order) (value.octets all)
unfolding value_at octets_at
octets_only bound order all o front rest h =
    mapped (InTurn (IsNumber order 4 (length all)) (λ _ front. front ≡ all)) (octets_at order bound) all value.octets
    (in_turn (IsNumber order 4 (length all)) (λ _ front. front ≡ all) (length_at order 0 bound) (λ n o octets. taken n o octets) (length all) all (length_gets order 0 bound (length all) (omega (arith, h.0)))
    (λ o front rest e. rw (← e) (taken_gets (length front) o front rest refl))) o front rest h.1

sequence_only : (bound : ℕ) (t : Form) (order : Order) (vs : Values) → ((v : Value) → Gets (Spells t order v) (value_at t order) v) → Gets (Spells (form.sequence bound t) order (value.sequence vs)) (value_at (form.sequence bound t) order) (value.sequence vs)
unfolding value_at
sequence_only bound t order vs gets o front rest h =
    in_turn (IsNumber order 4 (count vs)) (Each (Spells t order) vs) (length_at order 0 bound) (λ n o octets. each_at (value_at t order) n o octets >>= λ x. Ok (value.sequence x.0, x.1, x.2)) (count vs) (value.sequence vs)
    (length_gets order 0 bound (count vs) (omega (arith, h.0))) (mapped (Each (Spells t order) vs) (each_at (value_at t order) (count vs)) vs value.sequence (each_gets (value_at t order) (Spells t order) gets vs)) o front rest h.1

array_only : (n : ℕ) (t : Form) (order : Order) (vs : Values) → ((v : Value) → Gets (Spells t order v) (value_at t order) v) → Gets (Spells (form.array n t) order (value.array vs)) (value_at (form.array n t) order) (value.array vs)
unfolding value_at
array_only n t order vs gets o front rest h =
    rw (← h.0) (mapped (Each (Spells t order) vs) (each_at (value_at t order) (count vs)) vs value.array (each_gets (value_at t order) (Spells t order) gets vs) o front rest h.1)

enumeration_only : (n : ℕ) (order : Order) (x : ℕ) → Gets (Spells (form.enumeration n) order (value.enumeration x)) (value_at (form.enumeration n) order) (value.enumeration x)
unfolding value_at ordinal_at
enumeration_only n order x o front rest h =
    let t : ltb x n ≡ true = lt-ltb _ _ h.0 in
    rw (number_gets order 4 x o front rest h.1, t) refl

-- the member of a union alone
abbrev pub alone : Value × ℕ × List ℕ → Read Values
alone x = Ok (value.value x.0 value.no_values, x.1, x.2)

one_only : (t : Form) (order : Order) (ms : Values) → ((v : Value) → Gets (Spells t order v) (value_at t order) v) → Gets (OneOf (Spells t order) ms) (λ o octets. value_at t order o octets >>= alone) ms
one_only t order value.no_values gets o front rest h = absurd h
one_only t order (value.value v value.no_values) gets o front rest h = mapped (Spells t order v) (value_at t order) v (λ v. value.value v value.no_values) (gets v) o front rest h
one_only t order (value.value v (value.value w vs)) gets o front rest h = absurd h

chosen_by : (b : Bool) (A B : Type 0) (r s total : Read Values) → (A → r ≡ total) → (B → s ≡ total) → Chosen b A B → cond b r s ≡ total
chosen_by true A B r s total f g h = f h
chosen_by false A B r s total f g h = g h

mutual
  unfolding value_at

  pub only : (t : Form) (order : Order) (v : Value) → Gets (Spells t order v) (value_at t order) v
  only form.boolean order (value.boolean b) o front rest h = boolean_only order b o front rest h
  only (form.number kind) order (value.number same z) o front rest h = number_only kind order same z o front rest h
  only (form.string bound) order (value.string text) o front rest h = string_only bound order text o front rest h
  only (form.octets bound) order (value.octets all) o front rest h = octets_only bound order all o front rest h
  only (form.sequence bound t) order (value.sequence vs) o front rest h = sequence_only bound t order vs (λ v o front rest h. only t order v o front rest h) o front rest h
  only (form.array n t) order (value.array vs) o front rest h = array_only n t order vs (λ v o front rest h. only t order v o front rest h) o front rest h
  only (form.enumeration n) order (value.enumeration x) o front rest h = enumeration_only n order x o front rest h
  only (form.structure ts) order (value.structure vs) o front rest h = mapped (SpellsMembers ts order vs) (members_at ts order) vs value.structure (λ o front rest h. members_only ts order vs o front rest h) o front rest h
  only (form.union d cs) order (value.union v ms) o front rest h =
      in_turn (Spells d order v) (SpellsChosen cs order (label v) ms) (value_at d order) (λ x o octets. chosen_at cs order (label x) o octets >>= λ m. Ok (value.union x m.0, m.1, m.2)) v (value.union v ms)
      (λ o front rest h. only d order v o front rest h) (mapped (SpellsChosen cs order (label v) ms) (chosen_at cs order (label v)) ms (value.union v) (λ o front rest h. chosen_only cs order (label v) ms o front rest h)) o front rest h
  only _ order _ o front rest h = absurd h

  pub members_only : (ts : Forms) (order : Order) (vs : Values) → Gets (SpellsMembers ts order vs) (members_at ts order) vs
  members_only form.no_forms order value.no_values o front rest h = nothing value.no_values o front rest h
  members_only (form.form t ts) order (value.value v vs) o front rest h =
      in_turn (Spells t order v) (SpellsMembers ts order vs) (value_at t order) (λ x o octets. members_at ts order o octets >>= λ xs. Ok (value.value x xs.0, xs.1, xs.2)) v (value.value v vs)
      (λ o front rest h. only t order v o front rest h) (mapped (SpellsMembers ts order vs) (members_at ts order) vs (value.value v) (λ o front rest h. members_only ts order vs o front rest h)) o front rest h
  members_only form.no_forms order (value.value v vs) o front rest h = absurd h
  members_only (form.form t ts) order value.no_values o front rest h = absurd h

  pub chosen_only : (cs : Cases) (order : Order) (l : ℤ) (ms : Values) → Gets (SpellsChosen cs order l ms) (chosen_at cs order l) ms
  chosen_only form.otherwise_nothing order l value.no_values o front rest h = nothing value.no_values o front rest h
  chosen_only form.otherwise_nothing order l (value.value v vs) o front rest h = absurd h
  chosen_only (form.otherwise t) order l ms o front rest h = one_only t order ms (λ v o front rest h. only t order v o front rest h) o front rest h
  chosen_only (form.labelled k t cs) order l ms o front rest h =
      chosen_by (int_eq k l) _ _ _ _ _ (λ a. one_only t order ms (λ v o front rest h. only t order v o front rest h) o front rest a) (λ b. chosen_only cs order l ms o front rest b) h
