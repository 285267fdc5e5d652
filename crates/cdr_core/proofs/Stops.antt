-- For every type, octets have a fault exactly where the reader fails, and it is the reader's.
use Rattle.std.proofs.Common.{◌≡◌, ◌≢◌, ℕ, ◌+◌, ◌<◌, ◌≤◌, ℤ, Bool, true, false, cond, ltb, eqb, List, [], ◌∷◌, ◌++◌, Ok, Err, refl, ap, ◌∙◌, arith, inl, inr}
use Rattle.std.proofs.lemmas.Bool.{ltb-false, le-ltb, eqb-false, ne_eqb}
use Rattle.std.specs.Ordering.{int_eq}
use Rattle.cdr_core.specs.declared.fault.Fault.{Fault}
use Rattle.cdr_core.specs.declared.fault.Kind.TheVariants as kind
use Rattle.cdr_core.specs.declared.order.Order.{Order}
use Rattle.cdr_core.specs.Form as form
use Rattle.cdr_core.specs.Form.{Form, Forms, Cases, size}
use Rattle.cdr_core.specs.Value as value
use Rattle.cdr_core.specs.Value.{Value, Values, label}
use Rattle.cdr_core.specs.Numbers.{padding, meaning}
use Rattle.cdr_core.specs.Reading.{◌>>=◌, Read, taken, fault, number_at, whole_at, boolean_at, ordinal_at, text_at, string_at, octets_at, each_at, value_at, members_at, chosen_at}
use Rattle.cdr_core.specs.Spelling.{Chosen, Spells}
use Rattle.cdr_core.specs.Stopping.{fault_at, Lacks, LacksNumber, IsBadBoolean, StopsInText, StopsInEach, Stops, StopsInMembers, StopsInChosen}
use Rattle.cdr_core.proofs.Steps.{bind_err, ended_ok, last_passed}
use Rattle.cdr_core.proofs.Taken.{number_takes, octet_is, single}
use Rattle.cdr_core.proofs.Found.{boolean_by, found, some_octets}
use Rattle.cdr_core.proofs.Gets.{number_gets}
use Rattle.cdr_core.proofs.Only.{alone, only}
use Rattle.cdr_core.proofs.Stopped.{Fails, Tells, taken_fails, taken_tells, number_fails, number_tells, after_fails, after, bad_long, length_fails, length_tells, each_fails, each_tells, text_fails, text_tells}

-- a failure passes the last step unchanged
pub ended : {X Y : Type 0} (S : ℕ → List ℕ → Fault → Type 0) (r : ℕ → List ℕ → Read X) (g : X × ℕ × List ℕ → Y × ℕ × List ℕ) → Fails S r → Fails S (λ o octets. r o octets >>= λ x. Ok (g x))
ended {X} S r g fails o octets f h = ap (λ (t : Read X). t >>= λ x. Ok (g x)) (fails o octets f h)

pub untold : {X Y : Type 0} (S : ℕ → List ℕ → Fault → Type 0) (r : ℕ → List ℕ → Read X) (g : X × ℕ × List ℕ → Y × ℕ × List ℕ) → Tells S r → Tells S (λ o octets. r o octets >>= λ x. Ok (g x))
untold S r g tells o octets f h = tells o octets f (ended_ok (r o octets) g f h)

boolean_fails : (order : Order) → Fails (Stops form.boolean order) (boolean_at order)
unfolding boolean_at
boolean_fails order o octets f (inl h) = rw (number_fails order 1 (omega arith) o octets f h) refl
boolean_fails order o octets f (inr h) =
    let zero_not : eqb h.0 0 ≡ false = ne_eqb _ _ (omega (arith, h.3)) in
    let one_not : eqb h.0 1 ≡ false = ne_eqb _ _ (omega (arith, h.3)) in
    rw (h.2, number_gets order 1 h.0 o (h.0 ∷ []) h.1 (octet_is order h.0 o), zero_not, one_not, h.4) refl

boolean_tells : (order : Order) → Tells (Stops form.boolean order) (boolean_at order)
unfolding boolean_at
boolean_tells order o octets f h =
    elim (bind_err (number_at order 1 o octets) (λ (x : ℕ × ℕ × List ℕ). boolean_by o x.0 x.1 x.2) f h) [
      | inl e ↦ inl (number_tells order 1 o octets f e)
      | inr x ↦ inr (bad x.0.0 x.0.1 x.0.2 x.1 x.2)
    ]
  where
    by : (c d : Bool) (x q : ℕ) (more : List ℕ) → eqb x 0 ≡ c → eqb x 1 ≡ d → cond {A = Read Bool} c (Ok (false, q, more)) (cond {A = Read Bool} d (Ok (true, q, more)) (fault kind.BadBoolean o)) ≡ Err f → (1 < x) × (f ≡ fault_at kind.BadBoolean o)
    by true d x q more e g k = absurd cc
    by false true x q more e g k = absurd cc
    by false false x q more e g k = let a : x ≢ 0 = eqb-false _ _ e in let b : x ≢ 1 = eqb-false _ _ g in (omega arith, cc)

    bad : (x q : ℕ) (more : List ℕ) → number_at order 1 o octets ≡ Ok (x, q, more) → boolean_by o x q more ≡ Err f → IsBadBoolean o octets f
    bad x q more e k =
        let t = number_takes order 1 (omega arith) o octets x q more e in
        let g = by (eqb x 0) (eqb x 1) x q more refl refl k in
        (x, more, t.parts ∙ ap (λ front. front ++ more) (single order x o t.front t.holds), g.0, g.1)

whole_fails : (order : Order) (kind : form.Number) → Fails (Stops (form.number kind) order) (whole_at order kind)
unfolding whole_at
whole_fails order kind = ended (LacksNumber (size kind)) (number_at order (size kind)) (λ x. (meaning kind x.0, x.1, x.2)) (number_fails order (size kind) (some_octets kind))

whole_tells : (order : Order) (kind : form.Number) → Tells (Stops (form.number kind) order) (whole_at order kind)
unfolding whole_at
whole_tells order kind = untold (LacksNumber (size kind)) (number_at order (size kind)) (λ x. (meaning kind x.0, x.1, x.2)) (number_tells order (size kind))

string_fails : (order : Order) (bound : ℕ) → Fails (Stops (form.string bound) order) (string_at order bound)
unfolding string_at
string_fails order bound = length_fails order 1 bound StopsInText (λ n o octets. text_at n o octets) text_fails

string_tells : (order : Order) (bound : ℕ) → Tells (Stops (form.string bound) order) (string_at order bound)
unfolding string_at
string_tells order bound = length_tells order 1 bound StopsInText (λ n o octets. text_at n o octets) text_tells

octets_fails : (order : Order) (bound : ℕ) → Fails (Stops (form.octets bound) order) (octets_at order bound)
unfolding octets_at
octets_fails order bound = length_fails order 0 bound Lacks (λ n o octets. taken n o octets) taken_fails

octets_tells : (order : Order) (bound : ℕ) → Tells (Stops (form.octets bound) order) (octets_at order bound)
unfolding octets_at
octets_tells order bound = length_tells order 0 bound Lacks (λ n o octets. taken n o octets) taken_tells

ordinal_fails : (order : Order) (n : ℕ) → Fails (Stops (form.enumeration n) order) (ordinal_at order n)
unfolding ordinal_at
ordinal_fails order n o octets f (inl h) = rw (number_fails order 4 (omega arith) o octets f h) refl
ordinal_fails order n o octets f (inr h) =
    let t : ltb h.0 n ≡ false = le-ltb _ _ h.1 in
    rw (h.4, number_gets order 4 h.0 o h.2 h.3 h.5, t, h.6) refl

ordinal_tells : (order : Order) (n : ℕ) → Tells (Stops (form.enumeration n) order) (ordinal_at order n)
unfolding ordinal_at
ordinal_tells order n o octets f h =
    elim (bind_err (number_at order 4 o octets) (λ (x : ℕ × ℕ × List ℕ). cond (ltb x.0 n) (Ok x) (fault kind.BadEnum (o + padding o 4))) f h) [
      | inl e ↦ inl (number_tells order 4 o octets f e)
      | inr x ↦ (let g = last_passed (ltb x.0.0 n) (fault_at kind.BadEnum (o + padding o 4)) f x.0 x.2 in
          inr (bad_long (λ y. n ≤ y) kind.BadEnum order o octets x.0.0 x.0.1 x.0.2 f (ltb-false _ _ g.0) g.1 x.1))
    ]

chosen_fails : (b : Bool) (r s : Read Values) (A B : Type 0) (f : Fault) → (A → r ≡ Err f) → (B → s ≡ Err f) → Chosen b A B → cond b r s ≡ Err f
chosen_fails true r s A B f g h c = g c
chosen_fails false r s A B f g h c = h c

chosen_tells : (b : Bool) (r s : Read Values) (A B : Type 0) (f : Fault) → (r ≡ Err f → A) → (s ≡ Err f → B) → cond b r s ≡ Err f → Chosen b A B
chosen_tells true r s A B f g h c = g c
chosen_tells false r s A B f g h c = h c

mutual
  unfolding value_at

  pub fails : (t : Form) (order : Order) → Fails (Stops t order) (value_at t order)
  fails form.boolean order o octets f h = ended (Stops form.boolean order) (boolean_at order) (λ x. (value.boolean x.0, x.1, x.2)) (boolean_fails order) o octets f h
  fails (form.number kind) order o octets f h = ended (Stops (form.number kind) order) (whole_at order kind) (λ x. (value.number kind x.0, x.1, x.2)) (whole_fails order kind) o octets f h
  fails (form.string bound) order o octets f h = ended (Stops (form.string bound) order) (string_at order bound) (λ x. (value.string x.0, x.1, x.2)) (string_fails order bound) o octets f h
  fails (form.octets bound) order o octets f h = ended (Stops (form.octets bound) order) (octets_at order bound) (λ x. (value.octets x.0, x.1, x.2)) (octets_fails order bound) o octets f h
  fails (form.enumeration n) order o octets f h = ended (Stops (form.enumeration n) order) (ordinal_at order n) (λ x. (value.enumeration x.0, x.1, x.2)) (ordinal_fails order n) o octets f h
  fails (form.sequence bound t) order o octets f h =
      length_fails order 0 bound (StopsInEach (Spells t order) (Stops t order)) (λ n o octets. each_at (value_at t order) n o octets >>= λ x. Ok (value.sequence x.0, x.1, x.2))
      (λ n. ended (StopsInEach (Spells t order) (Stops t order) n) (each_at (value_at t order) n) (λ x. (value.sequence x.0, x.1, x.2)) (each_fails (value_at t order) (Spells t order) (Stops t order) (only t order) (λ o octets f h. fails t order o octets f h) n)) o octets f h
  fails (form.array n t) order o octets f h =
      ended (StopsInEach (Spells t order) (Stops t order) n) (each_at (value_at t order) n) (λ x. (value.array x.0, x.1, x.2)) (each_fails (value_at t order) (Spells t order) (Stops t order) (only t order) (λ o octets f h. fails t order o octets f h) n) o octets f h
  fails (form.structure ts) order o octets f h = ended (StopsInMembers ts order) (members_at ts order) (λ x. (value.structure x.0, x.1, x.2)) (λ o octets f h. members_fail ts order o octets f h) o octets f h
  fails (form.union d cs) order o octets f (inl h) = rw (fails d order o octets f h) refl
  fails (form.union d cs) order o octets f (inr h) =
      after_fails (Spells d order h.0) (StopsInChosen cs order (label h.0)) (value_at d order) (λ v o octets. chosen_at cs order (label v) o octets >>= λ m. Ok (value.union v m.0, m.1, m.2)) h.0 (only d order h.0)
      (ended (StopsInChosen cs order (label h.0)) (chosen_at cs order (label h.0)) (λ m. (value.union h.0 m.0, m.1, m.2)) (λ o octets f h'. chosen_fail cs order (label h.0) o octets f h')) o octets f h.1

  pub members_fail : (ts : Forms) (order : Order) → Fails (StopsInMembers ts order) (members_at ts order)
  members_fail form.no_forms order o octets f h = absurd h
  members_fail (form.form t ts) order o octets f (inl h) = rw (fails t order o octets f h) refl
  members_fail (form.form t ts) order o octets f (inr h) =
      after_fails (Spells t order h.0) (StopsInMembers ts order) (value_at t order) (λ v o octets. members_at ts order o octets >>= λ xs. Ok (value.value v xs.0, xs.1, xs.2)) h.0 (only t order h.0)
      (ended (StopsInMembers ts order) (members_at ts order) (λ xs. (value.value h.0 xs.0, xs.1, xs.2)) (λ o octets f h'. members_fail ts order o octets f h')) o octets f h.1

  pub chosen_fail : (cs : Cases) (order : Order) (l : ℤ) → Fails (StopsInChosen cs order l) (chosen_at cs order l)
  chosen_fail form.otherwise_nothing order l o octets f h = absurd h
  chosen_fail (form.otherwise t) order l o octets f h = ap (λ (r : Read Value). r >>= alone) (fails t order o octets f h)
  chosen_fail (form.labelled k t cs) order l o octets f h =
      chosen_fails (int_eq k l) _ _ _ _ f (λ a. ap (λ (r : Read Value). r >>= alone) (fails t order o octets f a)) (λ b. chosen_fail cs order l o octets f b) h

mutual
  unfolding value_at

  pub tells : (t : Form) (order : Order) → Tells (Stops t order) (value_at t order)
  tells form.boolean order o octets f h = untold (Stops form.boolean order) (boolean_at order) (λ x. (value.boolean x.0, x.1, x.2)) (boolean_tells order) o octets f h
  tells (form.number kind) order o octets f h = untold (Stops (form.number kind) order) (whole_at order kind) (λ x. (value.number kind x.0, x.1, x.2)) (whole_tells order kind) o octets f h
  tells (form.string bound) order o octets f h = untold (Stops (form.string bound) order) (string_at order bound) (λ x. (value.string x.0, x.1, x.2)) (string_tells order bound) o octets f h
  tells (form.octets bound) order o octets f h = untold (Stops (form.octets bound) order) (octets_at order bound) (λ x. (value.octets x.0, x.1, x.2)) (octets_tells order bound) o octets f h
  tells (form.enumeration n) order o octets f h = untold (Stops (form.enumeration n) order) (ordinal_at order n) (λ x. (value.enumeration x.0, x.1, x.2)) (ordinal_tells order n) o octets f h
  tells (form.sequence bound t) order o octets f h =
      length_tells order 0 bound (StopsInEach (Spells t order) (Stops t order)) (λ n o octets. each_at (value_at t order) n o octets >>= λ x. Ok (value.sequence x.0, x.1, x.2))
      (λ n. untold (StopsInEach (Spells t order) (Stops t order) n) (each_at (value_at t order) n) (λ x. (value.sequence x.0, x.1, x.2)) (each_tells (value_at t order) (Spells t order) (Stops t order) (found t order) (λ o octets f h. tells t order o octets f h) n)) o octets f h
  tells (form.array n t) order o octets f h =
      untold (StopsInEach (Spells t order) (Stops t order) n) (each_at (value_at t order) n) (λ x. (value.array x.0, x.1, x.2)) (each_tells (value_at t order) (Spells t order) (Stops t order) (found t order) (λ o octets f h. tells t order o octets f h) n) o octets f h
  tells (form.structure ts) order o octets f h = untold (StopsInMembers ts order) (members_at ts order) (λ x. (value.structure x.0, x.1, x.2)) (λ o octets f h. members_tell ts order o octets f h) o octets f h
  tells (form.union d cs) order o octets f h =
      elim (bind_err (value_at d order o octets) (λ (x : Value × ℕ × List ℕ). chosen_at cs order (label x.0) x.1 x.2 >>= λ m. Ok (value.union x.0 m.0, m.1, m.2)) f h) [
        | inl e ↦ inl (tells d order o octets f e)
        | inr x ↦ inr (
          x.0.0,
          after (Spells d order x.0.0) (StopsInChosen cs order (label x.0.0)) o octets x.0.1 x.0.2 f (found d order o octets x.0.0 x.0.1 x.0.2 x.1)
              (chosen_tell cs order (label x.0.0) x.0.1 x.0.2 f (ended_ok (chosen_at cs order (label x.0.0) x.0.1 x.0.2) (λ m. (value.union x.0.0 m.0, m.1, m.2)) f x.2)),
        )
      ]

  pub members_tell : (ts : Forms) (order : Order) → Tells (StopsInMembers ts order) (members_at ts order)
  members_tell form.no_forms order o octets f h = absurd cc
  members_tell (form.form t ts) order o octets f h =
      elim (bind_err (value_at t order o octets) (λ (x : Value × ℕ × List ℕ). members_at ts order x.1 x.2 >>= λ xs. Ok (value.value x.0 xs.0, xs.1, xs.2)) f h) [
        | inl e ↦ inl (tells t order o octets f e)
        | inr x ↦ inr (
          x.0.0,
          after (Spells t order x.0.0) (StopsInMembers ts order) o octets x.0.1 x.0.2 f (found t order o octets x.0.0 x.0.1 x.0.2 x.1)
              (members_tell ts order x.0.1 x.0.2 f (ended_ok (members_at ts order x.0.1 x.0.2) (λ xs. (value.value x.0.0 xs.0, xs.1, xs.2)) f x.2)),
        )
      ]

  pub chosen_tell : (cs : Cases) (order : Order) (l : ℤ) → Tells (StopsInChosen cs order l) (chosen_at cs order l)
  chosen_tell form.otherwise_nothing order l o octets f h = absurd cc
  chosen_tell (form.otherwise t) order l o octets f h = tells t order o octets f (ended_ok (value_at t order o octets) (λ x. (value.value x.0 value.no_values, x.1, x.2)) f h)
  chosen_tell (form.labelled k t cs) order l o octets f h =
      chosen_tells (int_eq k l) _ _ _ _ f (λ e. tells t order o octets f (ended_ok (value_at t order o octets) (λ x. (value.value x.0 value.no_values, x.1, x.2)) f e)) (λ e. chosen_tell cs order l o octets f e) h
