-- Items one after the other: passed over, and listed.
use Rattle.std.proofs.Common.{◌≡◌, ℕ, zero, suc, ℤ, pos, List, [], ◌∷◌, length, map, Ok, Err, refl, sym, ap, subst, ◌∙◌}
use Rattle.cdr_core.specs.declared.fault.Fault.{Fault}
use Rattle.cdr_core.specs.declared.order.Order.{Order}
use Rattle.cdr_core.proofs.Fields.{fields_at, sequence_is, structure_is}
use Rattle.cdr_core.specs.Form as form
use Rattle.cdr_core.specs.Parts.{most, raw, ulong, ulong_value}
use Rattle.cdr_core.specs.Reading.{◌>>=◌, Read, each_at, length_at, number_at, octets_at, value_at, whole_at}
use Rattle.cdr_core.proofs.Steps.{bind_ok, ok_is}
use Rattle.cdr_core.specs.Private.{passing}
use Rattle.cdr_core.specs.Value as value
use Rattle.cdr_core.specs.Value.{Value, Values, values}
use Rattle.cdr_core.specs.View.{forms}
use Rattle.ior_core.specs.Grammar.{tagged}
use Rattle.giop_core.specs.Content.{content_octets, natural, tagged_of}
use Rattle.giop_core.specs.Items.{items_in, list_value, tagged_value}
use Rattle.giop_core.specs.Rows.{contexts}

-- what was passed over was read, or stopped

pub was_fault : {A : Type 0} (r : Read A) (f : Fault) → passing r ≡ Err f → r ≡ Err f
was_fault (Ok x) f e = absurd cc
was_fault (Err g) f e = cc

abbrev yes : {A : Type 0} → A × ℕ × List ℕ → Read A
yes x = Ok x

again : {A : Type 0} (v : A) (t u : Unit {0} × ℕ × List ℕ) → t ≡ u → ◌≡◌ {A = Read A} (Ok (v, t.1, t.2)) (Ok (v, u.1, u.2))
again {A} v t u e = ap (λ (t : Unit {0} × ℕ × List ℕ). yes {A = A} (v, t.1, t.2)) e

was_read : {A : Type 0} (r : Read A) (s : ℕ) (left : List ℕ) → passing r ≡ Ok (tt, s, left) → (x : A) × (r ≡ Ok (x, s, left))
was_read {A} (Ok x) s left e = (x.0, again {A = A} x.0 (tt, x.1, x.2) (tt, s, left) (ok_is (tt, x.1, x.2) (tt, s, left) e))
was_read (Err f) s left e = absurd cc

-- what a value that was read is made of makes it

ulong_again : (order : Order) (o : ℕ) (octets : List ℕ) (v : Value) (p : ℕ) (rest : List ℕ) → value_at ulong order o octets ≡ Ok (v, p, rest) → ulong_value (natural v) ≡ v
unfolding value_at whole_at
ulong_again order o octets v p rest h =
    let b = bind_ok (whole_at order form.ulong o octets) (λ (x : ℤ × ℕ × List ℕ). Ok (value.number form.ulong x.0, x.1, x.2)) (v, p, rest) h in
    let d = bind_ok (number_at order 4 o octets) (λ (x : ℕ × ℕ × List ℕ). Ok (pos x.0, x.1, x.2)) b.0 b.1 in
    let same : (pos d.0.0, d.0.1, d.0.2) ≡ b.0 = ok_is (pos d.0.0, d.0.1, d.0.2) b.0 d.2 in
    let last : (value.number form.ulong b.0.0, b.0.1, b.0.2) ≡ (v, p, rest) = ok_is (value.number form.ulong b.0.0, b.0.1, b.0.2) (v, p, rest) b.2 in
    let is : ulong_value d.0.0 ≡ v = ap (λ (t : ℤ × ℕ × List ℕ). value.number form.ulong t.0) same ∙ ap (λ (t : Value × ℕ × List ℕ). t.0) last in
    subst (λ w. ulong_value (natural w) ≡ w) is refl

raw_again : (order : Order) (o : ℕ) (octets : List ℕ) (v : Value) (p : ℕ) (rest : List ℕ) → value_at raw order o octets ≡ Ok (v, p, rest) → value.octets (content_octets v) ≡ v
unfolding value_at
raw_again order o octets v p rest h =
    let b = bind_ok (octets_at order most o octets) (λ (x : List ℕ × ℕ × List ℕ). Ok (value.octets x.0, x.1, x.2)) (v, p, rest) h in
    let last : (value.octets b.0.0, b.0.1, b.0.2) ≡ (v, p, rest) = ok_is (value.octets b.0.0, b.0.1, b.0.2) (v, p, rest) b.2 in
    subst (λ w. value.octets (content_octets w) ≡ w) (ap (λ (t : Value × ℕ × List ℕ). t.0) last) refl

abbrev pair_of : Value → Value → Value
pair_of v w = value.structure (value.value v (value.value w value.no_values))

-- the two members of what was read
tagged_parts : (order : Order) (o : ℕ) (octets : List ℕ) (v : Value) (p : ℕ) (rest : List ℕ) → value_at tagged order o octets ≡ Ok (v, p, rest)
    → (b : Value × ℕ × List ℕ) × (d : Value × ℕ × List ℕ) × (value_at ulong order o octets ≡ Ok b) × (value_at raw order b.1 b.2 ≡ Ok d) × (pair_of b.0 d.0 ≡ v)
tagged_parts order o octets v p rest h =
    let h' = sym (structure_is (forms (ulong ∷ raw ∷ [])) order o octets) ∙ h in
    let a = bind_ok (fields_at (forms (ulong ∷ raw ∷ [])) order o octets) (λ (x : Values × ℕ × List ℕ). Ok (value.structure x.0, x.1, x.2)) (v, p, rest) h' in
    let b = bind_ok (value_at ulong order o octets) (λ (x : Value × ℕ × List ℕ). fields_at (forms (raw ∷ [])) order x.1 x.2 >>= λ (xs : Values × ℕ × List ℕ). Ok (value.value x.0 xs.0, xs.1, xs.2)) a.0 a.1 in
    let c = bind_ok (fields_at (forms (raw ∷ [])) order b.0.1 b.0.2) (λ (xs : Values × ℕ × List ℕ). Ok (value.value b.0.0 xs.0, xs.1, xs.2)) a.0 b.2 in
    let d = bind_ok (value_at raw order b.0.1 b.0.2) (λ (x : Value × ℕ × List ℕ). Ok (value.value x.0 value.no_values, x.1, x.2)) c.0 c.1 in
    let one : (value.value d.0.0 value.no_values, d.0.1, d.0.2) ≡ c.0 = ok_is (value.value d.0.0 value.no_values, d.0.1, d.0.2) c.0 d.2 in
    let two : (value.value b.0.0 c.0.0, c.0.1, c.0.2) ≡ a.0 = ok_is (value.value b.0.0 c.0.0, c.0.1, c.0.2) a.0 c.2 in
    let last : (value.structure a.0.0, a.0.1, a.0.2) ≡ (v, p, rest) = ok_is (value.structure a.0.0, a.0.1, a.0.2) (v, p, rest) a.2 in
    let is : pair_of b.0.0 d.0.0 ≡ v =
    ap (λ (t : Values × ℕ × List ℕ). value.structure (value.value b.0.0 t.0)) one ∙ ap (λ (t : Values × ℕ × List ℕ). value.structure t.0) two ∙ ap (λ (t : Value × ℕ × List ℕ). t.0) last in
    (b.0, d.0, b.1, d.1, is)

tagged_again : (order : Order) (o : ℕ) (octets : List ℕ) (v : Value) (p : ℕ) (rest : List ℕ) → value_at tagged order o octets ≡ Ok (v, p, rest) → tagged_value (tagged_of v) ≡ v
tagged_again order o octets v p rest h =
    let t = tagged_parts order o octets v p rest h in
    let b = t.0 in
    let d = t.1 in
    let one = ulong_again order o octets b.0 b.1 b.2 t.2 in
    let two = raw_again order b.1 b.2 d.0 d.1 d.2 t.3 in
    subst (λ w. tagged_value (tagged_of w) ≡ w) t.4 (ap (λ x. pair_of x (value.octets (content_octets d.0))) one ∙ ap (pair_of b.0) two)

-- values that were read one after the other are the items
items_are : (order : Order) (n o : ℕ) (octets : List ℕ) (vs : Values) (p : ℕ) (rest : List ℕ) → each_at (value_at tagged order) n o octets ≡ Ok (vs, p, rest)
    → (values (map tagged_value (items_in order n o octets)) ≡ vs) × (length (items_in order n o octets) ≡ n)
unfolding each_at items_in
items_are order zero o octets vs p rest h = (ap (λ (t : Values × ℕ × List ℕ). t.0) (ok_is (value.no_values, o, octets) (vs, p, rest) h), refl)
items_are order (suc n) o octets vs p rest h =
    let b = bind_ok (value_at tagged order o octets) (λ (x : Value × ℕ × List ℕ). each_at (value_at tagged order) n x.1 x.2 >>= λ (xs : Values × ℕ × List ℕ). Ok (value.value x.0 xs.0, xs.1, xs.2)) (vs, p, rest) h in
    let x = b.0 in
    let c = bind_ok (each_at (value_at tagged order) n x.1 x.2) (λ (xs : Values × ℕ × List ℕ). Ok (value.value x.0 xs.0, xs.1, xs.2)) (vs, p, rest) b.2 in
    let others = items_are order n x.1 x.2 c.0.0 c.0.1 c.0.2 c.1 in
    let last : (value.value x.0 c.0.0, c.0.1, c.0.2) ≡ (vs, p, rest) = ok_is (value.value x.0 c.0.0, c.0.1, c.0.2) (vs, p, rest) c.2 in
    let first = tagged_again order o octets x.0 x.1 x.2 b.1 in
    rw b.1 (ap (λ v. value.value v (values (map tagged_value (items_in order n x.1 x.2)))) first ∙ ap (value.value x.0) others.0 ∙ ap (λ (t : Values × ℕ × List ℕ). t.0) last, ap suc others.1)

-- items after their count

pub contexts_short : (f : Fault) (order : Order) (o : ℕ) (octets : List ℕ) → length_at order 0 most o octets ≡ Err f → value_at contexts order o octets ≡ Err f
contexts_short f order o octets e = sequence_is most tagged order o octets ∙ rw e refl

module _ (order : Order) (o : ℕ) (octets : List ℕ) (n p : ℕ) (rest : List ℕ) (counted : length_at order 0 most o octets ≡ Ok (n, p, rest)) where
  pub contexts_stop : (f : Fault) → passing (each_at (value_at tagged order) n p rest) ≡ Err f → value_at contexts order o octets ≡ Err f
  contexts_stop f e =
      let stops = was_fault (each_at (value_at tagged order) n p rest) f e in
      sequence_is most tagged order o octets ∙ rw (counted, stops) refl

  pub contexts_read : (q : ℕ) (more : List ℕ) → passing (each_at (value_at tagged order) n p rest) ≡ Ok (tt, q, more) → value_at contexts order o octets ≡ Ok (list_value (items_in order n p rest), q, more)
  contexts_read q more e =
      let read = was_read (each_at (value_at tagged order) n p rest) q more e in
      let items = items_are order n p rest read.0 q more read.1 in
      sequence_is most tagged order o octets ∙ rw (counted, read.1, items.0) refl

-- items that were passed over are all there
pub items_all : (order : Order) (n o : ℕ) (octets : List ℕ) (p : ℕ) (rest : List ℕ) → passing (each_at (value_at tagged order) n o octets) ≡ Ok (tt, p, rest) → length (items_in order n o octets) ≡ n
items_all order n o octets p rest e =
    let read = was_read (each_at (value_at tagged order) n o octets) p rest e in
    (items_are order n o octets read.0 p rest read.1).1

-- the items that are left

pub items_none : (order : Order) (o : ℕ) (octets : List ℕ) → items_in order 0 o octets ≡ []
unfolding items_in
items_none order o octets = refl

pub items_next : (order : Order) (n m o : ℕ) (octets : List ℕ) (x : ℕ × List ℕ) (p : ℕ) (rest : List ℕ) → value_at tagged order o octets ≡ Ok (tagged_value x, p, rest) → n ≡ suc m → items_in order n o octets ≡ x ∷ items_in order m p rest
unfolding items_in
items_next order n m o octets x p rest e is = rw (is, e) refl

pub items_stop : (f : Fault) (order : Order) (n o : ℕ) (octets : List ℕ) → value_at tagged order o octets ≡ Err f → items_in order n o octets ≡ []
unfolding items_in
items_stop f order zero o octets e = refl
items_stop f order (suc n) o octets e = rw e refl
