-- What is read is spelled, for every type.
use Rattle.std.proofs.Common.{◌≡◌, ℕ, ◌+◌, ◌<◌, ◌≤◌, ℤ, Bool, true, false, cond, ltb, eqb, if◌then◌else◌, List, [], ◌∷◌, length, Ok, refl, sym, ap, subst, ◌∙◌, arith}
use Rattle.std.proofs.lemmas.Bool.{ltb-true, eqb-true}
use Rattle.std.specs.Ordering.{int_eq}
use Rattle.cdr_core.specs.declared.fault.Kind.TheVariants as kind
use Rattle.cdr_core.specs.declared.order.Order.{Order}
use Rattle.cdr_core.specs.Form as form
use Rattle.cdr_core.specs.Form.{Form, Forms, Cases, size}
use Rattle.cdr_core.specs.Value as value
use Rattle.cdr_core.specs.Value.{Value, Values, count, label}
use Rattle.cdr_core.specs.Numbers.{padding, meaning}
use Rattle.cdr_core.specs.Reading.{◌>>=◌, Read, taken, fault, number_at, whole_at, boolean_at, ordinal_at, length_at, text_at, string_at, octets_at, each_at, value_at, members_at, chosen_at}
use Rattle.cdr_core.specs.Spelling.{InTurn, IsNumber, IsText, Each, OneOf, Chosen, Spells, SpellsMembers, SpellsChosen, Takes}
use Rattle.cdr_core.proofs.Steps.{bind_ok, needs, ok_is}
use Rattle.cdr_core.proofs.Taken.{in_turn_takes, takes_as, nothing_takes, taken_takes, number_takes, single, length_takes, text_takes, each_takes, taken_is}

-- what a reader gives is a front that is A
abbrev pub Finds : {X : Type 0} → (X → ℕ → List ℕ → Type 0) → (ℕ → List ℕ → Read X) → Type 0
Finds {X} A r = (o : ℕ) (octets : List ℕ) (x : X) (p : ℕ) (rest : List ℕ) → r o octets ≡ Ok (x, p, rest) → Takes (A x) o octets p rest

-- the last step of a reader makes another value of it
finds_as : {X Y : Type 0} (A : X → ℕ → List ℕ → Type 0) (B : Y → ℕ → List ℕ → Type 0) (r : ℕ → List ℕ → Read X) (g : X → Y) → ((x : X) (o : ℕ) (front : List ℕ) → A x o front → B (g x) o front) → Finds A r → Finds B (λ o octets. r o octets >>= λ x. Ok (g x.0, x.1, x.2))
finds_as {X} {Y} A B r g into finds o octets y p rest h =
    let b = bind_ok (r o octets) (λ (x : X × ℕ × List ℕ). Ok (g x.0, x.1, x.2)) (y, p, rest) h in
    let t = takes_as (A b.0.0) (B (g b.0.0)) o octets b.0.1 b.0.2 (λ front a. into b.0.0 o front a) (finds o octets b.0.0 b.0.1 b.0.2 b.1) in
    subst (λ (z : Y × ℕ × List ℕ). Takes (B z.0) o octets z.1 z.2) (ok_is (g b.0.0, b.0.1, b.0.2) (y, p, rest) b.2) t

abbrev IsBoolean : Bool → ℕ → List ℕ → Type 0
IsBoolean b o octets = octets ≡ (if b then 1 else 0) ∷ []

-- a boolean by its octet
abbrev pub boolean_by : ℕ → ℕ → ℕ → List ℕ → Read Bool
boolean_by o x p rest = cond (eqb x 0) (Ok (false, p, rest)) (cond (eqb x 1) (Ok (true, p, rest)) (fault kind.BadBoolean o))

boolean_found : (order : Order) → Finds IsBoolean (boolean_at order)
unfolding boolean_at
boolean_found order o octets b p rest h =
    let n = bind_ok (number_at order 1 o octets) (λ (x : ℕ × ℕ × List ℕ). boolean_by o x.0 x.1 x.2) (b, p, rest) h in
    let t = number_takes order 1 (omega arith) o octets n.0.0 n.0.1 n.0.2 n.1 in
    by (eqb n.0.0 0) (eqb n.0.0 1) n.0.0 n.0.1 n.0.2 refl refl t n.2
  where
    as_false : (x q : ℕ) (more : List ℕ) → x ≡ 0 → Takes (IsNumber order 1 x) o octets q more → Takes (IsBoolean false) o octets q more
    as_false x q more is t = takes_as (IsNumber order 1 x) (IsBoolean false) o octets q more (λ front a. single order x o front a ∙ ap (λ y. y ∷ []) is) t

    as_true : (x q : ℕ) (more : List ℕ) → x ≡ 1 → Takes (IsNumber order 1 x) o octets q more → Takes (IsBoolean true) o octets q more
    as_true x q more is t = takes_as (IsNumber order 1 x) (IsBoolean true) o octets q more (λ front a. single order x o front a ∙ ap (λ y. y ∷ []) is) t

    by : (c d : Bool) (x q : ℕ) (more : List ℕ) → eqb x 0 ≡ c → eqb x 1 ≡ d → Takes (IsNumber order 1 x) o octets q more → cond {A = Read Bool} c (Ok (false, q, more)) (cond {A = Read Bool} d (Ok (true, q, more)) (fault kind.BadBoolean o)) ≡ Ok (b, p, rest) → Takes (IsBoolean b) o octets p rest
    by true d x q more e f t k = subst (λ (z : Bool × ℕ × List ℕ). Takes (IsBoolean z.0) o octets z.1 z.2) (ok_is (false, q, more) (b, p, rest) k) (as_false x q more (eqb-true _ _ e) t)
    by false true x q more e f t k = subst (λ (z : Bool × ℕ × List ℕ). Takes (IsBoolean z.0) o octets z.1 z.2) (ok_is (true, q, more) (b, p, rest) k) (as_true x q more (eqb-true _ _ f) t)
    by false false x q more e f t k = absurd cc

pub some_octets : (kind : form.Number) → 0 < size kind
some_octets form.char = omega arith
some_octets form.octet = omega arith
some_octets form.short = omega arith
some_octets form.ushort = omega arith
some_octets form.long = omega arith
some_octets form.ulong = omega arith
some_octets form.longlong = omega arith
some_octets form.ulonglong = omega arith

abbrev IsWhole : Order → form.Number → ℤ → ℕ → List ℕ → Type 0
IsWhole order kind z o octets = (x : ℕ) × IsNumber order (size kind) x o octets × (z ≡ meaning kind x)

whole_found : (order : Order) (kind : form.Number) → Finds (IsWhole order kind) (whole_at order kind)
unfolding whole_at
whole_found order kind = finds_as (IsNumber order (size kind)) (IsWhole order kind) (number_at order (size kind)) (meaning kind) (λ x o front a. (x, a, refl)) (λ o octets x p rest h. number_takes order (size kind) (some_octets kind) o octets x p rest h)

ordinal_found : (order : Order) (n : ℕ) → Finds (λ x o octets. (x < n) × IsNumber order 4 x o octets) (ordinal_at order n)
unfolding ordinal_at
ordinal_found order n o octets x p rest h =
    let b = bind_ok (number_at order 4 o octets) (λ (y : ℕ × ℕ × List ℕ). cond (ltb y.0 n) (Ok y) (fault kind.BadEnum (o + padding o 4))) (x, p, rest) h in
    let g = needs (ltb b.0.0 n) (Ok b.0) _ (x, p, rest) b.2 in
    let lt : b.0.0 < n = ltb-true _ _ g.0 in
    let t = takes_as (IsNumber order 4 b.0.0) (λ o front. (b.0.0 < n) × IsNumber order 4 b.0.0 o front) o octets b.0.1 b.0.2 (λ front a. (lt, a)) (number_takes order 4 (omega arith) o octets b.0.0 b.0.1 b.0.2 b.1) in
    subst (λ (z : ℕ × ℕ × List ℕ). Takes (λ o front. (z.0 < n) × IsNumber order 4 z.0 o front) o octets z.1 z.2) (ok_is b.0 (x, p, rest) g.1) t

string_found : (order : Order) (bound : ℕ) → Finds (λ text o octets. (length text ≤ bound) × (n : ℕ) × InTurn (IsNumber order 4 n) (IsText n text) o octets) (string_at order bound)
unfolding string_at
string_found order bound o octets text p rest h =
    let b = bind_ok (length_at order 1 bound o octets) (λ (n : ℕ × ℕ × List ℕ). text_at n.0 n.1 n.2) (text, p, rest) h in
    let n = length_takes order 1 bound o octets b.0.0 b.0.1 b.0.2 b.1 in
    let t = text_takes b.0.0 b.0.1 b.0.2 text p rest b.2 in
    let both = in_turn_takes (IsNumber order 4 b.0.0) (IsText b.0.0 text) o octets b.0.1 b.0.2 p rest n.0 t.0 in
    takes_as (InTurn (IsNumber order 4 b.0.0) (IsText b.0.0 text)) _ o octets p rest (λ front a. (omega (arith, n.1, t.1), b.0.0, a)) both

octets_found : (order : Order) (bound : ℕ) → Finds (λ all o octets. (length all ≤ bound) × InTurn (IsNumber order 4 (length all)) (λ _ rest. rest ≡ all) o octets) (octets_at order bound)
unfolding octets_at
octets_found order bound o octets all p rest h =
    let b = bind_ok (length_at order 0 bound o octets) (λ (n : ℕ × ℕ × List ℕ). taken n.0 n.1 n.2) (all, p, rest) h in
    let n = length_takes order 0 bound o octets b.0.0 b.0.1 b.0.2 b.1 in
    let t = taken_takes b.0.0 b.0.1 b.0.2 all p rest b.2 in
    let long : b.0.0 ≡ length all = long_is b.0.0 b.0.1 b.0.2 b.2 in
    let both = in_turn_takes (IsNumber order 4 b.0.0) (λ _ front. front ≡ all) o octets b.0.1 b.0.2 p rest n.0 t in
    takes_as (InTurn (IsNumber order 4 b.0.0) (λ _ front. front ≡ all)) _ o octets p rest (λ front a. (omega (arith, n.1, long), subst (λ m. InTurn (IsNumber order 4 m) (λ _ front. front ≡ all) o front) long a)) both
  where
    long_is : (n q : ℕ) (more : List ℕ) → taken n q more ≡ Ok (all, p, rest) → n ≡ length all
    long_is n q more k = sym (taken_is n q more all p rest k).1

abbrev One : Value × ℕ × List ℕ → Read Values
One x = Ok (value.value x.0 value.no_values, x.1, x.2)

one_found : (t : Form) (order : Order) → Finds (Spells t order) (value_at t order) → Finds (OneOf (Spells t order)) (λ o octets. value_at t order o octets >>= One)
one_found t order finds = finds_as (Spells t order) (OneOf (Spells t order)) (value_at t order) (λ v. value.value v value.no_values) (λ v o front a. a) finds

chosen_by : (b : Bool) (order : Order) (A B : Values → ℕ → List ℕ → Type 0) (o : ℕ) (octets : List ℕ) (r s : Read Values) (ms : Values) (p : ℕ) (rest : List ℕ) → (r ≡ Ok (ms, p, rest) → Takes (A ms) o octets p rest) → (s ≡ Ok (ms, p, rest) → Takes (B ms) o octets p rest)
    → cond b r s ≡ Ok (ms, p, rest) → Takes (λ o front. Chosen b (A ms o front) (B ms o front)) o octets p rest
chosen_by true order A B o octets r s ms p rest f g h = let t = f h in record { front = t.front; parts = t.parts; place = t.place; holds = t.holds }
chosen_by false order A B o octets r s ms p rest f g h = let t = g h in record { front = t.front; parts = t.parts; place = t.place; holds = t.holds }

mutual
  unfolding value_at

  pub found : (t : Form) (order : Order) → Finds (Spells t order) (value_at t order)
  found form.boolean order o octets v p rest h = finds_as IsBoolean (Spells form.boolean order) (boolean_at order) value.boolean (λ b o front a. a) (boolean_found order) o octets v p rest h
  found (form.number kind) order o octets v p rest h = finds_as (IsWhole order kind) (Spells (form.number kind) order) (whole_at order kind) (value.number kind) (λ z o front a. (refl, a.0, a.1, a.2)) (whole_found order kind) o octets v p rest h
  found (form.string bound) order o octets v p rest h = finds_as _ (Spells (form.string bound) order) (string_at order bound) value.string (λ text o front a. a) (string_found order bound) o octets v p rest h
  found (form.octets bound) order o octets v p rest h = finds_as _ (Spells (form.octets bound) order) (octets_at order bound) value.octets (λ all o front a. a) (octets_found order bound) o octets v p rest h
  found (form.enumeration n) order o octets v p rest h = finds_as _ (Spells (form.enumeration n) order) (ordinal_at order n) value.enumeration (λ x o front a. a) (ordinal_found order n) o octets v p rest h
  found (form.array n t) order o octets v p rest h =
      let b = bind_ok (each_at (value_at t order) n o octets) (λ (x : Values × ℕ × List ℕ). Ok (value.array x.0, x.1, x.2)) (v, p, rest) h in
      let e = each_takes (value_at t order) (Spells t order) (λ o octets v p rest h. found t order o octets v p rest h) n o octets b.0.0 b.0.1 b.0.2 b.1 in
      let w = takes_as (Each (Spells t order) b.0.0) (Spells (form.array n t) order (value.array b.0.0)) o octets b.0.1 b.0.2 (λ front a. (e.1, a)) e.0 in
      subst (λ (z : Value × ℕ × List ℕ). Takes (Spells (form.array n t) order z.0) o octets z.1 z.2) (ok_is (value.array b.0.0, b.0.1, b.0.2) (v, p, rest) b.2) w
  found (form.sequence bound t) order o octets v p rest h =
      let n = bind_ok (length_at order 0 bound o octets) (λ (n : ℕ × ℕ × List ℕ). each_at (value_at t order) n.0 n.1 n.2 >>= λ x. Ok (value.sequence x.0, x.1, x.2)) (v, p, rest) h in
      let b = bind_ok (each_at (value_at t order) n.0.0 n.0.1 n.0.2) (λ (x : Values × ℕ × List ℕ). Ok (value.sequence x.0, x.1, x.2)) (v, p, rest) n.2 in
      let l = length_takes order 0 bound o octets n.0.0 n.0.1 n.0.2 n.1 in
      let e = each_takes (value_at t order) (Spells t order) (λ o octets v p rest h. found t order o octets v p rest h) n.0.0 n.0.1 n.0.2 b.0.0 b.0.1 b.0.2 b.1 in
      let w = in_turn_takes (IsNumber order 4 n.0.0) (Each (Spells t order) b.0.0) o octets n.0.1 n.0.2 b.0.1 b.0.2 l.0 e.0 in
      let u = takes_as (InTurn (IsNumber order 4 n.0.0) (Each (Spells t order) b.0.0)) (Spells (form.sequence bound t) order (value.sequence b.0.0)) o octets b.0.1 b.0.2
      (λ front a. (omega (arith, l.1, e.1), subst (λ m. InTurn (IsNumber order 4 m) (Each (Spells t order) b.0.0) o front) (sym e.1) a)) w in
      subst (λ (z : Value × ℕ × List ℕ). Takes (Spells (form.sequence bound t) order z.0) o octets z.1 z.2) (ok_is (value.sequence b.0.0, b.0.1, b.0.2) (v, p, rest) b.2) u
  found (form.structure ts) order o octets v p rest h = finds_as (SpellsMembers ts order) (Spells (form.structure ts) order) (members_at ts order) value.structure (λ vs o front a. a) (λ o octets vs p rest h. members_found ts order o octets vs p rest h) o octets v p rest h
  found (form.union d cs) order o octets v p rest h =
      let b = bind_ok (value_at d order o octets) (λ (x : Value × ℕ × List ℕ). chosen_at cs order (label x.0) x.1 x.2 >>= λ m. Ok (value.union x.0 m.0, m.1, m.2)) (v, p, rest) h in
      let m = bind_ok (chosen_at cs order (label b.0.0) b.0.1 b.0.2) (λ (m : Values × ℕ × List ℕ). Ok (value.union b.0.0 m.0, m.1, m.2)) (v, p, rest) b.2 in
      let first = found d order o octets b.0.0 b.0.1 b.0.2 b.1 in
      let second = chosen_found cs order (label b.0.0) b.0.1 b.0.2 m.0.0 m.0.1 m.0.2 m.1 in
      let w : Takes (Spells (form.union d cs) order (value.union b.0.0 m.0.0)) o octets m.0.1 m.0.2 = in_turn_takes (Spells d order b.0.0) (SpellsChosen cs order (label b.0.0) m.0.0) o octets b.0.1 b.0.2 m.0.1 m.0.2 first second in
      subst (λ (z : Value × ℕ × List ℕ). Takes (Spells (form.union d cs) order z.0) o octets z.1 z.2) (ok_is (value.union b.0.0 m.0.0, m.0.1, m.0.2) (v, p, rest) m.2) w

  pub members_found : (ts : Forms) (order : Order) → Finds (SpellsMembers ts order) (members_at ts order)
  members_found form.no_forms order o octets vs p rest h =
      subst (λ (z : Values × ℕ × List ℕ). Takes (SpellsMembers form.no_forms order z.0) o octets z.1 z.2) (ok_is (value.no_values, o, octets) (vs, p, rest) h) (nothing_takes (SpellsMembers form.no_forms order value.no_values) o octets refl)
  members_found (form.form t ts) order o octets vs p rest h =
      let b = bind_ok (value_at t order o octets) (λ (x : Value × ℕ × List ℕ). members_at ts order x.1 x.2 >>= λ xs. Ok (value.value x.0 xs.0, xs.1, xs.2)) (vs, p, rest) h in
      let m = bind_ok (members_at ts order b.0.1 b.0.2) (λ (xs : Values × ℕ × List ℕ). Ok (value.value b.0.0 xs.0, xs.1, xs.2)) (vs, p, rest) b.2 in
      let first = found t order o octets b.0.0 b.0.1 b.0.2 b.1 in
      let second = members_found ts order b.0.1 b.0.2 m.0.0 m.0.1 m.0.2 m.1 in
      let w : Takes (SpellsMembers (form.form t ts) order (value.value b.0.0 m.0.0)) o octets m.0.1 m.0.2 = in_turn_takes (Spells t order b.0.0) (SpellsMembers ts order m.0.0) o octets b.0.1 b.0.2 m.0.1 m.0.2 first second in
      subst (λ (z : Values × ℕ × List ℕ). Takes (SpellsMembers (form.form t ts) order z.0) o octets z.1 z.2) (ok_is (value.value b.0.0 m.0.0, m.0.1, m.0.2) (vs, p, rest) m.2) w

  pub chosen_found : (cs : Cases) (order : Order) (l : ℤ) → Finds (SpellsChosen cs order l) (chosen_at cs order l)
  chosen_found form.otherwise_nothing order l o octets ms p rest h =
      subst (λ (z : Values × ℕ × List ℕ). Takes (SpellsChosen form.otherwise_nothing order l z.0) o octets z.1 z.2) (ok_is (value.no_values, o, octets) (ms, p, rest) h) (nothing_takes (SpellsChosen form.otherwise_nothing order l value.no_values) o octets refl)
  chosen_found (form.otherwise t) order l o octets ms p rest h = one_found t order (λ o octets v p rest h. found t order o octets v p rest h) o octets ms p rest h
  chosen_found (form.labelled k t cs) order l o octets ms p rest h =
      chosen_by (int_eq k l) order (OneOf (Spells t order)) (SpellsChosen cs order l) o octets _ _ ms p rest
      (λ e. one_found t order (λ o octets v p rest h. found t order o octets v p rest h) o octets ms p rest e) (λ e. chosen_found cs order l o octets ms p rest e) h
