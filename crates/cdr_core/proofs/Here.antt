-- Values of a basic type that stand at a place that their size divides, and how reading goes on after them.
use Rattle.std.proofs.Common.{◌≡◌, ℕ, ◌+◌, ◌-◌, ◌<◌, ◌≤◌, true, false, ltb, List, [], ◌∷◌, ◌++◌, length, take, drop, Option, Some, None, IfSome, MatchOption, Ok, Err, ◌⊎◌, inl, inr, refl, sym, ap, subst, ◌∙◌, arith, length-append}
use Rattle.std.proofs.lemmas.Bool.{le-ltb, lt-ltb}
use Rattle.cdr_core.specs.declared.fault.CdrError.{CdrError}
use Rattle.cdr_core.specs.declared.order.Order.{Order}
use Rattle.cdr_core.specs.declared.basic.Basic.{Basic}
use Rattle.cdr_core.specs.declared.basic.Basic.TheVariants as kinds
use Rattle.cdr_core.specs.declared.values.Val.{Val}
use Rattle.cdr_core.specs.Form as form
use Rattle.cdr_core.specs.Form.{Form, Number, size}
use Rattle.cdr_core.specs.Numbers.{meaning, number_of, padding}
use Rattle.cdr_core.specs.Memory.{Stores, StoresEach}
use Rattle.cdr_core.specs.Private.{basic_form, basic_size, with_front, Fails, ReadsOn}
use Rattle.cdr_core.specs.Reading.{◌>>=◌, Read, boolean_at, each_at, number_at, ordinal_at, part_at, taken, value_at, whole_at}
use Rattle.cdr_core.specs.Value as value
use Rattle.cdr_core.specs.Value.{Value, Values}
use Rattle.cdr_core.specs.View.{value_of, values_of}
use Rattle.cdr_core.proofs.Loops.{each_ends}
use Rattle.cdr_core.proofs.Memory.{stores_here, stores_later}
use Rattle.cdr_core.proofs.Turns.{each_done, each_more}
use Rattle.cdr_core.proofs.Views.{values_of-push}

-- without padding a number is the next octets
pub number_here : (order : Order) (n p x : ℕ) (octets : List ℕ) → n ≤ length octets → padding p n ≡ 0 → x ≡ number_of order n (take n octets) → number_at order n p octets ≡ Ok (x, p + n, drop n octets)
unfolding number_at part_at
number_here order n p x octets le none is =
    let t : ltb (length octets) n ≡ false = le-ltb _ _ le in
    let z : p + 0 ≡ p = omega arith in
    let a : taken n (p + padding p n) (drop (padding p n) octets) ≡ taken n p octets = ap (λ k. taken n (p + k) (drop k octets)) none ∙ ap (λ q. taken n q octets) z in
    let b : taken n p octets ≡ Ok (take n octets, p + n, drop n octets) = rw t refl in
    ap (λ (r : Read (List ℕ)). r >>= λ y. Ok (number_of order n y.0, y.1, y.2)) (a ∙ b) ∙ ap (λ (y : ℕ). Ok (y, p + n, drop n octets)) (sym is)

module _ (k : Basic) (order : Order) (p x : ℕ) (octets : List ℕ) (le : basic_size k ≤ length octets) (none : padding p (basic_size k) ≡ 0) (is : x ≡ number_of order (basic_size k) (take (basic_size k) octets)) where
  number_read : number_at order (basic_size k) p octets ≡ Ok (x, p + basic_size k, drop (basic_size k) octets)
  number_read = number_here order (basic_size k) p x octets le none is

  pub whole_here : (kind : Number) (v : Value) → basic_form k ≡ form.number kind → basic_size k ≡ size kind → v ≡ value.number kind (meaning kind x) → value_at (basic_form k) order p octets ≡ Ok (v, p + basic_size k, drop (basic_size k) octets)
  unfolding value_at whole_at
  whole_here kind v f s e =
      let r = rw s at number_read in
      rw (f, s, e, r) refl

  pub boolean_here : (r : Option Val) → basic_form k ≡ form.boolean → basic_size k ≡ 1 → MatchOption r (1 < x) (λ v. ((x ≡ 0) × (value_of v ≡ value.boolean false)) ⊎ ((x ≡ 1) × (value_of v ≡ value.boolean true)))
      → IfSome r (λ v. value_at (basic_form k) order p octets ≡ Ok (value_of v, p + basic_size k, drop (basic_size k) octets))
  unfolding value_at boolean_at
  boolean_here None f s h = tt
  boolean_here (Some v) f s (inl h) = let e = rw s at number_read in rw (f, s, h.1, e, h.0) refl
  boolean_here (Some v) f s (inr h) = let e = rw s at number_read in rw (f, s, h.1, e, h.0) refl

  pub ordinal_here : (names : ℕ) (r : Option Val) → basic_form k ≡ form.enumeration names → basic_size k ≡ 4 → MatchOption r (names ≤ x) (λ v. (x < names) × (value_of v ≡ value.enumeration x))
      → IfSome r (λ v. value_at (basic_form k) order p octets ≡ Ok (value_of v, p + basic_size k, drop (basic_size k) octets))
  unfolding value_at ordinal_at
  ordinal_here names None f s h = tt
  ordinal_here names (Some v) f s h =
      let t : ltb x names ≡ true = lt-ltb _ _ h.0 in
      let e = rw s at number_read in
      rw (f, s, h.1, e, t) refl

-- the place after a value needs no padding either
pub padding_next : (k : Basic) (p : ℕ) → padding p (basic_size k) ≡ 0 → padding (p + basic_size k) (basic_size k) ≡ 0
padding_next kinds.Boolean p h = omega arith
padding_next kinds.Char p h = omega arith
padding_next kinds.Octet p h = omega arith
padding_next kinds.Short p h = omega arith
padding_next kinds.UShort p h = omega arith
padding_next kinds.Long p h = omega arith
padding_next kinds.ULong p h = omega arith
padding_next kinds.LongLong p h = omega arith
padding_next kinds.ULongLong p h = omega arith
padding_next (kinds.Enum names) p h = omega arith

-- reading goes on

pub on_none : (t : Form) (order : Order) (n : ℕ) (others : List Val) (o : ℕ) (octets : List ℕ) → ReadsOn t order n others o octets others o octets
on_none t order n others o octets =
    let same : n - (length others - length others) ≡ n = omega arith in
    record {
      more = omega arith;
      within = omega arith;
      whole = ap (λ m. with_front (values_of others) (each_at (value_at t order) m o octets)) same;
      stores = λ q h. subst (λ m. StoresEach (value_at t order) (Stores t order) m o octets q) same h;
    }

-- one more value is read
pub on_one : (t : Form) (order : Order) (n : ℕ) (others : List Val) (o : ℕ) (octets : List ℕ) (all : List Val) (p : ℕ) (rest : List ℕ) (v : Val) (q : ℕ) (left : List ℕ) → ReadsOn t order n others o octets all p rest
    → length all < length others + n → value_at t order p rest ≡ Ok (value_of v, q, left) → ReadsOn t order n others o octets (all ++ v ∷ []) q left
on_one t order n others o octets all p rest v q left r lt e =
    let one = value_at t order in
    let i = length all - length others in
    let more = r.more in
    let long : length (all ++ v ∷ []) ≡ length all + 1 = length-append all (v ∷ []) in
    let next : length (all ++ v ∷ []) - length others ≡ i + 1 = omega arith in
    let below : i < n = omega arith in
    record {
      more = omega arith;
      within = omega arith;
      whole = rw (values_of-push all v, next) (each_more one (values_of all) n i p rest (value_of v) q left _ below e r.whole);
      stores = λ s h.
          let h' : StoresEach one (Stores t order) (n - (i + 1)) q left s = subst (λ m. StoresEach one (Stores t order) (n - m) q left s) next h in
          r.stores s (stores_later one (Stores t order) n i p rest (value_of v) q left s below e (inr h'));
    }

-- and then more of them
pub on_more : (t : Form) (order : Order) (n m : ℕ) (others : List Val) (o : ℕ) (octets : List ℕ) (all : List Val) (p : ℕ) (rest : List ℕ) (new : List Val) (q : ℕ) (left : List ℕ) → ReadsOn t order n others o octets all p rest
    → m ≡ n - (length all - length others) → ReadsOn t order m all p rest new q left → ReadsOn t order n others o octets new q left
on_more t order n m others o octets all p rest new q left r is s =
    let a = r.more in
    let b = r.within in
    let c = s.more in
    let d = s.within in
    let same : n - (length new - length others) ≡ m - (length new - length all) = omega arith in
    record {
      more = omega arith;
      within = omega arith;
      whole = ap (λ k. with_front (values_of new) (each_at (value_at t order) k q left)) same ∙ s.whole ∙ ap (λ k. with_front (values_of all) (each_at (value_at t order) k p rest)) is ∙ r.whole;
      stores = λ x h. r.stores x (subst (λ k. StoresEach (value_at t order) (Stores t order) k p rest x) is (s.stores x (subst (λ k. StoresEach (value_at t order) (Stores t order) k q left x) same h)));
    }

-- all of them, after no others

front_none : (r : Read Values) → with_front value.no_values r ≡ r
front_none (Ok x) = refl
front_none (Err f) = refl

module _ (t : Form) (order : Order) (n o : ℕ) (octets : List ℕ) (all : List Val) (p : ℕ) (rest : List ℕ) (r : ReadsOn t order n [] o octets all p rest) where
  from_none : length all - 0 ≡ length all
  from_none = omega arith

  stored : (q : ℕ) → StoresEach (value_at t order) (Stores t order) (n - length all) p rest q → StoresEach (value_at t order) (Stores t order) n o octets q
  stored q h = r.stores q (subst (λ m. StoresEach (value_at t order) (Stores t order) (n - m) p rest q) (sym from_none) h)

  whole : with_front (values_of all) (each_at (value_at t order) (n - length all) p rest) ≡ each_at (value_at t order) n o octets
  whole = ap (λ m. with_front (values_of all) (each_at (value_at t order) (n - m) p rest)) (sym from_none) ∙ r.whole ∙ front_none (each_at (value_at t order) n o octets)

  pub on_done : n ≤ length all → each_at (value_at t order) n o octets ≡ Ok (values_of all, p, rest)
  on_done le = each_done (value_at t order) (values_of all) n (length all) p rest _ le whole

  pub on_fails : (e : CdrError) → length all < n → Fails e (value_at t order p rest) → Fails e (each_at (value_at t order) n o octets)
  on_fails e lt h = each_ends e (value_at t order) (values_of all) n (length all) p rest _ lt h whole

  pub on_stores : (q : ℕ) → length all < n → Stores t order p rest q → StoresEach (value_at t order) (Stores t order) n o octets q
  on_stores q lt h = stored q (stores_here (value_at t order) (Stores t order) n (length all) p rest q lt h)

  pub on_ends : (v : Value) (q : ℕ) (left : List ℕ) → length all < n → value_at t order p rest ≡ Ok (v, q, left) → StoresEach (value_at t order) (Stores t order) n o octets q
  on_ends v q left lt e = stored q (stores_later (value_at t order) (Stores t order) n (length all) p rest v q left q lt e (inl refl))
