-- Where reading values one after another may run out of memory.
use Rattle.std.proofs.Common.{◌≡◌, ℕ, suc, ◌+◌, ◌-◌, ◌<◌, ◌≤◌, ℤ, true, false, List, [], length, drop, get_or, Option, Some, Box, Global, Ok, ◌⊎◌, inl, inr, refl, sym, ap, subst, arith}
use Rattle.std.proofs.lemmas.List.{drop_all}
use Rattle.std.specs.Ordering.{int_eq}
use Rattle.cdr_core.specs.declared.fault.CdrError.{CdrError}
use Rattle.cdr_core.specs.declared.fault.CdrError.TheVariants as errors
use Rattle.cdr_core.specs.declared.order.Order.{Order}
use Rattle.cdr_core.specs.declared.types.Ty.{Ty}
use Rattle.cdr_core.specs.declared.types.Case.{Case}
use Rattle.cdr_core.specs.Form as form
use Rattle.cdr_core.specs.Form.{Form}
use Rattle.cdr_core.specs.Memory.{AfterRead, EndsAtPlace, Stores, StoresChosen, StoresEach, StoresMembers}
use Rattle.cdr_core.specs.Private.{union_at, IfMemory, StoresUnion}
use Rattle.cdr_core.specs.Reading.{Read, chosen_at, value_at}
use Rattle.cdr_core.specs.Spelling.{Chosen}
use Rattle.cdr_core.specs.Value as value
use Rattle.cdr_core.specs.Value.{Value, Values}
use Rattle.cdr_core.specs.View.{cases_of, form_of, forms_of}
use Rattle.cdr_core.proofs.Loops.{cases_next, forms_next}
use Rattle.cdr_core.proofs.Steps.{ok_is}

-- what holds where an allocation failed, in other words
pub if_memory : {A B : Type 0} (e : CdrError) → (A → B) → IfMemory e A → IfMemory e B
if_memory errors.Memory f h = f h
if_memory (errors.Bad _) f h = tt

-- what follows a value that was read
pub after_read : {A : Type 0} (r : Read A) (x : A) (q : ℕ) (rest : List ℕ) (P : A → ℕ → List ℕ → Type 0) → r ≡ Ok (x, q, rest) → P x q rest → AfterRead r P
after_read r x q rest P e h = subst (λ r. AfterRead r P) (sym e) h

-- where it ends
pub ends_at : {A : Type 0} (r : Read A) (x : A) (q : ℕ) (rest : List ℕ) → r ≡ Ok (x, q, rest) → EndsAtPlace r q
ends_at r x q rest e = subst (λ r. EndsAtPlace r q) (sym e) refl

-- so many values

one_less : (n i : ℕ) → i < n → suc (n - (i + 1)) ≡ n - i
one_less n i lt = omega arith

pub stores_here : (one : ℕ → List ℕ → Read Value) (S : ℕ → List ℕ → ℕ → Type 0) (n i o : ℕ) (octets : List ℕ) (p : ℕ) → i < n → S o octets p → StoresEach one S (n - i) o octets p
stores_here one S n i o octets p lt h = subst (λ m. StoresEach one S m o octets p) (one_less n i lt) (inl h)

pub stores_later : (one : ℕ → List ℕ → Read Value) (S : ℕ → List ℕ → ℕ → Type 0) (n i o : ℕ) (octets : List ℕ) (v : Value) (q : ℕ) (rest : List ℕ) (p : ℕ) → i < n → one o octets ≡ Ok (v, q, rest)
    → (p ≡ q) ⊎ StoresEach one S (n - (i + 1)) q rest p → StoresEach one S (n - i) o octets p
stores_later one S n i o octets v q rest p lt e h =
    subst (λ m. StoresEach one S m o octets p) (one_less n i lt) (inr (after_read (one o octets) v q rest (λ v q rest. (p ≡ q) ⊎ StoresEach one S (n - (i + 1)) q rest p) e h))

-- a value of each type

pub member_stores : (types : List Ty) (i : ℕ) (t : Ty) (order : Order) (o : ℕ) (octets : List ℕ) (p : ℕ) → i < length types → t ≡ get_or types i t
    → Stores (form_of t) order o octets p → StoresMembers (forms_of (drop i types)) order o octets p
member_stores types i t order o octets p lt is h = subst (λ ts. StoresMembers ts order o octets p) (sym (forms_next types i t lt is)) (inl h)

pub members_store : (types : List Ty) (i : ℕ) (t : Ty) (order : Order) (o : ℕ) (octets : List ℕ) (v : Value) (q : ℕ) (rest : List ℕ) (p : ℕ) → i < length types → t ≡ get_or types i t
    → value_at (form_of t) order o octets ≡ Ok (v, q, rest) → (p ≡ q) ⊎ StoresMembers (forms_of (drop (i + 1) types)) order q rest p → StoresMembers (forms_of (drop i types)) order o octets p
members_store types i t order o octets v q rest p lt is e h =
    subst (λ ts. StoresMembers ts order o octets p) (sym (forms_next types i t lt is))
    (inr (after_read (value_at (form_of t) order o octets) v q rest (λ v q rest. (p ≡ q) ⊎ StoresMembers (forms_of (drop (i + 1) types)) order q rest p) e h))

-- the member of a union

pub case_stores : (cases : List Case) (default : Option (Box Ty Global)) (i : ℕ) (c : Case) (order : Order) (l : ℤ) (o : ℕ) (octets : List ℕ) (p : ℕ) → i < length cases → c ≡ get_or cases i c
    → int_eq c.label l ≡ true → Stores (form_of c.member) order o octets p → StoresChosen (cases_of (drop i cases) default) order l o octets p
case_stores cases default i c order l o octets p lt is labelled h =
    subst (λ cs. StoresChosen cs order l o octets p) (sym (cases_next cases default i c lt is))
    (subst (λ b. Chosen b (Stores (form_of c.member) order o octets p) (StoresChosen (cases_of (drop (i + 1) cases) default) order l o octets p)) (sym labelled) h)

pub cases_store : (cases : List Case) (default : Option (Box Ty Global)) (i : ℕ) (c : Case) (order : Order) (l : ℤ) (o : ℕ) (octets : List ℕ) (p : ℕ) → i < length cases → c ≡ get_or cases i c
    → int_eq c.label l ≡ false → StoresChosen (cases_of (drop (i + 1) cases) default) order l o octets p → StoresChosen (cases_of (drop i cases) default) order l o octets p
cases_store cases default i c order l o octets p lt is other h =
    subst (λ cs. StoresChosen cs order l o octets p) (sym (cases_next cases default i c lt is))
    (subst (λ b. Chosen b (Stores (form_of c.member) order o octets p) (StoresChosen (cases_of (drop (i + 1) cases) default) order l o octets p)) (sym other) h)

pub default_stores : (cases : List Case) (default : Option (Box Ty Global)) (i : ℕ) (t : Box Ty Global) (order : Order) (l : ℤ) (o : ℕ) (octets : List ℕ) (p : ℕ) → length cases ≤ i → default ≡ Some t
    → Stores (form_of t.value) order o octets p → StoresChosen (cases_of (drop i cases) default) order l o octets p
default_stores cases default i t order l o octets p le is h =
    subst (λ cs. StoresChosen (cases_of cs default) order l o octets p) (sym (drop_all i cases le))
    (subst (λ d. StoresChosen (cases_of [] d) order l o octets p) (sym is) h)

-- the member that a union has at a label was read
pub union_ends : (t : Form) (order : Order) (l : ℤ) (o : ℕ) (octets : List ℕ) (vs : Values) (q : ℕ) (rest : List ℕ) → union_at t order l o octets ≡ Ok (vs, q, rest) → StoresUnion t order l o octets q
union_ends (form.union d cs) order l o octets vs q rest h = inr (ends_at (chosen_at cs order l o octets) vs q rest h)
union_ends _ order l o octets vs q rest h = sym (ap (λ (x : Values × ℕ × List ℕ). x.1) (ok_is (value.no_values, o, octets) (vs, q, rest) h))
