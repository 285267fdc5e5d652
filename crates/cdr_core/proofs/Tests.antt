-- What a test of the code proves: of one thing, of each in a loop, and of a union.
use Rattle.std.proofs.Common.{◌≡◌, ◌↔◌, IsTrue, Bool, true, false, ℕ, ◌+◌, ◌<◌, ◌≤◌, ℤ, List, [], ◌∷◌, length, drop, get_or, Option, Some, None, Box, Vec, Global, refl, sym, ap, subst, ◌∙◌, rules}
use Rattle.std.proofs.lemmas.List.{drop_all, drop_more}
use Rattle.std.specs.Ordering.{int_eq}
use Rattle.cdr_core.specs.declared.types.Case.{Case, the_lemmas}
use Rattle.cdr_core.specs.declared.types.Ty.{Ty, the_lemmas as ty_lemmas}
use Rattle.cdr_core.specs.declared.types.Ty.TheVariants as ty
use Rattle.cdr_core.specs.declared.values.Val.{Val, fold_out-Val, map-Val, out-Val, roll-Val, roll-out-Val}
use Rattle.cdr_core.specs.declared.values.Val.TheOpen.{Val-F}
use Rattle.cdr_core.specs.declared.values.Val.TheVariants as val
use Rattle.cdr_core.specs.Form as form
use Rattle.cdr_core.specs.Form.{Cases, Form, Number}
use Rattle.cdr_core.specs.Value as value
use Rattle.cdr_core.specs.Value.{Value, Values}
use Rattle.cdr_core.specs.Private.{HasCases, HasChosen}
use Rattle.cdr_core.specs.Fitting.{AreCases, Fits, FitsChosen, FitsMembers, IsLabel, IsNoLabel, IsValid, OneFits}
use Rattle.cdr_core.specs.Spelling.{Chosen}
use Rattle.cdr_core.specs.View.{case_of, cases_of, form_of, forms_of, value_of, value_step, values_of}

-- a single test

pub held_so : (A : Type 0) → A → (IsTrue true ↔ A)
held_so A a = ((λ e. a), (λ x. refl))

pub refused : (A : Type 0) → (A → ⊥) → (IsTrue false ↔ A)
refused A n = ((λ e. absurd cc), (λ a. absurd (n a)))

pub not_so : (A : Type 0) (b : Bool) → (IsTrue b ↔ A) → b ≡ false → A → ⊥
not_so A b test is a = let e : b ≡ true = test.1 a in absurd cc

pub same : (A : Type 0) → (A ↔ A)
same A = ((λ a. a), (λ a. a))

pub through : (A B : Type 0) (b : Bool) → (IsTrue b ↔ B) → (A ↔ B) → (IsTrue b ↔ A)
through A B b test h = ((λ e. h.1 (test.0 e)), (λ a. test.1 (h.0 a)))

passed : (A P Q : Type 0) (b : Bool) → (IsTrue b ↔ P) → b ≡ true → (A ↔ (P × Q)) → (A ↔ Q)
passed A P Q b test is h = ((λ a. (h.0 a).1), (λ q. h.1 (test.0 is, q)))

failed : (A P Q : Type 0) (b : Bool) → (IsTrue b ↔ P) → b ≡ false → (A ↔ (P × Q)) → (IsTrue false ↔ A)
failed A P Q b test is h = refused A (λ a. not_so P b test is (h.0 a).0)

pub and_then : (A B : Type 0) (a b : Bool) → (IsTrue a ↔ A) → a ≡ true → (IsTrue b ↔ B) → (IsTrue b ↔ (A × B))
and_then A B a b test is h = ((λ e. (test.0 is, h.0 e)), (λ x. h.1 x.1))

pub and_not : (A B : Type 0) (a : Bool) → (IsTrue a ↔ A) → a ≡ false → (IsTrue a ↔ (A × B))
and_not A B a test is = ((λ e. absurd cc), (λ x. test.1 x.0))

-- a loop that tests each: R holds of a list where P holds of each element

pub each_passed : (X A : Type 0) (P : X → Type 0) (R : List X → Type 0) (xs : List X) (i : ℕ) (x : X) (b : Bool) → ((ys : List X) → R (x ∷ ys) ↔ (P x × R ys))
    → i < length xs → x ≡ get_or xs i x → (IsTrue b ↔ P x) → b ≡ true → (A ↔ R (drop i xs)) → (A ↔ R (drop (i + 1) xs))
each_passed X A P R xs i x b opens lt is test is_true h =
    let rest = drop (i + 1) xs in
    let e : drop i xs ≡ x ∷ rest = drop_more xs i x lt ∙ ap (λ y. y ∷ rest) (sym is) in
    let g : A ↔ R (x ∷ rest) = subst (λ l. A ↔ R l) e h in
    passed A (P x) (R rest) b test is_true ((λ a. (opens rest).0 (g.0 a)), (λ q. g.1 ((opens rest).1 q)))

pub each_failed : (X A : Type 0) (P : X → Type 0) (R : List X → Type 0) (xs : List X) (i : ℕ) (x : X) (b : Bool) → ((ys : List X) → R (x ∷ ys) ↔ (P x × R ys))
    → i < length xs → x ≡ get_or xs i x → (IsTrue b ↔ P x) → b ≡ false → (A ↔ R (drop i xs)) → (IsTrue false ↔ A)
each_failed X A P R xs i x b opens lt is test is_false h =
    let rest = drop (i + 1) xs in
    let e : drop i xs ≡ x ∷ rest = drop_more xs i x lt ∙ ap (λ y. y ∷ rest) (sym is) in
    let g : A ↔ R (x ∷ rest) = subst (λ l. A ↔ R l) e h in
    failed A (P x) (R rest) b test is_false ((λ a. (opens rest).0 (g.0 a)), (λ q. g.1 ((opens rest).1 q)))

pub each_held : (X A : Type 0) (R : List X → Type 0) (xs : List X) (i : ℕ) → R [] → length xs ≤ i → (A ↔ R (drop i xs)) → (IsTrue true ↔ A)
each_held X A R xs i none le h = held_so A (h.1 (subst R (sym (drop_all i xs le)) none))

-- a loop over the types and the values of a struct

members_open : (A : Type 0) (ts : List Ty) (vs : List Val) (i : ℕ) (t : Ty) (v : Val) → i < length ts → i < length vs → t ≡ get_or ts i t → v ≡ get_or vs i v
    → (A ↔ FitsMembers (forms_of (drop i ts)) (values_of (drop i vs))) → (A ↔ (Fits (form_of t) (value_of v) × FitsMembers (forms_of (drop (i + 1) ts)) (values_of (drop (i + 1) vs))))
members_open A ts vs i t v lt_t lt_v is_t is_v h =
    let e : drop i ts ≡ t ∷ drop (i + 1) ts = drop_more ts i t lt_t ∙ ap (λ y. y ∷ drop (i + 1) ts) (sym is_t) in
    let f : drop i vs ≡ v ∷ drop (i + 1) vs = drop_more vs i v lt_v ∙ ap (λ y. y ∷ drop (i + 1) vs) (sym is_v) in
    let g : A ↔ FitsMembers (forms_of (t ∷ drop (i + 1) ts)) (values_of (drop i vs)) = subst (λ l. A ↔ FitsMembers (forms_of l) (values_of (drop i vs))) e h in
    subst (λ l. A ↔ FitsMembers (forms_of (t ∷ drop (i + 1) ts)) (values_of l)) f g

pub members_passed : (A : Type 0) (ts : List Ty) (vs : List Val) (i : ℕ) (t : Ty) (v : Val) (b : Bool) → i < length ts → i < length vs → t ≡ get_or ts i t → v ≡ get_or vs i v
    → (IsTrue b ↔ Fits (form_of t) (value_of v)) → b ≡ true → (A ↔ FitsMembers (forms_of (drop i ts)) (values_of (drop i vs))) → (A ↔ FitsMembers (forms_of (drop (i + 1) ts)) (values_of (drop (i + 1) vs)))
members_passed A ts vs i t v b lt_t lt_v is_t is_v test is_true h =
    passed A (Fits (form_of t) (value_of v)) (FitsMembers (forms_of (drop (i + 1) ts)) (values_of (drop (i + 1) vs))) b test is_true (members_open A ts vs i t v lt_t lt_v is_t is_v h)

pub members_failed : (A : Type 0) (ts : List Ty) (vs : List Val) (i : ℕ) (t : Ty) (v : Val) (b : Bool) → i < length ts → i < length vs → t ≡ get_or ts i t → v ≡ get_or vs i v
    → (IsTrue b ↔ Fits (form_of t) (value_of v)) → b ≡ false → (A ↔ FitsMembers (forms_of (drop i ts)) (values_of (drop i vs))) → (IsTrue false ↔ A)
members_failed A ts vs i t v b lt_t lt_v is_t is_v test is_false h =
    failed A (Fits (form_of t) (value_of v)) (FitsMembers (forms_of (drop (i + 1) ts)) (values_of (drop (i + 1) vs))) b test is_false (members_open A ts vs i t v lt_t lt_v is_t is_v h)

pub members_held : (A : Type 0) (ts : List Ty) (vs : List Val) (i : ℕ) → length ts ≤ i → length vs ≤ i → (A ↔ FitsMembers (forms_of (drop i ts)) (values_of (drop i vs))) → (IsTrue true ↔ A)
members_held A ts vs i le_t le_v h =
    let g : A ↔ FitsMembers form.no_forms (values_of (drop i vs)) = subst (λ l. A ↔ FitsMembers (forms_of l) (values_of (drop i vs))) (drop_all i ts le_t) h in
    let k : A ↔ FitsMembers form.no_forms value.no_values = subst (λ l. A ↔ FitsMembers form.no_forms (values_of l)) (drop_all i vs le_v) g in
    held_so A (k.1 tt)

-- a union, and a loop over its cases

pub form_of-Union : (d : Box Ty Global) (cs : Vec Case Global) (o : Option (Box Ty Global)) → form_of (ty.Union d cs o) ≡ form.union (form_of d.value) (cases_of cs.items o)
form_of-Union d cs None = search (rules, ty_lemmas)
form_of-Union d cs (Some t) = search (rules, ty_lemmas)

case_of-is : (c : Case) → case_of c ≡ (c.label, form_of c.member)
case_of-is c = search (rules, the_lemmas)

cases_next : (cases : List Case) (default : Option (Box Ty Global)) (i : ℕ) (c : Case) → i < length cases → c ≡ get_or cases i c
    → cases_of (drop i cases) default ≡ form.labelled c.label (form_of c.member) (cases_of (drop (i + 1) cases) default)
cases_next cases default i c lt is =
    ap (λ cs. cases_of cs default) (drop_more cases i c lt)
    ∙ ap (λ (x : ℤ × Form). form.labelled x.0 x.1 (cases_of (drop (i + 1) cases) default)) (ap case_of (sym is) ∙ case_of-is c)

pub has_chosen : (u : Ty) (d : Box Ty Global) (cs : Vec Case Global) (o : Option (Box Ty Global)) (items : List Case) (l : ℤ) (ms : Values) → u ≡ ty.Union d cs o → items ≡ cs.items
    → (HasChosen (form_of u) l ms ↔ FitsChosen (cases_of items o) l ms)
has_chosen u d cs o items l ms is same_items =
    let e : form_of u ≡ form.union (form_of d.value) (cases_of items o) = ap form_of is ∙ form_of-Union d cs o ∙ ap (λ x. form.union (form_of d.value) (cases_of x o)) (sym same_items) in
    subst (λ f. HasChosen (form_of u) l ms ↔ HasChosen f l ms) e (same (HasChosen (form_of u) l ms))

chosen_opens : (A : Type 0) (cases : List Case) (o : Option (Box Ty Global)) (i : ℕ) (c : Case) (l : ℤ) (ms : Values) (b : Bool) → i < length cases → c ≡ get_or cases i c → int_eq c.label l ≡ b
    → (A ↔ FitsChosen (cases_of (drop i cases) o) l ms) → (A ↔ Chosen b (OneFits (Fits (form_of c.member)) ms) (FitsChosen (cases_of (drop (i + 1) cases) o) l ms))
chosen_opens A cases o i c l ms b lt is eq h =
    let g : A ↔ Chosen (int_eq c.label l) (OneFits (Fits (form_of c.member)) ms) (FitsChosen (cases_of (drop (i + 1) cases) o) l ms) = subst (λ cs. A ↔ FitsChosen cs l ms) (cases_next cases o i c lt is) h in
    subst (λ x. A ↔ Chosen x (OneFits (Fits (form_of c.member)) ms) (FitsChosen (cases_of (drop (i + 1) cases) o) l ms)) eq g

pub case_passed : (A : Type 0) (cases : List Case) (o : Option (Box Ty Global)) (i : ℕ) (c : Case) (l : ℤ) (ms : Values) → i < length cases → c ≡ get_or cases i c → int_eq c.label l ≡ false
    → (A ↔ FitsChosen (cases_of (drop i cases) o) l ms) → (A ↔ FitsChosen (cases_of (drop (i + 1) cases) o) l ms)
case_passed A cases o i c l ms lt is eq h = chosen_opens A cases o i c l ms false lt is eq h

pub case_chosen : (A : Type 0) (cases : List Case) (o : Option (Box Ty Global)) (i : ℕ) (c : Case) (l : ℤ) (ms : Values) (b : Bool) → i < length cases → c ≡ get_or cases i c → int_eq c.label l ≡ true
    → (IsTrue b ↔ OneFits (Fits (form_of c.member)) ms) → (A ↔ FitsChosen (cases_of (drop i cases) o) l ms) → (IsTrue b ↔ A)
case_chosen A cases o i c l ms b lt is eq test h = through A (OneFits (Fits (form_of c.member)) ms) b test (chosen_opens A cases o i c l ms true lt is eq h)

pub default_chosen : (A : Type 0) (cases : List Case) (o : Option (Box Ty Global)) (i : ℕ) (t : Box Ty Global) (u : Ty) (l : ℤ) (ms : Values) (b : Bool) → length cases ≤ i → o ≡ Some t → u ≡ t.value
    → (IsTrue b ↔ OneFits (Fits (form_of u)) ms) → (A ↔ FitsChosen (cases_of (drop i cases) o) l ms) → (IsTrue b ↔ A)
default_chosen A cases o i t u l ms b le is at test h =
    let g : A ↔ FitsChosen (cases_of [] o) l ms = subst (λ cs. A ↔ FitsChosen (cases_of cs o) l ms) (drop_all i cases le) h in
    let k : A ↔ OneFits (Fits (form_of t.value)) ms = subst (λ d. A ↔ FitsChosen (cases_of [] d) l ms) is g in
    through A (OneFits (Fits (form_of t.value)) ms) b (subst (λ x. IsTrue b ↔ OneFits (Fits (form_of x)) ms) at test) k

pub has_cases : (u : Ty) (d : Box Ty Global) (cs : Vec Case Global) (o : Option (Box Ty Global)) → u ≡ ty.Union d cs o → (HasCases (form_of u) ↔ AreCases (form_of d.value) (cases_of cs.items o))
has_cases u d cs o is = subst (λ f. HasCases (form_of u) ↔ HasCases f) (ap form_of is ∙ form_of-Union d cs o) (same (HasCases (form_of u)))

-- a case among those from its place
abbrev pub Stands : Ty → Option (Box Ty Global) → List Case → Case → Type 0
Stands d o others c = IsLabel (form_of d) c.label × IsNoLabel c.label (cases_of others o) × IsValid (form_of c.member)

cases_open : (A : Type 0) (d e : Ty) (cases : List Case) (o : Option (Box Ty Global)) (i : ℕ) (c : Case) → i < length cases → c ≡ get_or cases i c → e ≡ d
    → (A ↔ AreCases (form_of d) (cases_of (drop i cases) o)) → (A ↔ (Stands e o (drop (i + 1) cases) c × AreCases (form_of d) (cases_of (drop (i + 1) cases) o)))
cases_open A d e cases o i c lt is at h =
    let rest = cases_of (drop (i + 1) cases) o in
    let g : A ↔ (IsLabel (form_of d) c.label × IsNoLabel c.label rest × IsValid (form_of c.member) × AreCases (form_of d) rest) = subst (λ cs. A ↔ AreCases (form_of d) cs) (cases_next cases o i c lt is) h in
    let k : A ↔ (IsLabel (form_of e) c.label × IsNoLabel c.label rest × IsValid (form_of c.member) × AreCases (form_of d) rest) = subst (λ x. A ↔ (IsLabel (form_of x) c.label × IsNoLabel c.label rest × IsValid (form_of c.member) × AreCases (form_of d) rest)) (sym at) g in
    ((λ a. let p = k.0 a in ((p.0, p.1, p.2), p.3)), (λ p. k.1 (p.0.0, p.0.1, p.0.2, p.1)))

pub cases_passed : (A : Type 0) (d e : Ty) (cases : List Case) (o : Option (Box Ty Global)) (i : ℕ) (c : Case) (b : Bool) → i < length cases → c ≡ get_or cases i c → e ≡ d
    → (IsTrue b ↔ Stands e o (drop (i + 1) cases) c) → b ≡ true → (A ↔ AreCases (form_of d) (cases_of (drop i cases) o)) → (A ↔ AreCases (form_of d) (cases_of (drop (i + 1) cases) o))
cases_passed A d e cases o i c b lt is at test is_true h =
    passed A (Stands e o (drop (i + 1) cases) c) (AreCases (form_of d) (cases_of (drop (i + 1) cases) o)) b test is_true (cases_open A d e cases o i c lt is at h)

pub cases_failed : (A : Type 0) (d e : Ty) (cases : List Case) (o : Option (Box Ty Global)) (i : ℕ) (c : Case) (b : Bool) → i < length cases → c ≡ get_or cases i c → e ≡ d
    → (IsTrue b ↔ Stands e o (drop (i + 1) cases) c) → b ≡ false → (A ↔ AreCases (form_of d) (cases_of (drop i cases) o)) → (IsTrue false ↔ A)
cases_failed A d e cases o i c b lt is at test is_false h =
    failed A (Stands e o (drop (i + 1) cases) c) (AreCases (form_of d) (cases_of (drop (i + 1) cases) o)) b test is_false (cases_open A d e cases o i c lt is at h)

pub cases_none : (A : Type 0) (d : Form) (cases : List Case) (o : Option (Box Ty Global)) (i : ℕ) → length cases ≤ i → o ≡ None → (A ↔ AreCases d (cases_of (drop i cases) o)) → (IsTrue true ↔ A)
cases_none A d cases o i le is h =
    let g : A ↔ AreCases d (cases_of [] o) = subst (λ cs. A ↔ AreCases d (cases_of cs o)) (drop_all i cases le) h in
    let k : A ↔ AreCases d form.otherwise_nothing = subst (λ x. A ↔ AreCases d (cases_of [] x)) is g in
    held_so A (k.1 tt)

pub cases_default : (A : Type 0) (d : Form) (cases : List Case) (o : Option (Box Ty Global)) (i : ℕ) (t : Box Ty Global) (u : Ty) (b : Bool) → length cases ≤ i → o ≡ Some t → u ≡ t.value
    → (IsTrue b ↔ IsValid (form_of u)) → (A ↔ AreCases d (cases_of (drop i cases) o)) → (IsTrue b ↔ A)
cases_default A d cases o i t u b le is at test h =
    let g : A ↔ AreCases d (cases_of [] o) = subst (λ cs. A ↔ AreCases d (cases_of cs o)) (drop_all i cases le) h in
    let k : A ↔ IsValid (form_of t.value) = subst (λ x. A ↔ AreCases d (cases_of [] x)) is g in
    through A (IsValid (form_of t.value)) b (subst (λ x. IsTrue b ↔ IsValid (form_of x)) at test) k

-- a value that fits a type is of the variant of the same name

pub form_of-Boolean : form_of ty.Boolean ≡ form.boolean
form_of-Boolean = search (rules, ty_lemmas)

pub form_of-Char : form_of ty.Char ≡ form.number form.char
form_of-Char = search (rules, ty_lemmas)

pub form_of-Octet : form_of ty.Octet ≡ form.number form.octet
form_of-Octet = search (rules, ty_lemmas)

pub form_of-Short : form_of ty.Short ≡ form.number form.short
form_of-Short = search (rules, ty_lemmas)

pub form_of-UShort : form_of ty.UShort ≡ form.number form.ushort
form_of-UShort = search (rules, ty_lemmas)

pub form_of-Long : form_of ty.Long ≡ form.number form.long
form_of-Long = search (rules, ty_lemmas)

pub form_of-ULong : form_of ty.ULong ≡ form.number form.ulong
form_of-ULong = search (rules, ty_lemmas)

pub form_of-LongLong : form_of ty.LongLong ≡ form.number form.longlong
form_of-LongLong = search (rules, ty_lemmas)

pub form_of-ULongLong : form_of ty.ULongLong ≡ form.number form.ulonglong
form_of-ULongLong = search (rules, ty_lemmas)

pub form_of-Str : (n : ℕ) → form_of (ty.Str n) ≡ form.string n
form_of-Str n = search (rules, ty_lemmas)

pub form_of-Octets : (n : ℕ) → form_of (ty.Octets n) ≡ form.octets n
form_of-Octets n = search (rules, ty_lemmas)

pub form_of-Enum : (n : ℕ) → form_of (ty.Enum n) ≡ form.enumeration n
form_of-Enum n = search (rules, ty_lemmas)

pub form_of-Struct : (ts : Vec Ty Global) → form_of (ty.Struct ts) ≡ form.structure (forms_of ts.items)
form_of-Struct ts = search (rules, ty_lemmas)

abbrev pub IsOfKind : Number → Val → Type 0
IsOfKind form.char w = (x : ℕ) × (w ≡ val.Char x)
IsOfKind form.octet w = (x : ℕ) × (w ≡ val.Octet x)
IsOfKind form.short w = (x : ℤ) × (w ≡ val.Short x)
IsOfKind form.ushort w = (x : ℕ) × (w ≡ val.UShort x)
IsOfKind form.long w = (x : ℤ) × (w ≡ val.Long x)
IsOfKind form.ulong w = (x : ℕ) × (w ≡ val.ULong x)
IsOfKind form.longlong w = (x : ℤ) × (w ≡ val.LongLong x)
IsOfKind form.ulonglong w = (x : ℕ) × (w ≡ val.ULongLong x)

abbrev pub IsOf : Form → Val → Type 0
IsOf form.boolean w = (x : Bool) × (w ≡ val.Boolean x)
IsOf (form.number kind) w = IsOfKind kind w
IsOf (form.string n) w = (x : Vec ℕ Global) × (w ≡ val.Str x)
IsOf (form.octets n) w = (x : Vec ℕ Global) × (w ≡ val.Octets x)
IsOf (form.sequence n t) w = (x : Vec Val Global) × (w ≡ val.Seq x)
IsOf (form.array n t) w = (x : Vec Val Global) × (w ≡ val.Array x)
IsOf (form.enumeration n) w = (x : ℕ) × (w ≡ val.Enum x)
IsOf (form.structure ts) w = (x : Vec Val Global) × (w ≡ val.Struct x)
IsOf (form.union d cs) w = (x : Box Val Global) × (m : Option (Box Val Global)) × (w ≡ val.Union x m)

of_union : (f : Form) (w : Val) (x : Box Val Global) (m : Option (Box Val Global)) → w ≡ val.Union x m → Fits f (value_step (map-Val Val Value value_of (Val-F.Union x m))) → IsOf f w
of_union (form.union d cs) w x m e h = (x, m, e)
of_union _ w x None e h = absurd h
of_union _ w x (Some m) e h = absurd h

of_layer : (f : Form) (w : Val) (o : Val-F Val) → w ≡ roll-Val o → Fits f (value_step (map-Val Val Value value_of o)) → IsOf f w
of_layer f w (Val-F.Union x m) e h = of_union f w x m (e ∙ val.rolls-Union x m) h
of_layer form.boolean w (Val-F.Boolean x) e h = (x, e ∙ val.rolls-Boolean x)
of_layer (form.number kind) w (Val-F.Char x) e h = subst (λ k. IsOfKind k w) h.0 (x, e ∙ val.rolls-Char x)
of_layer (form.number kind) w (Val-F.Octet x) e h = subst (λ k. IsOfKind k w) h.0 (x, e ∙ val.rolls-Octet x)
of_layer (form.number kind) w (Val-F.Short x) e h = subst (λ k. IsOfKind k w) h.0 (x, e ∙ val.rolls-Short x)
of_layer (form.number kind) w (Val-F.UShort x) e h = subst (λ k. IsOfKind k w) h.0 (x, e ∙ val.rolls-UShort x)
of_layer (form.number kind) w (Val-F.Long x) e h = subst (λ k. IsOfKind k w) h.0 (x, e ∙ val.rolls-Long x)
of_layer (form.number kind) w (Val-F.ULong x) e h = subst (λ k. IsOfKind k w) h.0 (x, e ∙ val.rolls-ULong x)
of_layer (form.number kind) w (Val-F.LongLong x) e h = subst (λ k. IsOfKind k w) h.0 (x, e ∙ val.rolls-LongLong x)
of_layer (form.number kind) w (Val-F.ULongLong x) e h = subst (λ k. IsOfKind k w) h.0 (x, e ∙ val.rolls-ULongLong x)
of_layer (form.string n) w (Val-F.Str x) e h = (x, e ∙ val.rolls-Str x)
of_layer (form.octets n) w (Val-F.Octets x) e h = (x, e ∙ val.rolls-Octets x)
of_layer (form.sequence n t) w (Val-F.Seq x) e h = (x, e ∙ val.rolls-Seq x)
of_layer (form.array n t) w (Val-F.Array x) e h = (x, e ∙ val.rolls-Array x)
of_layer (form.enumeration n) w (Val-F.Enum x) e h = (x, e ∙ val.rolls-Enum x)
of_layer (form.structure ts) w (Val-F.Struct x) e h = (x, e ∙ val.rolls-Struct x)
of_layer _ w _ e h = absurd h

pub is_of : (f : Form) (w : Val) → Fits f (value_of w) → IsOf f w
is_of f w h = of_layer f w (out-Val w) (sym (roll-out-Val w)) (subst (λ v. Fits f v) (fold_out-Val Value value_step w) h)

pub unfit : (t : Ty) (f : Form) (w : Val) → form_of t ≡ f → (IsOf f w → ⊥) → (IsTrue false ↔ Fits (form_of t) (value_of w))
unfit t f w is n = subst (λ x. IsTrue false ↔ Fits x (value_of w)) (sym is) (refused (Fits f (value_of w)) (λ h. n (is_of f w h)))
