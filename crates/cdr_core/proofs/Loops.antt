-- Loops that read values one after another: counts, types and cases.
use Rattle.std.proofs.Common.{◌≡◌, ℕ, ◌+◌, ◌-◌, ◌<◌, ◌≤◌, ℤ, true, false, cond, List, [], length, drop, get_or, Option, Some, None, Box, Global, Ok, refl, sym, ap, subst, ◌∙◌, rules}
use Rattle.std.proofs.lemmas.List.{drop_more, drop_all}
use Rattle.std.specs.Ordering.{int_eq}
use Rattle.cdr_core.specs.declared.fault.CdrError.{CdrError}
use Rattle.cdr_core.specs.declared.fault.CdrError.TheVariants as errors
use Rattle.cdr_core.specs.declared.order.Order.{Order}
use Rattle.cdr_core.specs.declared.types.Ty.{Ty}
use Rattle.cdr_core.specs.declared.types.Case.{Case, the_lemmas}
use Rattle.cdr_core.specs.Form as form
use Rattle.cdr_core.specs.Form.{Form, Forms, Cases}
use Rattle.cdr_core.specs.Value as value
use Rattle.cdr_core.specs.Value.{Value, Values}
use Rattle.cdr_core.specs.View.{case_of, cases_of, form_of, forms_of}
use Rattle.cdr_core.specs.Private.{with_front, Fails}
use Rattle.cdr_core.specs.Reading.{◌>>=◌, Read, chosen_at, each_at, length_at, members_at, value_at}
use Rattle.cdr_core.proofs.Turns.{each_stops, front-then, joined-none, then, with_last}

-- a loop over a count ends

pub each_ends : (e : CdrError) (one : ℕ → List ℕ → Read Value) (vs : Values) (n i o : ℕ) (octets : List ℕ) (total : Read Values) → i < n → Fails e (one o octets)
    → with_front vs (each_at one (n - i) o octets) ≡ total → Fails e total
each_ends errors.Memory one vs n i o octets total lt e h = tt
each_ends (errors.Bad f) one vs n i o octets total lt e h = each_stops f one vs n i o octets total lt e h

-- a loop over types

pub forms_next : (types : List Ty) (i : ℕ) (t : Ty) → i < length types → t ≡ get_or types i t → forms_of (drop i types) ≡ form.form (form_of t) (forms_of (drop (i + 1) types))
forms_next types i t lt is = ap forms_of (drop_more types i t lt) ∙ ap (λ x. form.form (form_of x) (forms_of (drop (i + 1) types))) (sym is)

pub members_more : (types : List Ty) (i : ℕ) (t : Ty) (order : Order) (vs : Values) (o : ℕ) (octets : List ℕ) (v : Value) (p : ℕ) (rest : List ℕ) (total : Read Values) → i < length types → t ≡ get_or types i t
    → value_at (form_of t) order o octets ≡ Ok (v, p, rest) → with_front vs (members_at (forms_of (drop i types)) order o octets) ≡ total
    → with_front (with_last vs v) (members_at (forms_of (drop (i + 1) types)) order p rest) ≡ total
unfolding value_at
members_more types i t order vs o octets v p rest total lt is e h =
    let others = forms_of (drop (i + 1) types) in
    let h' : with_front vs (value_at (form_of t) order o octets >>= λ x. then x.0 (members_at others order x.1 x.2)) ≡ total = subst (λ ts. with_front vs (members_at ts order o octets) ≡ total) (forms_next types i t lt is) h in
    sym (front-then vs v (members_at others order p rest)) ∙ sym (ap (λ (r : Read Value). with_front vs (r >>= λ x. then x.0 (members_at others order x.1 x.2))) e) ∙ h'

pub members_end : (e : CdrError) (types : List Ty) (i : ℕ) (t : Ty) (order : Order) (vs : Values) (o : ℕ) (octets : List ℕ) (total : Read Values) → i < length types → t ≡ get_or types i t
    → Fails e (value_at (form_of t) order o octets) → with_front vs (members_at (forms_of (drop i types)) order o octets) ≡ total → Fails e total
unfolding value_at
members_end errors.Memory types i t order vs o octets total lt is e h = tt
members_end (errors.Bad f) types i t order vs o octets total lt is e h =
    let others = forms_of (drop (i + 1) types) in
    let h' : with_front vs (value_at (form_of t) order o octets >>= λ x. then x.0 (members_at others order x.1 x.2)) ≡ total = subst (λ ts. with_front vs (members_at ts order o octets) ≡ total) (forms_next types i t lt is) h in
    sym h' ∙ ap (λ (r : Read Value). with_front vs (r >>= λ x. then x.0 (members_at others order x.1 x.2))) e

pub members_done : (types : List Ty) (i : ℕ) (order : Order) (vs : Values) (o : ℕ) (octets : List ℕ) (total : Read Values) → length types ≤ i
    → with_front vs (members_at (forms_of (drop i types)) order o octets) ≡ total → total ≡ Ok (vs, o, octets)
unfolding value_at
members_done types i order vs o octets total le h =
    sym h ∙ ap (λ ts. with_front vs (members_at (forms_of ts) order o octets)) (drop_all i types le) ∙ ap (λ (ws : Values). Ok (ws, o, octets)) (joined-none vs)

-- a loop over the cases of a union

case_of-is : (c : Case) → case_of c ≡ (c.label, form_of c.member)
case_of-is c = search (rules, the_lemmas)

pub cases_next : (cases : List Case) (default : Option (Box Ty Global)) (i : ℕ) (c : Case) → i < length cases → c ≡ get_or cases i c
    → cases_of (drop i cases) default ≡ form.labelled c.label (form_of c.member) (cases_of (drop (i + 1) cases) default)
cases_next cases default i c lt is =
    ap (λ cs. cases_of cs default) (drop_more cases i c lt)
    ∙ ap (λ (x : ℤ × Form). form.labelled x.0 x.1 (cases_of (drop (i + 1) cases) default)) (ap case_of (sym is) ∙ case_of-is c)

-- the member of a union alone
abbrev pub alone : Value × ℕ × List ℕ → Read Values
alone x = Ok (value.value x.0 value.no_values, x.1, x.2)

pub case_passed : (cases : List Case) (default : Option (Box Ty Global)) (i : ℕ) (c : Case) (order : Order) (l : ℤ) (o : ℕ) (octets : List ℕ) (total : Read Values) → i < length cases → c ≡ get_or cases i c
    → int_eq c.label l ≡ false → chosen_at (cases_of (drop i cases) default) order l o octets ≡ total → chosen_at (cases_of (drop (i + 1) cases) default) order l o octets ≡ total
unfolding value_at
case_passed cases default i c order l o octets total lt is no_label h =
    let others = cases_of (drop (i + 1) cases) default in
    let h' : cond (int_eq c.label l) (value_at (form_of c.member) order o octets >>= alone) (chosen_at others order l o octets) ≡ total = subst (λ cs. chosen_at cs order l o octets ≡ total) (cases_next cases default i c lt is) h in
    rw no_label at h'

pub case_chosen : (cases : List Case) (default : Option (Box Ty Global)) (i : ℕ) (c : Case) (order : Order) (l : ℤ) (o : ℕ) (octets : List ℕ) (v : Value) (p : ℕ) (rest : List ℕ) (total : Read Values) → i < length cases → c ≡ get_or cases i c
    → int_eq c.label l ≡ true → value_at (form_of c.member) order o octets ≡ Ok (v, p, rest) → chosen_at (cases_of (drop i cases) default) order l o octets ≡ total → total ≡ Ok (value.value v value.no_values, p, rest)
unfolding value_at
case_chosen cases default i c order l o octets v p rest total lt is labelled e h =
    let others = cases_of (drop (i + 1) cases) default in
    let h' : cond (int_eq c.label l) (value_at (form_of c.member) order o octets >>= alone) (chosen_at others order l o octets) ≡ total = subst (λ cs. chosen_at cs order l o octets ≡ total) (cases_next cases default i c lt is) h in
    sym (rw (labelled, e) at h')

pub case_fails : (f : CdrError) (cases : List Case) (default : Option (Box Ty Global)) (i : ℕ) (c : Case) (order : Order) (l : ℤ) (o : ℕ) (octets : List ℕ) (total : Read Values) → i < length cases → c ≡ get_or cases i c
    → int_eq c.label l ≡ true → Fails f (value_at (form_of c.member) order o octets) → chosen_at (cases_of (drop i cases) default) order l o octets ≡ total → Fails f total
unfolding value_at
case_fails errors.Memory cases default i c order l o octets total lt is labelled e h = tt
case_fails (errors.Bad f) cases default i c order l o octets total lt is labelled e h =
    let others = cases_of (drop (i + 1) cases) default in
    let h' : cond (int_eq c.label l) (value_at (form_of c.member) order o octets >>= alone) (chosen_at others order l o octets) ≡ total = subst (λ cs. chosen_at cs order l o octets ≡ total) (cases_next cases default i c lt is) h in
    sym (rw (labelled, e) at h')

pub default_none : (cases : List Case) (default : Option (Box Ty Global)) (i : ℕ) (order : Order) (l : ℤ) (o : ℕ) (octets : List ℕ) (total : Read Values) → length cases ≤ i → default ≡ None
    → chosen_at (cases_of (drop i cases) default) order l o octets ≡ total → total ≡ Ok (value.no_values, o, octets)
unfolding value_at
default_none cases default i order l o octets total le is h =
    sym h ∙ ap (λ cs. chosen_at (cases_of cs default) order l o octets) (drop_all i cases le) ∙ ap (λ d. chosen_at (cases_of [] d) order l o octets) is

pub default_chosen : (cases : List Case) (default : Option (Box Ty Global)) (i : ℕ) (t : Box Ty Global) (order : Order) (l : ℤ) (o : ℕ) (octets : List ℕ) (v : Value) (p : ℕ) (rest : List ℕ) (total : Read Values) → length cases ≤ i → default ≡ Some t
    → value_at (form_of t.value) order o octets ≡ Ok (v, p, rest) → chosen_at (cases_of (drop i cases) default) order l o octets ≡ total → total ≡ Ok (value.value v value.no_values, p, rest)
unfolding value_at
default_chosen cases default i t order l o octets v p rest total le is e h =
    sym h ∙ ap (λ cs. chosen_at (cases_of cs default) order l o octets) (drop_all i cases le) ∙ ap (λ d. chosen_at (cases_of [] d) order l o octets) is ∙ ap (λ (r : Read Value). r >>= alone) e

pub default_fails : (f : CdrError) (cases : List Case) (default : Option (Box Ty Global)) (i : ℕ) (t : Box Ty Global) (order : Order) (l : ℤ) (o : ℕ) (octets : List ℕ) (total : Read Values) → length cases ≤ i → default ≡ Some t
    → Fails f (value_at (form_of t.value) order o octets) → chosen_at (cases_of (drop i cases) default) order l o octets ≡ total → Fails f total
unfolding value_at
default_fails errors.Memory cases default i t order l o octets total le is e h = tt
default_fails (errors.Bad f) cases default i t order l o octets total le is e h =
    sym h ∙ ap (λ cs. chosen_at (cases_of cs default) order l o octets) (drop_all i cases le) ∙ ap (λ d. chosen_at (cases_of [] d) order l o octets) is ∙ ap (λ (r : Read Value). r >>= alone) e

-- sequences and arrays

pub sequence_reads : (bound : ℕ) (t : Form) (order : Order) (o : ℕ) (octets : List ℕ) (n p : ℕ) (rest : List ℕ) (vs : Values) (q : ℕ) (more : List ℕ) → length_at order 0 bound o octets ≡ Ok (n, p, rest)
    → each_at (value_at t order) n p rest ≡ Ok (vs, q, more) → value_at (form.sequence bound t) order o octets ≡ Ok (value.sequence vs, q, more)
unfolding value_at
sequence_reads bound t order o octets n p rest vs q more e h = rw (e, h) refl

pub sequence_fails : (f : CdrError) (bound : ℕ) (t : Form) (order : Order) (o : ℕ) (octets : List ℕ) (n p : ℕ) (rest : List ℕ) → length_at order 0 bound o octets ≡ Ok (n, p, rest)
    → Fails f (each_at (value_at t order) n p rest) → Fails f (value_at (form.sequence bound t) order o octets)
unfolding value_at
sequence_fails errors.Memory bound t order o octets n p rest e h = tt
sequence_fails (errors.Bad f) bound t order o octets n p rest e h = rw (e, h) refl

pub array_reads : (n : ℕ) (t : Form) (order : Order) (o : ℕ) (octets : List ℕ) (vs : Values) (q : ℕ) (more : List ℕ) → each_at (value_at t order) n o octets ≡ Ok (vs, q, more)
    → value_at (form.array n t) order o octets ≡ Ok (value.array vs, q, more)
unfolding value_at
array_reads n t order o octets vs q more h = rw h refl

pub array_fails : (f : CdrError) (n : ℕ) (t : Form) (order : Order) (o : ℕ) (octets : List ℕ) → Fails f (each_at (value_at t order) n o octets) → Fails f (value_at (form.array n t) order o octets)
unfolding value_at
array_fails errors.Memory n t order o octets h = tt
array_fails (errors.Bad f) n t order o octets h = rw h refl
