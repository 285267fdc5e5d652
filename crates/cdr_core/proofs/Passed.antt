-- Passing over what is read.
use Rattle.std.proofs.Common.{◌≡◌, ℕ, ◌+◌, ◌<◌, ◌≤◌, pos, List, length, drop, get_or, Result, Ok, Err, refl, sym, ap, subst, ◌∙◌}
use Rattle.std.proofs.lemmas.List.{drop_all}
use Rattle.cdr_core.specs.declared.fault.Fault.{Fault}
use Rattle.cdr_core.specs.declared.order.Order.{Order}
use Rattle.cdr_core.specs.declared.types.Ty.{Ty}
use Rattle.cdr_core.specs.Cursor.{Position}
use Rattle.cdr_core.specs.Form as form
use Rattle.cdr_core.specs.Form.{Form}
use Rattle.cdr_core.specs.Value as value
use Rattle.cdr_core.specs.Value.{label, Value}
use Rattle.cdr_core.specs.View.{form_of, forms_of}
use Rattle.cdr_core.specs.Private.{passing, seen, IsBasic, Passes}
use Rattle.cdr_core.specs.Reading.{◌>>=◌, Read, chosen_at, each_at, length_at, members_at, octets_at, string_at, value_at}
use Rattle.cdr_core.proofs.Loops.{forms_next}
use Rattle.cdr_core.proofs.Steps.{bind_ok, ended_ok, ok_is}
use Rattle.cdr_core.proofs.Turns.{passing-then, then}

-- what was read where something was made of it
pub read_of : {X Y : Type 0} (f : Y → X) (r : Read Y) (x : X) (p : ℕ) (rest : List ℕ) → seen f r ≡ Ok (x, p, rest) → (v : Y) × (r ≡ Ok (v, p, rest)) × (f v ≡ x)
read_of {X} {Y} f r x p rest h =
    let b = bind_ok r (λ (v : Y × ℕ × List ℕ). Ok (f v.0, v.1, v.2)) (x, p, rest) h in
    let k : ◌≡◌ {A = X × ℕ × List ℕ} (f b.0.0, b.0.1, b.0.2) (x, p, rest) = ok_is (f b.0.0, b.0.1, b.0.2) (x, p, rest) b.2 in
    (b.0.0, b.1 ∙ ap (λ (z : X × ℕ × List ℕ). Ok (b.0.0, z.1, z.2)) k, ap (λ (z : X × ℕ × List ℕ). z.0) k)

-- what was read where it was passed over
pub passed : {A : Type 0} (r : Read A) (p : ℕ) (rest : List ℕ) → passing r ≡ Ok (tt, p, rest) → (v : A) × (r ≡ Ok (v, p, rest))
passed r p rest h = let b = read_of (λ v. tt) r tt p rest h in (b.0, b.1)

-- where passing over fails, reading does
pub stopped : {A : Type 0} (r : Read A) (f : Fault) → passing r ≡ Err f → r ≡ Err f
stopped r f h = ended_ok r (λ x. (tt, x.1, x.2)) f h

-- to pass over a part, the last, is to pass over the whole
pub passes_as : {A B : Type 0} (result : Result Unit Fault) (read : ℕ → List ℕ → Read A) (whole : ℕ → List ℕ → Read B) (old : Position) (place : ℕ) (left : List ℕ) (new : Position)
    → ((v : A) (p : ℕ) (rest : List ℕ) → read place left ≡ Ok (v, p, rest) → (w : B) × (whole old.place old.rest ≡ Ok (w, p, rest)))
    → ((f : Fault) → read place left ≡ Err f → whole old.place old.rest ≡ Err f) → Passes result read (record { order = old.order; place = place; rest = left }) new → Passes result whole old new
passes_as (Ok u) read whole old place left new ok err h =
    let v = passed (read place left) new.place new.rest h.0 in
    let w = ok v.0 new.place new.rest v.1 in
    (ap passing w.1, h.1)
passes_as (Err f) read whole old place left new ok err h = err f h

-- a loop over types

pub members_passed : (types : List Ty) (i : ℕ) (t : Ty) (order : Order) (o : ℕ) (octets : List ℕ) (v : Value) (p : ℕ) (rest : List ℕ) (total : Read Unit) → i < length types → t ≡ get_or types i t
    → value_at (form_of t) order o octets ≡ Ok (v, p, rest) → passing (members_at (forms_of (drop i types)) order o octets) ≡ total
    → passing (members_at (forms_of (drop (i + 1) types)) order p rest) ≡ total
unfolding value_at
members_passed types i t order o octets v p rest total lt is e h =
    let others = forms_of (drop (i + 1) types) in
    let h' : passing (value_at (form_of t) order o octets >>= λ x. then x.0 (members_at others order x.1 x.2)) ≡ total = subst (λ ts. passing (members_at ts order o octets) ≡ total) (forms_next types i t lt is) h in
    sym (passing-then v (members_at others order p rest)) ∙ sym (ap (λ (r : Read Value). passing (r >>= λ x. then x.0 (members_at others order x.1 x.2))) e) ∙ h'

pub members_stopped : (f : Fault) (types : List Ty) (i : ℕ) (t : Ty) (order : Order) (o : ℕ) (octets : List ℕ) (total : Read Unit) → i < length types → t ≡ get_or types i t
    → value_at (form_of t) order o octets ≡ Err f → passing (members_at (forms_of (drop i types)) order o octets) ≡ total → total ≡ Err f
unfolding value_at
members_stopped f types i t order o octets total lt is e h =
    let others = forms_of (drop (i + 1) types) in
    let h' : passing (value_at (form_of t) order o octets >>= λ x. then x.0 (members_at others order x.1 x.2)) ≡ total = subst (λ ts. passing (members_at ts order o octets) ≡ total) (forms_next types i t lt is) h in
    sym h' ∙ ap (λ (r : Read Value). passing (r >>= λ x. then x.0 (members_at others order x.1 x.2))) e

pub members_none : (types : List Ty) (i : ℕ) (order : Order) (o : ℕ) (octets : List ℕ) (total : Read Unit) → length types ≤ i
    → passing (members_at (forms_of (drop i types)) order o octets) ≡ total → total ≡ Ok (tt, o, octets)
unfolding value_at
members_none types i order o octets total le h = sym h ∙ ap (λ ts. passing (members_at (forms_of ts) order o octets)) (drop_all i types le)

-- a value of any other type than a boolean, a number or an enumeration has the label 0

made : {A : Type 0} (r : Read A) (g : A → Value) (v : Value) (p : ℕ) (rest : List ℕ) → ((x : A) → label (g x) ≡ pos 0) → seen g r ≡ Ok (v, p, rest) → label v ≡ pos 0
made r g v p rest zero h = let b = read_of g r v p rest h in sym (ap label b.2) ∙ zero b.0

pub no_label : (t : Form) (order : Order) (o : ℕ) (octets : List ℕ) (v : Value) (p : ℕ) (rest : List ℕ) → (IsBasic t → ⊥) → value_at t order o octets ≡ Ok (v, p, rest) → label v ≡ pos 0
unfolding value_at
no_label form.boolean order o octets v p rest other h = absurd (other tt)
no_label (form.number kind) order o octets v p rest other h = absurd (other tt)
no_label (form.enumeration n) order o octets v p rest other h = absurd (other tt)
no_label (form.string bound) order o octets v p rest other h = made (string_at order bound o octets) value.string v p rest (λ _. refl) h
no_label (form.octets bound) order o octets v p rest other h = made (octets_at order bound o octets) value.octets v p rest (λ _. refl) h
no_label (form.sequence bound t) order o octets v p rest other h =
    let n = bind_ok (length_at order 0 bound o octets) (λ (n : ℕ × ℕ × List ℕ). each_at (value_at t order) n.0 n.1 n.2 >>= λ x. Ok (value.sequence x.0, x.1, x.2)) (v, p, rest) h in
    made (each_at (value_at t order) n.0.0 n.0.1 n.0.2) value.sequence v p rest (λ _. refl) n.2
no_label (form.array n t) order o octets v p rest other h = made (each_at (value_at t order) n o octets) value.array v p rest (λ _. refl) h
no_label (form.structure ts) order o octets v p rest other h = made (members_at ts order o octets) value.structure v p rest (λ _. refl) h
no_label (form.union d cs) order o octets v p rest other h =
    let x = bind_ok (value_at d order o octets) (λ (x : Value × ℕ × List ℕ). chosen_at cs order (label x.0) x.1 x.2 >>= λ m. Ok (value.union x.0 m.0, m.1, m.2)) (v, p, rest) h in
    made (chosen_at cs order (label x.0.0) x.0.1 x.0.2) (value.union x.0.0) v p rest (λ _. refl) x.2
