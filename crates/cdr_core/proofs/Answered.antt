-- What `read` and `read_list` return where they fail; and a front of octets is a spelling, or they have a fault.
use Rattle.std.proofs.Common.{◌≡◌, ℕ, ◌+◌, List, ◌++◌, length, Ok, Err, refl, sym, ap, ◌∙◌, inl, inr, ◌⊎◌}
use Rattle.cdr_core.specs.declared.order.Order.{Order}
use Rattle.cdr_core.specs.declared.fault.Fault.{Fault}
use Rattle.cdr_core.specs.declared.fault.CdrError.{CdrError}
use Rattle.cdr_core.specs.declared.fault.CdrError.TheVariants as errors
use Rattle.cdr_core.specs.Form.{Form, Forms}
use Rattle.cdr_core.specs.Value.{Value, Values}
use Rattle.cdr_core.specs.Reading.{Read, members_at, value_at}
use Rattle.cdr_core.specs.Spelling.{Spells, SpellsMembers, Takes}
use Rattle.cdr_core.specs.Stopping.{Stops}
use Rattle.cdr_core.specs.Private.{Fails, IfMemory}
use Rattle.cdr_core.specs.Memory.{Stores, StoresMembers}
use Rattle.cdr_core.specs.Answering.{Answers, ListAnswers, ListReads, Reads}
use Rattle.cdr_core.specs.Laws.{EitherWay, NotBoth, OneFault}
use Rattle.cdr_core.proofs.Steps.{err_is}
use Rattle.cdr_core.proofs.Found.{found}
use Rattle.cdr_core.proofs.Gets.{Gets}
use Rattle.cdr_core.proofs.Only.{members_only, only}
use Rattle.cdr_core.proofs.Stops.{fails, members_tell, tells}

-- a reader does not fail where a front is a spelling
pub gets_or_fails : {X : Type 0} (A : X → ℕ → List ℕ → Type 0) (r : ℕ → List ℕ → Read X) → ((x : X) → Gets (A x) r x) → (o : ℕ) (octets : List ℕ) (f : Fault) → r o octets ≡ Err f → (x : X) (front rest : List ℕ) → octets ≡ front ++ rest → A x o front → ⊥
gets_or_fails {X} A r gets o octets f h x front rest is s =
    let e : ◌≡◌ {A = Read X} (Ok (x, o + length front, rest)) (Err f) = sym (gets x o front rest s) ∙ ap (r o) (sym is) ∙ h in
    absurd cc

pub err_answers : (e : CdrError) (t : Form) (order : Order) (o : ℕ) (octets : List ℕ) (p : ℕ) → Fails e (value_at t order o octets) → IfMemory e (Stores t order o octets p) → Answers t order o octets (Err e)
err_answers errors.Memory t order o octets p h may = (p, may)
err_answers (errors.Bad f) t order o octets p h may = tells t order o octets f h

pub err_only : (e : CdrError) (t : Form) (order : Order) (o : ℕ) (octets : List ℕ) → Fails e (value_at t order o octets) → (v : Value) (front rest : List ℕ) → octets ≡ front ++ rest → Spells t order v o front → Reads v (length front) (Err e)
err_only errors.Memory t order o octets h v front rest is s = tt
err_only (errors.Bad f) t order o octets h v front rest is s = gets_or_fails (Spells t order) (value_at t order) (only t order) o octets f h v front rest is s

pub list_err : (e : CdrError) (ts : Forms) (order : Order) (o : ℕ) (octets : List ℕ) (p : ℕ) → Fails e (members_at ts order o octets) → IfMemory e (StoresMembers ts order o octets p) → ListAnswers ts order o octets (Err e)
list_err errors.Memory ts order o octets p h may = (p, may)
list_err (errors.Bad f) ts order o octets p h may = members_tell ts order o octets f h

pub list_err_only : (e : CdrError) (ts : Forms) (order : Order) (o : ℕ) (octets : List ℕ) → Fails e (members_at ts order o octets) → (vs : Values) (front rest : List ℕ) → octets ≡ front ++ rest → SpellsMembers ts order vs o front → ListReads vs (length front) (Err e)
list_err_only errors.Memory ts order o octets h vs front rest is s = tt
list_err_only (errors.Bad f) ts order o octets h vs front rest is s = gets_or_fails (SpellsMembers ts order) (members_at ts order) (members_only ts order) o octets f h vs front rest is s

-- A front of octets is a spelling or they have a fault, not both, and one fault.
pub either_way : EitherWay
either_way t order o octets = by (value_at t order o octets) (λ v p rest e. found t order o octets v p rest e) (λ f e. tells t order o octets f e)
  where
    by : (r : Read Value) → ((v : Value) (p : ℕ) (rest : List ℕ) → r ≡ Ok (v, p, rest) → Takes (Spells t order v) o octets p rest) → ((f : Fault) → r ≡ Err f → Stops t order o octets f)
        → ((v : Value) × (front : List ℕ) × (rest : List ℕ) × (octets ≡ front ++ rest) × Spells t order v o front) ⊎ ((f : Fault) × Stops t order o octets f)
    by (Ok x) ok err = let h = ok x.0 x.1 x.2 refl in inl (x.0, h.front, x.2, h.parts, h.holds)
    by (Err f) ok err = inr (f, err f refl)

pub not_both : NotBoth
not_both t order o front rest v f s stop = gets_or_fails (Spells t order) (value_at t order) (only t order) o (front ++ rest) f (fails t order o (front ++ rest) f stop) v front rest refl s

pub one_fault : OneFault
one_fault t order o octets f g first second = err_is {A = Value × ℕ × List ℕ} f g (sym (fails t order o octets f first) ∙ fails t order o octets g second)
