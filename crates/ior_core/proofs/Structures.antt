-- A struct that is read member by member.
use Rattle.std.proofs.Common.{◌≡◌, ℕ, List, Ok, Err, refl, sym, ap, ◌∙◌}
use Rattle.cdr_core.specs.declared.fault.CdrError.{CdrError}
use Rattle.cdr_core.specs.declared.fault.CdrError.TheVariants as errors
use Rattle.cdr_core.specs.declared.fault.Fault.{Fault}
use Rattle.cdr_core.specs.declared.order.Order.{Order}
use Rattle.cdr_core.specs.Private.{joined, with_front, Fails}
use Rattle.cdr_core.proofs.Fields.{fields_at, structure_is}
use Rattle.cdr_core.specs.Form as form
use Rattle.cdr_core.specs.Form.{Form, Forms}
use Rattle.cdr_core.specs.Reading.{◌>>=◌, Read, value_at}
use Rattle.cdr_core.proofs.Turns.{then}
use Rattle.cdr_core.specs.Value as value
use Rattle.cdr_core.specs.Value.{Value, Values}

-- the members from a place on are read, or one of them is not
pub record Members (ts : Forms) (order : Order) (o : ℕ) (octets : List ℕ) (vs : Values) (p : ℕ) (rest : List ℕ) : Type 0 where
  pub read : fields_at ts order o octets ≡ Ok (vs, p, rest)

pub record MembersFail (ts : Forms) (order : Order) (o : ℕ) (octets : List ℕ) (f : Fault) : Type 0 where
  pub failed : fields_at ts order o octets ≡ Err f

module _ {order : Order} {o : ℕ} {octets : List ℕ} where
  pub no_member : Members form.no_forms order o octets value.no_values o octets
  no_member = record { read = refl }

  pub member_fails : {t : Form} {ts : Forms} {f : Fault} → value_at t order o octets ≡ Err f → MembersFail (form.form t ts) order o octets f
  member_fails e = record { failed = rw e refl }

  -- a member, and those after it, read in the order that it left
  module _ {t : Form} {ts : Forms} {v : Value} {left : Order} {p : ℕ} {rest : List ℕ} where
    pub then_fails : {f : Fault} → (value_at t order o octets ≡ Ok (v, p, rest)) × (left ≡ order) → MembersFail ts left p rest f → MembersFail (form.form t ts) order o octets f
    then_fails h next = record { failed = rw (h.0, rw h.1 at next.failed) refl }

    pub then_members : {vs : Values} {q : ℕ} {more : List ℕ} → (value_at t order o octets ≡ Ok (v, p, rest)) × (left ≡ order) → Members ts left p rest vs q more → Members (form.form t ts) order o octets (value.value v vs) q more
    then_members h next = record { read = rw (h.0, rw h.1 at next.read) refl }

  pub structure_fails : {ts : Forms} {f : Fault} → MembersFail ts order o octets f → value_at (form.structure ts) order o octets ≡ Err f
  structure_fails {ts} m = rw (structure_is ts order o octets, m.failed) refl

  pub structure_read : {ts : Forms} {vs : Values} {p : ℕ} {rest : List ℕ} → Members ts order o octets vs p rest → value_at (form.structure ts) order o octets ≡ Ok (value.structure vs, p, rest)
  structure_read {ts} m = rw (structure_is ts order o octets, m.read) refl

-- the second member, where memory may run out
pub second_fails : (t u : Form) (ts : Forms) {order left : Order} (o : ℕ) (octets : List ℕ) {v : Value} {p : ℕ} {rest : List ℕ} (e : CdrError) → (value_at t order o octets ≡ Ok (v, p, rest)) × (left ≡ order) → Fails e (value_at u left p rest)
    → Fails e (value_at (form.structure (form.form t (form.form u ts))) order o octets)
second_fails t u ts o octets (errors.Bad f) first second = structure_fails (then_fails first (member_fails second))
second_fails t u ts o octets errors.Memory first second = tt

-- members, and further ones after them

abbrev pub types_joined : Forms → Forms → Forms
types_joined form.no_forms us = us
types_joined (form.form t ts) us = form.form t (types_joined ts us)

-- those of a struct in front of others
abbrev pub extended : Value → Values → Value
extended (value.structure vs) ws = value.structure (joined vs ws)
extended v ws = v

abbrev structured : Read Values → Read Value
structured r = r >>= λ x. Ok (value.structure x.0, x.1, x.2)

abbrev extended_by : Value → Read Values → Read Value
extended_by v r = r >>= λ c. Ok (extended v c.0, c.1, c.2)

module _ (us : Forms) (order : Order) where
  abbrev and_more : Read Values → Read Values
  and_more r = r >>= λ x. with_front x.0 (fields_at us order x.1 x.2)

  then_front : (v : Value) (vs : Values) (r : Read Values) → then v (with_front vs r) ≡ with_front (value.value v vs) r
  then_front v vs (Ok x) = refl
  then_front v vs (Err f) = refl

  then_more : (v : Value) (r : Read Values) → then v (and_more r) ≡ and_more (then v r)
  then_more v (Ok x) = then_front v x.0 (fields_at us order x.1 x.2)
  then_more v (Err f) = refl

  all_read : (r : Read Values) → r ≡ with_front value.no_values r
  all_read (Ok x) = refl
  all_read (Err f) = refl

  fields_joined : (ts : Forms) (o : ℕ) (octets : List ℕ) → fields_at (types_joined ts us) order o octets ≡ and_more (fields_at ts order o octets)
  fields_joined form.no_forms o octets = all_read (fields_at us order o octets)
  fields_joined (form.form t ts) o octets = by (value_at t order o octets) (λ p rest. fields_joined ts p rest)
    where
      by : (r : Read Value) → ((p : ℕ) (rest : List ℕ) → fields_at (types_joined ts us) order p rest ≡ and_more (fields_at ts order p rest))
          → ◌≡◌ {A = Read Values} (r >>= λ x. then x.0 (fields_at (types_joined ts us) order x.1 x.2)) (and_more (r >>= λ x. then x.0 (fields_at ts order x.1 x.2)))
      by (Ok x) same = ap (λ (r : Read Values). then x.0 r) (same x.1 x.2) ∙ then_more x.0 (fields_at ts order x.1 x.2)
      by (Err f) same = refl

  abbrev and_members : Read Value → Read Value
  and_members r = r >>= λ h. extended_by h.0 (fields_at us order h.1 h.2)

  structured_front : (vs : Values) (r : Read Values) → structured (with_front vs r) ≡ extended_by (value.structure vs) r
  structured_front vs (Ok x) = refl
  structured_front vs (Err f) = refl

  structured_more : (r : Read Values) → structured (and_more r) ≡ and_members (structured r)
  structured_more (Ok x) = structured_front x.0 (fields_at us order x.1 x.2)
  structured_more (Err f) = refl

  pub structure_joined : (ts : Forms) (o : ℕ) (octets : List ℕ) → value_at (form.structure (types_joined ts us)) order o octets ≡ and_members (value_at (form.structure ts) order o octets)
  structure_joined ts o octets =
      structure_is (types_joined ts us) order o octets ∙ ap structured (fields_joined ts o octets) ∙ structured_more (fields_at ts order o octets) ∙ sym (ap and_members (structure_is ts order o octets))
