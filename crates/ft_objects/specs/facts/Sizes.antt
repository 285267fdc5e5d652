-- That values of a type are within its most octets, and that outcomes of bounded types can be sent. Nobody has to read these
-- proofs; they stand here since those of servants cite them.
use Rattle.std.specs.Prelude.{◌≡◌, ◌≢◌, ℕ, zero, suc, ◌+◌, ◌-◌, ◌*◌, ◌%◌, ◌^◌, ◌<◌, ◌≤◌, ℤ, pos, max, Bool, true, false, not, ◌&&◌, nat_eq, nat_le, List, [], ◌∷◌, ◌++◌, length, replicate, IsTrue}
use Rattle.std.specs.Int.{bytes_high_first, bytes_low_first}
use Rattle.std.specs.List.{list_all}
use Rattle.std.proofs.Common.{arith, refl, subst, leb-true, length-append, inl, inr}
use Rattle.std.proofs.Math.Nat.{le-max_left, le-max_right, mod-lt, mul-le-mul_right, suc-mul}
use Rattle.std.proofs.lemmas.Bool.{and_parts}
use Rattle.std.proofs.lemmas.List.{length-replicate}
use Rattle.cdr_core.specs.Fitting.{AllFit, Fits, FitsChosen, FitsMembers, OneFits}
use Rattle.cdr_core.specs.Form as form
use Rattle.cdr_core.specs.Form.{Cases, Form, Forms, Number, size}
use Rattle.cdr_core.specs.Numbers.{digits_of, padding}
use Rattle.cdr_core.specs.Parts.{ulong_value}
use Rattle.cdr_core.specs.Spelling.{Chosen, IsClean}
use Rattle.cdr_core.specs.Value as value
use Rattle.cdr_core.specs.Value.{Value, Values, count, label}
use Rattle.cdr_core.specs.Writing.{number_octets, octets_of, octets_of_all}
use Rattle.cdr_core.specs.declared.order.Order.{Order}
use Rattle.cdr_core.specs.declared.order.Order.TheVariants.{Big, Little}
use Rattle.ft_log.specs.Exceptions.{completion_number, repository_id}
use Rattle.ft_log.specs.Performed.{Performed, raised, raw, returned, system}
use Rattle.ft_log.specs.declared.system_exception.Completion.{Completion}
use Rattle.ft_log.specs.declared.system_exception.SystemName.{SystemName}
use Rattle.ft_log.specs.declared.system_exception.SystemName.TheVariants as name
use Rattle.ft_objects.specs.Interfaces.{IsOutcomeOf, IsRaised, Types, operation}
use Rattle.ft_objects.specs.Replies.{IsRenderable, body_limit, system_members}
use Rattle.ft_objects.specs.Sizes.{AreWithin, IsWithin, is_bounded, most_octets, most_octets_of_all, most_octets_of_member}

high_length : (n x : ℕ) → length (bytes_high_first n x) ≡ n
high_length zero x = refl
high_length (suc n) x = let e = high_length n x in omega (arith, e)

low_length : (i n x : ℕ) → length (bytes_low_first i n x) ≡ n
low_length i zero x = refl
low_length i (suc n) x = let e = low_length (suc i) n x in omega (arith, e)

digits_length : (order : Order) (n x : ℕ) → length (digits_of order n x) ≡ n
digits_length Big n x = high_length n x
digits_length Little n x = low_length 0 n x

-- the padding before n octets is shorter than they
number_within : (order : Order) (n o x : ℕ) → 0 < n → length (number_octets order n o x) ≤ 2 * n - 1
number_within order n o x some =
    let gap = mod-lt (n - o % n) some in
    omega (arith, length-append (replicate (padding o n) 0) (digits_of order n x), length-replicate {A = ℕ} (padding o n) 0, digits_length order n x, gap)

size_positive : (kind : Number) → 0 < size kind
size_positive form.char = omega arith
size_positive form.octet = omega arith
size_positive form.short = omega arith
size_positive form.ushort = omega arith
size_positive form.long = omega arith
size_positive form.ulong = omega arith
size_positive form.longlong = omega arith
size_positive form.ulonglong = omega arith

number_is_within : (kind : Number) (z : ℤ) → IsWithin (2 * size kind - 1) (value.number kind z)
number_is_within kind z = record { writable = tt; short = λ order o. number_within order (size kind) o _ (size_positive kind) }

enumeration_is_within : (x : ℕ) → IsWithin 7 (value.enumeration x)
enumeration_is_within x = record { writable = tt; short = λ order o. number_within order 4 o x (omega arith) }

boolean_is_within : (b : Bool) → IsWithin 1 (value.boolean b)
boolean_is_within true = record { writable = tt; short = λ order o. omega arith }
boolean_is_within false = record { writable = tt; short = λ order o. omega arith }

-- a text of at most n octets
text_is_within : (n : ℕ) (text : List ℕ) → length text ≤ n → length text + 1 < 2 ^ 32 → IsClean text → IsWithin (7 + n + 1) (value.string text)
text_is_within n text le fits clean =
    record {
      writable = (fits, clean);
      short = λ order o.
          let head = number_octets order 4 o (length text + 1) in
          let first = number_within order 4 o (length text + 1) (omega arith) in
          omega (arith, first, le, length-append (head ++ text) (0 ∷ []), length-append head text);
    }

octets_are_within : (n : ℕ) (all : List ℕ) → length all ≤ n → length all < 2 ^ 32 → IsWithin (7 + n) (value.octets all)
octets_are_within n all le fits =
    record {
      writable = fits;
      short = λ order o. let head = number_within order 4 o (length all) (omega arith) in omega (arith, head, le, length-append (number_octets order 4 o (length all)) all);
    }

none_within : AreWithin 0 value.no_values
none_within = record { writable = tt; short = λ order o. omega arith }

-- a value and those after it
both_within : (m n : ℕ) (v : Value) (vs : Values) → IsWithin m v → AreWithin n vs → AreWithin (m + n) (value.value v vs)
both_within m n v vs a b =
    record {
      writable = (a.writable, b.writable);
      short = λ order o.
          let p = o + length (octets_of order v o) in
          let first = a.short order o in
          let second = b.short order p in
          omega (arith, first, second, length-append (octets_of order v o) (octets_of_all order vs p));
    }

more_within : (m n : ℕ) (vs : Values) → m ≤ n → AreWithin m vs → AreWithin n vs
more_within m n vs le a = record { writable = a.writable; short = λ order o. let few = a.short order o in omega (arith, few, le) }

each_within : (P : Value → Type 0) (m : ℕ) → ((v : Value) → P v → IsWithin m v) → (vs : Values) → AllFit P vs → AreWithin (count vs * m) vs
each_within P m f value.no_values h = more_within 0 (0 * m) value.no_values (omega arith) none_within
each_within P m f (value.value v vs) h =
    let less = suc-mul (count vs) m in
    more_within (m + count vs * m) (suc (count vs) * m) (value.value v vs) (omega (arith, less)) (both_within m (count vs * m) v vs (f v h.0) (each_within P m f vs h.1))

-- at most n values that each take at most m octets
few_within : (P : Value → Type 0) (m n : ℕ) → ((v : Value) → P v → IsWithin m v) → (vs : Values) → count vs ≤ n → AllFit P vs → AreWithin (n * m) vs
few_within P m n f vs le h = more_within (count vs * m) (n * m) vs (mul-le-mul_right m le) (each_within P m f vs h)

one_within : (P : Value → Type 0) (m : ℕ) → ((v : Value) → P v → IsWithin m v) → (ms : Values) → OneFits P ms → AreWithin m ms
one_within P m f value.no_values h = absurd h
one_within P m f (value.value v value.no_values) h = more_within (m + 0) m (value.value v value.no_values) (omega arith) (both_within m 0 v value.no_values (f v h) none_within)
one_within P m f (value.value v (value.value w ws)) h = absurd h

either_within : (b : Bool) (A B C : Type 0) → (A → C) → (B → C) → Chosen b A B → C
either_within true A B C f g h = f h
either_within false A B C f g h = g h

mutual
  -- a value of a type is within the most octets of the type
  pub fits_within : (t : Form) (v : Value) → Fits t v → IsWithin (most_octets t) v
  fits_within form.boolean (value.boolean b) h = boolean_is_within b
  fits_within (form.number kind) (value.number same z) h = subst (λ k. IsWithin (2 * size k - 1) (value.number same z)) h.0 (number_is_within same z)
  fits_within (form.string bound) (value.string text) h = text_is_within bound text h.0 h.1 h.2
  fits_within (form.octets bound) (value.octets all) h = octets_are_within bound all h.0 h.1
  fits_within (form.sequence bound t) (value.sequence vs) h =
      let all = few_within (Fits t) (most_octets t) bound (λ v f. fits_within t v f) vs h.0 h.2 in
      record {
        writable = (h.1, all.writable);
        short = λ order o.
            let head = number_octets order 4 o (count vs) in
            let first = number_within order 4 o (count vs) (omega arith) in
            let second = all.short order (o + length head) in
            omega (arith, first, second, length-append head (octets_of_all order vs (o + length head)));
      }
  fits_within (form.array n t) (value.array vs) h =
      let all = few_within (Fits t) (most_octets t) n (λ v f. fits_within t v f) vs (let e = h.0 in omega (arith, e)) h.2 in
      record { writable = (h.1, all.writable); short = all.short }
  fits_within (form.enumeration n) (value.enumeration x) h = enumeration_is_within x
  fits_within (form.structure ts) (value.structure vs) h = let all = members_within ts vs h in record { writable = all.writable; short = all.short }
  fits_within (form.union d cs) (value.union v ms) h =
      let all = both_within (most_octets d) (most_octets_of_member cs) v ms (fits_within d v h.0) (chosen_within cs (label v) ms h.1) in
      record { writable = all.writable; short = all.short }
  fits_within _ _ h = absurd h

  -- values of types are within the most octets of the types
  pub members_within : (ts : Forms) (vs : Values) → FitsMembers ts vs → AreWithin (most_octets_of_all ts) vs
  members_within form.no_forms value.no_values h = none_within
  members_within (form.form t ts) (value.value v vs) h = both_within (most_octets t) (most_octets_of_all ts) v vs (fits_within t v h.0) (members_within ts vs h.1)
  members_within form.no_forms (value.value v vs) h = absurd h
  members_within (form.form t ts) value.no_values h = absurd h

  chosen_within : (cs : Cases) (l : ℤ) (ms : Values) → FitsChosen cs l ms → AreWithin (most_octets_of_member cs) ms
  chosen_within form.otherwise_nothing l value.no_values h = none_within
  chosen_within form.otherwise_nothing l (value.value v vs) h = absurd h
  chosen_within (form.otherwise t) l ms h = one_within (Fits t) (most_octets t) (λ v f. fits_within t v f) ms h
  chosen_within (form.labelled k t cs) l ms h =
      let m = most_octets t in
      let n = most_octets_of_member cs in
      either_within _ _ _ _
      (λ f. more_within m (max m n) ms (le-max_left m n) (one_within (Fits t) m (λ v g. fits_within t v g) ms f))
      (λ f. more_within n (max m n) ms (le-max_right m n) (chosen_within cs l ms f)) h

-- a text without a NUL, by a test that computes
pub clean_by : (xs : List ℕ) → list_all (λ x. not (nat_eq x 0)) xs ≡ true → IsClean xs
clean_by [] h = tt
clean_by (x ∷ xs) h =
    let parts = and_parts (not (nat_eq x 0)) (list_all (λ x. not (nat_eq x 0)) xs) h in
    (above_zero x parts.0, clean_by xs parts.1)
  where
    above_zero : (x : ℕ) → not (nat_eq x 0) ≡ true → x ≢ 0
    above_zero zero h = λ e. cc
    above_zero (suc x) h = λ e. cc

-- results of bounded types can be sent
pub returned_is_renderable : (ts : Forms) (results : Values) → IsTrue (nat_le (most_octets_of_all ts) body_limit) → FitsMembers ts results → IsRenderable (returned results)
returned_is_renderable ts results few h =
    let all = more_within (most_octets_of_all ts) body_limit results (leb-true _ _ few) (members_within ts results h) in
    (all.writable, all.short Big 24)

-- an exception of members of bounded types can be sent
pub raised_is_renderable : (ts : Forms) (id : List ℕ) (members : Values) → IsTrue (nat_le (7 + length id + 1 + most_octets_of_all ts) body_limit) → IsClean id → FitsMembers ts members → IsRenderable (raised id members)
raised_is_renderable ts id members few clean h =
    let le : 7 + length id + 1 + most_octets_of_all ts ≤ body_limit = leb-true _ _ few in
    let head = text_is_within (length id) id (omega arith) (omega (arith, le)) clean in
    let all = more_within _ body_limit (value.value (value.string id) members) le (both_within (7 + length id + 1) (most_octets_of_all ts) (value.string id) members head (members_within ts members h)) in
    (all.writable, all.short Big 24)

-- the repository ids of system exceptions are short, and hold no NUL
named : (n : SystemName) → IsTrue (nat_le (length (repository_id n)) 64 && list_all (λ x. not (nat_eq x 0)) (repository_id n))
named name.Marshal = refl
named name.BadContext = refl
named name.NoResources = refl
named name.BadOperation = refl
named name.ObjectNotExist = refl
named name.Unknown = refl
named name.BadParam = refl
named name.NoPermission = refl
named name.ImpLimit = refl
named name.Internal = refl
named name.Transient = refl
named name.NoMemory = refl
named name.CommFailure = refl
named name.InvObjref = refl
named name.Initialize = refl
named name.NoImplement = refl
named name.BadTypecode = refl
named name.NoResponse = refl
named name.PersistStore = refl
named name.BadInvOrder = refl
named name.FreeMem = refl
named name.InvIdent = refl
named name.InvFlag = refl
named name.IntfRepos = refl
named name.ObjAdapter = refl
named name.DataConversion = refl
named name.TransactionRequired = refl
named name.TransactionRolledback = refl
named name.InvalidTransaction = refl
named name.InvPolicy = refl
named name.CodesetIncompatible = refl
named name.Rebind = refl
named name.Timeout = refl
named name.TransactionUnavailable = refl
named name.TransactionMode = refl
named name.BadQos = refl
named name.InvalidActivity = refl
named name.ActivityCompleted = refl
named name.ActivityRequired = refl
named name.ThreadCancelled = refl

-- a system exception can be sent
pub system_is_renderable : (n : SystemName) (minor : ℕ) (completion : Completion) → IsRenderable (system n minor completion)
system_is_renderable n minor completion =
    let id = repository_id n in
    let parts = and_parts (nat_le (length id) 64) (list_all (λ x. not (nat_eq x 0)) id) (named n) in
    let few : length id ≤ 64 = leb-true _ _ parts.0 in
    let head = text_is_within 64 id few (omega (arith, few)) (clean_by id parts.1) in
    let last = both_within 7 0 (value.enumeration (completion_number completion)) value.no_values (enumeration_is_within (completion_number completion)) none_within in
    let members = both_within 7 7 (ulong_value minor) _ (number_is_within form.ulong (pos minor)) last in
    let all = more_within 86 body_limit _ (omega arith) (both_within 72 14 (value.string id) (system_members minor (completion_number completion)) head members) in
    (all.writable, all.short Big 24)

raised_of : (raises : List (List ℕ × Forms)) (id : List ℕ) (members : Values) → list_all (λ r. nat_le (7 + length r.0 + 1 + most_octets_of_all r.1) body_limit) raises ≡ true → IsClean id → IsRaised raises id members → IsRenderable (raised id members)
raised_of [] id members few clean is = absurd is
raised_of (r ∷ rs) id members few clean is =
    let parts = and_parts (nat_le (7 + length r.0 + 1 + most_octets_of_all r.1) body_limit) (list_all (λ r. nat_le (7 + length r.0 + 1 + most_octets_of_all r.1) body_limit) rs) few in
    elim is [
      | inl this ↦ raised_is_renderable r.1 id members (subst (λ (own : List ℕ). nat_le (7 + length own + 1 + most_octets_of_all r.1) body_limit ≡ true) this.0 parts.0) clean this.1
      | inr other ↦ raised_of rs id members parts.1 clean other
    ]

-- each outcome of an operation of bounded types can be sent
pub outcome_is_renderable : (t : Types) (p : Performed) → IsTrue (is_bounded t) → IsOutcomeOf (operation t) p → IsRenderable p
outcome_is_renderable t p few =
    let parts = and_parts (nat_le (most_octets_of_all t.results) body_limit) (list_all (λ r. nat_le (7 + length r.0 + 1 + most_octets_of_all r.1) body_limit) t.raises) few in
    go p parts.0 parts.1
  where
    go : (p : Performed) → IsTrue (nat_le (most_octets_of_all t.results) body_limit) → list_all (λ r. nat_le (7 + length r.0 + 1 + most_octets_of_all r.1) body_limit) t.raises ≡ true → IsOutcomeOf (operation t) p → IsRenderable p
    go (returned results) some all h = returned_is_renderable t.results results some h
    go (raised id members) some all h = raised_of t.raises id members all h.0 h.1
    go (system n minor completion) some all h = system_is_renderable n minor completion
    go (raw status order body) some all h = absurd h
