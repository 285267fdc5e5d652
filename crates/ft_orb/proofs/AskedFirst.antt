-- What becomes of requests where their owner is asked first.
use Rattle.std.proofs.Common.{◌≡◌, ℕ, ◌≤◌, Bool, true, false, cond, nat_lt, List, Option, Some, None, Result, Ok, Err, refl, sym, ap, ◌∙◌, arith}
use Rattle.std.specs.Prelude.{MatchResult}
use Rattle.std.proofs.lemmas.Bool.{ltb-true}
use Rattle.giop_core.specs.Keys.{key_of_addressed}
use Rattle.giop_link.specs.Hearing.{Question}
use Rattle.ft_log.specs.Keys.{RequestKey}
use Rattle.ft_log.specs.Kept.{kept_for, keys_of, unexpired}
use Rattle.ft_log.specs.declared.system_exception.SystemName.{SystemName}
use Rattle.ft_log.specs.declared.system_exception.SystemName.TheVariants.{BadContext, NoResources}
use Rattle.ft_objects.specs.Interfaces.{Interface}
use Rattle.ft_orb.specs.ExactlyOnce.{Absent, Bad, Field, Present, Rules}
use Rattle.ft_orb.specs.First.{FirstsAreAsked, FirstsLackRoom, OthersAreNoFirsts}
use Rattle.ft_orb.specs.Owners.{owned_rules}
use Rattle.ft_orb.specs.Parking.{by_number}
use Rattle.ft_orb.specs.Requests.{Call, Origin, Wanted, asked_at, asked_of, asked_within, asking, call_first, call_for, call_within, field_in, field_of, first_with, is_named_within, is_within, locating, origin_of, raw_call, refusal_at, refusal_first}
use Rattle.ft_orb.specs.Table.{Table, forgotten, keyed_step, performing_step, step_by_field}

module _ (interface : List ℕ → List ℕ → Interface) (c : Origin) (q : Question) (key : RequestKey) (expiration : ℕ) (present : field_of q.contexts ≡ Present key expiration) where
  abbrev found : Result Call SystemName
  found = call_for interface q (key_of_addressed q.target)

  call-is : (first : Bool) (longest : Option ℕ) → first ≡ true → is_named_within longest key.client_id ≡ true → asked_within first longest interface (asking c q) ≡ call_first true (raw_call q) found
  call-is false longest is within = absurd cc
  call-is true longest is within =
      ap (λ (f : Field). call_within (is_within longest f) (call_first (first_with true f) (raw_call q) found)) present
      ∙ ap (λ (b : Bool). call_within b (call_first true (raw_call q) found)) within

  refusal-is : (first : Bool) → first ≡ true → refusal_first (first_with first (field_of q.contexts)) found ≡ refusal_first true found
  refusal-is first is = ap (λ (f : Field). refusal_first (first_with first f) found) present ∙ ap (λ (b : Bool). refusal_first b found) is

either : (raw : Call) (found asked : Result Call SystemName) (refused : Option SystemName) → asked ≡ call_first true raw found → refused ≡ refusal_first true found
    → MatchResult found (λ call. (asked ≡ Ok call) × (refused ≡ None)) (λ name. (asked ≡ Ok raw) × (refused ≡ Some name))
either raw (Ok call) asked refused is would = (is, would)
either raw (Err name) asked refused is would = (is, would)

pub firsts-are-asked : FirstsAreAsked
firsts-are-asked terms c q key expiration first present within =
    let t = terms c.changes in
    either (raw_call q) (call_for t.interface q (key_of_addressed q.target)) (asked_at terms (asking c q)) (refusal_at terms (asking c q))
    (call-is t.interface c q key expiration present t.first t.longest first within) (refusal-is t.interface c q key expiration present t.first first)

-- what asks for a call is refused for want of room alone
module _ (rules : Rules (List Call) Wanted Call ℕ) (key : RequestKey) (expiration : ℕ) (call : Call) (name : SystemName) where
  lacks-room : (t : Table (List Call) ℕ) (room : Bool) → (performing_step rules t key expiration call room).1 ≡ Err name → name ≡ NoResources
  lacks-room t true is = absurd cc
  lacks-room t false is = cc

  lacks-kept : (t : Table (List Call) ℕ) (kept : Option ℕ) → (keyed_step rules t key expiration (Ok call) kept).1 ≡ Err name → name ≡ NoResources
  lacks-kept t (Some i) is = absurd cc
  lacks-kept t None is = lacks-room t (rules.has_room key (keys_of t.entries)) is

  lacks : (t : Table (List Call) ℕ) (clock : ℕ) → clock ≤ expiration → (step_by_field rules t clock (Ok call) (Present key expiration)).1 ≡ Err name → name ≡ NoResources
  lacks t clock in_time is =
      let kept = keyed_step rules (forgotten clock t) key expiration (Ok call) (kept_for key (unexpired clock t.entries)) in
      elim (nat_lt expiration clock) as (λ b. nat_lt expiration clock ≡ b → (cond b (t, Err BadContext) kept).1 ≡ Err name → name ≡ NoResources) [
        | true ↦ λ over same. let less = ltb-true expiration clock over in absurd (omega (arith, less, in_time))
        | false ↦ λ still same. lacks-kept (forgotten clock t) (kept_for key (unexpired clock t.entries)) same
      ] refl is

some-call : (raw : Call) (found : Result Call SystemName) → (call : Call) × (call_first true raw found ≡ Ok call)
some-call raw (Ok call) = (call, refl)
some-call raw (Err name) = (raw, refl)

pub firsts-lack-room : FirstsLackRoom
firsts-lack-room s held t a c q key expiration name content field present in_time first within said =
    let rules = owned_rules (by_number s held) in
    let terms = s.terms c.changes in
    let found = call_for terms.interface q (key_of_addressed q.target) in
    let some = some-call (raw_call q) found in
    let asked : rules.asked a.content ≡ Ok some.0 = ap (asked_at s.terms) content ∙ call-is terms.interface c q key expiration present terms.first terms.longest first within ∙ some.1 in
    lacks rules key expiration some.0 name t a.clock in_time
    (ap (λ (r : Result Call SystemName). (step_by_field rules t a.clock r (Present key expiration)).1) (sym asked)
    ∙ ap (λ (f : Field). (step_by_field rules t a.clock (rules.asked a.content) f).1) (sym field) ∙ said)

unbound : (longest : Option ℕ) (f : Field) (asked : Result Call SystemName) → longest ≡ None → asked ≡ call_within (is_within longest f) asked
unbound (Some n) f asked is = absurd cc
unbound None Absent asked is = refl
unbound None Bad asked is = refl
unbound None (Present key expiration) asked is = refl

others-asked : (first : Bool) (longest : Option ℕ) (interface : List ℕ → List ℕ → Interface) (w : Wanted) → first_with first (field_in w) ≡ false
    → asked_within first longest interface w ≡ call_within (is_within longest (field_in w)) (asked_of interface w)
others-asked false None interface w is = unbound None (field_in w) (asked_of interface w) refl
others-asked false (Some longest) interface w is = refl
others-asked true longest interface (asking c q) is =
    ap (λ (b : Bool). call_within (is_within longest (field_of q.contexts)) (call_first b (raw_call q) (asked_of interface (asking c q)))) is
others-asked true longest interface (locating c version id to) is = refl

pub others-are-no-firsts : OthersAreNoFirsts
others-are-no-firsts terms w is =
    let t = terms (origin_of w).changes in
    (ap (λ (b : Bool). refusal_first b (asked_of t.interface w)) is, others-asked t.first t.longest t.interface w is)
