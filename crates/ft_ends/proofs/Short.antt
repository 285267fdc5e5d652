-- A servant that keeps its promises gives short answers.
use Rattle.std.proofs.Common.{◌≡◌, ℕ, ◌<◌, Bool, true, false, cond, nat_lt, List, [], ◌∷◌, ◌++◌, Option, Some, None, Result, Ok, Err, IsTrue, refl, subst, lit≤}
use Rattle.std.specs.Option.{unwrap_or}
use Rattle.std.proofs.lemmas.Option.{none-some, same_Some}
use Rattle.cdr_core.specs.Fitting.{AreValid, FitsMembers}
use Rattle.cdr_core.specs.Form as form
use Rattle.cdr_core.specs.Form.{Forms}
use Rattle.cdr_core.specs.Laws.{SpelledFits}
use Rattle.cdr_core.specs.Numbers.{AreOctets}
use Rattle.cdr_core.specs.Spelling.{SpellsMembers}
use Rattle.cdr_core.specs.Value as value
use Rattle.cdr_core.specs.Value.{Values}
use Rattle.cdr_core.specs.declared.order.Order.{Order}
use Rattle.giop_core.specs.Content.{Rest}
use Rattle.giop_core.specs.Keys.{key_of_addressed}
use Rattle.ft_log.specs.Keys.{RequestKey}
use Rattle.ft_log.specs.Performed.{Performed}
use Rattle.ft_log.specs.declared.system_exception.SystemName.{SystemName}
use Rattle.ft_log.specs.declared.system_exception.SystemName.TheVariants as name
use Rattle.ft_orb.specs.ExactlyOnce.{Absent, Arrival, Bad, Field, Present, acts, answer_by_field, has_key, live_keys, new_answer, outcome_kept, outcome_of, performed_after, performed_of, state_after, state_after_call}
use Rattle.ft_objects.specs.Interfaces.{AreArgumentsOf, Interface, IsValidInterface, checked_operation, no_object, no_operation, operation, raw_operation}
use Rattle.ft_orb.specs.Laws.{CallsAreAsked}
use Rattle.ft_orb.specs.Outputs.{Made}
use Rattle.ft_objects.specs.Replies.{answered_as}
use Rattle.ft_orb.specs.Requests.{AreGivenBy, Call, Wanted, asked_of, asking, locating, rules_of}
use Rattle.ft_objects.specs.Servants.{IsServant, Meaning}
use Rattle.ft_ends.specs.Laws.{AnswersAreShort, ArePlain, IsPlain, IsShort}
use Rattle.ft_ends.proofs.Lists.{each-append, each-left}

-- the body of a refusal is short
refusal-short : (n : SystemName) → IsShort (answered_as (Err n))
refusal-short name.Marshal = lit≤ tt
refusal-short name.BadContext = lit≤ tt
refusal-short name.NoResources = lit≤ tt
refusal-short name.BadOperation = lit≤ tt
refusal-short name.ObjectNotExist = lit≤ tt
refusal-short name.Unknown = lit≤ tt
refusal-short name.BadParam = lit≤ tt
refusal-short name.NoPermission = lit≤ tt
refusal-short name.ImpLimit = lit≤ tt
refusal-short name.Internal = lit≤ tt
refusal-short name.Transient = lit≤ tt
refusal-short name.NoMemory = lit≤ tt
refusal-short name.CommFailure = lit≤ tt
refusal-short name.InvObjref = lit≤ tt
refusal-short name.Initialize = lit≤ tt
refusal-short name.NoImplement = lit≤ tt
refusal-short name.BadTypecode = lit≤ tt
refusal-short name.NoResponse = lit≤ tt
refusal-short name.PersistStore = lit≤ tt
refusal-short name.BadInvOrder = lit≤ tt
refusal-short name.FreeMem = lit≤ tt
refusal-short name.InvIdent = lit≤ tt
refusal-short name.InvFlag = lit≤ tt
refusal-short name.IntfRepos = lit≤ tt
refusal-short name.ObjAdapter = lit≤ tt
refusal-short name.DataConversion = lit≤ tt
refusal-short name.TransactionRequired = lit≤ tt
refusal-short name.TransactionRolledback = lit≤ tt
refusal-short name.InvalidTransaction = lit≤ tt
refusal-short name.InvPolicy = lit≤ tt
refusal-short name.CodesetIncompatible = lit≤ tt
refusal-short name.Rebind = lit≤ tt
refusal-short name.Timeout = lit≤ tt
refusal-short name.TransactionUnavailable = lit≤ tt
refusal-short name.TransactionMode = lit≤ tt
refusal-short name.BadQos = lit≤ tt
refusal-short name.InvalidActivity = lit≤ tt
refusal-short name.ActivityCompleted = lit≤ tt
refusal-short name.ActivityRequired = lit≤ tt
refusal-short name.ThreadCancelled = lit≤ tt

-- arguments that octets spell by valid types fit them; no types are a case of their own, since no structure is without members
members-fit : SpelledFits → (ts : Forms) (order : Order) (o : ℕ) (octets : List ℕ) (vs : Values) → AreValid ts → AreOctets octets → SpellsMembers ts order vs o octets → FitsMembers ts vs
members-fit fits form.no_forms order o octets value.no_values valid are spelled = tt
members-fit fits form.no_forms order o octets (value.value v vs) valid are spelled = absurd spelled
members-fit fits (form.form t ts) order o octets vs valid are spelled = fits (form.structure (form.form t ts)) order (value.structure vs) o octets ((λ none. absurd cc), valid) are spelled

-- what a body of octets gives an operation of valid types are arguments of it
given-fit : SpelledFits → (i : Interface) (body : Rest) (arguments : Values) → IsValidInterface i → AreOctets body.octets → AreGivenBy i body arguments → AreArgumentsOf i arguments
given-fit fits no_object body arguments valid are given = absurd given
given-fit fits no_operation body arguments valid are given = absurd given
given-fit fits (operation t) body arguments valid are given =
    let own : AreOctets given.front = each-left (λ x. x < 256) given.front given.rest (subst AreOctets given.octets_are are) in
    members-fit fits t.arguments body.order body.place given.front arguments valid.0 own given.spelled
given-fit fits raw_operation body arguments valid are given = (body, given)
given-fit fits (checked_operation t) body arguments valid are given = (body, given)

module _ {State : Type 0} (meaning : Meaning State) (made : Made State) (fits : SpelledFits) (calls : CallsAreAsked) (promises : IsServant meaning) where
  -- what is asked has arguments of its operation
  asked-fit : (w : Wanted) (call : Call) → IsPlain w → asked_of meaning.interface w ≡ Ok call → AreArgumentsOf (meaning.interface call.object_key call.operation) call.arguments
  asked-fit (asking c q) call plain is =
      let asked = (calls meaning.interface q (key_of_addressed q.target) call).0 is in
      let fit = given-fit fits (meaning.interface call.object_key q.operation) q.body call.arguments (promises.valid call.object_key q.operation) plain asked.given in
      subst (λ (name : List ℕ). AreArgumentsOf (meaning.interface call.object_key name) call.arguments) asked.operation_is fit
  asked-fit (locating c version id to) call plain is = absurd cc

  call-state : (state : State) (r : Result Call SystemName) → IsTrue (meaning.is_state state) → ((call : Call) → r ≡ Ok call → AreArgumentsOf (meaning.interface call.object_key call.operation) call.arguments)
      → IsTrue (meaning.is_state (state_after_call (rules_of meaning made.capacity made.share).apply state r))
  call-state state (Ok call) known fit = promises.stays state call.object_key call.operation call.arguments known (fit call refl)
  call-state state (Err refusal) known fit = known

  after-state : (state : State) (p : Arrival Wanted) → IsTrue (meaning.is_state state) → IsPlain p.content → IsTrue (meaning.is_state (state_after_call (rules_of meaning made.capacity made.share).apply state (asked_of meaning.interface p.content)))
  after-state state p known plain = call-state state (asked_of meaning.interface p.content) known (λ call is. asked-fit p.content call plain is)

  all-state : (state : State) (ps : List (Arrival Wanted)) → IsTrue (meaning.is_state state) → ArePlain ps → IsTrue (meaning.is_state (state_after (rules_of meaning made.capacity made.share) state ps))
  all-state state [] known plain = known
  all-state state (p ∷ ps) known plain = all-state (state_after_call (rules_of meaning made.capacity made.share).apply state (asked_of meaning.interface p.content)) ps (after-state state p known plain.0) plain.1

  -- an outcome is short
  outcome-short : (state : State) (r : Result Call SystemName) → IsTrue (meaning.is_state state) → ((call : Call) → r ≡ Ok call → AreArgumentsOf (meaning.interface call.object_key call.operation) call.arguments)
      → IsShort (answered_as (outcome_of (rules_of meaning made.capacity made.share).apply state r))
  outcome-short state (Ok call) known fit = (promises.renderable state call.object_key call.operation call.arguments known (fit call refl)).1
  outcome-short state (Err refusal) known fit = refusal-short refusal

  own-short : (state : State) (p : Arrival Wanted) → IsTrue (meaning.is_state state) → IsPlain p.content → IsShort (answered_as (outcome_of (rules_of meaning made.capacity made.share).apply state (asked_of meaning.interface p.content)))
  own-short state p known plain = outcome-short state (asked_of meaning.interface p.content) known (λ call is. asked-fit p.content call plain is)

  new-short : (state : State) (room : Bool) (r : Result Call SystemName) → IsTrue (meaning.is_state state) → ((call : Call) → r ≡ Ok call → AreArgumentsOf (meaning.interface call.object_key call.operation) call.arguments)
      → IsShort (answered_as (new_answer (rules_of meaning made.capacity made.share) state room r))
  new-short state true (Ok call) known fit = (promises.renderable state call.object_key call.operation call.arguments known (fit call refl)).1
  new-short state false (Ok call) known fit = refusal-short name.NoResources
  new-short state true (Err refusal) known fit = refusal-short refusal
  new-short state false (Err refusal) known fit = refusal-short refusal

  kept-short : (key : RequestKey) (state : State) (ps : List (Arrival Wanted)) (x : Result Performed SystemName) → IsTrue (meaning.is_state state) → ArePlain ps → outcome_kept (rules_of meaning made.capacity made.share) state key ps ≡ Some x → IsShort (answered_as x)
  kept-short key state [] x known plain is = absurd (none-some x is)
  kept-short key state (p ∷ ps) x known plain is =
      let rules = rules_of meaning made.capacity made.share in
      let own = outcome_of rules.apply state (asked_of meaning.interface p.content) in
      let next = state_after_call rules.apply state (asked_of meaning.interface p.content) in
      elim (has_key key p.field) as (λ b. cond b (Some own) (outcome_kept rules next key ps) ≡ Some x → IsShort (answered_as x)) [
        | true ↦ λ same. subst (λ (y : Result Performed SystemName). IsShort (answered_as y)) (same_Some own x same) (own-short state p known plain.0)
        | false ↦ λ same. kept-short key next ps x (after-state state p known plain.0) plain.1 same
      ] is

  found-short : (o : Option (Result Performed SystemName)) (new : Result Performed SystemName) → ((x : Result Performed SystemName) → o ≡ Some x → IsShort (answered_as x)) → IsShort (answered_as new) → IsShort (answered_as (unwrap_or o new))
  found-short None new kept fresh = fresh
  found-short (Some x) new kept fresh = kept x refl

  performed-plain : (performed xs : List (Arrival Wanted)) → ArePlain performed → ArePlain xs → ArePlain (performed_after (rules_of meaning made.capacity made.share) performed xs)
  performed-plain performed [] h k = h
  performed-plain performed (a ∷ xs) h k =
      let rules = rules_of meaning made.capacity made.share in
      performed-plain (cond (acts rules performed a) (performed ++ a ∷ []) performed) xs
      (elim (acts rules performed a) as (λ b. ArePlain (cond b (performed ++ a ∷ []) performed)) [ true ↦ each-append (λ b. IsPlain b.content) performed (a ∷ []) h (k.0, tt) | false ↦ h ]) k.1

  field-short : (performed : List (Arrival Wanted)) (a : Arrival Wanted) (f : Field) → IsTrue (meaning.is_state made.opening) → ArePlain performed → IsPlain a.content
      → IsShort (answered_as (answer_by_field (rules_of meaning made.capacity made.share) made.opening performed a.clock (asked_of meaning.interface a.content) f))
  field-short performed a Bad known h plain = refusal-short name.Marshal
  field-short performed a Absent known h plain = own-short (state_after (rules_of meaning made.capacity made.share) made.opening performed) a (all-state made.opening performed known h) plain
  field-short performed a (Present key expiration) known h plain =
      let rules = rules_of meaning made.capacity made.share in
      let state = state_after rules made.opening performed in
      let new = new_answer rules state (rules.has_room key (live_keys a.clock performed)) (asked_of meaning.interface a.content) in
      let kept = outcome_kept rules made.opening key performed in
      elim (nat_lt expiration a.clock) as (λ b. IsShort (answered_as (cond b (Err name.BadContext) (unwrap_or kept new)))) [
        | true ↦ refusal-short name.BadContext
        | false ↦ found-short kept new (λ x is. kept-short key made.opening performed x known h is)
            (new-short state (rules.has_room key (live_keys a.clock performed)) (asked_of meaning.interface a.content) (all-state made.opening performed known h) (λ call is. asked-fit a.content call plain is))
      ]

pub answers-are-short : {State : Type 0} (meaning : Meaning State) → SpelledFits → CallsAreAsked → IsServant meaning → AnswersAreShort meaning
answers-are-short meaning fits calls promises made known before a plain own =
    let rules = rules_of meaning made.capacity made.share in
    field-short meaning made fits calls promises (performed_of rules before) a a.field known (performed-plain meaning made fits calls promises [] before tt plain) own
