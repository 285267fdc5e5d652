-- Where arrivals with one key carry one expiration, each key by itself performs and answers as looking back over all does.
use Rattle.std.proofs.Common.{◌≡◌, ℕ, ◌≤◌, Bool, true, false, not, ◌&&◌, cond, nat_lt, Contains, List, [], ◌∷◌, ◌++◌, Some, Result, Err, is_ok, refl, sym, ap, ◌∙◌, subst, append_assoc}
use Rattle.std.specs.List.{AllByRecursion, list_any}
use Rattle.std.specs.Option.{unwrap_or}
use Rattle.std.proofs.lemmas.Bool.{ltb-false}
use Rattle.std.proofs.lemmas.List.Elements.{Contains-append_left, Contains-push}
use Rattle.ft_log.specs.Keys.{RequestKey}
use Rattle.ft_log.specs.declared.system_exception.SystemName.{SystemName}
use Rattle.ft_log.specs.declared.system_exception.SystemName.TheVariants.{BadContext}
use Rattle.ft_orb.specs.ExactlyOnce.{Absent, Arrival, Bad, Field, OneExpiration, Present, Rules, acts, answer_by_field, answer_of, answers_after, has_key, live_keys, new_answer, outcome_kept, outcome_of, performed_after, performed_of, state_after, state_after_call}
use Rattle.ft_orb.specs.Now.{KeysAnswer, NowIsEver, acts_now, answer_now, answer_now_by_field, answers_now_after, is_held, outcome_held, performed_now, performed_now_after}
use Rattle.ft_orb.proofs.Headline.{one-front}
use Rattle.ft_orb.proofs.Law.{Agrees, acts_by, agrees_if}
use Rattle.ft_orb.proofs.Now.{AllAgree, acts_now_by, all_in, all_map, grown_now, grown_now-all, held_is, key-acts-later, key-acts-once, key-is-answered, key-is-first, key-is-held, live_is, performed_now-all, tables-answer-now, tables-go-on-now}

module _ {S C K O : Type 0} (rules : Rules S C K O) where
  -- where the requests that were performed agree with one that comes, it acts by its own key where it acts by all
  acts_same : (performed : List (Arrival C)) (clock : ℕ) (f : Field) (spells : Bool) → ((key : RequestKey) (expiration : ℕ) → f ≡ Present key expiration → AllAgree key expiration performed)
      → acts_now_by rules performed clock f spells ≡ acts_by rules performed clock f spells
  acts_same performed clock Absent spells agree = refl
  acts_same performed clock Bad spells agree = refl
  acts_same performed clock (Present key expiration) spells agree =
      let room = rules.has_room key (live_keys clock performed) in
      elim (nat_lt expiration clock) as (λ b. nat_lt expiration clock ≡ b
      → ((true && (not b && spells)) && (not (is_held performed clock key) && room)) ≡ ((true && (not b && spells)) && (not (list_any (λ p. has_key key p.field) performed) && room))) [
        | true ↦ λ over. refl
        | false ↦ λ over. ap (λ held. (true && (true && spells)) && (not held && room)) (held_is key expiration clock performed (ltb-false expiration clock over) (agree key expiration refl))
      ] refl

  -- what was performed before an arrival agrees with it
  agree-at : (performed before : List (Arrival C)) (a : Arrival C) (key : RequestKey) (expiration : ℕ) → OneExpiration (before ++ a ∷ []) → AllByRecursion (Contains before) performed → a.field ≡ Present key expiration → AllAgree key expiration performed
  agree-at performed before a key expiration one arrived is_a =
      all_map (Contains before) (λ p. Agrees key expiration p.field) performed
      (λ p in_p. agrees_if key expiration p.field (λ e is_p. one p a key e expiration (Contains-append_left before (a ∷ []) p in_p) (Contains-push before a) is_p is_a)) arrived

  now_same : (performed before later : List (Arrival C)) → OneExpiration (before ++ later) → AllByRecursion (Contains before) performed → performed_now_after rules performed later ≡ performed_after rules performed later
  now_same performed before [] one arrived = refl
  now_same performed before (a ∷ later) one arrived =
      let split : (before ++ a ∷ []) ++ later ≡ before ++ a ∷ later = append_assoc before (a ∷ []) later in
      let one_too : OneExpiration ((before ++ a ∷ []) ++ later) = subst OneExpiration (sym split) one in
      let same : acts_now rules performed a ≡ acts rules performed a =
      acts_same performed a.clock a.field (is_ok (rules.asked a.content)) (λ key expiration is_a. agree-at performed before a key expiration (one-front (before ++ a ∷ []) later one_too) arrived is_a) in
      let more : AllByRecursion (Contains (before ++ a ∷ [])) (grown_now rules performed a) =
      grown_now-all rules (Contains (before ++ a ∷ [])) performed a (all_map (Contains before) (Contains (before ++ a ∷ [])) performed (λ p in_p. Contains-append_left before (a ∷ []) p in_p) arrived) (Contains-push before a) in
      now_same (grown_now rules performed a) (before ++ a ∷ []) later one_too more
      ∙ ap (λ b. performed_after rules (cond b (performed ++ a ∷ []) performed) later) same

  performed-same : (arrivals : List (Arrival C)) → OneExpiration arrivals → performed_now rules arrivals ≡ performed_of rules arrivals
  performed-same arrivals one = now_same [] [] arrivals one tt

  -- where all agree, the outcome that is held in time is the one that is kept
  held_kept : (key : RequestKey) (expiration clock : ℕ) (state : S) (ps : List (Arrival C)) → clock ≤ expiration → AllAgree key expiration ps → outcome_held rules state clock key ps ≡ outcome_kept rules state key ps
  held_kept key expiration clock state [] in_time h = refl
  held_kept key expiration clock state (p ∷ ps) in_time h =
      let next = state_after_call rules.apply state (rules.asked p.content) in
      λ i. cond (live_is key expiration clock p.field in_time h.0 i) (Some (outcome_of rules.apply state (rules.asked p.content))) (held_kept key expiration clock next ps in_time h.1 i)

  answer_same-by : (opening : S) (performed : List (Arrival C)) (clock : ℕ) (r : Result K SystemName) (f : Field) → ((key : RequestKey) (expiration : ℕ) → f ≡ Present key expiration → AllAgree key expiration performed)
      → answer_now_by_field rules opening performed clock r f ≡ answer_by_field rules opening performed clock r f
  answer_same-by opening performed clock r Absent agree = refl
  answer_same-by opening performed clock r Bad agree = refl
  answer_same-by opening performed clock r (Present key expiration) agree =
      let new = new_answer rules (state_after rules opening performed) (rules.has_room key (live_keys clock performed)) r in
      elim (nat_lt expiration clock) as (λ b. nat_lt expiration clock ≡ b
      → cond b (Err BadContext) (unwrap_or (outcome_held rules opening clock key performed) new) ≡ cond b (Err BadContext) (unwrap_or (outcome_kept rules opening key performed) new)) [
        | true ↦ λ over. refl
        | false ↦ λ over. ap (λ k. unwrap_or k new) (held_kept key expiration clock opening performed (ltb-false expiration clock over) (agree key expiration refl))
      ] refl

  answer_same : (opening : S) (before : List (Arrival C)) (a : Arrival C) → OneExpiration (before ++ a ∷ []) → answer_now rules opening before a ≡ answer_of rules opening before a
  answer_same opening before a one =
      let performed = performed_now rules before in
      let arrived = performed_now-all rules (Contains before) [] before tt (all_in (Contains before) before (λ x h. h)) in
      answer_same-by opening performed a.clock (rules.asked a.content) a.field (λ key expiration is_a. agree-at performed before a key expiration one arrived is_a)
      ∙ ap (λ ps. answer_by_field rules opening ps a.clock (rules.asked a.content) a.field) (performed-same before (one-front before (a ∷ []) one))

  answers_same : (opening : S) (before later : List (Arrival C)) → OneExpiration (before ++ later) → answers_now_after rules opening before later ≡ answers_after rules opening before later
  answers_same opening before [] one = refl
  answers_same opening before (a ∷ later) one =
      let split : (before ++ a ∷ []) ++ later ≡ before ++ a ∷ later = append_assoc before (a ∷ []) later in
      let one_too : OneExpiration ((before ++ a ∷ []) ++ later) = subst OneExpiration (sym split) one in
      let here = answer_same opening before a (one-front (before ++ a ∷ []) later one_too) in
      let rest = answers_same opening (before ++ a ∷ []) later one_too in
      λ i. here i ∷ rest i

  pub now-is-ever : NowIsEver rules
  now-is-ever opening before later one = (performed-same (before ++ later) one, answers_same opening before later one)

  pub keys-answer : KeysAnswer rules
  keys-answer = record {
    table = tables-answer-now rules;
    next = tables-go-on-now rules;
    later = key-acts-later rules;
    once = key-acts-once rules;
    held = key-is-held rules;
    repeats = key-is-answered rules;
    first = key-is-first rules;
    ever = now-is-ever;
  }
