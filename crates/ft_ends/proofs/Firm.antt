-- The answer to an arrival with a key: the outcome of the performed arrival of its key, also after later arrivals; or a refusal, and
-- then it was not performed.
use Rattle.std.proofs.Common.{◌≡◌, ℕ, Bool, true, false, not, ◌&&◌, ◌||◌, cond, nat_lt, List, [], ◌∷◌, ◌++◌, Option, Some, None, Result, Ok, Err, is_some, is_ok, refl, sym, ap, ◌∙◌, subst, append_assoc}
use Rattle.std.specs.List.{list_any}
use Rattle.std.specs.Option.{unwrap_or}
use Rattle.std.proofs.lemmas.Bool.{and_from, and_right}
use Rattle.std.proofs.lemmas.Bool.Decides.{Decides-int_eq}
use Rattle.std.proofs.lemmas.List.{append-nil}
use Rattle.std.proofs.lemmas.Option.{none-some}
use Rattle.std.proofs.lemmas.Slice.Eq.{bytes_eq-Decides}
use Rattle.ft_log.specs.Keys.{RequestKey, same_key}
use Rattle.ft_log.specs.declared.system_exception.SystemName.{SystemName}
use Rattle.ft_log.specs.declared.system_exception.SystemName.TheVariants.{BadContext}
use Rattle.ft_orb.specs.ExactlyOnce.{Arrival, Field, Present, Rules, acts, answer_by_field, answer_of, has_key, is_bad, is_let_in, is_over, live_keys, new_answer, outcome_kept, outcome_of, performed_after, performed_of, state_after, state_after_call}

same_key-self : (key : RequestKey) → same_key key key ≡ true
same_key-self key = and_from _ _ ((bytes_eq-Decides key.client_id key.client_id).1 refl) ((Decides-int_eq key.retention_id key.retention_id).1 refl)

module _ {S C K O : Type 0} (rules : Rules S C K O) where
  -- the performed requests with this arrival, where it is performed
  abbrev pub grown : List (Arrival C) → Arrival C → List (Arrival C)
  grown performed a = cond (acts rules performed a) (performed ++ a ∷ []) performed

  -- whether an arrival is performed, by its field and whether it spells a call
  abbrev acts_by : List (Arrival C) → ℕ → Field → Bool → Bool
  acts_by performed clock f spells = (not (is_bad f) && (not (is_over clock f) && spells)) && is_let_in rules performed clock f

  pub performed_after-append : (performed xs ys : List (Arrival C)) → performed_after rules performed (xs ++ ys) ≡ performed_after rules (performed_after rules performed xs) ys
  performed_after-append performed [] ys = refl
  performed_after-append performed (a ∷ xs) ys = performed_after-append (grown performed a) xs ys

  grown-more : (performed : List (Arrival C)) (a : Arrival C) → (more : List (Arrival C)) × (grown performed a ≡ performed ++ more)
  grown-more performed a =
      elim (acts rules performed a) as (λ b. (more : List (Arrival C)) × (cond b (performed ++ a ∷ []) performed ≡ performed ++ more))
      [ true ↦ (a ∷ [], refl) | false ↦ ([], sym (append-nil performed)) ]

  -- what was performed stays
  pub performed_after-grows : (performed xs : List (Arrival C)) → (more : List (Arrival C)) × (performed_after rules performed xs ≡ performed ++ more)
  performed_after-grows performed [] = ([], sym (append-nil performed))
  performed_after-grows performed (a ∷ xs) =
      let first = grown-more performed a in
      let rest = performed_after-grows (grown performed a) xs in
      (first.0 ++ rest.0, rest.1 ∙ ap (λ (ps : List (Arrival C)). ps ++ rest.0) first.1 ∙ append_assoc performed first.0 rest.0)

  -- what was kept stays
  kept-append : (key : RequestKey) (state : S) (ps more : List (Arrival C)) (x : Result O SystemName) → outcome_kept rules state key ps ≡ Some x → outcome_kept rules state key (ps ++ more) ≡ Some x
  kept-append key state [] more x h = absurd (none-some x h)
  kept-append key state (p ∷ ps) more x h =
      let next = state_after_call rules.apply state (rules.asked p.content) in
      let own = outcome_of rules.apply state (rules.asked p.content) in
      elim (has_key key p.field) as (λ b. cond b (Some own) (outcome_kept rules next key ps) ≡ Some x → cond b (Some own) (outcome_kept rules next key (ps ++ more)) ≡ Some x)
      [ true ↦ λ is. is | false ↦ λ is. kept-append key next ps more x is ] h

  -- .. where a performed request has the key
  any-kept : (key : RequestKey) (state : S) (ps : List (Arrival C)) → list_any (λ p. has_key key p.field) ps ≡ is_some (outcome_kept rules state key ps)
  any-kept key state [] = refl
  any-kept key state (p ∷ ps) =
      let next = state_after_call rules.apply state (rules.asked p.content) in
      let own = outcome_of rules.apply state (rules.asked p.content) in
      elim (has_key key p.field) as (λ b. (b || list_any (λ q. has_key key q.field) ps) ≡ is_some (cond b (Some own) (outcome_kept rules next key ps)))
      [ true ↦ refl | false ↦ any-kept key next ps ]

  -- the first of a key is kept
  kept-push : (key : RequestKey) (state : S) (ps : List (Arrival C)) (a : Arrival C) → outcome_kept rules state key ps ≡ None → has_key key a.field ≡ true
      → outcome_kept rules state key (ps ++ a ∷ []) ≡ Some (outcome_of rules.apply (state_after rules state ps) (rules.asked a.content))
  kept-push key state [] a none has = ap (λ b. cond b (Some (outcome_of rules.apply state (rules.asked a.content))) None) has
  kept-push key state (p ∷ ps) a none has =
      let next = state_after_call rules.apply state (rules.asked p.content) in
      let own = outcome_of rules.apply state (rules.asked p.content) in
      elim (has_key key p.field) as (λ b. cond b (Some own) (outcome_kept rules next key ps) ≡ None
      → cond b (Some own) (outcome_kept rules next key (ps ++ a ∷ [])) ≡ Some (outcome_of rules.apply (state_after rules next ps) (rules.asked a.content)))
      [ true ↦ λ is. absurd (none-some own (sym is)) | false ↦ λ is. kept-push key next ps a is has ] none

  -- an answer among all arrivals, to one that came after these
  abbrev pub IsFirm : S → List (Arrival C) → List (Arrival C) → Arrival C → RequestKey → Result O SystemName → Type 0
  IsFirm opening all before a key (Ok outcome) = outcome_kept rules opening key (performed_of rules all) ≡ Some (Ok outcome)
  IsFirm opening all before a key (Err refusal) = acts rules (performed_of rules before) a ≡ false

  module _ (opening : S) (before later : List (Arrival C)) (a : Arrival C) (key : RequestKey) (expiration : ℕ) (field : a.field ≡ Present key expiration) where
    abbrev held : List (Arrival C)
    held = performed_of rules before

    -- the arrivals performed after it
    all-held : (ps : List (Arrival C)) → grown held a ≡ ps → (more : List (Arrival C)) × (performed_of rules (before ++ a ∷ later) ≡ ps ++ more)
    all-held ps is =
        let rest = performed_after-grows (grown held a) later in
        (rest.0, performed_after-append [] before (a ∷ later) ∙ rest.1 ∙ ap (λ (qs : List (Arrival C)). qs ++ rest.0) is)

    kept-all : (ps : List (Arrival C)) (x : Result O SystemName) → grown held a ≡ ps → outcome_kept rules opening key ps ≡ Some x → outcome_kept rules opening key (performed_of rules (before ++ a ∷ later)) ≡ Some x
    kept-all ps x is kept = let all = all-held ps is in ap (outcome_kept rules opening key) all.1 ∙ kept-append key opening ps all.0 x kept

    by-cases : (over : Bool) (found : Option (Result O SystemName)) (room : Bool) (r : Result K SystemName) → acts rules held a ≡ ((true && (not over && is_ok r)) && (not (is_some found) && room))
        → outcome_kept rules opening key held ≡ found → rules.asked a.content ≡ r
        → IsFirm opening (before ++ a ∷ later) before a key (cond over (Err BadContext) (unwrap_or found (new_answer rules (state_after rules opening held) room r)))
    by-cases true found room r is kept asks = is
    by-cases false (Some (Ok o)) room r is kept asks =
        let more = grown-more held a in kept-all (held ++ more.0) (Ok o) more.1 (kept-append key opening held more.0 (Ok o) kept)
    by-cases false (Some (Err refusal)) room r is kept asks = is ∙ and_right (is_ok r) (false && room) refl
    by-cases false None room (Err refusal) is kept asks = is
    by-cases false None false (Ok call) is kept asks = is
    by-cases false None true (Ok call) is kept asks =
        kept-all (held ++ a ∷ []) (Ok (rules.apply (state_after rules opening held) call).1) (ap (λ b. cond b (held ++ a ∷ []) held) is)
        (kept-push key opening held a kept (ap (has_key key) field ∙ same_key-self key) ∙ ap (λ (r : Result K SystemName). Some (outcome_of rules.apply (state_after rules opening held) r)) asks)

    pub answer-firm : IsFirm opening (before ++ a ∷ later) before a key (answer_of rules opening before a)
    answer-firm =
        let found = outcome_kept rules opening key held in
        let over = nat_lt expiration a.clock in
        let room = rules.has_room key (live_keys a.clock held) in
        let r = rules.asked a.content in
        let none = any-kept key opening held in
        let is : acts rules held a ≡ ((true && (not over && is_ok r)) && (not (is_some found) && room)) =
        ap (λ (f : Field). acts_by held a.clock f (is_ok r)) field ∙ ap (λ b. (true && (not over && is_ok r)) && (not b && room)) none in
        let answer : answer_of rules opening before a ≡ cond over (Err BadContext) (unwrap_or found (new_answer rules (state_after rules opening held) room r)) = ap (answer_by_field rules opening held a.clock r) field in
        subst (λ (x : Result O SystemName). IsFirm opening (before ++ a ∷ later) before a key x) (sym answer) (by-cases over found room r is refl refl)
