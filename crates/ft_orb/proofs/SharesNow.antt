-- Room for each client with each key by itself: where clocks grow no client has more live keys than its share.
use Rattle.std.proofs.Common.{◌≡◌, ℕ, ◌*◌, ◌≤◌, true, false, not, cond, length, nat_le, nat_lt, List, [], ◌∷◌, ◌++◌, Some, None, Result, Err, refl, sym, ap, ◌∙◌, subst, arith}
use Rattle.std.specs.List.{cons_option}
use Rattle.std.specs.Option.{unwrap_or}
use Rattle.std.proofs.lemmas.Bool.{and_from, and_parts, false≢true, ltb-false, ltb-true, lt-ltb, true≢false}
use Rattle.std.proofs.lemmas.List.{append-nil}
use Rattle.std.proofs.lemmas.List.Elements.{filter_map-append}
use Rattle.ft_log.specs.Keys.{RequestKey, has_room_for, held_of}
use Rattle.ft_log.specs.Kept.{kept_for, unexpired}
use Rattle.ft_log.specs.declared.system_exception.SystemName.{SystemName}
use Rattle.ft_log.specs.declared.system_exception.SystemName.TheVariants.{BadContext, NoResources}
use Rattle.ft_orb.specs.ExactlyOnce.{Absent, Arrival, Bad, ClocksGrow, Field, Present, Rules, clock_after, is_admissible, live_key, live_keys, new_answer, state_after}
use Rattle.ft_orb.specs.Now.{RoomForEachClientNow, acts_now, answer_now, answer_now_by_field, is_held, is_let_in_now, performed_now, performed_now_after}
use Rattle.ft_orb.specs.Requests.{asked_of}
use Rattle.ft_objects.specs.Servants.{Meaning}
use Rattle.ft_orb.specs.Shares.{clients_of}
use Rattle.ft_orb.specs.Table.{remembered}
use Rattle.ft_orb.proofs.Asking.{asked-never}
use Rattle.ft_orb.proofs.Folded.{ClocksGrow-front}
use Rattle.ft_orb.proofs.Law.{AllFields, AllFields-push}
use Rattle.ft_orb.proofs.Now.{grown_now, outcome_held-is, performed_now-calls}
use Rattle.ft_orb.proofs.Shares.{AllAmong, AllFields-front, AllFields-last, ClocksGrow-last, HasClient, IsAmong, Within, clients_of-all, held_of-later, length-total, live_keys-among, refused, total-below, within-push}

module _ {S C K O : Type 0} (rules : Rules S C K O) where
  grown_now-fields : (Q : Field → Type 0) (performed : List (Arrival C)) (a : Arrival C) → AllFields Q performed → Q a.field → AllFields Q (grown_now rules performed a)
  grown_now-fields Q performed a h is =
      elim (acts_now rules performed a) as (λ b. AllFields Q (cond b (performed ++ a ∷ []) performed))
      [ true ↦ AllFields-push Q performed a h is | false ↦ h ]

  performed_now-fields : (Q : Field → Type 0) (performed arrivals : List (Arrival C)) → AllFields Q performed → AllFields Q arrivals → AllFields Q (performed_now_after rules performed arrivals)
  performed_now-fields Q performed [] h later = h
  performed_now-fields Q performed (a ∷ rest) h later = performed_now-fields Q (grown_now rules performed a) rest (grown_now-fields Q performed a h later.0) later.1

module _ {S C K O : Type 0} (asked : C → Result K SystemName) (apply : S → K → S × O) (capacity share : ℕ) where
  abbrev rules : Rules S C K O
  rules = record { asked = asked; apply = apply; has_room = has_room_for capacity share }

  -- what acts keeps each client within its share
  push-within : (clock : ℕ) (performed : List (Arrival C)) (f : Field) → is_let_in_now rules performed clock f ≡ true → Within share (live_keys clock performed) → Within share (live_keys clock performed ++ cons_option (live_key clock f) [])
  push-within clock performed Absent lets all = λ client. omega (arith, sum_by-none client (live_keys clock performed), all client)
    where
      sum_by-none : (client : List ℕ) (ks : List RequestKey) → held_of client (ks ++ []) ≡ held_of client ks
      sum_by-none client ks = ap (held_of client) (append-nil ks)
  push-within clock performed Bad lets all = absurd (false≢true lets)
  push-within clock performed (Present key e) lets all =
      let room = (and_parts (not (is_held performed clock key)) (has_room_for capacity share key (live_keys clock performed)) lets).1 in
      let own = ltb-true (held_of key.client_id (live_keys clock performed)) share (and_parts (nat_lt (length (live_keys clock performed)) capacity) (nat_lt (held_of key.client_id (live_keys clock performed)) share) room).1 in
      elim (nat_le clock e) as (λ b. Within share (live_keys clock performed ++ cons_option (cond b (Some key) None) []))
      [ true ↦ within-push (live_keys clock performed) key share all own | false ↦ λ client. omega (arith, ap (held_of client) (append-nil (live_keys clock performed)), all client) ]

  pub grown_now-within : (clock : ℕ) (performed : List (Arrival C)) (a : Arrival C) → clock ≤ a.clock → Within share (live_keys clock performed) → Within share (live_keys a.clock (grown_now rules performed a))
  grown_now-within clock performed a h all =
      let now : Within share (live_keys a.clock performed) = λ client. omega (arith, all client, held_of-later client clock a.clock performed h) in
      elim (acts_now rules performed a) as (λ b. acts_now rules performed a ≡ b → Within share (live_keys a.clock (cond b (performed ++ a ∷ []) performed))) [
        | true ↦ λ is. subst (Within share) (sym (filter_map-append (λ p. live_key a.clock p.field) performed (a ∷ []))) (push-within a.clock performed a.field (and_parts (is_admissible rules a) (is_let_in_now rules performed a.clock a.field) is).1 now)
        | false ↦ λ is. now
      ] refl

  performed_now-within : (clock : ℕ) (performed arrivals : List (Arrival C)) → ClocksGrow clock arrivals → Within share (live_keys clock performed) → Within share (live_keys (clock_after clock arrivals) (performed_now_after rules performed arrivals))
  performed_now-within clock performed [] grow all = all
  performed_now-within clock performed (a ∷ later) grow all = performed_now-within a.clock (grown_now rules performed a) later grow.1 (grown_now-within clock performed a grow.0 all)

  -- only a client that has used up its share is refused because there is no room, where there is enough for the clients of live keys
  pub fair-among : (opening : S) (arrivals : List (Arrival C)) (a : Arrival C) (key : RequestKey) (expiration : ℕ) (clients : List (List ℕ)) → ((content : C) (refusal : SystemName) → asked content ≡ Err refusal → refusal ≡ NoResources → ⊥)
      → ClocksGrow 0 (arrivals ++ a ∷ []) → share * length clients ≤ capacity → AllAmong clients (live_keys a.clock (performed_now rules arrivals)) → IsAmong clients key.client_id
      → a.field ≡ Present key expiration → answer_now rules opening arrivals a ≡ Err NoResources → share ≤ held_of key.client_id (live_keys a.clock (performed_now rules arrivals))
  fair-among opening arrivals a key expiration clients never grow enough among own_in is answer =
      let performed = performed_now rules arrivals in
      let live = live_keys a.clock performed in
      let within : Within share live = λ client. omega (arith, performed_now-within 0 [] arrivals (ClocksGrow-front 0 arrivals (a ∷ []) grow) (λ c. omega arith) client, held_of-later client (clock_after 0 arrivals) a.clock performed (ClocksGrow-last 0 arrivals a grow)) in
      let state = state_after rules opening performed in
      let answer_is : answer_now_by_field rules opening performed a.clock (asked a.content) (Present key expiration) ≡ Err NoResources = ap (answer_now_by_field rules opening performed a.clock (asked a.content)) (sym is) ∙ answer in
      let kept_is = outcome_held-is rules a.clock key opening performed (performed_now-calls rules [] arrivals tt) in
      let no_room : has_room_for capacity share key live ≡ false =
      refused asked apply capacity share (nat_lt expiration a.clock) (kept_for key (unexpired a.clock (remembered rules opening performed))) (asked a.content) (has_room_for capacity share key live) state (never a.content)
      (ap (λ k. cond (nat_lt expiration a.clock) (Err BadContext) (unwrap_or k (new_answer rules state (has_room_for capacity share key live) (asked a.content)))) (sym kept_is) ∙ answer_is) in
      elim (nat_lt (held_of key.client_id live) share) as (λ b. nat_lt (held_of key.client_id live) share ≡ b → share ≤ held_of key.client_id live) [
        | true ↦ λ own. absurd (true≢false (sym (and_from (nat_lt (length live) capacity) (nat_lt (held_of key.client_id live) share)
            (lt-ltb (length live) capacity (omega (arith, length-total clients live among, total-below clients live share key.client_id within own_in (ltb-true _ _ own), enough))) own) ∙ no_room))
        | false ↦ λ own. ltb-false _ _ own
      ] refl

  -- and so for the clients of all arrivals
  pub fair-now : (opening : S) (arrivals : List (Arrival C)) (a : Arrival C) (key : RequestKey) (expiration : ℕ) → ((content : C) (refusal : SystemName) → asked content ≡ Err refusal → refusal ≡ NoResources → ⊥)
      → ClocksGrow 0 (arrivals ++ a ∷ []) → share * length (clients_of (arrivals ++ a ∷ [])) ≤ capacity → a.field ≡ Present key expiration → answer_now rules opening arrivals a ≡ Err NoResources
      → share ≤ held_of key.client_id (live_keys a.clock (performed_now rules arrivals))
  fair-now opening arrivals a key expiration never grow enough is answer =
      let clients = clients_of (arrivals ++ a ∷ []) in
      let all_in = clients_of-all (arrivals ++ a ∷ []) in
      let front_in = AllFields-front (HasClient clients) arrivals (a ∷ []) all_in in
      let among = live_keys-among clients a.clock (performed_now rules arrivals) (performed_now-fields rules (HasClient clients) [] arrivals tt front_in) in
      let own_in : HasClient clients (Present key expiration) = subst (HasClient clients) is (AllFields-last (HasClient clients) arrivals a all_in) in
      fair-among opening arrivals a key expiration clients never grow enough among own_in is answer

pub room-for-each-client-now : {State : Type 0} (meaning : Meaning State) → RoomForEachClientNow meaning
room-for-each-client-now {State} meaning capacity share opening arrivals a key expiration grow enough is answer =
    fair-now (asked_of meaning.interface) (λ (state : State) call. meaning.apply state call.object_key call.operation call.arguments) capacity share opening arrivals a key expiration (asked-never meaning.interface) grow enough is answer
