-- With each key by itself: what requests get that are no repeat and no first with a call, repeats over a past, and room for clients
-- that have live keys.
use Rattle.std.proofs.Common.{◌≡◌, ◌==◌, ℕ, ◌+◌, ◌*◌, ◌≤◌, true, false, not, ◌&&◌, ◌||◌, cond, bytes_eq, nat_le, nat_lt, length, List, [], ◌∷◌, ◌++◌, Ok, Err, is_ok, refl, sym, ap, ◌∙◌, subst, arith, append_assoc}
use Rattle.std.specs.List.{AllByRecursion, list_any}
use Rattle.std.specs.Option.{unwrap_or}
use Rattle.std.proofs.lemmas.Bool.{le-ltb, leb-false, lt-leb, lt-ltb, or_from, or_parts, true≢false}
use Rattle.ft_log.specs.Keys.{RequestKey, clients_in, held_of, same_key}
use Rattle.ft_log.specs.declared.system_exception.SystemName.TheVariants.{BadContext}
use Rattle.ft_orb.specs.ExactlyOnce.{Absent, Arrival, Bad, ClocksGrow, Field, Present, Rules, clock_after, live_keys, new_answer, outcome_of, state_after}
use Rattle.ft_orb.specs.History.{arrivals}
use Rattle.ft_orb.specs.Now.{IsIdleNow, answer_now, has_live_key, is_held, is_let_in_now, outcome_held, performed_now}
use Rattle.ft_orb.specs.NowFirsts.{ExpiredAreRefusedNow, FirstWithoutCall, InvalidAreRefusedNow, KeylessAct, KeylessWithoutCall, OthersAnswer, RepeatsAnswerNow, RepeatsInEventsAnswerNow, RoomForLiveClients}
use Rattle.ft_orb.specs.Requests.{Wanted, asked_of, rules_of}
use Rattle.ft_objects.specs.Servants.{Meaning}
use Rattle.ft_orb.proofs.Asking.{asked-never}
use Rattle.ft_orb.proofs.Folded.{ClocksGrow-append, ClocksGrow-front}
use Rattle.ft_orb.proofs.Headline.{arrivals-grow, event-clocks}
use Rattle.ft_orb.proofs.Now.{all_middle, answer_at, grows, held-none, key-is-held, performed_now-all}
use Rattle.ft_orb.proofs.Shares.{AllAmong, IsAmong, bytes_same, held_of-cons, or_right, same_client}
use Rattle.ft_orb.proofs.SharesNow.{fair-among}

-- what holds nothing of a key holds nothing of it later
live-later : (clock later : ℕ) (key : RequestKey) (f : Field) → clock ≤ later → has_live_key clock key f ≡ false → has_live_key later key f ≡ false
live-later clock later key Absent h none = refl
live-later clock later key Bad h none = refl
live-later clock later key (Present other e) h none =
    elim (same_key key other) as (λ b. (b && nat_le clock e) ≡ false → (b && nat_le later e) ≡ false)
    [ true ↦ λ is. let less = leb-false clock e is in lt-leb later e (omega (arith, h, less)) | false ↦ λ is. refl ] none

-- an arrival comes no later than this
abbrev NotAfter : {C : Type 0} → ℕ → Arrival C → Type 0
NotAfter clock x = x.clock ≤ clock

module _ {C : Type 0} where
  free-later : (clock later : ℕ) (key : RequestKey) (ps : List (Arrival C)) → clock ≤ later → is_held ps clock key ≡ false → is_held ps later key ≡ false
  free-later clock later key [] h none = refl
  free-later clock later key (p ∷ ps) h none =
      let parts = or_parts (has_live_key clock key p.field) (is_held ps clock key) none in
      or_from (has_live_key later key p.field) (is_held ps later key) (live-later clock later key p.field h parts.0) (free-later clock later key ps h parts.1)

  -- where clocks grow, none before the last is greater than the last
  last-greatest : (clock : ℕ) (xs : List (Arrival C)) (a : Arrival C) → ClocksGrow clock (xs ++ a ∷ []) → clock ≤ a.clock
  last-greatest clock [] a grow = grow.0
  last-greatest clock (x ∷ xs) a grow = let rest = last-greatest x.clock xs a grow.1 in let here = grow.0 in omega (arith, here, rest)

  none-greater : (clock : ℕ) (xs : List (Arrival C)) (a : Arrival C) → ClocksGrow clock (xs ++ a ∷ []) → AllByRecursion (NotAfter a.clock) xs
  none-greater clock [] a grow = tt
  none-greater clock (x ∷ xs) a grow = (last-greatest x.clock xs a grow.1, none-greater x.clock xs a grow.1)

module _ {S C K O : Type 0} (rules : Rules S C K O) where
  pub keyless-act : KeylessAct rules
  keyless-act opening arrivals a call is asks = (answer_at rules opening arrivals a Absent (Ok call) is asks, grows rules arrivals a Absent (Ok call) true is asks refl)

  pub keyless-without-call : KeylessWithoutCall rules
  keyless-without-call opening arrivals a refusal is asks = (answer_at rules opening arrivals a Absent (Err refusal) is asks, grows rules arrivals a Absent (Err refusal) false is asks refl)

  pub first-without-call : FirstWithoutCall rules
  first-without-call opening arrivals a key expiration refusal is in_time asks free =
      let performed = performed_now rules arrivals in
      let room = rules.has_room key (live_keys a.clock performed) in
      let over : nat_lt expiration a.clock ≡ false = le-ltb expiration a.clock in_time in
      let none = held-none rules opening a.clock key performed free in
      let idle : IsIdleNow rules arrivals a = grows rules arrivals a (Present key expiration) (Err refusal) false is asks (λ i. (true && (not (over i) && false)) && (not (is_held performed a.clock key) && room)) in (
        (
          answer_at rules opening arrivals a (Present key expiration) (Err refusal) is asks
              ∙ (λ i. cond (over i) (Err BadContext) (unwrap_or (none i) (new_answer rules (state_after rules opening performed) room (Err refusal)))),
          idle,
        ),
        λ later h. ap (λ ps. is_held ps later key) idle ∙ free-later a.clock later key performed h free,
      )

  pub expired-are-refused-now : ExpiredAreRefusedNow rules
  expired-are-refused-now opening arrivals a key expiration is h =
      let performed = performed_now rules arrivals in
      let asks = rules.asked a.content in
      let over : nat_lt expiration a.clock ≡ true = lt-ltb expiration a.clock h in
      let other = unwrap_or (outcome_held rules opening a.clock key performed) (new_answer rules (state_after rules opening performed) (rules.has_room key (live_keys a.clock performed)) asks) in (
        answer_at rules opening arrivals a (Present key expiration) asks is refl ∙ ap (λ b. cond b (Err BadContext) other) over,
        grows rules arrivals a (Present key expiration) asks false is refl (ap (λ b. (true && (not b && is_ok asks)) && is_let_in_now rules performed a.clock (Present key expiration)) over),
      )

  pub invalid-are-refused-now : InvalidAreRefusedNow rules
  invalid-are-refused-now opening arrivals a is = let asks = rules.asked a.content in (answer_at rules opening arrivals a Bad asks is refl, grows rules arrivals a Bad asks false is refl refl)

  pub others-answer : OthersAnswer rules
  others-answer = record { keyless = keyless-act; nothing = keyless-without-call; first = first-without-call; expired = expired-are-refused-now; invalid = invalid-are-refused-now }

  -- where clocks grow, a repeat comes no earlier than what was performed
  repeat-grow : (opening : S) (arrivals front rest : List (Arrival C)) (p a : Arrival C) (key : RequestKey) (early late : ℕ) → ClocksGrow 0 (arrivals ++ a ∷ []) → performed_now rules arrivals ≡ front ++ p ∷ rest
      → p.field ≡ Present key early → a.field ≡ Present key late → a.clock ≤ early → a.clock ≤ late
      → (answer_now rules opening arrivals a ≡ outcome_of rules.apply (state_after rules opening front) (rules.asked p.content)) × IsIdleNow rules arrivals a
  repeat-grow opening arrivals front rest p a key early late grow is is_p is_a in_first in_time =
      let performed = performed_now-all rules (NotAfter a.clock) [] arrivals tt (none-greater 0 arrivals a grow) in
      key-is-held rules opening arrivals front rest p a key early late is is_p is_a (all_middle (NotAfter a.clock) front rest p (subst (AllByRecursion (NotAfter a.clock)) is performed)) in_first in_time

pub repeats-answer-now : {State : Type 0} (meaning : Meaning State) → RepeatsAnswerNow meaning
repeats-answer-now {State} meaning made past a h front rest p key early late is is_p is_a in_first in_time =
    let before = arrivals-grow made.limits past in
    let last = before.1 in
    let grow : ClocksGrow 0 (arrivals made.limits past ++ a ∷ []) = ClocksGrow-append 0 (arrivals made.limits past) (a ∷ []) before.0 (omega (arith, last, h), tt) in
    repeat-grow (rules_of meaning made.capacity made.share) made.opening (arrivals made.limits past) front rest p a key early late grow is is_p is_a in_first in_time

pub repeats-in-events-answer-now : {State : Type 0} (meaning : Meaning State) → RepeatsInEventsAnswerNow meaning
repeats-in-events-answer-now {State} meaning made past e earlier others a brings front rest p key early late is is_p is_a in_first in_time =
    let xs = arrivals made.limits past in
    let before = arrivals-grow made.limits past in
    let all : ClocksGrow 0 (xs ++ (earlier ++ a ∷ others)) =
    ClocksGrow-append 0 xs (earlier ++ a ∷ others) before.0 (subst (λ (l : List (Arrival Wanted)). ClocksGrow (clock_after 0 xs) l) brings (event-clocks made.limits past e (clock_after 0 xs) before.1).0) in
    let split : xs ++ (earlier ++ a ∷ others) ≡ ((xs ++ earlier) ++ a ∷ []) ++ others = sym (append_assoc xs earlier (a ∷ others)) ∙ sym (append_assoc (xs ++ earlier) (a ∷ []) others) in
    let grow : ClocksGrow 0 ((xs ++ earlier) ++ a ∷ []) = ClocksGrow-front 0 ((xs ++ earlier) ++ a ∷ []) others (subst (λ (l : List (Arrival Wanted)). ClocksGrow 0 l) split all) in
    repeat-grow (rules_of meaning made.capacity made.share) made.opening (xs ++ earlier) front rest p a key early late grow is is_p is_a in_first in_time

-- the clients of keys, each once, at its last key
abbrev pub owners : List RequestKey → List (List ℕ)
owners [] = []
owners (k ∷ ks) = cond (held_of k.client_id ks == 0) (k.client_id ∷ owners ks) (owners ks)

pub owners-length : (ks : List RequestKey) → length (owners ks) ≡ clients_in ks
owners-length [] = refl
owners-length (k ∷ ks) =
    let rest = owners-length ks in
    elim (held_of k.client_id ks == 0) as (λ b. length (cond b (k.client_id ∷ owners ks) (owners ks)) ≡ cond b 1 0 + clients_in ks) [ true ↦ omega (arith, rest) | false ↦ omega (arith, rest) ]

owners-more : (k : RequestKey) (ks : List RequestKey) (c : List ℕ) → IsAmong (owners ks) c → IsAmong (owners (k ∷ ks)) c
owners-more k ks c h =
    elim (held_of k.client_id ks == 0) as (λ b. IsAmong (cond b (k.client_id ∷ owners ks) (owners ks)) c)
    [ true ↦ or_right (bytes_eq c k.client_id) (list_any (λ client. bytes_eq c client) (owners ks)) h | false ↦ h ]

owners-own : (k : RequestKey) (ks : List RequestKey) → ((held_of k.client_id ks == 0) ≡ false → IsAmong (owners ks) k.client_id) → IsAmong (owners (k ∷ ks)) k.client_id
owners-own k ks rest =
    elim (held_of k.client_id ks == 0) as (λ b. (held_of k.client_id ks == 0) ≡ b → IsAmong (cond b (k.client_id ∷ owners ks) (owners ks)) k.client_id) [
      | true ↦ λ is. ap (λ b. b || list_any (λ client. bytes_eq k.client_id client) (owners ks)) (bytes_same k.client_id)
      | false ↦ λ is. rest is
    ] refl

-- who has a key is one of them
owners-have : (c : List ℕ) (ks : List RequestKey) → (held_of c ks == 0) ≡ false → IsAmong (owners ks) c
owners-have c [] h = absurd (true≢false h)
owners-have c (k ∷ ks) h =
    let more = held_of-cons c k ks in
    elim (bytes_eq k.client_id c) as (λ b. bytes_eq k.client_id c ≡ b → held_of c (k ∷ ks) ≡ cond b 1 0 + held_of c ks → IsAmong (owners (k ∷ ks)) c) [
      | true ↦ λ same sum. subst (λ client. IsAmong (owners (k ∷ ks)) client) (same_client k.client_id c same) (owners-own k ks (owners-have k.client_id ks))
      | false ↦ λ other sum. owners-more k ks c (owners-have c ks (ap (λ n. n == 0) (let same : held_of c ks ≡ held_of c (k ∷ ks) = omega (arith, sum) in same) ∙ h))
    ] refl more

among-more : (clients others : List (List ℕ)) (ks : List RequestKey) → ((c : List ℕ) → IsAmong clients c → IsAmong others c) → AllAmong clients ks → AllAmong others ks
among-more clients others [] more h = tt
among-more clients others (k ∷ ks) more h = (more k.client_id h.0, among-more clients others ks more h.1)

pub owners-all : (ks : List RequestKey) → AllAmong (owners ks) ks
owners-all [] = tt
owners-all (k ∷ ks) = (owners-own k ks (owners-have k.client_id ks), among-more (owners ks) (owners (k ∷ ks)) ks (owners-more k ks) (owners-all ks))

pub room-for-live-clients : {State : Type 0} (meaning : Meaning State) → RoomForLiveClients meaning
room-for-live-clients {State} meaning capacity share opening arrivals a key expiration grow enough is answer =
    let live = live_keys a.clock (performed_now (rules_of meaning capacity share) arrivals) in
    let keys = key ∷ live in
    fair-among (asked_of meaning.interface) (λ (state : State) call. meaning.apply state call.object_key call.operation call.arguments) capacity share opening arrivals a key expiration (owners keys) (asked-never meaning.interface) grow
    (subst (λ n. share * n ≤ capacity) (sym (owners-length keys)) enough) (owners-all keys).1 (owners-all keys).0 is answer
