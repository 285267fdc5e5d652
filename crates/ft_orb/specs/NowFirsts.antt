-- With each key by itself: requests without a key, those that are refused, repeats over a past, and who finds room. Firsts that ask
-- for a call are in `KeyIsFirst`. Nothing is asked of what others carry.
use Rattle.std.specs.Prelude.{◌≡◌, ℕ, ◌*◌, ◌<◌, ◌≤◌, IsFalse, List, [], ◌∷◌, ◌++◌, Ok, Err}
use Rattle.ft_log.specs.Keys.{RequestKey, clients_in, held_of}
use Rattle.ft_log.specs.declared.system_exception.SystemName.{SystemName}
use Rattle.ft_log.specs.declared.system_exception.SystemName.TheVariants.{BadContext, Marshal, NoResources}
use Rattle.ft_orb.specs.ExactlyOnce.{Absent, Arrival, Bad, ClocksGrow, Present, Rules, live_keys, outcome_of, state_after}
use Rattle.ft_orb.specs.History.{Event, arrivals, clock, completed}
use Rattle.ft_orb.specs.Now.{IsIdleNow, answer_now, is_held, performed_now}
use Rattle.ft_orb.specs.Outputs.{Made}
use Rattle.ft_orb.specs.Requests.{Wanted, asked_of, rules_of}
use Rattle.ft_objects.specs.Servants.{Meaning}

module _ {State Content Call Outcome : Type 0} (rules : Rules State Content Call Outcome) where
  -- after these arrivals the next one is answered with this refusal, and is not performed
  abbrev pub IsRefusedNow : State → List (Arrival Content) → Arrival Content → SystemName → Type 0
  IsRefusedNow opening arrivals a refusal = (answer_now rules opening arrivals a ≡ Err refusal) × IsIdleNow rules arrivals a

  -- A request that carries no key and asks for a call is performed, each time, and is answered with its outcome ..
  abbrev pub KeylessAct : Type 0
  KeylessAct = (opening : State) (arrivals : List (Arrival Content)) (a : Arrival Content) (call : Call) → a.field ≡ Absent → rules.asked a.content ≡ Ok call
      → (answer_now rules opening arrivals a ≡ Ok (rules.apply (state_after rules opening (performed_now rules arrivals)) call).1) × (performed_now rules (arrivals ++ a ∷ []) ≡ performed_now rules arrivals ++ a ∷ [])

  -- .. and one that asks for no call is answered with what refuses it, and is not performed.
  abbrev pub KeylessWithoutCall : Type 0
  KeylessWithoutCall = (opening : State) (arrivals : List (Arrival Content)) (a : Arrival Content) (refusal : SystemName) → a.field ≡ Absent → rules.asked a.content ≡ Err refusal → IsRefusedNow opening arrivals a refusal

  -- So is a request whose key is not held, not after its expiration, that asks for no call; and its key is not held afterwards, so
  -- that the next request with it is a first again.
  abbrev pub FirstWithoutCall : Type 0
  FirstWithoutCall = (opening : State) (arrivals : List (Arrival Content)) (a : Arrival Content) (key : RequestKey) (expiration : ℕ) (refusal : SystemName)
      → a.field ≡ Present key expiration → a.clock ≤ expiration → rules.asked a.content ≡ Err refusal → IsFalse (is_held (performed_now rules arrivals) a.clock key)
      → IsRefusedNow opening arrivals a refusal × ((later : ℕ) → a.clock ≤ later → IsFalse (is_held (performed_now rules (arrivals ++ a ∷ [])) later key))

  -- A request that comes after its expiration is answered BAD_CONTEXT, and is not performed, whether its key is held or not.
  abbrev pub ExpiredAreRefusedNow : Type 0
  ExpiredAreRefusedNow = (opening : State) (arrivals : List (Arrival Content)) (a : Arrival Content) (key : RequestKey) (expiration : ℕ) → a.field ≡ Present key expiration → expiration < a.clock → IsRefusedNow opening arrivals a BadContext

  -- A request whose FT_REQUEST is not valid is answered MARSHAL, and is not performed.
  abbrev pub InvalidAreRefusedNow : Type 0
  InvalidAreRefusedNow = (opening : State) (arrivals : List (Arrival Content)) (a : Arrival Content) → a.field ≡ Bad → IsRefusedNow opening arrivals a Marshal

  -- all of these
  pub record OthersAnswer : Type 0 where
    pub keyless : KeylessAct
    pub nothing : KeylessWithoutCall
    pub first : FirstWithoutCall
    pub expired : ExpiredAreRefusedNow
    pub invalid : InvalidAreRefusedNow

module _ {State : Type 0} (meaning : Meaning State) (made : Made State) where
  -- After these arrivals the next one is answered with the outcome of each performed one that has its key, where neither has expired,
  -- and is not performed: as `KeyIsHeld`, without its premise on the clock of the one that was performed.
  abbrev pub RepeatsFirst : List (Arrival Wanted) → Arrival Wanted → Type 0
  RepeatsFirst before a =
      (front rest : List (Arrival Wanted)) (p : Arrival Wanted) (key : RequestKey) (early late : ℕ) → performed_now (rules_of meaning made.capacity made.share) before ≡ front ++ p ∷ rest
      → p.field ≡ Present key early → a.field ≡ Present key late → a.clock ≤ early → a.clock ≤ late
      → (answer_now (rules_of meaning made.capacity made.share) made.opening before a ≡ outcome_of (rules_of meaning made.capacity made.share).apply (state_after (rules_of meaning made.capacity made.share) made.opening front) (asked_of meaning.interface p.content))
      × IsIdleNow (rules_of meaning made.capacity made.share) before a

-- A repeat of what was performed in a past is answered so, at the clock of the past or later ..
abbrev pub RepeatsAnswerNow : {State : Type 0} → Meaning State → Type 0
RepeatsAnswerNow {State} meaning = (made : Made State) (past : List Event) (a : Arrival Wanted) → clock past ≤ a.clock → RepeatsFirst meaning made (arrivals made.limits past) a

-- .. and so is each that an event brings, also of what came before it in the same event.
abbrev pub RepeatsInEventsAnswerNow : {State : Type 0} → Meaning State → Type 0
RepeatsInEventsAnswerNow {State} meaning =
    (made : Made State) (past : List Event) (e : Event) (front rest : List (Arrival Wanted)) (a : Arrival Wanted)
    → completed made.limits past e ≡ front ++ a ∷ rest → RepeatsFirst meaning made (arrivals made.limits past ++ front) a

-- Where the capacity is enough for the share of each client that has a live key, and of the one that asks, only a client that has
-- used up its own share is answered NO_RESOURCES: clients that came before and whose keys have all expired do not count.
abbrev pub RoomForLiveClients : {State : Type 0} → Meaning State → Type 0
RoomForLiveClients {State} meaning =
    (capacity share : ℕ) (opening : State) (arrivals : List (Arrival Wanted)) (a : Arrival Wanted) (key : RequestKey) (expiration : ℕ)
    → ClocksGrow 0 (arrivals ++ a ∷ []) → share * clients_in (key ∷ live_keys a.clock (performed_now (rules_of meaning capacity share) arrivals)) ≤ capacity
    → a.field ≡ Present key expiration → answer_now (rules_of meaning capacity share) opening arrivals a ≡ Err NoResources
    → share ≤ held_of key.client_id (live_keys a.clock (performed_now (rules_of meaning capacity share) arrivals))
