-- That one ticket is given at most.
use Rattle.std.proofs.Common.{◌≡◌, ℕ, zero, suc, ◌+◌, ◌≤◌, ◌==◌, pos, Bool, true, false, cond, List, [], ◌∷◌, ◌++◌, codes, length, Option, Some, None, Result, Ok, Err, refl, sym, ap, ◌∙◌, arith}
use Rattle.std.specs.List.{AllByRecursion, slice_get}
use Rattle.std.proofs.lemmas.Bool.{eqb-true}
use Rattle.std.proofs.lemmas.Option.{none-some, same_Some}
use Rattle.giop_core.specs.declared.header.Version.TheVariants.{V12}
use Rattle.giop_frames.specs.declared.limits.Limits.{Limits}
use Rattle.ft_client.specs.Lives.{call_at}
use Rattle.ft_client.specs.Messages.{Call}
use Rattle.ft_client.specs.Standing.{down}
use Rattle.ft_ends.specs.Both.{ActsOnce, AreOnce, IsSentBy}
use Rattle.ft_ends.specs.Laws.{CallsAreOfSteps, IsPartOf, both, contents, left, none, sides_of}
use Rattle.ft_ends.specs.World.{Member, Newcomer}
use Rattle.ft_log.specs.Keys.{RequestKey}
use Rattle.ft_log.specs.Performed.{Performed, returned, system}
use Rattle.ft_log.specs.declared.system_exception.Completion.TheVariants.{No}
use Rattle.ft_log.specs.declared.system_exception.SystemName.{SystemName}
use Rattle.ft_log.specs.declared.system_exception.SystemName.TheVariants.{ImpLimit}
use Rattle.ft_orb.specs.ExactlyOnce.{Arrival, Present, Rules, acts, performed_after, performed_of, state_after, state_after_call}
use Rattle.ft_orb.specs.History.{arrivals}
use Rattle.ft_orb.specs.Requests.{Call as Asked, Wanted, rules_of}
use Rattle.cdr_core.specs.Parts.{ulonglong_value}
use Rattle.cdr_core.specs.Value.{values}
use Rattle.uses.specs.Cutting.{given_at, newcomers, steps_at, world_at}
use Rattle.uses.specs.Serving.{tickets_made}
use Rattle.uses.specs.Tickets.{is_ulonglong, next, tickets_meaning}

-- Lists.

each_append : {X : Type 0} (P : X → Type 0) (xs ys : List X) → AllByRecursion P xs → AllByRecursion P ys → AllByRecursion P (xs ++ ys)
each_append P [] ys h k = k
each_append P (x ∷ xs) ys h k = (h.0, each_append P xs ys h.1 k)

pub each_weaker : {X : Type 0} (P Q : X → Type 0) → ((x : X) → P x → Q x) → (xs : List X) → AllByRecursion P xs → AllByRecursion Q xs
each_weaker P Q f [] h = tt
each_weaker P Q f (x ∷ xs) h = (f x h.0, each_weaker P Q f xs h.1)

-- A performed request takes one ticket at most.

next_few : (given : ℕ) → (next given).0 ≤ given + 1
next_few given = go (is_ulonglong (given + 1))
  where
    go : (b : Bool) → (cond {A = ℕ × Performed} b (given + 1, returned (values (ulonglong_value (given + 1) ∷ []))) (given, system ImpLimit 0 No)).0 ≤ given + 1
    go true = omega arith
    go false = omega arith

abbrev pub rules_here : Rules ℕ Wanted Asked Performed
rules_here = rules_of tickets_meaning 100 10

called_few : (given : ℕ) (asked : Result Asked SystemName) → state_after_call rules_here.apply given asked ≤ given + 1
called_few given (Ok call) = next_few given
called_few given (Err refusal) = omega arith

state_few : (given : ℕ) (ps : List (Arrival Wanted)) → state_after rules_here given ps ≤ given + length ps
state_few given [] = omega arith
state_few given (p ∷ ps) =
    let one = called_few given (rules_here.asked p.content) in
    let more = state_few (state_after_call rules_here.apply given (rules_here.asked p.content)) ps in
    omega (arith, one, more)

-- what holds of each arrival holds of each that is performed
performed_each : (P : Arrival Wanted → Type 0) (performed later : List (Arrival Wanted)) → AllByRecursion P performed → AllByRecursion P later → AllByRecursion P (performed_after rules_here performed later)
performed_each P performed [] h l = h
performed_each P performed (a ∷ later) h l = performed_each P (cond (acts rules_here performed a) (performed ++ a ∷ []) performed) later (go (acts rules_here performed a)) l.1
  where
    go : (b : Bool) → AllByRecursion P (cond b (performed ++ a ∷ []) performed)
    go true = each_append P performed (a ∷ []) h (l.0, tt)
    go false = h

-- the key of a request, with some expiration
abbrev Has : RequestKey → Arrival Wanted → Type 0
Has key a = (expiration : ℕ) × (a.field ≡ Present key expiration)

-- of requests with one key, which is performed once, there is one at most
one_of_key : (key : RequestKey) (ps : List (Arrival Wanted)) → AllByRecursion (Has key) ps → AreOnce ps → length ps ≤ 1
one_of_key key [] h once = omega arith
one_of_key key (p ∷ []) h once = omega arith
one_of_key key (p ∷ q ∷ rest) h once = absurd (once [] [] rest p q key h.0.0 h.1.0.0 refl h.0.1 h.1.0.1)

-- The client, alone, called once at most.

part-few : {A : Type 0} {xs ys : List A} → IsPartOf xs ys → length xs ≤ length ys
part-few none = omega arith
part-few (both h) = let rest = part-few h in omega (arith, rest)
part-few (left h) = let rest = part-few h in omega (arith, rest)

-- the number of its call
abbrev number_in : List (ℕ × Call) → ℕ
number_in [] = 1
number_in (x ∷ xs) = x.0

number_is : (calls : List (ℕ × Call)) (r : ℕ) (call : Call) → length calls ≤ 1 → call_at calls r ≡ Some call → r ≡ number_in calls
number_is [] r call few is = absurd (none-some call is)
number_is (x ∷ y ∷ calls) r call few is = absurd (omega (arith, few))
number_is (x ∷ []) r call few is =
    elim (x.0 == r) as (λ b. (x.0 == r) ≡ b → cond b (Some x.1) None ≡ Some call → r ≡ x.0) [ true ↦ λ same found. sym (eqb-true x.0 r same) | false ↦ λ other found. absurd (none-some call found) ] refl is

abbrev number_of : Option Member → ℕ
number_of None = 1
number_of (Some m) = number_in m.life.calls

contents_few : (calls : List (ℕ × Call)) → length (contents calls) ≡ length calls
contents_few [] = refl
contents_few (x ∷ calls) = ap suc (contents_few calls)

alone : (limits : Limits) (k : ℕ) (n : Newcomer) → slice_get (newcomers limits) k ≡ Some n → (k ≡ 0) × (n.client_id ≡ codes "A")
alone limits zero n is = (refl, ap (λ (m : Newcomer). m.client_id) (sym (same_Some (record { client_id = codes "A"; version = V12; limits = limits }) n is)))
alone limits (suc k) n is = absurd (none-some n is)

abbrev key_with : ℕ → RequestKey
key_with r = record { client_id = codes "A"; retention_id = pos r }

module _ (limits : Limits) (request reply : ℕ) (called : CallsAreOfSteps) (once : ActsOnce tickets_meaning (tickets_made limits) (newcomers limits) (world_at limits request reply)) where
  called_once : (m : Member) → slice_get (world_at limits request reply).members 0 ≡ Some m → length m.life.calls ≤ 1
  unfolding steps_at
  called_once m is = let few = part-few (called (sides_of tickets_meaning (tickets_made limits) down) (newcomers limits) (steps_at request reply) 0 m is) in let same = contents_few m.life.calls in omega (arith, few, same)

  abbrev the_key : RequestKey
  the_key = key_with (number_of (slice_get (world_at limits request reply).members 0))

  -- each request that arrives has the key of that call
  sent_has : (a : Arrival Wanted) → IsSentBy (newcomers limits) (world_at limits request reply).members a → Has the_key a
  sent_has a by =
      let at = alone limits by.place by.call.newcomer by.call.client in
      let here = ap (slice_get (world_at limits request reply).members) (sym at.0) ∙ by.call.is in
      let few = called_once by.call.member here in
      let t = by.call.sent.transmission in
      let number = number_is by.call.member.life.calls t.retention_id t.call few by.call.of_call.call ∙ sym (ap number_of here) in (
        t.call.expiration,
        by.call.sent.field ∙ ap (λ (id : List ℕ). Present (record { client_id = id; retention_id = pos t.retention_id }) t.call.expiration) (by.call.of_call.client ∙ at.1)
            ∙ ap (λ (r : ℕ). Present (record { client_id = codes "A"; retention_id = pos r }) t.call.expiration) number,
      )

  pub performed_few : length (performed_of rules_here (arrivals limits (world_at limits request reply).past)) ≤ 1
  performed_few =
      let all = each_weaker (λ a. IsSentBy (newcomers limits) (world_at limits request reply).members a) (Has the_key) sent_has (arrivals limits (world_at limits request reply).past) once.arrived in
      one_of_key the_key (performed_of rules_here (arrivals limits (world_at limits request reply).past)) (performed_each (Has the_key) [] (arrivals limits (world_at limits request reply).past) tt all) once.performed

  pub given_few : given_at limits request reply ≤ 1
  given_few = let state = state_few 0 (performed_of rules_here (arrivals limits (world_at limits request reply).past)) in omega (arith, performed_few, state)
