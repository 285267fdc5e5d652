-- That a call that returns gets the first ticket.
use Rattle.std.proofs.Common.{◌≡◌, ℕ, ◌≤◌, Bool, true, false, cond, List, [], ◌∷◌, length, map, Option, Some, None, Result, Ok, Err, IfOk, refl, sym, ap, ◌∙◌, subst, arith}
use Rattle.std.specs.List.{AllByRecursion}
use Rattle.std.proofs.lemmas.Option.{none-some, same_Some}
use Rattle.std.proofs.lemmas.Result.{IfOk-at_ok}
use Rattle.giop_frames.specs.declared.limits.Limits.{Limits}
use Rattle.ft_client.specs.Clients.{Cancelled, Ended, Expired, NeedsAddressing, Sent, Told}
use Rattle.ft_ends.specs.Both.{ActsOnce, Answers, Explains, IsExplainedAs, ended_of}
use Rattle.ft_ends.specs.Laws.{CallsAreOfSteps}
use Rattle.ft_ends.specs.Playing.{numbered}
use Rattle.ft_log.specs.Keys.{RequestKey}
use Rattle.ft_log.specs.Performed.{Performed}
use Rattle.ft_log.specs.declared.system_exception.SystemName.{SystemName}
use Rattle.ft_orb.specs.ExactlyOnce.{Arrival, answer_of, has_key, outcome_kept, outcome_of, performed_of}
use Rattle.ft_orb.specs.History.{arrivals}
use Rattle.ft_objects.specs.Replies.{answered_as}
use Rattle.ft_orb.specs.Requests.{Call as Asked, Wanted}
use Rattle.uses.specs.Cutting.{IsFirst, first_ticket, newcomers, world_at}
use Rattle.uses.specs.Serving.{tickets_made}
use Rattle.uses.specs.Tickets.{tickets_meaning}
use Rattle.uses.proofs.OneTicket.{each_weaker, performed_few, rules_here}

-- Lists.

each_map : {X Y : Type 0} (P : Y → Type 0) (f : X → Y) (xs : List X) → AllByRecursion (λ x. P (f x)) xs → AllByRecursion P (map f xs)
each_map P f [] h = tt
each_map P f (x ∷ xs) h = (h.0, each_map P f xs h.1)

pub each_unmap : {X Y : Type 0} (P : Y → Type 0) (f : X → Y) (xs : List X) → AllByRecursion P (map f xs) → AllByRecursion (λ x. P (f x)) xs
each_unmap P f [] h = tt
each_unmap P f (x ∷ xs) h = (h.0, each_unmap P f xs h.1)

-- the outcome of the one performed request
asked_first : (asked : Result Asked SystemName) → IfOk (outcome_of rules_here.apply 0 asked) (λ p. p ≡ first_ticket)
asked_first (Ok call) = refl
asked_first (Err refusal) = tt

kept_first : (key : RequestKey) (ps : List (Arrival Wanted)) (p : Performed) → length ps ≤ 1 → outcome_kept rules_here 0 key ps ≡ Some (Ok p) → p ≡ first_ticket
kept_first key [] p few is = absurd (none-some (Ok p) is)
kept_first key (a ∷ b ∷ rest) p few is = absurd (omega (arith, few))
kept_first key (a ∷ []) p few is = go (has_key key a.field) is
  where
    go : (here : Bool) → cond {A = Option (Result Performed SystemName)} here (Some (outcome_of rules_here.apply 0 (rules_here.asked a.content))) None ≡ Some (Ok p) → p ≡ first_ticket
    go true is = IfOk-at_ok (λ (q : Performed). q ≡ first_ticket) (same_Some (outcome_of rules_here.apply 0 (rules_here.asked a.content)) (Ok p) is) (asked_first (rules_here.asked a.content))
    go false is = absurd (none-some (Ok p) is)

-- how a call ends by its answer
answer_first : (answer : Result Performed SystemName) (ended : Ended) → ended ≡ ended_of (answered_as answer) → ((p : Performed) → answer ≡ Ok p → p ≡ first_ticket) → IsFirst ended
answer_first (Ok p) ended is h = subst IsFirst (sym (is ∙ ap ended_of (h p refl))) refl
answer_first (Err name) ended is h = subst IsFirst (sym is) tt

module _ (limits : Limits) (request reply : ℕ) (called : CallsAreOfSteps) (once : ActsOnce tickets_meaning (tickets_made limits) (newcomers limits) (world_at limits request reply)) where
  explained_first : (key : RequestKey) (ended : Ended) → Explains tickets_meaning (tickets_made limits) (world_at limits request reply).past key ended → IsFirst ended
  explained_first key ended e =
      answer_first (answer_of rules_here 0 e.before e.arrival) ended e.is
      (λ p is. kept_first key (performed_of rules_here (arrivals limits (world_at limits request reply).past)) p (performed_few limits request reply called once)
      (subst (λ (answer : Result Performed SystemName). Answers tickets_meaning (tickets_made limits) (world_at limits request reply).past e.before e.arrival key answer) is e.answers))

  ended_first : (k r : ℕ) (ended : Ended) → IsExplainedAs tickets_meaning (tickets_made limits) (newcomers limits) (world_at limits request reply) k r ended → IsFirst ended
  ended_first k r Expired h = tt
  ended_first k r Cancelled h = tt
  ended_first k r NeedsAddressing h = tt
  ended_first k r Sent h = tt
  ended_first k r (Told status body) h = explained_first h.0 (Told status body) h.2

  pub completed_first : AllByRecursion (λ (x : _). IsFirst x.2) (map numbered (world_at limits request reply).completions)
  completed_first =
      each_map (λ x. IsFirst x.2) numbered (world_at limits request reply).completions
      (each_weaker (λ x. IsExplainedAs tickets_meaning (tickets_made limits) (newcomers limits) (world_at limits request reply) x.0 x.1 x.2) (λ x. IsFirst x.2) (λ x h. ended_first x.0 x.1 x.2 h) (world_at limits request reply).completions once.explained)
