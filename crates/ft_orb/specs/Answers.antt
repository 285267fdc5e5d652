-- What an owner answered, and the owner that answers so by a rule.
use Rattle.std.specs.Prelude.{◌≡◌, ℕ, ◌&&◌, if◌then◌else◌, bytes_eq, List, [], ◌∷◌, ◌++◌, map}
use Rattle.std.specs.List.{AllByRecursion}
use Rattle.giop_frames.specs.declared.limits.Limits.{Limits}
use Rattle.ft_log.specs.Performed.{Performed, system}
use Rattle.ft_log.specs.declared.system_exception.Completion.TheVariants.{No}
use Rattle.ft_log.specs.declared.system_exception.SystemName.TheVariants.{Internal}
use Rattle.ft_objects.specs.Catalogues.{IsOffer, Offer}
use Rattle.ft_orb.specs.ExactlyOnce.{state_of}
use Rattle.ft_orb.specs.History.{Event, arrivals}
use Rattle.ft_objects.specs.Interfaces.{IsOutcomeOf}
use Rattle.ft_orb.specs.Now.{now_says, state_now}
use Rattle.ft_orb.specs.Outputs.{Noted, Plays, law_says, past_after}
use Rattle.ft_orb.specs.Owners.{Owner, made_of, meaning_of, rules_with}
use Rattle.ft_objects.specs.Replies.{IsRenderable}
use Rattle.ft_orb.specs.Requests.{Call}
use Rattle.ft_objects.specs.Servants.{IsServant}

-- a call, and the outcome that it was given
pub record Answer : Type 0 where
  pub call : Call
  pub outcome : Performed

-- the calls of answers, in order
abbrev pub calls_of : List Answer → List Call
calls_of answers = map (λ a. a.call) answers

-- an owner's rule gives these answers, one after another, where those calls were answered before
abbrev pub Agrees : (List Call → Call → Performed) → List Call → List Answer → Type 0
Agrees rule calls [] = Unit {0}
Agrees rule calls (a ∷ later) = (rule calls a.call ≡ a.outcome) × Agrees rule (calls ++ a.call ∷ []) later

-- each outcome can be sent, and is one of its call's operation
abbrev pub AreAnswers : Offer → List Answer → Type 0
AreAnswers offer answers = AllByRecursion (λ a. IsRenderable a.outcome × IsOutcomeOf (offer.interface a.call.object_key a.call.operation) a.outcome) answers

-- what is answered where nothing is known
abbrev pub refusal : Performed
refusal = system Internal 0 No

-- a rule that gives these answers: the one whose turn it is, to a call of its operation; and else the refusal
abbrev pub answer_for : Answer → Call → Performed
answer_for a call = if bytes_eq a.call.object_key call.object_key && bytes_eq a.call.operation call.operation then a.outcome else refusal

abbrev pub rule_of : List Answer → List Call → Call → Performed
rule_of [] calls call = refusal
rule_of (a ∷ later) [] call = answer_for a call
rule_of (a ∷ later) (c ∷ calls) call = rule_of later calls call

-- the owner that answers so
abbrev pub owner_of : Offer → Limits → (capacity share : ℕ) → List Answer → Owner
owner_of offer limits capacity share answers = record { offer = offer; answers = rule_of answers; limits = limits; capacity = capacity; share = share }

-- Events one after another, of which these entries were written, and what their owner answered in them: each wrote what the law
-- says, and the calls answered are those of the distinct admissible requests, each once, in the order of their first arrivals.
abbrev pub AreOnce : Owner → List Answer → List Event → List Noted → Type 0
AreOnce owner answers es entries = Plays owner.limits owner.offer.knows (law_says (meaning_of owner) (made_of owner)) [] es entries
    × (calls_of answers ≡ state_of (rules_with owner) [] (arrivals owner.limits (past_after owner.limits [] es entries)))

-- .. and each wrote what the law of each key by itself says, whatever expirations requests carry, and the calls answered are those
-- of the requests that are performed so.
abbrev pub AreNow : Owner → List Answer → List Event → List Noted → Type 0
AreNow owner answers es entries = Plays owner.limits owner.offer.knows (now_says (meaning_of owner) (made_of owner)) [] es entries
    × (calls_of answers ≡ state_now (meaning_of owner) (made_of owner) (past_after owner.limits [] es entries))

-- Of any answers there is a rule that gives them ..
abbrev pub AnswersHaveARule : Type 0
AnswersHaveARule = (answers : List Answer) → Agrees (rule_of answers) [] answers

-- .. and where each is one of its call's operation, the owner with that rule keeps a servant's promises.
abbrev pub OwnersAreServants : Type 0
OwnersAreServants = (offer : Offer) (limits : Limits) (capacity share : ℕ) (answers : List Answer) → IsOffer offer → AreAnswers offer answers → IsServant (meaning_of (owner_of offer limits capacity share answers))
