-- A rule that gives the answers of an owner.
use Rattle.std.proofs.Common.{◌≡◌, ℕ, ◌&&◌, Bool, true, false, if◌then◌else◌, bytes_eq, List, [], ◌∷◌, ◌++◌, refl, sym, ap, subst, ◌∙◌, append_assoc, rules}
use Rattle.std.proofs.lemmas.Bool.{and_parts}
use Rattle.std.proofs.lemmas.List.{map-append}
use Rattle.std.proofs.lemmas.Slice.Eq.{bytes_eq-Decides}
use Rattle.cdr_core.specs.Value.{Values}
use Rattle.ft_log.specs.Performed.{Performed}
use Rattle.ft_objects.specs.Catalogues.{Offer}
use Rattle.ft_orb.specs.Answers.{Agrees, Answer, AnswersHaveARule, AreAnswers, OwnersAreServants, answer_for, calls_of, refusal, rule_of}
use Rattle.ft_objects.specs.Interfaces.{AreArgumentsOf, Interface, IsOutcomeOf, checked_operation, no_object, no_operation, operation, raw_operation}
use Rattle.ft_objects.specs.Replies.{IsRenderable}
use Rattle.ft_orb.specs.Requests.{Call}

-- the rule gives each answer in its turn
in-turn : (before later : List Answer) (a : Answer) → rule_of (before ++ a ∷ later) (calls_of before) a.call ≡ a.outcome
in-turn [] later a =
    let key = (bytes_eq-Decides a.call.object_key a.call.object_key).1 refl in
    let name = (bytes_eq-Decides a.call.operation a.call.operation).1 refl in
    λ i. if key i && name i then a.outcome else refusal
in-turn (b ∷ before) later a = in-turn before later a

agrees-from : (before later all : List Answer) → all ≡ before ++ later → Agrees (rule_of all) (calls_of before) later
agrees-from before [] all is = tt
agrees-from before (a ∷ later) all is = (
  ap (λ (l : List Answer). rule_of l (calls_of before) a.call) is ∙ in-turn before later a,
  subst (λ (l : List Call). Agrees (rule_of all) l later) (map-append (λ (x : Answer). x.call) before (a ∷ []))
      (agrees-from (before ++ a ∷ []) later all (is ∙ sym (append_assoc before (a ∷ []) later))),
)

pub answers-have-a-rule : AnswersHaveARule
answers-have-a-rule answers = agrees-from [] answers answers refl

-- the refusal is an outcome of each operation
refusal-fits : (i : Interface) (arguments : Values) → AreArgumentsOf i arguments → IsOutcomeOf i refusal
refusal-fits no_object arguments h = absurd h
refusal-fits no_operation arguments h = absurd h
refusal-fits (operation t) arguments h = tt
refusal-fits raw_operation arguments h = tt
refusal-fits (checked_operation t) arguments h = tt

refusal-sent : IsRenderable refusal
refusal-sent = search rules

module _ (offer : Offer) where
  abbrev Fit : Call → Performed → Type 0
  Fit call outcome = IsRenderable outcome × IsOutcomeOf (offer.interface call.object_key call.operation) outcome

  answer-fits : (a : Answer) (call : Call) → Fit a.call a.outcome → Fit call refusal → Fit call (answer_for a call)
  answer-fits a call h none =
      (elim (bytes_eq a.call.object_key call.object_key && bytes_eq a.call.operation call.operation) as (λ (b : Bool). (bytes_eq a.call.object_key call.object_key && bytes_eq a.call.operation call.operation) ≡ b → Fit call (if b then a.outcome else refusal)) [
        | true ↦ λ is.
            let both = and_parts (bytes_eq a.call.object_key call.object_key) (bytes_eq a.call.operation call.operation) is in
            let key = (bytes_eq-Decides a.call.object_key call.object_key).0 both.0 in
            let name = (bytes_eq-Decides a.call.operation call.operation).0 both.1 in
            (h.0, subst (λ (k : List ℕ). IsOutcomeOf (offer.interface k call.operation) a.outcome) key (subst (λ (n : List ℕ). IsOutcomeOf (offer.interface a.call.object_key n) a.outcome) name h.1))
        | false ↦ λ is. none
      ]) refl

  rule-fits : (answers : List Answer) (calls : List Call) (call : Call) → AreAnswers offer answers → Fit call refusal → Fit call (rule_of answers calls call)
  rule-fits [] calls call are none = none
  rule-fits (a ∷ later) [] call are none = answer-fits a call are.0 none
  rule-fits (a ∷ later) (c ∷ calls) call are none = rule-fits later calls call are.1 none

pub owners-are-servants : OwnersAreServants
owners-are-servants offer limits capacity share answers promised are =
    let fit : (calls : List Call) (call : Call) → AreArgumentsOf (offer.interface call.object_key call.operation) call.arguments → Fit offer call (rule_of answers calls call) =
    λ calls call h. rule-fits offer answers calls call are (refusal-sent, refusal-fits (offer.interface call.object_key call.operation) call.arguments h) in
    record {
      valid = promised.valid;
      absent = promised.absent;
      stays = λ calls key name arguments is h. refl;
      fits = λ calls key name arguments is h. (fit calls (record { object_key = key; operation = name; arguments = arguments }) h).1;
      renderable = λ calls key name arguments is h. (fit calls (record { object_key = key; operation = name; arguments = arguments }) h).0;
    }
