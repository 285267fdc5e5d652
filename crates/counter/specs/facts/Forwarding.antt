-- That the counter and the object beside it keep a servant's promises. Nobody has to read this proof; it stands here since
-- `impl Servant` cites it.
use Rattle.std.specs.Prelude.{◌≡◌, ◌↔◌, ℕ, ◌||◌, true, false, if◌then◌else◌, IsTrue, List, []}
use Rattle.std.proofs.Common.{rules, sym}
use Rattle.std.proofs.lemmas.Bool.{false≢true}
use Rattle.ft_objects.specs.Interfaces.{AreArgumentsOf, IsOutcomeOf, IsValidInterface, no_object, raw_operation}
use Rattle.ft_objects.specs.Replies.{IsRenderable}
use Rattle.ft_objects.specs.Servants.{IsServant}
use Rattle.counter.specs.Counter.{counter_meaning}
use Rattle.counter.specs.facts.Counter.{counter_is_servant}
use Rattle.counter.specs.Forwarding.{forward, forwarding_meaning, is_elsewhere, performed_at}

forward_fits : IsRenderable forward
forward_fits = search rules

pub forwarding_is_servant : IsServant forwarding_meaning
forwarding_is_servant = record {
  valid = λ key name. elim (is_elsewhere key) as (λ b. IsValidInterface (if b then raw_operation else counter_meaning.interface key name)) [ true ↦ tt | false ↦ counter_is_servant.valid key name ];
  absent = λ key.
      elim (is_elsewhere key) as (λ b. ((b || counter_meaning.knows key) ≡ false) ↔ ((name : List ℕ) → (if b then raw_operation else counter_meaning.interface key name) ≡ no_object)) [
        | true ↦ (λ h. absurd (false≢true (sym h)), λ h. let none = h [] in absurd cc)
        | false ↦ counter_is_servant.absent key
      ];
  stays = λ s key name arguments state are.
      elim (is_elsewhere key) as (λ b. AreArgumentsOf (if b then raw_operation else counter_meaning.interface key name) arguments
      → IsTrue (counter_meaning.is_state (performed_at b s key name arguments).0.counter)) [
        | true ↦ λ a. state
        | false ↦ λ a. counter_is_servant.stays s.counter key name arguments state a
      ] are;
  fits = λ s key name arguments state are.
      elim (is_elsewhere key) as (λ b. AreArgumentsOf (if b then raw_operation else counter_meaning.interface key name) arguments
      → IsOutcomeOf (if b then raw_operation else counter_meaning.interface key name) (performed_at b s key name arguments).1) [
        | true ↦ λ a. tt
        | false ↦ λ a. counter_is_servant.fits s.counter key name arguments state a
      ] are;
  renderable = λ s key name arguments state are.
      elim (is_elsewhere key) as (λ b. AreArgumentsOf (if b then raw_operation else counter_meaning.interface key name) arguments
      → IsRenderable (performed_at b s key name arguments).1) [
        | true ↦ λ a. forward_fits
        | false ↦ λ a. counter_is_servant.renderable s.counter key name arguments state a
      ] are;
}
