-- That a servant of an object of sound operations keeps its promises. Nobody has to read these proofs; they stand here since
-- those of servants cite them.
use Rattle.std.specs.Prelude.{◌≡◌, ℕ, Bool, true, false, cond, bytes_eq, List, [], ◌∷◌, IsTrue}
use Rattle.std.specs.List.{AllByRecursion}
use Rattle.std.proofs.Common.{refl, sym, ap, subst, ◌∙◌}
use Rattle.std.proofs.lemmas.Slice.Eq.{bytes_eq-Decides}
use Rattle.cdr_core.specs.Value.{Values}
use Rattle.ft_log.specs.Performed.{Performed}
use Rattle.ft_objects.specs.Interfaces.{AreArgumentsOf, Interface, IsOutcomeOf, IsValidInterface, Types, no_object, operation}
use Rattle.ft_objects.specs.Objects.{AreAppliedBy, AreSound, IsAppliedBy, IsSound, Object, Operation, Suits, given_by, meaning_of, offered}
use Rattle.ft_objects.specs.Replies.{IsRenderable}
use Rattle.ft_objects.specs.Servants.{IsServant}
use Rattle.ft_objects.specs.Sizes.{is_bounded}
use Rattle.ft_objects.specs.facts.Sizes.{outcome_is_renderable}

-- of bounded types each outcome can be sent
pub bounded_suits : {State : Type 0} {is_state : State → Bool} {t : Types} {given : State × Performed} → IsTrue (is_bounded t) → IsTrue (is_state given.0) → IsOutcomeOf (operation t) given.1 → Suits is_state t given
bounded_suits {t = t} {given = given} few stays fits = record { stays = stays; fits = fits; renderable = outcome_is_renderable t given.1 few fits }

-- what is given by a test, where each of the two suits
pub either_suits : {State : Type 0} {is_state : State → Bool} {t : Types} {given other : State × Performed} (b : Bool) → (b ≡ true → Suits is_state t given) → (b ≡ false → Suits is_state t other) → Suits is_state t (cond b given other)
either_suits true f g = f refl
either_suits false f g = g refl

-- as `Suits`, of what a look-up leads to
record SuitsAt {State : Type 0} (is_state : State → Bool) (i : Interface) (given : State × Performed) : Type 0 where
  stays : IsTrue (is_state given.0)
  fits : IsOutcomeOf i given.1
  renderable : IsRenderable given.1

module _ {State : Type 0} (is_state : State → Bool) where
  offered_valid : (os : List (Operation State)) (name : List ℕ) → AllByRecursion (IsSound is_state) os → IsValidInterface (offered os name)
  offered_valid [] name sound = tt
  offered_valid (o ∷ os) name sound =
      elim (bytes_eq name o.name) as (λ b. IsValidInterface (cond b (operation o.types) (offered os name))) [ true ↦ sound.0.valid | false ↦ offered_valid os name sound.1 ]

  offered_suits : (os : List (Operation State)) (state : State) (name : List ℕ) (arguments : Values) → AllByRecursion (IsSound is_state) os → IsTrue (is_state state) → AreArgumentsOf (offered os name) arguments
      → SuitsAt is_state (offered os name) (given_by os state name arguments)
  offered_suits [] state name arguments sound h = λ a. absurd a
  offered_suits (o ∷ os) state name arguments sound h =
      elim (bytes_eq name o.name) as (λ b. AreArgumentsOf (cond b (operation o.types) (offered os name)) arguments
      → SuitsAt is_state (cond b (operation o.types) (offered os name)) (cond b (o.gives state arguments) (given_by os state name arguments))) [
        | true ↦ (λ a. let s = sound.0.suits state arguments h a in record { stays = s.stays; fits = s.fits; renderable = s.renderable })
        | false ↦ offered_suits os state name arguments sound.1 h
      ]

  -- no name leads to no object
  offered_there : (os : List (Operation State)) (name : List ℕ) → offered os name ≡ no_object → ⊥
  offered_there [] name = λ e. cc
  offered_there (o ∷ os) name =
      elim (bytes_eq name o.name) as (λ b. cond b (operation o.types) (offered os name) ≡ no_object → ⊥) [ true ↦ (λ e. cc) | false ↦ offered_there os name ]

-- a servant of an object of sound operations keeps its promises
pub object_is_servant : {State : Type 0} (object : Object State) → AreSound object → IsServant (meaning_of object)
object_is_servant {State} object sound =
    record {
      valid = λ key name. elim (bytes_eq key object.key) as (λ b. IsValidInterface (cond b (offered os name) no_object)) [ true ↦ offered_valid object.is_state os name sound | false ↦ tt ];
      absent = λ key. (λ h name. ap (λ b. cond b (offered os name) no_object) h, λ none. gone (bytes_eq key object.key) (none []));
      stays = λ state key name arguments h a. (suits state key name arguments h a).stays;
      fits = λ state key name arguments h a. (suits state key name arguments h a).fits;
      renderable = λ state key name arguments h a. (suits state key name arguments h a).renderable;
    }
  where
    os : List (Operation State)
    os = object.operations

    gone : (b : Bool) → cond b (offered os []) no_object ≡ no_object → b ≡ false
    gone true e = absurd (offered_there object.is_state os [] e)
    gone false e = refl

    suits : (state : State) (key name : List ℕ) (arguments : Values) → IsTrue (object.is_state state) → AreArgumentsOf ((meaning_of object).interface key name) arguments
        → SuitsAt object.is_state ((meaning_of object).interface key name) (given_by os state name arguments)
    suits state key name arguments h =
        elim (bytes_eq key object.key) as (λ b. AreArgumentsOf (cond b (offered os name) no_object) arguments → SuitsAt object.is_state (cond b (offered os name) no_object) (given_by os state name arguments))
        [ true ↦ offered_suits object.is_state os state name arguments sound h | false ↦ (λ a. absurd a) ]

module _ {State : Type 0} (apply : State → List ℕ → List ℕ → Values → State × Performed) where
  asked_of : (o : Operation State) (os : List (Operation State)) (state : State) (key name : List ℕ) (arguments : Values) (b : Bool) → bytes_eq name o.name ≡ b → IsAppliedBy apply o
      → (AreArgumentsOf (offered os name) arguments → given_by os state name arguments ≡ apply state key name arguments)
      → AreArgumentsOf (cond b (operation o.types) (offered os name)) arguments → cond b (o.gives state arguments) (given_by os state name arguments) ≡ apply state key name arguments
  asked_of o os state key name arguments true e this others a = this state key arguments ∙ ap (λ (n : List ℕ). apply state key n arguments) (sym ((bytes_eq-Decides name o.name).0 e))
  asked_of o os state key name arguments false e this others a = others a

  -- where an operation is asked, it gives what `apply` does
  asked : (os : List (Operation State)) (state : State) (key name : List ℕ) (arguments : Values) → AllByRecursion (IsAppliedBy apply) os → AreArgumentsOf (offered os name) arguments
      → given_by os state name arguments ≡ apply state key name arguments
  asked [] state key name arguments applied a = absurd a
  asked (o ∷ os) state key name arguments applied a = asked_of o os state key name arguments (bytes_eq name o.name) refl applied.0 (asked os state key name arguments applied.1) a

-- a servant keeps its promises that does what an object of sound operations does where an operation is asked, whatever it does
-- elsewhere
pub applied_is_servant : {State : Type 0} (object : Object State) (apply : State → List ℕ → List ℕ → Values → State × Performed) → AreAppliedBy apply object → AreSound object
    → IsServant (record (meaning_of object) { apply = apply })
applied_is_servant {State} object apply applied sound =
    let promised = object_is_servant object sound in
    record {
      valid = promised.valid;
      absent = promised.absent;
      stays = λ state key name arguments h a. subst (λ (given : State × Performed). IsTrue (object.is_state given.0)) (is state key name arguments a) (promised.stays state key name arguments h a);
      fits = λ state key name arguments h a. subst (λ (given : State × Performed). IsOutcomeOf ((meaning_of object).interface key name) given.1) (is state key name arguments a) (promised.fits state key name arguments h a);
      renderable = λ state key name arguments h a. subst (λ (given : State × Performed). IsRenderable given.1) (is state key name arguments a) (promised.renderable state key name arguments h a);
    }
  where
    is : (state : State) (key name : List ℕ) (arguments : Values) → AreArgumentsOf ((meaning_of object).interface key name) arguments → given_by object.operations state name arguments ≡ apply state key name arguments
    is state key name arguments =
        elim (bytes_eq key object.key) as (λ b. AreArgumentsOf (cond b (offered object.operations name) no_object) arguments → given_by object.operations state name arguments ≡ apply state key name arguments)
        [ true ↦ asked apply object.operations state key name arguments applied | false ↦ (λ a. absurd a) ]
