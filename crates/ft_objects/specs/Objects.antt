-- A servant of one object, by a table of its operations.
use Rattle.std.specs.Prelude.{◌≡◌, ℕ, Bool, bytes_eq, List, [], ◌∷◌, IsTrue, if◌then◌else◌}
use Rattle.std.specs.List.{AllByRecursion}
use Rattle.cdr_core.specs.Fitting.{FitsMembers}
use Rattle.cdr_core.specs.Value.{Values}
use Rattle.ft_log.specs.Performed.{Performed, system}
use Rattle.ft_log.specs.declared.system_exception.Completion.TheVariants.{No}
use Rattle.ft_log.specs.declared.system_exception.SystemName.TheVariants.{BadOperation}
use Rattle.ft_objects.specs.Interfaces.{Interface, IsOutcomeOf, IsValidInterface, Types, no_object, no_operation, operation}
use Rattle.ft_objects.specs.Replies.{IsRenderable}
use Rattle.ft_objects.specs.Servants.{Meaning}

-- an operation: its name, its types, and the next state and the outcome of a state and its arguments
pub record Operation (State : Type 0) : Type 0 where
  pub name : List ℕ
  pub types : Types
  pub gives : State → Values → State × Performed

-- an object: its key, which states it can be in, and its operations, by distinct names
pub record Object (State : Type 0) : Type 0 where
  pub key : List ℕ
  pub is_state : State → Bool
  pub operations : List (Operation State)

-- the operation of a name
abbrev pub offered : {State : Type 0} → List (Operation State) → List ℕ → Interface
offered [] name = no_operation
offered (o ∷ os) name = if bytes_eq name o.name then operation o.types else offered os name

-- what the operation of a name gives; under another name, which is never asked, nothing changes and BAD_OPERATION is the outcome
abbrev pub given_by : {State : Type 0} → List (Operation State) → State → List ℕ → Values → State × Performed
given_by [] state name arguments = (state, system BadOperation 0 No)
given_by (o ∷ os) state name arguments = if bytes_eq name o.name then o.gives state arguments else given_by os state name arguments

-- what a servant of this object means
abbrev pub meaning_of : {State : Type 0} → Object State → Meaning State
meaning_of object =
    record {
      is_state = object.is_state;
      interface = λ key name. if bytes_eq key object.key then offered object.operations name else no_object;
      knows = λ key. bytes_eq key object.key;
      apply = λ state key name arguments. given_by object.operations state name arguments;
    }

-- what an operation of these types gives is a state, and an outcome of it that can be sent
pub record Suits {State : Type 0} (is_state : State → Bool) (t : Types) (given : State × Performed) : Type 0 where
  pub stays : IsTrue (is_state given.0)
  pub fits : IsOutcomeOf (operation t) given.1
  pub renderable : IsRenderable given.1

-- an operation's types are valid, and what it gives from a state and arguments of its types suits it
pub record IsSound {State : Type 0} (is_state : State → Bool) (o : Operation State) : Type 0 where
  pub valid : IsValidInterface (operation o.types)
  pub suits : (state : State) (arguments : Values) → IsTrue (is_state state) → FitsMembers o.types.arguments arguments → Suits is_state o.types (o.gives state arguments)

-- each operation is
abbrev pub AreSound : {State : Type 0} → Object State → Type 0
AreSound object = AllByRecursion (IsSound object.is_state) object.operations

-- what an operation gives is what `apply` says under its name
abbrev pub IsAppliedBy : {State : Type 0} → (State → List ℕ → List ℕ → Values → State × Performed) → Operation State → Type 0
IsAppliedBy {State} apply o = (state : State) (key : List ℕ) (arguments : Values) → o.gives state arguments ≡ apply state key o.name arguments

-- each operation's is
abbrev pub AreAppliedBy : {State : Type 0} → (State → List ℕ → List ℕ → Values → State × Performed) → Object State → Type 0
AreAppliedBy apply object = AllByRecursion (IsAppliedBy apply) object.operations
