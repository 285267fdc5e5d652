-- What a servant means, and what it promises.
use Rattle.std.specs.Prelude.{◌≡◌, ◌↔◌, ℕ, Bool, false, IsTrue, List}
use Rattle.cdr_core.specs.Value.{Values}
use Rattle.ft_log.specs.Performed.{Performed}
use Rattle.ft_objects.specs.Interfaces.{AreArgumentsOf, Interface, IsOutcomeOf, IsValidInterface, no_object}
use Rattle.ft_objects.specs.Replies.{IsRenderable}

-- what a servant means: which states it can be in, which operation an object key and a name lead to, which keys name an
-- object, and the next state and the outcome of a state, an object key, an operation and its arguments
pub record Meaning (State : Type 0) : Type 0 where
  pub is_state : State → Bool
  pub interface : List ℕ → List ℕ → Interface
  pub knows : List ℕ → Bool
  pub apply : State → List ℕ → List ℕ → Values → State × Performed

-- the servant's promises: types are valid; a key names no object exactly where every look-up under it says so; and a call with
-- arguments of its operation leads to a state, and gives an outcome of the operation that can be sent
pub record IsServant {State : Type 0} (m : Meaning State) : Type 0 where
  pub valid : (key operation : List ℕ) → IsValidInterface (m.interface key operation)
  pub absent : (key : List ℕ) → (m.knows key ≡ false) ↔ ((operation : List ℕ) → m.interface key operation ≡ no_object)
  pub stays : (state : State) (key operation : List ℕ) (arguments : Values) → IsTrue (m.is_state state) → AreArgumentsOf (m.interface key operation) arguments → IsTrue (m.is_state (m.apply state key operation arguments).0)
  pub fits : (state : State) (key operation : List ℕ) (arguments : Values) → IsTrue (m.is_state state) → AreArgumentsOf (m.interface key operation) arguments → IsOutcomeOf (m.interface key operation) (m.apply state key operation arguments).1
  pub renderable : (state : State) (key operation : List ℕ) (arguments : Values) → IsTrue (m.is_state state) → AreArgumentsOf (m.interface key operation) arguments → IsRenderable (m.apply state key operation arguments).1
