-- What the commits of a store do to the state beside its rows, where transactions are serial.
use Rattle.std.specs.Prelude.{◌≡◌, ℕ, List, [], ◌∷◌}
use Rattle.ft_log.specs.Performed.{Performed}
use Rattle.ft_orb.specs.Requests.{Call}
use Rattle.ft_lives.specs.Lives.{Did, Step, Stored}
use Rattle.ft_lives.specs.Stores.{Committed, Other, Purged}

-- what is written: the effect of a call, or anything else
pub data Write (State : Type 0) : Type 0 where
  Acts : Call → Write State
  Becomes : State → Write State

-- the calls among these
abbrev pub calls_in : {State : Type 0} → List (Write State) → List Call
calls_in [] = []
calls_in (Acts call ∷ later) = call ∷ calls_in later
calls_in (Becomes state ∷ later) = calls_in later

-- the calls that steps commit, and the outcomes of their rows
abbrev pub committed_calls : List Step → List Call
committed_calls [] = []
committed_calls (Did n d ∷ later) = committed_calls later
committed_calls (Stored (Committed ask row) ∷ later) = ask.call ∷ committed_calls later
committed_calls (Stored (Purged mark) ∷ later) = committed_calls later
committed_calls (Stored Other ∷ later) = committed_calls later

abbrev pub committed_outcomes : List Step → List Performed
committed_outcomes [] = []
committed_outcomes (Did n d ∷ later) = committed_outcomes later
committed_outcomes (Stored (Committed ask row) ∷ later) = row.outcome ∷ committed_outcomes later
committed_outcomes (Stored (Purged mark) ∷ later) = committed_outcomes later
committed_outcomes (Stored Other ∷ later) = committed_outcomes later

-- no others write
abbrev pub AreAlone : List Step → Type 0
AreAlone [] = Unit {0}
AreAlone (Did n d ∷ later) = AreAlone later
AreAlone (Stored (Committed ask row) ∷ later) = AreAlone later
AreAlone (Stored (Purged mark) ∷ later) = AreAlone later
AreAlone (Stored Other ∷ later) = ⊥

module _ {State : Type 0} (apply : State → Call → State × Performed) where
  -- the steps lead from a state to a state: each commit performs its call on the state that it finds, and its row has the outcome
  abbrev pub IsSerial : State → List Step → State → Type 0
  IsSerial state [] last = state ≡ last
  IsSerial state (Did n d ∷ later) last = IsSerial state later last
  IsSerial state (Stored (Committed ask row) ∷ later) last = (row.outcome ≡ (apply state ask.call).1) × IsSerial (apply state ask.call).0 later last
  IsSerial state (Stored (Purged mark) ∷ later) last = IsSerial state later last
  IsSerial state (Stored Other ∷ later) last = (next : State) × IsSerial next later last

  -- the state after these, and the outcomes of the calls among them
  abbrev pub state_written : State → List (Write State) → State
  state_written state [] = state
  state_written state (Acts call ∷ later) = state_written (apply state call).0 later
  state_written state (Becomes next ∷ later) = state_written next later

  abbrev pub outcomes_written : State → List (Write State) → List Performed
  outcomes_written state [] = []
  outcomes_written state (Acts call ∷ later) = (apply state call).1 ∷ outcomes_written (apply state call).0 later
  outcomes_written state (Becomes next ∷ later) = outcomes_written next later

  -- the state after calls, one after another
  abbrev pub state_after_calls : State → List Call → State
  state_after_calls state [] = state
  state_after_calls state (call ∷ later) = state_after_calls (apply state call).0 later

  -- The state is that of the committed calls, each once, in their order, with what others wrote in between, and the rows have their
  -- outcomes. Where no others write it is that of the calls alone.
  pub record IsOfCommits (state : State) (steps : List Step) (last : State) : Type 0 where
    pub writes : List (Write State)
    pub calls : calls_in writes ≡ committed_calls steps
    pub outcomes : outcomes_written state writes ≡ committed_outcomes steps
    pub state_is : state_written state writes ≡ last
    pub alone : AreAlone steps → state_after_calls state (committed_calls steps) ≡ last

  abbrev pub SerialIsOfCommits : Type 0
  SerialIsOfCommits = (state last : State) (steps : List Step) → IsSerial state steps last → IsOfCommits state steps last
