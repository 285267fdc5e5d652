-- An owner's steps with its store: what the calls of a store say, and what performing a request once does.
use Rattle.std.specs.Prelude.{◌≡◌, ◌<◌, ◌≤◌, ℕ, List, [], ◌∷◌, ◌++◌, map, Contains, Some, None, ◌⊎◌}
use Rattle.ft_log.specs.Keys.{RequestKey}
use Rattle.ft_log.specs.Kept.{unexpired}
use Rattle.ft_log.specs.Performed.{Performed}
use Rattle.ft_log.specs.View.{performed_in}
use Rattle.ft_orb.specs.Engines.{awaited_lent}
use Rattle.ft_orb.specs.Requests.{Call}
use Rattle.ft_orb.specs.declared.asked.Asked.{Asked}
use Rattle.ft_lives.specs.declared.store.Commit.{Commit}
use Rattle.ft_lives.specs.declared.store.Commit.TheVariants as commit
use Rattle.ft_lives.specs.declared.store.Found.{Found}
use Rattle.ft_lives.specs.declared.store.Found.TheVariants as found
use Rattle.ft_lives.specs.declared.once.Verdict.{Verdict}
use Rattle.ft_lives.specs.declared.once.Verdict.TheVariants as verdict
use Rattle.ft_lives.specs.Lives.{Stored}
use Rattle.ft_lives.specs.Serial.{IsSerial}
use Rattle.ft_lives.specs.Stores.{Allows, Ask, Change, Committed, Other, Purged, Row, Store, held_for}

-- a request of which a transaction may yet come true
pub record Doubt : Type 0 where
  pub ask : Ask
  pub key : RequestKey
  pub expiration : ℕ

-- what a store holds: its rows, and the mark; the state beside them; and what may yet come true of what its owner began
pub record Shown (State : Type 0) : Type 0 where
  pub store : Store
  pub state : State
  pub doubts : List Doubt

-- the store after a change, where what is held no longer is taken out at once
abbrev pub now_holds : Store → Change → Store
now_holds s (Committed ask row) = record { rows = s.rows ++ row ∷ []; mark = s.mark }
now_holds s (Purged mark) = record { rows = unexpired mark s.rows; mark = mark }
now_holds s Other = s

abbrev pub then_holds : Store → List Change → Store
then_holds s [] = s
then_holds s (c ∷ later) = then_holds (now_holds s c) later

-- the store keeps its promises at each of these
abbrev pub AreAllowed : Store → List Change → Type 0
AreAllowed s [] = Unit {0}
AreAllowed s (c ∷ later) = Allows s c × AreAllowed (now_holds s c) later

-- the request that waits, as it is asked in this life
abbrev pub ask_of : (life : ℕ) → Asked → Ask
ask_of life a = record { life = life; number = (awaited_lent a).number; call = (awaited_lent a).call }

-- what this life commits in these changes was in doubt
abbrev pub AreOthers : (life : ℕ) → List Doubt → List Change → Type 0
AreOthers life doubts changes = (ask : Ask) (row : Row) → Contains changes (Committed ask row) → ask.life ≡ life → Contains doubts (record { ask = ask; key = row.key; expiration = row.expiration })

-- what a look-up says, all of it of one moment
abbrev pub IsFound : RequestKey → (expiration : ℕ) → Store → Found → Type 0
IsFound key expiration s found.Over = expiration < s.mark
IsFound key expiration s (found.Held outcome) = (s.mark ≤ expiration) × (held_for key s ≡ Some (performed_in outcome))
IsFound key expiration s found.Free = (s.mark ≤ expiration) × (held_for key s ≡ None)
IsFound key expiration s found.Silent = Unit {0}

module _ {State : Type 0} (apply : State → Call → State × Performed) where
  -- these changes lead from the one to the other, each as the store promises, one after another
  pub record Passes (old : Shown State) (changes : List Change) (new : Shown State) : Type 0 where
    pub allowed : AreAllowed old.store changes
    pub store : new.store ≡ then_holds old.store changes
    pub state : IsSerial apply old.state (map (λ c. Stored c) changes) new.state

  -- .. which others make
  pub record Waits (life : ℕ) (old new : Shown State) : Type 0 where
    pub changes : List Change
    pub passes : Passes old changes new
    pub others : AreOthers life old.doubts changes
    pub doubts : new.doubts ≡ old.doubts

  -- a transaction of this request was the last change
  pub record IsDone (life : ℕ) (d : Doubt) (outcome : Performed) (old new : Shown State) : Type 0 where
    pub changes : List Change
    pub passes : Passes old (changes ++ Committed d.ask (record { key = d.key; expiration = d.expiration; outcome = outcome }) ∷ []) new
    pub others : AreOthers life old.doubts changes
    pub doubts : new.doubts ≡ old.doubts

  -- a transaction of it may have come true, and may come true yet
  pub record IsDoubtful (life : ℕ) (d : Doubt) (old new : Shown State) : Type 0 where
    pub changes : List Change
    pub passes : Passes old changes new
    pub others : AreOthers life (d ∷ old.doubts) changes
    pub doubts : (new.doubts ≡ old.doubts) ⊎ (new.doubts ≡ d ∷ old.doubts)

  abbrev pub IsCommit : (life : ℕ) → Doubt → Shown State → Commit → Shown State → Type 0
  IsCommit life d old (commit.Done outcome) new = IsDone life d (performed_in outcome) old new
  IsCommit life d old commit.Taken new = Waits life old new
  IsCommit life d old commit.Failed new = Waits life old new
  IsCommit life d old commit.InDoubt new = IsDoubtful life d old new

  -- What came of a request: what this life committed meanwhile is of it, or was in doubt.
  pub record IsOwn (life : ℕ) (d : Doubt) (old : Shown State) (changes : List Change) (new : Shown State) : Type 0 where
    pub passes : Passes old changes new
    pub own : AreOthers life (d ∷ old.doubts) changes

  -- it was looked up, and nothing was held for its key; and nothing was committed for it, nor may be
  pub record IsFreed (life : ℕ) (d : Doubt) (old new : Shown State) : Type 0 where
    pub early : List Change
    pub late : List Change
    pub mid : Shown State
    pub before : Passes old early mid
    pub after : Passes mid late new
    pub free : held_for d.key mid.store ≡ None
    pub others : AreOthers life old.doubts (early ++ late)
    pub doubts : new.doubts ≡ old.doubts

  -- What performing a request once comes to. The answer is what the store holds. It is over: its expiration lies before the mark, and
  -- others alone committed meanwhile. It may be declined. Or it is not known what came of it, and it may be neither answered nor declined.
  abbrev pub IsOnce : (life : ℕ) → Doubt → Shown State → Verdict → Shown State → Type 0
  IsOnce life d old (verdict.Answer outcome) new = (changes : List Change) × IsOwn life d old changes new × (held_for d.key new.store ≡ Some (performed_in outcome))
  IsOnce life d old verdict.Over new = Waits life old new × (d.expiration < new.store.mark)
  IsOnce life d old verdict.Decline new = IsFreed life d old new
  IsOnce life d old verdict.Unknown new = (changes : List Change) × IsOwn life d old changes new
