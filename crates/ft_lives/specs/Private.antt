-- Words of private functions: nothing public rests on them.
use Rattle.std.specs.Prelude.{◌≡◌, ℕ, Bool, false, List, ◌∷◌, Contains}
use Rattle.ft_log.specs.Performed.{Performed}
use Rattle.ft_orb.specs.Requests.{Call}
use Rattle.ft_lives.specs.Steps.{AreOthers, Doubt, Passes, Shown}
use Rattle.ft_lives.specs.Stores.{Change}

-- Nothing is known yet of what came of a request. If no transaction of it is in doubt, what this life committed meanwhile was in doubt before.
pub record IsSoFar {State : Type 0} (apply : State → Call → State × Performed) (life : ℕ) (d : Doubt) (doubtful : Bool) (old new : Shown State) : Type 0 where
  pub changes : List Change
  pub passes : Passes apply old changes new
  pub own : AreOthers life (d ∷ old.doubts) changes
  pub doubts : (x : Doubt) → Contains new.doubts x → Contains (d ∷ old.doubts) x
  pub clear : doubtful ≡ false → AreOthers life old.doubts changes × (new.doubts ≡ old.doubts)
