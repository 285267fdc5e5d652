-- What the owner's steps come to among the steps of all lives: they keep its rules.
use Rattle.std.specs.Prelude.{◌≡◌, ℕ, List, ◌∷◌, ◌++◌, map, Contains}
use Rattle.ft_log.specs.Keys.{RequestKey}
use Rattle.ft_log.specs.Kept.{unexpired}
use Rattle.ft_log.specs.Performed.{Performed}
use Rattle.ft_log.specs.View.{performed_in}
use Rattle.ft_orb.specs.Engines.{Awaited}
use Rattle.ft_orb.specs.Requests.{Call}
use Rattle.ft_lives.specs.declared.once.Verdict.{Verdict}
use Rattle.ft_lives.specs.declared.once.Verdict.TheVariants as verdict
use Rattle.ft_lives.specs.Lives.{Step, Stored, requests_of, stored}
use Rattle.ft_lives.specs.Owned.{WasFree, WasHeld, WasOver}
use Rattle.ft_lives.specs.Steps.{AreAllowed, AreOthers, Doubt, IsOnce, Shown, now_holds, then_holds}
use Rattle.ft_lives.specs.Stores.{Allows, Change, Store, changed, held_for}

-- one that may have taken out what is held no longer is like one that has not
pub record IsLike (s v : Store) : Type 0 where
  pub mark : v.mark ≡ s.mark
  pub rows : unexpired s.mark v.rows ≡ unexpired s.mark s.rows

-- Such a store holds the same, allows no more, and stays like it.
abbrev pub StoresMayForget : Type 0
StoresMayForget = (s v : Store) → IsLike s v → ((key : RequestKey) → held_for key v ≡ held_for key s) × ((c : Change) → Allows v c → Allows s c × IsLike (changed s c) (now_holds v c))

-- these steps, and then these changes
abbrev pub with_changes : List Step → List Change → List Step
with_changes front changes = front ++ map (λ c. Stored c) changes

-- What a verdict promises of the steps up to it: the rule for an answer; for a request that is over; and for a decline. Neither of
-- these commits anything of it.
abbrev pub Keeps : List Step → List Change → Doubt → List Doubt → Verdict → Type 0
Keeps front changes d doubts (verdict.Answer outcome) = WasHeld (with_changes front changes) d.key (performed_in outcome)
Keeps front changes d doubts verdict.Over = WasOver (with_changes front changes) d.expiration × AreOthers d.ask.life doubts changes
Keeps front changes d doubts verdict.Decline = WasFree (with_changes front changes) d.ask.life d.ask.number d.key × AreOthers d.ask.life doubts changes
Keeps front changes d doubts verdict.Unknown = Unit {0}

-- A verdict on a request that was asked for, by a store that shows what these steps leave, keeps to the rules: the changes up to it are
-- allowed, and what its life commits among them is of this request, or was in doubt.
abbrev pub OnceIsOwned : {State : Type 0} → (State → Call → State × Performed) → Type 0
OnceIsOwned {State} apply = (front : List Step) (d : Doubt) (old new : Shown State) (w : Awaited) (v : Verdict) → IsLike (stored front) old.store → Contains (requests_of d.ask.life front) w → w.number ≡ d.ask.number
    → IsOnce apply d.ask.life d old v new
    → (changes : List Change) × IsLike (stored (with_changes front changes)) new.store × Keeps front changes d old.doubts v × AreOthers d.ask.life (d ∷ old.doubts) changes
    × ((early late : List Change) (c : Change) → changes ≡ early ++ c ∷ late → Allows (stored (with_changes front early)) c)
