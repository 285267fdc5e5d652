-- Lives of engines over one store. A life is an engine that begins new; it ends anywhere, and lives may overlap. Steps are the deeds of
-- all lives and the changes of the store, in the order in which they came.
use Rattle.std.specs.Prelude.{◌≡◌, ℕ, ◌==◌, if◌then◌else◌, List, [], ◌∷◌, ◌++◌, flat_map, Contains}
use Rattle.ft_log.specs.Holding.{Holding}
use Rattle.ft_log.specs.Keys.{RequestKey}
use Rattle.ft_orb.specs.Deeds.{Answered, AnsweredUnkept, Deed, GivenUp, Happened, Joined, Ledger, Parked, Runs, Settled, SettledUnkept, Stopped, after_deeds, opening}
use Rattle.ft_orb.specs.Engines.{Awaited}
use Rattle.ft_orb.specs.ExactlyOnce.{Present}
use Rattle.ft_orb.specs.Parking.{Settings}
use Rattle.ft_lives.specs.Stores.{Allows, Change, Store, changed, empty_store}

pub data Step : Type 0 where
  Did : (life : ℕ) → Deed → Step
  Stored : Change → Step

-- what is served in a life, and what is known of its calls before any is taken: nothing
pub record Life : Type 0 where
  pub settings : Settings
  pub held : ℕ → Holding

-- the deeds of a life among these steps
abbrev pub deeds_of : ℕ → List Step → List Deed
deeds_of n [] = []
deeds_of n (Did m d ∷ later) = if m == n then d ∷ deeds_of n later else deeds_of n later
deeds_of n (Stored c ∷ later) = deeds_of n later

-- the request that a deed asks for, if it does
abbrev pub asked_by : Deed → List Awaited
asked_by (Happened e written note) = []
asked_by (Stopped p written w q) = w ∷ []
asked_by (Joined p written n joined) = []
asked_by (Answered a outcome written note) = []
asked_by (Parked a own) = []
asked_by (GivenUp a handled) = []
asked_by (Settled i n outcome told) = []
asked_by (AnsweredUnkept a outcome written) = []
asked_by (SettledUnkept i n outcome told) = []

-- the requests that a life asked for in these steps
abbrev pub requests_of : ℕ → List Step → List Awaited
requests_of n steps = flat_map asked_by (deeds_of n steps)

-- the store after these steps, which find it with so much in it
abbrev pub stored_after : Store → List Step → Store
stored_after s [] = s
stored_after s (Did n d ∷ later) = stored_after s later
stored_after s (Stored c ∷ later) = stored_after (changed s c) later

-- .. or empty
abbrev pub stored : List Step → Store
stored steps = stored_after empty_store steps

-- the store keeps its promises at each of its changes
abbrev pub IsKept : List Step → Type 0
IsKept steps = (front rest : List Step) (c : Change) → steps ≡ front ++ Stored c ∷ rest → Allows (stored front) c

-- the requests with a key that are asked for in all lives carry one expiration
abbrev pub OneExpirationOf : RequestKey → List Step → Type 0
OneExpirationOf key steps = (m n : ℕ) (a b : Awaited) (early late : ℕ) → Contains (requests_of m steps) a → Contains (requests_of n steps) b
    → a.field ≡ Present key early → b.field ≡ Present key late → early ≡ late

module _ (lives : ℕ → Life) where
  -- what is known of a life after these steps
  abbrev pub ledger_of : ℕ → List Step → Ledger
  ledger_of n steps = after_deeds (lives n).settings (opening (lives n).held) (deeds_of n steps)

  -- each life is a run of an engine, from a new one on
  abbrev pub AreLives : List Step → Type 0
  AreLives steps = (n : ℕ) → Runs (lives n).settings (opening (lives n).held) (deeds_of n steps)
