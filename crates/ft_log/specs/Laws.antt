-- The laws: statements about the definitions alone, each of which a function of `laws` ensures.
use Rattle.std.specs.Prelude.{◌≡◌, ◌↔◌, ◌<◌, ◌≤◌, ℕ, List, ◌∷◌, ◌++◌, length, IsTrue, Some}
use Rattle.cdr_core.specs.Spelling.{IsClean}
use Rattle.ft_log.specs.declared.system_exception.SystemName.{SystemName}
use Rattle.ft_log.specs.Exceptions.{repository_id}
use Rattle.ft_log.specs.Holding.{Holding}
use Rattle.ft_log.specs.Keys.{RequestKey, are_distinct, has_room_for, held_of, same_key}
use Rattle.ft_log.specs.Kept.{KeptOutcome, kept_for, keys_of}

-- Two keys are one exactly where they are equal.
abbrev pub SameKeysAreEqual : Type 0
SameKeysAreEqual = (a b : RequestKey) → IsTrue (same_key a b) ↔ (a ≡ b)

-- In a list of distinct keys a later key is not an earlier one.
abbrev pub DistinctKeysDiffer : Type 0
DistinctKeysDiffer = (front between rest : List RequestKey) (a b : RequestKey) → IsTrue (are_distinct (front ++ a ∷ between ++ b ∷ rest)) → ¬ (a ≡ b)

-- Where keys are distinct, each entry's outcome is kept for its key ..
abbrev pub EntriesAreFound : Type 0
EntriesAreFound = (front rest : List (KeptOutcome Holding)) (e : KeptOutcome Holding) → IsTrue (are_distinct (keys_of (front ++ e ∷ rest))) → kept_for e.key (front ++ e ∷ rest) ≡ Some e.outcome

-- .. and what is kept for a key is the outcome of an entry with this key.
abbrev pub FoundIsAnEntry : Type 0
FoundIsAnEntry = (key : RequestKey) (entries : List (KeptOutcome Holding)) (o : Holding) → kept_for key entries ≡ Some o → (front : List (KeptOutcome Holding)) × (rest : List (KeptOutcome Holding)) × (e : KeptOutcome Holding) × (entries ≡ front ++ e ∷ rest) × (e.key ≡ key) × (e.outcome ≡ o)

-- There is room for another key exactly where neither the capacity nor the client's share is reached.
abbrev pub RoomIsBelowBoth : Type 0
RoomIsBelowBoth = (capacity share : ℕ) (key : RequestKey) (keys : List RequestKey) → IsTrue (has_room_for capacity share key keys) ↔ ((length keys < capacity) × (held_of key.client_id keys < share))

-- The repository id of each system exception has no NUL ..
abbrev pub IdsAreClean : Type 0
IdsAreClean = (name : SystemName) → IsClean (repository_id name)

-- .. and at most 45 octets.
abbrev pub IdsAreShort : Type 0
IdsAreShort = (name : SystemName) → length (repository_id name) ≤ 45
