-- Kept outcomes, in order of keeping.
use Rattle.std.specs.Prelude.{ℕ, ◌&&◌, Bool, not, nat_eq, nat_le, min, if◌then◌else◌, List, [], ◌∷◌, map, filter, Option, Some, None}
use Rattle.std.specs.Option.{option_eq, option_map_or}
use Rattle.ft_log.specs.Holding.{Holding, known, number_of}
use Rattle.ft_log.specs.Keys.{RequestKey, same_key}
use Rattle.ft_log.specs.Performed.{Performed}

-- an outcome under a key, until its expiration
pub record KeptOutcome (Outcome : Type 0) : Type 0 where
  pub key : RequestKey
  pub expiration : ℕ
  pub outcome : Outcome

-- the keys of the entries
abbrev pub keys_of : {Outcome : Type 0} → List (KeptOutcome Outcome) → List RequestKey
keys_of entries = map (λ e. e.key) entries

-- the outcome that is kept for a key
abbrev pub kept_for : {Outcome : Type 0} → RequestKey → List (KeptOutcome Outcome) → Option Outcome
kept_for key [] = None
kept_for key (e ∷ es) = if same_key key e.key then Some e.outcome else kept_for key es

-- the entries whose expiration is at or after the clock
abbrev pub unexpired : {Outcome : Type 0} → ℕ → List (KeptOutcome Outcome) → List (KeptOutcome Outcome)
unexpired clock entries = filter (λ e. nat_le clock e.expiration) entries

-- the least expiration of the entries
abbrev pub least_expiration : {Outcome : Type 0} → List (KeptOutcome Outcome) → Option ℕ
least_expiration [] = None
least_expiration (e ∷ es) = Some (option_map_or (min e.expiration) (least_expiration es) e.expiration)

-- the call of this number is parked
abbrev pub is_parked : ℕ → Holding → Bool
is_parked number h = option_eq nat_eq (number_of h) (Some number)

abbrev pub filled_if : Bool → Performed → KeptOutcome Holding → KeptOutcome Holding
filled_if b outcome e = if b then record { key = e.key; expiration = e.expiration; outcome = known outcome } else e

-- an entry with this outcome, where it is of this key, and of the call that is parked under this number
abbrev pub filled : RequestKey → ℕ → Performed → KeptOutcome Holding → KeptOutcome Holding
filled key number outcome e = filled_if (same_key key e.key && is_parked number e.outcome) outcome e

-- an entry of this key, whose call is parked under this number
abbrev pub is_parked_at : RequestKey → ℕ → KeptOutcome Holding → Bool
is_parked_at key number e = same_key key e.key && is_parked number e.outcome

-- the entries without the one that is parked under this number, under this key
abbrev pub withdrawn : RequestKey → ℕ → List (KeptOutcome Holding) → List (KeptOutcome Holding)
withdrawn key number entries = filter (λ e. not (is_parked_at key number e)) entries
