-- An outcome that is kept once.
use Rattle.std.specs.Prelude.{ℕ, if◌then◌else◌, is_some, List, [], ◌∷◌, ◌++◌}
use Rattle.ft_log.specs.Holding.{Holding}
use Rattle.ft_log.specs.Kept.{KeptOutcome, kept_for}
use Rattle.ft_log.specs.Keys.{RequestKey}

-- entries, and the outcome of a key last of all, unless one is kept for it
abbrev pub kept_once : RequestKey → ℕ → Holding → List (KeptOutcome Holding) → List (KeptOutcome Holding)
kept_once key expiration outcome entries =
    if is_some (kept_for key entries) then entries else entries ++ record { key = key; expiration = expiration; outcome = outcome } ∷ []
