-- The octets of a direction of a connection, apart from what is said on it.
use Rattle.std.specs.Prelude.{ℕ, List, [], ◌∷◌, ◌++◌}

-- the octets of messages, one after another
abbrev pub stream : {W : Type 0} → (W → List ℕ) → List W → List ℕ
stream octets [] = []
stream octets (m ∷ ms) = octets m ++ stream octets ms
