-- What is due on a connection: words of `Serves`, `Outcomes`, `Calls` and `Openings`, and so of what the exports promise.
use Rattle.std.specs.Prelude.{ℕ, ◌≤◌, List, length, drop}
use Rattle.lemonrudder.specs.declared.due.Due.{Due}

-- the octets that the caller has not taken yet
abbrev pub owed : Due → List ℕ
owed d = drop d.taken d.octets.items

-- no more octets are taken than there are
abbrev pub IsPlaced : Due → Type 0
IsPlaced d = d.taken ≤ length d.octets.items
