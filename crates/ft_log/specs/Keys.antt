-- What names a request over all its transmissions.
use Rattle.std.specs.Prelude.{ℕ, ℤ, ◌+◌, ◌==◌, Bool, true, not, ◌&&◌, if◌then◌else◌, List, [], ◌∷◌, bytes_eq, count_by, length, nat_lt}
use Rattle.std.specs.List.{list_any}
use Rattle.std.specs.Ordering.{int_eq}

-- FT 23.2.7: the client that asks, and its number for the request
pub record RequestKey : Type 0 where
  pub client_id : List ℕ
  pub retention_id : ℤ

-- two keys are one: both parts are equal
abbrev pub same_key : RequestKey → RequestKey → Bool
same_key a b = bytes_eq a.client_id b.client_id && int_eq a.retention_id b.retention_id

-- no two of these keys are one
abbrev pub are_distinct : List RequestKey → Bool
are_distinct [] = true
are_distinct (k ∷ ks) = not (list_any (λ later. same_key later k) ks) && are_distinct ks

-- how many of these keys a client has
abbrev pub held_of : List ℕ → List RequestKey → ℕ
held_of client keys = count_by (λ k. bytes_eq k.client_id client) keys

-- of how many clients these keys are: each client counts at its last key
abbrev pub clients_in : List RequestKey → ℕ
clients_in [] = 0
clients_in (k ∷ ks) = (if held_of k.client_id ks == 0 then 1 else 0) + clients_in ks

-- there is room for another key: fewer than `capacity` in all, and fewer than `share` of its client
abbrev pub has_room_for : ℕ → ℕ → RequestKey → List RequestKey → Bool
has_room_for capacity share key keys = nat_lt (length keys) capacity && nat_lt (held_of key.client_id keys) share
