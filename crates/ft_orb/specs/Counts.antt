-- How many requests are parked, by the connections that they came on, and how many wait for their outcomes; and for which objects.
use Rattle.std.specs.Prelude.{◌≡◌, ◌==◌, ℕ, Bool, List, bytes_eq}
use Rattle.std.specs.List.{count_by, list_any, sum_by}
use Rattle.std.specs.Map.{count_at}
use Rattle.std.specs.Ordering.{nat_cmp}
use Rattle.std.specs.BTreeMap.{BTreeMap, get, values}
use Rattle.ft_orb.specs.declared.parked.Parked.{Parked}
use Rattle.ft_orb.specs.declared.parked.Waiter.{Waiter}

-- how many of those that are parked came on a connection
abbrev pub parked_on : BTreeMap ℕ Parked → ℕ → ℕ
parked_on requests c = count_by (λ (p : Parked). p.pending.connection == c) (values requests)

-- how many of them wait on a connection
abbrev pub on_connection : ℕ → List Waiter → ℕ
on_connection c waiters = count_by (λ (w : Waiter). w.connection == c) waiters

-- .. for any outcome
abbrev pub waiters_on : BTreeMap ℕ Parked → ℕ → ℕ
waiters_on requests c = sum_by (λ (p : Parked). on_connection c p.waiters.items) (values requests)

-- each connection has its count
abbrev pub AreCounted : BTreeMap ℕ Parked → BTreeMap ℕ ℕ → Type 0
AreCounted requests counts = (c : ℕ) → count_at (get nat_cmp counts) c ≡ parked_on requests c

-- one of them is a request of the object under this key
abbrev pub is_parked_for : List ℕ → BTreeMap ℕ Parked → Bool
is_parked_for key requests = list_any (λ (p : Parked). bytes_eq p.pending.waiting.object_key.items key) (values requests)
