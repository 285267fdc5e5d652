-- What is kept of the keys of requests: the first request with each. No public contract rests on how they are kept.
use Rattle.std.specs.Prelude.{◌≡◌, ℕ, Bool, List, Option}
use Rattle.std.specs.BTreeMap.{is_at}
use Rattle.std.specs.Map.{lookup}
use Rattle.std.specs.List.{find}
use Rattle.std.specs.Option.{option_map}
use Rattle.std.specs.declared.cmp.Ordering.{Ordering}
use Rattle.giop_tap.specs.declared.key.Key.{Key}
use Rattle.giop_tap.specs.contracts.key.KeyOrd.TheImpl as order
use Rattle.giop_tap.specs.Pairing.{Named, has_key}
use Rattle.giop_tap.specs.Remembered.{Memory}

-- the order of keys, in which equal ones are one
abbrev pub key_cmp : Key → Key → Ordering
key_cmp = order.ghosts.cmp

abbrev pub Keys : Type 0
Keys = List (Key × ℕ)

-- what is kept is the first of these requests with each key
abbrev pub AreNamed : Keys → List Named → Type 0
AreNamed m named = (k : Key) → lookup (is_at (key_cmp k)) m ≡ option_map (λ n. n.number) (find (has_key k.client_id.items k.retention_id) named)

-- the keys that are kept, and how many are at most
pub record Kept : Type 0 where
  pub most : ℕ
  pub last : Keys
  pub before : Keys
  pub room : ℕ
  pub has_before : Bool
  pub forgot : Option ℕ

-- they are those that are remembered
pub record KeysStand (k : Kept) (s : Memory) : Type 0 where
  pub last_are : AreNamed k.last s.last
  pub before_are : AreNamed k.before s.before
  pub room_is : k.room ≡ s.room
  pub has_before_is : k.has_before ≡ s.has_before
  pub forgot_is : k.forgot ≡ s.forgot
