-- The connections of a server: words of `Serves`, and so of what the exports promise.
use Rattle.std.specs.Prelude.{◌≡◌, ◌==◌, ◌<◌, ℕ, Bool, true, false, List, [], length, Option, Some, None, is_some}
use Rattle.std.specs.Option.{option_map_or}
use Rattle.std.specs.Ordering.{nat_cmp}
use Rattle.std.specs.BTreeMap.{get}
use Rattle.ft_orb.specs.declared.ending.Ending.{Ending}
use Rattle.ft_orb.specs.declared.engine.Engine.{Engine}
use Rattle.ft_orb.specs.Engines.{Awaited, waits_in}
use Rattle.lemonrudder.specs.declared.connections.Connection.{Connection}
use Rattle.lemonrudder.specs.declared.connections.Connections.{Connections}
use Rattle.lemonrudder.specs.Dues.{owed}

-- the connection of a number, from when it is opened until it is lost
abbrev pub connection_at : Connections → ℕ → Option Connection
connection_at k c = get nat_cmp k.entries c

abbrev pub is_there : Connections → ℕ → Bool
is_there k c = is_some (connection_at k c)

abbrev pub how_many : Connections → ℕ
how_many k = length k.entries.entries

-- the octets that are due on it
abbrev pub owed_in : Connections → ℕ → List ℕ
owed_in k c = option_map_or (λ (x : Connection). owed x.due) (connection_at k c) []

-- whether it is leaving: goodbye is said on it once nobody waits there for an outcome
abbrev pub leaves_in : Connections → ℕ → Bool
leaves_in k c = option_map_or (λ (x : Connection). x.leaving) (connection_at k c) false

-- why it ended, where that is noted
abbrev pub why_in : Connections → ℕ → Option Ending
why_in k c = option_map_or (λ (x : Connection). x.why) (connection_at k c) None

-- it is there as before, and the same is due on it
abbrev pub IsSameAt : ℕ → Connections → Connections → Type 0
IsSameAt q k l = (is_there l q ≡ is_there k q) × (owed_in l q ≡ owed_in k q)

-- .. each
abbrev pub AreSame : Connections → Connections → Type 0
AreSame k l = (q : ℕ) → IsSameAt q k l

-- .. but for c
abbrev pub AreOthers : ℕ → Connections → Connections → Type 0
AreOthers c k l = (q : ℕ) → (c == q) ≡ false → IsSameAt q k l

-- .. of which only what is due may be another
abbrev pub OnlyDue : ℕ → Connections → Connections → Type 0
OnlyDue c k l = (is_there l c ≡ is_there k c) × AreOthers c k l

-- the same is noted of it
abbrev pub IsAsNoted : ℕ → Connections → Connections → Type 0
IsAsNoted q k l = (leaves_in l q ≡ leaves_in k q) × (why_in l q ≡ why_in k q)

-- .. of each
abbrev pub AreAsNoted : Connections → Connections → Type 0
AreAsNoted k l = (q : ℕ) → IsAsNoted q k l

-- .. but for c
abbrev pub AreOthersNoted : ℕ → Connections → Connections → Type 0
AreOthersNoted c k l = (q : ℕ) → (c == q) ≡ false → IsAsNoted q k l

-- why a connection ended by now, which ended before for such a reason, if it did
abbrev pub ended_by_now : (now before : Option Ending) → Option Ending
ended_by_now (Some e) before = Some e
ended_by_now None before = before

-- why c ended is noted, if it did, and nothing else
abbrev pub Notes : ℕ → Option Ending → Connections → Connections → Type 0
Notes c why k l = (leaves_in l c ≡ leaves_in k c) × (is_there k c ≡ true → why_in l c ≡ ended_by_now why (why_in k c)) × AreOthersNoted c k l

-- c is leaving, if it is there, and nothing else changes
abbrev pub StartsLeaving : ℕ → Connections → Connections → Type 0
StartsLeaving c k l = AreSame k l × (is_there k c ≡ true → leaves_in l c ≡ true) × (why_in l c ≡ why_in k c) × AreOthersNoted c k l

-- Words of private functions.

-- octets of a connection are heard: it is there, it is not leaving, and fewer octets are due on it than so many
abbrev pub Hears : (most : ℕ) → Connections → ℕ → Type 0
Hears most k c = (is_there k c ≡ true) × (leaves_in k c ≡ false) × (length (owed_in k c) < most)

-- the connection of what waits is there, if something waits
abbrev pub is_asked_there : {C : Type 0} → Connections → Engine C → Bool
is_asked_there k e = option_map_or (λ (w : Awaited). is_there k w.connection) (waits_in e) true
