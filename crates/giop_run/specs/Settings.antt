-- The numbers that a task and a service have.
use Rattle.std.specs.Prelude.{◌≢◌, ◌≤◌, pos, ◌≤ℤ◌, Some, IsSome, ⊤}
use Rattle.giop_run.specs.declared.setting.EnginePlay.{EnginePlay}
use Rattle.giop_run.specs.declared.setting.Numbers.{Numbers}
use Rattle.giop_run.specs.declared.setting.Service.{Service}
use Rattle.giop_run.specs.declared.setting.Task.{Task}
use Rattle.giop_run.specs.declared.setting.Task.TheVariants as task
use Rattle.giop_run.specs.declared.setting.TheConstants.{LEAST_LIMIT, MOST_CONNECTIONS, MOST_LIMIT, MOST_OUTCOMES, MOST_PARTIALS, MOST_PLACES}

-- The numbers of a server lie in their ranges. A share has none: one that is no share of the capacity is refused when the server is made.
abbrev pub AreInRange : Numbers → Type 0
AreInRange n = (1 ≤ n.capacity) × (n.capacity ≤ MOST_OUTCOMES) × (pos 0 ≤ℤ n.start) × (LEAST_LIMIT ≤ n.limit) × (n.limit ≤ MOST_LIMIT) × (1 ≤ n.partials) × (n.partials ≤ MOST_PARTIALS)

-- those of a play on an engine
abbrev pub IsPlayable : EnginePlay → Type 0
IsPlayable play = (play.parked ≤ MOST_PLACES) × (play.joined ≤ MOST_PLACES) × AreInRange play.numbers

-- those of a task
abbrev pub IsInRange : Task → Type 0
IsInRange (task.Play numbers) = AreInRange numbers
IsInRange (task.Engine play) = IsPlayable play
IsInRange _ = ⊤

-- those of a service. A port is an unsigned short; a timeout of no seconds is none
abbrev pub IsServable : Service → Type 0
IsServable service = (1 ≤ service.port) × (1 ≤ service.connections) × (service.connections ≤ MOST_CONNECTIONS) × (service.timeout ≢ Some 0) × AreInRange service.numbers

-- a task reads a file
abbrev pub HasFile : Task → Type 0
HasFile (task.Show input) = IsSome input.file
HasFile (task.Check input) = IsSome input.file
HasFile _ = ⊥
