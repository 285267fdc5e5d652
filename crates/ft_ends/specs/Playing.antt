-- Schedules of the code, and what they begin with.
use Rattle.std.specs.Prelude.{ℕ, ℤ, pos, List, [], ◌∷◌}
use Rattle.cdr_core.specs.Spelling.{IsClean}
use Rattle.cdr_core.specs.View.{values_of}
use Rattle.cdr_core.specs.Writing.{AreWritable}
use Rattle.ft_client.specs.declared.client.FtClient.{FtClient}
use Rattle.ft_client.specs.declared.ended.Ended.{Ended as CodeEnded}
use Rattle.ft_client.specs.Calling.{call_of}
use Rattle.ft_client.specs.Clients.{Ended, new_client}
use Rattle.ft_client.specs.Ends.{ended_of}
use Rattle.ft_client.specs.Messages.{Call}
use Rattle.ft_client.specs.Standing.{FtStands}
use Rattle.ft_orb.specs.Outputs.{Made}
use Rattle.ft_objects.specs.Servants.{Meaning}
use Rattle.ft_orb.specs.Standing.{Shown, Stands}
use Rattle.ft_ends.specs.declared.steps.Call.{Call as CodeCall}
use Rattle.ft_ends.specs.declared.steps.Step.{Step as CodeStep}
use Rattle.ft_ends.specs.declared.steps.Step.TheVariants as code
use Rattle.ft_ends.specs.Both.{AreDistinct}
use Rattle.ft_ends.specs.World.{CallNow, Cancel, Connect, Cut, Down, KeepForwards, KeepOn, Member, Newcomer, RecallNow, RedirectTo, ResendNow, Shut, SkipTo, Step, Tick, UpTo}

-- a call of the code
abbrev pub call_as : CodeCall → Call
call_as c = call_of c.object_key.items c.operation.items c.arguments.items c.expiration

-- a step of the code
abbrev pub step_as : CodeStep → Step
step_as (code.Call k now call) = CallNow k now (call_as call)
step_as (code.Recall k number now call) = RecallNow k now number (call_as call)
step_as (code.Skip k number) = SkipTo k number
step_as (code.Keep k keeps) = KeepOn k keeps
step_as (code.KeepForwards k keeps) = KeepForwards k keeps
step_as (code.Redirect k id key) = RedirectTo k id key.items
step_as (code.Connect k now) = Connect k now
step_as (code.Resend k now) = ResendNow k now
step_as (code.Up k n now) = UpTo k n now
step_as (code.Down k n) = Down k n
step_as (code.Cut k) = Cut k
step_as (code.Shut k) = Shut k
step_as (code.Cancel k id) = Cancel k id
step_as (code.Tick k now) = Tick k now

-- the call of a step, if it has one: its operation has no NUL, and its arguments can be written
abbrev pub IsCallable : CodeStep → Type 0
IsCallable (code.Call k now call) = IsClean call.operation.items × AreWritable (values_of call.arguments.items)
IsCallable (code.Recall k number now call) = IsClean call.operation.items × AreWritable (values_of call.arguments.items)
IsCallable (code.Skip k number) = Unit {0}
IsCallable (code.Keep k keeps) = Unit {0}
IsCallable (code.KeepForwards k keeps) = Unit {0}
IsCallable (code.Redirect k id key) = Unit {0}
IsCallable (code.Connect k now) = Unit {0}
IsCallable (code.Resend k now) = Unit {0}
IsCallable (code.Up k n now) = Unit {0}
IsCallable (code.Down k n) = Unit {0}
IsCallable (code.Cut k) = Unit {0}
IsCallable (code.Shut k) = Unit {0}
IsCallable (code.Cancel k id) = Unit {0}
IsCallable (code.Tick k now) = Unit {0}

-- a completion of the code: the client's place, the number of its call, and how it ended
abbrev pub given_of : ℕ × ℤ × CodeEnded → ℕ × ℤ × Ended
given_of x = (x.0, x.1, ended_of x.2)

-- one of the world
abbrev pub numbered : ℕ × ℕ × Ended → ℕ × ℤ × Ended
numbered x = (x.0, pos x.1, x.2)

-- clients that have made no call and are not connected
abbrev pub AreNew : List Newcomer → List FtClient → Type 0
AreNew [] [] = Unit {0}
AreNew (n ∷ ns) (c ∷ cs) = FtStands c (new_client n.client_id n.version n.limits) × AreNew ns cs
AreNew [] (c ∷ cs) = ⊥
AreNew (n ∷ ns) [] = ⊥

-- clients that stand for these of a world, one for each, in order
abbrev pub AreClientsOf : List Member → List FtClient → Type 0
AreClientsOf [] [] = Unit {0}
AreClientsOf (m ∷ ms) (c ∷ cs) = FtStands c m.life.client × AreClientsOf ms cs
AreClientsOf [] (c ∷ cs) = ⊥
AreClientsOf (m ∷ ms) [] = ⊥

-- nothing has happened to the server, and the clients are new, with ids that differ
pub record AreBeginning {State : Type 0} (meaning : Meaning State) (made : Made State) (newcomers : List Newcomer) (server : Shown State) (clients : List FtClient) : Type 0 where
  pub stands : Stands meaning made server []
  pub clients_are : AreNew newcomers clients
  pub distinct : AreDistinct newcomers
