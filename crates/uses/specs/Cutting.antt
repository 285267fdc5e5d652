-- A client of tickets and a server over one schedule, in which the first connection is cut.
use Rattle.std.specs.Prelude.{◌≡◌, ℕ, List, [], ◌∷◌, codes}
use Rattle.cdr_core.specs.Parts.{ulonglong_value}
use Rattle.cdr_core.specs.Value.{values}
use Rattle.giop_core.specs.declared.reply.ReplyStatus.TheVariants.{NoException}
use Rattle.giop_core.specs.declared.header.Version.TheVariants.{V12}
use Rattle.giop_frames.specs.declared.limits.Limits.{Limits}
use Rattle.ft_client.specs.Clients.{Ended, Told}
use Rattle.ft_client.specs.Standing.{down}
use Rattle.ft_ends.specs.Both.{body_at}
use Rattle.ft_ends.specs.Laws.{sides_of}
use Rattle.ft_ends.specs.World.{CallNow, Connect, Cut, Down, Newcomer, Step, UpTo, World, world}
use Rattle.ft_log.specs.Performed.{Performed, returned}
use Rattle.ft_orb.specs.ExactlyOnce.{state_of}
use Rattle.ft_orb.specs.History.{arrivals}
use Rattle.ft_orb.specs.Requests.{rules_of}
use Rattle.uses.specs.Retrying.{next_call}
use Rattle.uses.specs.Serving.{tickets_made}
use Rattle.uses.specs.Tickets.{tickets_meaning}

-- the client `A`, alone
abbrev pub newcomers : Limits → List Newcomer
newcomers limits = record { client_id = codes "A"; version = V12; limits = limits } ∷ []

-- it calls and connects, so many octets of the request and of the reply are delivered, the connection is cut, and all goes well on
-- another
unfoldable pub steps_at : ℕ → ℕ → List Step
steps_at request reply = CallNow 0 50 next_call ∷ Connect 0 50 ∷ UpTo 0 request 50 ∷ Down 0 reply ∷ Cut 0 ∷ Connect 0 60 ∷ UpTo 0 4294967295 60 ∷ Down 0 4294967295 ∷ []

-- the world of these steps
abbrev pub world_at : Limits → ℕ → ℕ → World
world_at limits request reply = world (sides_of tickets_meaning (tickets_made limits) down) (newcomers limits) (steps_at request reply)

-- how many tickets were given in it
abbrev pub given_at : Limits → ℕ → ℕ → ℕ
given_at limits request reply = state_of (rules_of tickets_meaning 100 10) 0 (arrivals limits (world_at limits request reply).past)

-- the first ticket, as the outcome of a request
abbrev pub first_ticket : Performed
first_ticket = returned (values (ulonglong_value 1 ∷ []))

-- a call that returned got it
abbrev pub IsFirst : Ended → Type 0
IsFirst (Told NoException body) = body ≡ body_at first_ticket
IsFirst _ = Unit {0}
