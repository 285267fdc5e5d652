-- A client of tickets that calls on connection 1, which is lost before the answer comes, and is connected again on connection 2.
use Rattle.std.specs.Prelude.{◌≡◌, ℕ, List, [], ◌∷◌, codes}
use Rattle.giop_core.specs.declared.header.Version.TheVariants.{V12}
use Rattle.giop_frames.specs.declared.limits.Limits.{Limits}
use Rattle.ft_client.specs.Calling.{call_of}
use Rattle.ft_client.specs.Clients.{Called, Client, Ended, Fed, Happening, Joined, Parted, Taken, after, gives, new_client, says}
use Rattle.ft_client.specs.Directions.{stream}
use Rattle.ft_client.specs.Messages.{Call, octets_said}
use Rattle.ft_client.specs.Standing.{down}
use Rattle.ft_orb.specs.ExactlyOnce.{OneExpiration, state_of}
use Rattle.ft_orb.specs.History.{Event, Lost, Opened, Piece, arrivals}
use Rattle.ft_orb.specs.Requests.{rules_of}
use Rattle.uses.specs.Serving.{tickets_output}
use Rattle.uses.specs.Tickets.{tickets_meaning}

-- next of the tickets, until the moment 100
abbrev pub next_call : Call
next_call = call_of (codes "tickets") (codes "next") [] 100

-- a client after what happens to it
abbrev pub goes_on : Happening → Client → Client
goes_on h m = after (down m.limits) h m

-- the client as it is made, when it is connected, once it called and lost the connection, and when it is connected again
abbrev pub unconnected : Limits → Client
unconnected limits = new_client (codes "A") V12 limits

abbrev pub connected : Limits → Client
connected limits = goes_on (Joined 50) (unconnected limits)

abbrev pub unheard : Limits → Client
unheard limits = goes_on Parted (goes_on (Called 50 next_call) (connected limits))

abbrev pub connected_again : Limits → Client
connected_again limits = goes_on (Joined 60) (unheard limits)

-- what it sends on each connection
abbrev pub first_sent : Limits → List ℕ
first_sent limits = stream octets_said (says (Called 50 next_call) (connected limits))

abbrev pub second_sent : Limits → List ℕ
second_sent limits = stream octets_said (says (Joined 60) (unheard limits))

-- what has happened to the server when the octets come on the second, the newest first, and what it answers to them
abbrev pub before : Limits → List Event
before limits = Opened 2 ∷ Lost 1 ∷ Piece 1 50 (first_sent limits) ∷ Opened 1 ∷ []

abbrev pub answered : Limits → List ℕ
answered limits = tickets_output limits (before limits) (Piece 2 60 (second_sent limits))

-- how the call ends
abbrev pub next_ended : Limits → List (ℕ × Ended)
next_ended limits = gives Taken (goes_on (Fed (answered limits)) (connected_again limits))

-- what has happened to the server then
abbrev pub served : Limits → List Event
served limits = Piece 2 60 (second_sent limits) ∷ before limits

-- how many tickets were given: where requests with one key carry one expiration, as many as each distinct request takes once
abbrev pub IsGiven : Limits → ℕ → Type 0
IsGiven limits given = OneExpiration (arrivals limits (served limits)) → given ≡ state_of (rules_of tickets_meaning 100 10) 0 (arrivals limits (served limits))
