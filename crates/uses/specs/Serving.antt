-- What a server of tickets writes for octets that come on connection 1, which is lost then, and again on connection 2.
use Rattle.std.specs.Prelude.{ℕ, List, [], ◌∷◌}
use Rattle.giop_frames.specs.declared.limits.Limits.{Limits}
use Rattle.ft_orb.specs.History.{Event, Lost, Opened, Piece}
use Rattle.ft_orb.specs.Outputs.{Made, output, table_says}
use Rattle.uses.specs.Tickets.{is_tickets, tickets_meaning}

-- a server that keeps at most 100 outcomes at a time, at most 10 of each client, and that gave no ticket
abbrev pub tickets_made : Limits → Made ℕ
tickets_made limits = record { limits = limits; capacity = 100; share = 10; opening = 0 }

-- what it writes for an event, by what happened before, the newest first
abbrev pub tickets_output : Limits → List Event → Event → List ℕ
tickets_output limits past e = output limits is_tickets (table_says tickets_meaning (tickets_made limits)) past e

-- for the octets on connection 1 at the moment 50
abbrev pub first_output : Limits → List ℕ → List ℕ
first_output limits octets = tickets_output limits (Opened 1 ∷ []) (Piece 1 50 octets)

-- for the same octets on connection 2 at the moment 60
abbrev pub second_output : Limits → List ℕ → List ℕ
second_output limits octets = tickets_output limits (Opened 2 ∷ Lost 1 ∷ Piece 1 50 octets ∷ Opened 1 ∷ []) (Piece 2 60 octets)
