-- Pieces that come on connection 1 of a new server of tickets, one after another.
use Rattle.std.specs.Prelude.{◌≡◌, ℕ, Bool, List, [], ◌∷◌, ◌++◌, map, reverse, Result}
use Rattle.std.specs.List.{concat}
use Rattle.giop_frames.specs.declared.limits.Limits.{Limits}
use Rattle.ft_log.specs.Performed.{Performed}
use Rattle.ft_log.specs.declared.system_exception.SystemName.{SystemName}
use Rattle.ft_orb.specs.ExactlyOnce.{OneExpiration, state_of}
use Rattle.ft_orb.specs.History.{Event, Opened, Piece, arrivals}
use Rattle.ft_orb.specs.Laws.{entries_in}
use Rattle.ft_orb.specs.Outputs.{law_says}
use Rattle.ft_orb.specs.Requests.{rules_of}
use Rattle.uses.specs.Serving.{tickets_made}
use Rattle.uses.specs.Tickets.{is_tickets, tickets_meaning}
use Rattle.uses.specs.declared.pieces.Piece.{Piece as CodePiece}

-- what happens to the server
abbrev pub event_of : CodePiece → Event
event_of p = Piece 1 p.moment p.octets.items

-- what is written for events that come after this past, one after another
abbrev pub octets_for : Limits → (List ℕ → Bool) → (List Event → Event → List (Result Performed SystemName)) → List Event → List Event → List ℕ
octets_for limits knows answers past es = concat (map (λ w. w.octets) (entries_in limits knows answers past es))

-- all that happened to the server, the newest first
abbrev pub past_of : List Event → List Event
past_of es = reverse es ++ Opened 1 ∷ []

-- Where requests with one key carry one expiration: what is written are the answers of performing each distinct admissible request
-- once, and as many tickets are given as these take.
abbrev pub AreServedOnce : Limits → List Event → List ℕ → ℕ → Type 0
AreServedOnce limits es written given = OneExpiration (arrivals limits (past_of es))
    → (written ≡ octets_for limits is_tickets (law_says tickets_meaning (tickets_made limits)) (Opened 1 ∷ []) es)
    × (given ≡ state_of (rules_of tickets_meaning 100 10) 0 (arrivals limits (past_of es)))
