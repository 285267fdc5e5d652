-- A pending call of which something else is asked from now on, under another object key.
use Rattle.std.specs.Prelude.{ℕ, ℤ, pos, if◌then◌else◌, List, [], ◌∷◌, None}
use Rattle.std.specs.Ordering.{int_eq}
use Rattle.cdr_core.specs.Value.{Values}
use Rattle.ft_client.specs.Clients.{Pending}
use Rattle.ft_client.specs.Messages.{Call, Form}

-- a call that asks for this operation with these arguments in this form, until the moment of one
abbrev pub in_place_of : (operation : List ℕ) → Values → Form → Call → Call
in_place_of operation arguments form call = record call { operation = operation; arguments = arguments; form = form }

-- the pending calls, where that of a number is another by its own, and is asked for under an object key
abbrev pub asked_anew : ℤ → (key : List ℕ) → (Call → Call) → List Pending → List Pending
asked_anew id key anew [] = []
asked_anew id key anew (p ∷ ps) = if int_eq (pos p.id) id then record p { call = anew p.call; at = key; led = None } ∷ ps else p ∷ asked_anew id key anew ps
