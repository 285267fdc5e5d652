-- What a client hears of what a server says, and what was said on a connection.
use Rattle.std.specs.Prelude.{ℕ, ◌==◌, if◌then◌else◌, List, [], ◌∷◌, ◌++◌, Option, Some, None}
use Rattle.cdr_core.specs.Value.{Values}
use Rattle.cdr_core.specs.Writing.{octets_of_all}
use Rattle.cdr_core.specs.declared.order.Order.{Order}
use Rattle.cdr_core.specs.declared.order.Order.TheVariants.{Big}
use Rattle.ft_client.specs.Messages.{Answer, Shown, located, replied}
use Rattle.ft_orb.specs.History.{Event, connection_of}
use Rattle.ft_orb.specs.Outputs.{Made, law_says, told}
use Rattle.ft_objects.specs.Servants.{Meaning}
use Rattle.ft_orb.specs.Tellings.{Closing, Failed, Located, Replied, Telling}

-- GIOP 9.4.3: what a client hears of a Reply without contexts: in every version its body stands at the place 24
abbrev pub shown_as : Order → ℕ → Values → Shown
shown_as order status body = record { status = status; body = record { order = order; place = 24; octets = octets_of_all order body 24 } }

-- GIOP 9.4.6: .. and of a LocateReply, which has no body
abbrev pub located_as : ℕ → Shown
located_as status = record { status = status; body = record { order = Big; place = 20; octets = [] } }

-- what a client hears of a message, if it is an answer
abbrev pub answer_in : Telling → Option Answer
answer_in (Replied version order id status body) = Some (replied id (shown_as order status body))
answer_in (Located version id status) = Some (located id (located_as status))
answer_in Failed = None
answer_in Closing = None

-- what an event makes a server say, by the answers of the fold that remembers all
abbrev pub law_told : {State : Type 0} → Meaning State → Made State → List Event → Event → List Telling
law_told meaning made past e = told made.limits meaning.knows (law_says meaning made) past e

-- all that was said on a connection over a past, where this is what each event makes a server say
abbrev pub tellings : (List Event → Event → List Telling) → List Event → ℕ → List Telling
tellings says [] c = []
tellings says (e ∷ past) c = if connection_of e == c then tellings says past c ++ says past e else tellings says past c
