-- Where the parts of a message lie among the octets after its header, and what they say there.
use Rattle.std.specs.Prelude.{◌≡◌, ℕ, ◌+◌, ◌-◌, ◌≤◌, List, [], length, drop, slice_range, Result, Ok, Err, IsOk, MatchResult, ⊤}
use Rattle.cdr_core.specs.declared.order.Order.{Order}
use Rattle.cdr_core.specs.Cursor.{Position}
use Rattle.cdr_core.specs.Value.{Value}
use Rattle.giop_core.specs.declared.header.Header.{Header}
use Rattle.giop_core.specs.declared.header.MessageKind.{MessageKind}
use Rattle.giop_core.specs.declared.header.Version.{Version}
use Rattle.giop_core.specs.declared.error.MessageFault.{MessageFault}
use Rattle.giop_core.specs.declared.message.Places.{Places}
use Rattle.giop_core.specs.declared.places.BodyPlace.{BodyPlace}
use Rattle.giop_core.specs.declared.places.ContextsPlace.{ContextsPlace}
use Rattle.giop_core.specs.declared.places.Parts.{Parts}
use Rattle.giop_core.specs.declared.places.Parts.TheVariants as parts
use Rattle.giop_core.specs.declared.places.Span.{Span}
use Rattle.giop_core.specs.declared.places.TargetPlace.{TargetPlace}
use Rattle.giop_core.specs.declared.places.TargetPlace.TheVariants as target
use Rattle.giop_core.specs.Content as content
use Rattle.giop_core.specs.Content.{Addressed, Content, Rest, addressed}
use Rattle.giop_core.specs.Items.{items_in}
use Rattle.giop_core.specs.Messages.{Found, field_at, message_of}
use Rattle.giop_core.specs.Rows as row

-- the octets of a span
abbrev pub span_in : Span → List ℕ → List ℕ
span_in s octets = slice_range octets s.start s.end

-- what a target of 1.2 is read as behind so many octets
abbrev pub target_behind : ℕ → Order → List ℕ → Found Value
target_behind n order octets = field_at row.target order (12 + n) (drop n octets)

-- an object, by what a target is read as
abbrev pub object_read : Found Value → Addressed
object_read (Ok x) = addressed x.0
object_read (Err f) = content.by_key []

-- a target: a key by its octets, and another where it is read
abbrev pub object_in : TargetPlace → Order → List ℕ → Addressed
object_in (target.Key s) order octets = content.by_key (span_in s octets)
object_in (target.Other n) order octets = object_read (target_behind n order octets)

-- service contexts: so many from a place on
abbrev pub contexts_in : ContextsPlace → Order → List ℕ → List (ℕ × List ℕ)
contexts_in p order octets = items_in order p.left (12 + p.start) (drop p.start octets)

-- a body
abbrev pub body_in : BodyPlace → Order → List ℕ → Rest
body_in p order octets = record { order = order; place = p.at; octets = drop p.start octets }

-- what the parts of a message say
abbrev pub content_in : Parts → Order → List ℕ → Content
content_in (parts.Request r) order octets =
    content.request r.request_id r.reply (object_in r.target order octets) (span_in r.operation octets) (contexts_in r.contexts order octets) (body_in r.body order octets)
content_in (parts.Reply r) order octets = content.reply r.request_id r.status (contexts_in r.contexts order octets) (body_in r.body order octets)
content_in (parts.Cancel id) order octets = content.cancel id
content_in (parts.LocateRequest id to) order octets = content.locate_request id (object_in to order octets)
content_in (parts.LocateReply id status body) order octets = content.locate_reply id status (body_in body order octets)
content_in parts.Close order octets = content.close
content_in parts.Error order octets = content.error
content_in (parts.Fragment id start) order octets = content.fragment id (drop start octets)

-- they lie within the octets

abbrev pub IsSpanIn : Span → List ℕ → Type 0
IsSpanIn s octets = (s.start ≤ s.end) × (s.end ≤ length octets)

abbrev pub IsTargetIn : TargetPlace → Order → List ℕ → Type 0
IsTargetIn (target.Key s) order octets = IsSpanIn s octets
IsTargetIn (target.Other n) order octets = (n ≤ length octets) × IsOk (target_behind n order octets)

abbrev pub ArePartsIn : Parts → Order → List ℕ → Type 0
ArePartsIn (parts.Request r) order octets = IsTargetIn r.target order octets × IsSpanIn r.operation octets × (r.contexts.start ≤ length octets) × (r.body.start ≤ length octets)
ArePartsIn (parts.Reply r) order octets = (r.contexts.start ≤ length octets) × (r.body.start ≤ length octets)
ArePartsIn (parts.LocateRequest id to) order octets = IsTargetIn to order octets
ArePartsIn (parts.LocateReply id status body) order octets = body.start ≤ length octets
ArePartsIn (parts.Fragment id start) order octets = start ≤ length octets
ArePartsIn _ order octets = ⊤

-- These parts are what octets say after a header of this version, kind and order.
abbrev pub ArePartsOf : Version → MessageKind → Order → List ℕ → Parts → Type 0
ArePartsOf version kind order octets p = (message_of version kind order octets ≡ Ok (content_in p order octets)) × ArePartsIn p order octets

-- A call finds them, or gives the first fault.
abbrev pub FindsParts : {A : Type 0} → Version → MessageKind → Order → List ℕ → Result A MessageFault → Parts → Type 0
FindsParts version kind order octets r p = MatchResult r (λ _. ArePartsOf version kind order octets p) (λ e. message_of version kind order octets ≡ Err e)

-- These places are those of the parts of the message that octets are after a header.
abbrev pub ArePlacesOf : Header → List ℕ → Places → Type 0
ArePlacesOf h octets p = ArePartsOf h.version h.kind h.order octets p.parts

-- octets, and the header that they stand under
pub record Headed : Type 0 where
  pub header : Header
  pub octets : List ℕ

-- what they say
abbrev pub said_by : Headed → Result Content MessageFault
said_by m = message_of m.header.version m.header.kind m.header.order m.octets

-- A cursor stands among octets of which the first is at the place o.
abbrev pub IsOn : ℕ → List ℕ → Position → Type 0
IsOn o octets c = (o ≤ c.place) × (c.place ≤ o + length octets) × (c.rest ≡ drop (c.place - o) octets)
