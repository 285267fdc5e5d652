-- The words of private functions: what their contracts say on the way to those of the public ones. Nobody who takes the
-- public contracts has to read this file.
use Rattle.std.specs.Prelude.{◌≡◌, ◌⊎◌, ℕ, ◌-◌, ◌<◌, ◌≤◌, ◌^◌, Bool, List, [], ◌∷◌, ◌++◌, length, map, replicate, take, Option, Some, None, Result, Ok, Err}
use Rattle.cdr_core.specs.declared.order.Order.{Order}
use Rattle.cdr_core.specs.Numbers.{digits_of, padding}
use Rattle.cdr_core.specs.Private.{Keeps}
use Rattle.cdr_core.specs.Spelling.{IsClean}
use Rattle.cdr_core.specs.Value.{Value, values}
use Rattle.cdr_core.specs.Writing.{octets_of_all}
use Rattle.giop_core.specs.declared.error.WriteError.{WriteError}
use Rattle.giop_core.specs.declared.error.WriteError.TheVariants.{TooLong, Memory}
use Rattle.giop_core.specs.declared.header.MessageKind.{MessageKind}
use Rattle.giop_core.specs.declared.header.MessageKind.TheVariants.{Request, Reply}
use Rattle.giop_core.specs.declared.header.Version.{Version}
use Rattle.giop_core.specs.declared.header.Version.TheVariants.{V12}
use Rattle.giop_core.specs.Items.{item_at}
use Rattle.giop_core.specs.Statuses.{reply_statuses}
use Rattle.giop_core.specs.Written.{octets_body, reply_fields, with_body}
use Rattle.giop_proxy.specs.declared.fields.Fields.{Fields}
use Rattle.giop_proxy.specs.declared.fields.Fields.TheVariants as fields
use Rattle.giop_proxy.specs.declared.placed.PlacingError.{PlacingError}
use Rattle.giop_proxy.specs.declared.placed.PlacingError.TheVariants as refused
use Rattle.giop_proxy.specs.Placing.{Appends, IsOver, begins_at, contexts_with, fields_at, principal_for, request_fields, wish_in}

-- the kind of a message of these fields
abbrev pub kind_of : Fields → MessageKind
kind_of (fields.Request r) = Request
kind_of (fields.Reply r) = Reply

-- their service contexts
abbrev pub contexts_of : Fields → List (ℕ × List ℕ)
contexts_of (fields.Request r) = map item_at r.contexts.now
contexts_of (fields.Reply r) = map item_at r.contexts.now

-- what they are in a message with these service contexts, before a body at a place ..
abbrev pub fields_with : Version → Fields → List (ℕ × List ℕ) → ℕ → List ℕ → List Value
fields_with version (fields.Request r) contexts place body = request_fields version r.request_id (wish_in version r.wish) r.object_key.now r.operation.now contexts (principal_for place body)
fields_with version (fields.Reply r) contexts place body = reply_fields version r.request_id r.status contexts

-- .. and with their own, without the one that says nothing or with it
abbrev pub fields_for : Version → Fields → ℕ → List ℕ → Bool → List Value
fields_for version f place body padded = fields_with version f (contexts_with padded (contexts_of f)) place body

-- what their writers ask
abbrev pub CanBeWritten : Version → Fields → Type 0
CanBeWritten version (fields.Request r) = IsClean r.operation.now
CanBeWritten version (fields.Reply r) = r.status < reply_statuses version

-- Twelve octets, and these fields, are appended; or they are more than a message size can count; or memory ran out.
abbrev pub Begins : {A : Type 0} → Order → List Value → Result A WriteError → List ℕ → List ℕ → Type 0
Begins order fs (Ok x) old new = (head : List ℕ) × (length head ≡ 12) × (new ≡ old ++ (head ++ octets_of_all order (values fs) 12))
Begins order fs (Err TooLong) old new = (2 ^ 32 ≤ length (octets_of_all order (values fs) 12)) × Keeps old new
Begins order fs (Err Memory) old new = Keeps old new

-- the fields of a Request, whose empty principal ends them in 1.0 and 1.1, with one of so many octets in its place
abbrev pub ends_with : Version → Order → ℕ → List ℕ → List ℕ
ends_with V12 order n octets = octets
ends_with _ order n octets = take (length octets - 4) octets ++ (digits_of order 4 n ++ replicate n 0)

-- a kind of message that has a body here
abbrev pub HasBody : MessageKind → Type 0
HasBody kind = (kind ≡ Request) ⊎ (kind ≡ Reply)

-- the padding before a body that has octets, behind fields that end at a place
abbrev pub gap_at : Version → ℕ → List ℕ
gap_at V12 end = replicate (padding end 8) 0
gap_at _ end = []

-- where a body begins behind fields that end at a place; one of no octets begins there
abbrev pub begun_at : Version → ℕ → List ℕ → ℕ
begun_at version end [] = end
begun_at version end (x ∷ xs) = begins_at version end

-- what stands after the header: fields and a body of octets
abbrev pub with_octets : Version → MessageKind → Order → List ℕ → List ℕ → List ℕ
with_octets version kind order body front = with_body version kind order (octets_body body) front

-- A message is appended, within the limit; or it is over the limit; or memory ran out.
abbrev pub IsEnded : {A : Type 0} → ℕ → List ℕ → Result A PlacingError → List ℕ → List ℕ → Type 0
IsEnded limit message (Ok x) old new = (length message ≤ limit) × (new ≡ old ++ message)
IsEnded limit message (Err refused.TooLong) old new = (limit < length message) × Keeps old new
IsEnded limit message (Err refused.Memory) old new = Keeps old new
IsEnded limit message (Err e) old new = ⊥

-- A message of these fields is appended; or it is over the limit; or there are none; or memory ran out.
abbrev pub AppendsAt : {A : Type 0} → Version → MessageKind → Order → ℕ → List ℕ → Option (List Value) → Result A PlacingError → List ℕ → List ℕ → Type 0
AppendsAt version kind order limit body fields (Ok x) old new = Appends version kind order limit body fields old new
AppendsAt version kind order limit body fields (Err refused.TooLong) old new = IsOver version kind order limit body fields × Keeps old new
AppendsAt version kind order limit body fields (Err refused.Place) old new = (fields ≡ None) × Keeps old new
AppendsAt version kind order limit body fields (Err refused.Memory) old new = Keeps old new
AppendsAt version kind order limit body fields (Err e) old new = ⊥

-- A message is begun, as far as those of its fields behind which its body may stand; or it is too long for every message size; or
-- its body may stand behind none; or memory ran out.
abbrev pub BeginsAt : {A : Type 0} → Version → MessageKind → Order → ℕ → List ℕ → (Bool → List Value) → Result A PlacingError → List ℕ → List ℕ → Type 0
BeginsAt version kind order place body fields (Ok x) old new = (padded : Bool) × (fields_at version order place body fields ≡ Some (fields padded)) × Begins {A = Unit {0}} order (fields padded) (Ok tt) old new
BeginsAt version kind order place body fields (Err e) old new = AppendsAt {A = Unit {0}} version kind order 4294967295 body (fields_at version order place body fields) (Err e) old new
