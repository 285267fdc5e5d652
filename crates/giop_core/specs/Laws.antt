-- The laws, each over the definitions alone.
use Rattle.std.specs.Prelude.{◌≡◌, ◌≢◌, ◌↔◌, ℕ, ◌+◌, ◌<◌, ◌^◌, ℤ, pos, FitsSigned, List, [], ◌∷◌, ◌++◌, length, Ok, Err, ⊤, IsTrue, IfSome}
use Rattle.std.specs.Int.{w32}
use Rattle.std.specs.List.{AllByRecursion}
use Rattle.cdr_core.specs.declared.order.Order.{Order}
use Rattle.cdr_core.specs.Encapsulation.{IsEncapsulated}
use Rattle.cdr_core.specs.Numbers.{padding, AreOctets}
use Rattle.cdr_core.specs.Parts.{short, short_value}
use Rattle.cdr_core.specs.Spelling.{InTurn, IsClean, Spells}
use Rattle.cdr_core.specs.Value.{Value, Values, no_values, values}
use Rattle.cdr_core.specs.Writing.{octets_of_all, AreWritable}
use Rattle.giop_core.specs.declared.error.MessageFault.{MessageFault}
use Rattle.giop_core.specs.declared.error.MessageFault.TheVariants.{BadAddressing}
use Rattle.giop_core.specs.declared.header.Header.{Header}
use Rattle.giop_core.specs.declared.header.MessageKind.{MessageKind}
use Rattle.giop_core.specs.declared.header.MessageKind.TheVariants.{Request, Reply, CancelRequest, LocateRequest, LocateReply, Fragment}
use Rattle.giop_core.specs.declared.header.Version.{Version}
use Rattle.giop_core.specs.declared.header.Version.TheVariants.{V12}
use Rattle.giop_core.specs.declared.request.ReplyWish.{ReplyWish}
use Rattle.giop_core.specs.Content as content
use Rattle.giop_core.specs.Content.{Addressed, Content, Rest}
use Rattle.giop_core.specs.Ft.{absent, ft_in, present, HasNone, IsFirst}
use Rattle.giop_core.specs.Grammar.{IsMessage, StopsField, StopsMessage}
use Rattle.giop_core.specs.Headers.{header_octets, header_of, is_possible}
use Rattle.giop_core.specs.Messages.{message_of, IsBack, OnBody}
use Rattle.giop_core.specs.Rows.{ft_request, target}
use Rattle.giop_core.specs.Statuses.{locate_statuses, reply_statuses}
use Rattle.giop_core.specs.Written.{behind_header, cancel_fields, ft_octets, ft_value_of, locate_reply_fields, locate_request_fields, octets_body, reply_fields, request_fields, CanAddress, CanAsk}

-- What is read is a message by the grammar ..
abbrev pub MessagesAreSpelled : Type 0
MessagesAreSpelled = (version : Version) (kind : MessageKind) (order : Order) (octets : List ℕ) (m : Content) → message_of version kind order octets ≡ Ok m → IsMessage version kind order octets m

-- .. and what is a message by the grammar is read.
abbrev pub SpelledMessagesAreRead : Type 0
SpelledMessagesAreRead = (version : Version) (kind : MessageKind) (order : Order) (octets : List ℕ) (m : Content) → IsMessage version kind order octets m → message_of version kind order octets ≡ Ok m

-- What is refused has that fault by the grammar ..
abbrev pub RefusedMessagesStop : Type 0
RefusedMessagesStop = (version : Version) (kind : MessageKind) (order : Order) (octets : List ℕ) (f : MessageFault) → message_of version kind order octets ≡ Err f → StopsMessage version kind order octets f

-- .. and what has a fault by the grammar is refused with it.
abbrev pub StoppingMessagesAreRefused : Type 0
StoppingMessagesAreRefused = (version : Version) (kind : MessageKind) (order : Order) (octets : List ℕ) (f : MessageFault) → StopsMessage version kind order octets f → message_of version kind order octets ≡ Err f

-- The discriminator of a target is none of its labels exactly where it is a short other than 0, 1 and 2.
abbrev pub UnknownTargetsStop : Type 0
UnknownTargetsStop = (order : Order) (o : ℕ) (octets : List ℕ) (place : ℕ)
    → StopsField target order o octets (BadAddressing place)
    ↔ ((z : ℤ) × (z ≢ pos 0) × (z ≢ pos 1) × (z ≢ pos 2) × InTurn (Spells short order (short_value z)) (λ _ _. ⊤) o octets × (place ≡ o + padding o 2))

-- The body of a message that is read is a back part of its octets.
abbrev pub BodiesAreBacks : Type 0
BodiesAreBacks = (version : Version) (kind : MessageKind) (order : Order) (octets : List ℕ) (m : Content) → message_of version kind order octets ≡ Ok m → OnBody (IsBack version octets) m

-- A possible header is read again from its octets.
abbrev pub HeadersAreReadAgain : Type 0
HeadersAreReadAgain = (h : Header) → h.size < 2 ^ 32 → IsTrue (is_possible h) → header_of (header_octets h) ≡ Ok h

-- each has an id, or a tag, that is an unsigned long
abbrev pub HaveTags : List (ℕ × List ℕ) → Type 0
HaveTags items = AllByRecursion (λ x. x.0 < 2 ^ 32) items

-- what a writer is given: numbers that are unsigned longs, and a type id without NUL
abbrev pub IsTarget : Addressed → Type 0
IsTarget (content.by_key key) = ⊤
IsTarget (content.by_profile tag octets) = tag < 2 ^ 32
IsTarget (content.by_reference index type_id profiles) = (index < 2 ^ 32) × IsClean type_id × HaveTags profiles

-- the body of a message that is written, after fields that end at a place
abbrev pub written_rest : Version → MessageKind → Order → Values → ℕ → Rest
written_rest V12 Request order body place = record { order = order; place = place + padding place 8; octets = octets_of_all order body (place + padding place 8) }
written_rest V12 Reply order body place = record { order = order; place = place + padding place 8; octets = octets_of_all order body (place + padding place 8) }
written_rest _ _ order body place = record { order = order; place = place; octets = octets_of_all order body place }

-- the body of a message that is written, after these fields
abbrev pub rest_after : Version → MessageKind → Order → List Value → Values → Rest
rest_after version kind order fields body = written_rest version kind order body (12 + length (octets_of_all order (values fields) 12))

-- Octets after a header that are not too long for its message size are read as that message.
abbrev pub IsReadAs : Version → MessageKind → Order → List Value → Values → (Rest → Content) → Type 0
IsReadAs version kind order fields body m =
    length (behind_header version kind order fields body) < 2 ^ 32 → message_of version kind order (behind_header version kind order fields body) ≡ Ok (m (rest_after version kind order fields body))

-- What is written is read as the same message.

abbrev pub WrittenRequestIsRead : Type 0
WrittenRequestIsRead = (version : Version) (order : Order) (id : ℕ) (wish : ReplyWish) (to : Addressed) (operation : List ℕ) (contexts : List (ℕ × List ℕ)) (body : Values)
    → id < 2 ^ 32 → CanAsk version wish → CanAddress version to → IsTarget to → IsClean operation → HaveTags contexts
    → IsReadAs version Request order (request_fields version id wish to operation contexts) body (content.request id wish to operation contexts)

abbrev pub WrittenReplyIsRead : Type 0
WrittenReplyIsRead = (version : Version) (order : Order) (id status : ℕ) (contexts : List (ℕ × List ℕ)) (body : Values) → id < 2 ^ 32 → status < reply_statuses version → HaveTags contexts
    → IsReadAs version Reply order (reply_fields version id status contexts) body (content.reply id status contexts)

abbrev pub WrittenCancelIsRead : Type 0
WrittenCancelIsRead = (version : Version) (order : Order) (id : ℕ) → id < 2 ^ 32 → IsReadAs version CancelRequest order (cancel_fields id) no_values (λ _. content.cancel id)

abbrev pub WrittenLocateRequestIsRead : Type 0
WrittenLocateRequestIsRead = (version : Version) (order : Order) (id : ℕ) (to : Addressed) → id < 2 ^ 32 → CanAddress version to → IsTarget to
    → IsReadAs version LocateRequest order (locate_request_fields version id to) no_values (λ _. content.locate_request id to)

abbrev pub WrittenLocateReplyIsRead : Type 0
WrittenLocateReplyIsRead = (version : Version) (order : Order) (id status : ℕ) (body : Values) → id < 2 ^ 32 → status < locate_statuses version
    → IsReadAs version LocateReply order (locate_reply_fields id status) body (content.locate_reply id status)

-- How long messages are.

-- In every version the body of a Reply without contexts stands at the place 24, after twelve octets of fields ..
abbrev pub RepliesHaveOneSize : Type 0
RepliesHaveOneSize = (version : Version) (order : Order) (id status : ℕ) (body : Values)
    → (length (behind_header version Reply order (reply_fields version id status []) body) ≡ 12 + length (octets_of_all order body 24))
    × (rest_after version Reply order (reply_fields version id status []) body ≡ record { order = order; place = 24; octets = octets_of_all order body 24 })

-- .. the fields of a LocateReply take eight, those of a CancelRequest four ..
abbrev pub LocateRepliesHaveOneSize : Type 0
LocateRepliesHaveOneSize = (version : Version) (order : Order) (id status : ℕ) → length (behind_header version LocateReply order (locate_reply_fields id status) no_values) ≡ 8

abbrev pub CancelsHaveOneSize : Type 0
CancelsHaveOneSize = (version : Version) (order : Order) (id : ℕ) → length (behind_header version CancelRequest order (cancel_fields id) no_values) ≡ 4

-- .. and a Request is as long under each id.
abbrev pub RequestsHaveOneSize : Type 0
RequestsHaveOneSize = (version : Version) (order : Order) (id other : ℕ) (wish : ReplyWish) (to : Addressed) (operation : List ℕ) (contexts : List (ℕ × List ℕ)) (body : Values)
    → length (behind_header version Request order (request_fields version id wish to operation contexts) body) ≡ length (behind_header version Request order (request_fields version other wish to operation contexts) body)

-- A body that comes as octets is those octets, at every place and in either order ..
abbrev pub OctetsBodiesAreOctets : Type 0
OctetsBodiesAreOctets = (order : Order) (octets : List ℕ) (place : ℕ) → AreOctets octets → octets_of_all order (octets_body octets) place ≡ octets

-- .. has as many, whatever their numbers are ..
abbrev pub OctetsBodiesAreAsLong : Type 0
OctetsBodiesAreAsLong = (order : Order) (octets : List ℕ) (place : ℕ) → length (octets_of_all order (octets_body octets) place) ≡ length octets

-- .. and can be written where an unsigned long counts them.
abbrev pub OctetsBodiesCanBeWritten : Type 0
OctetsBodiesCanBeWritten = (octets : List ℕ) → length octets < 2 ^ 32 → AreWritable (octets_body octets)

-- What the writer of its kind asks of a message. No writer of this crate has a Fragment; its id is an unsigned long.
abbrev pub CanBeWritten : Version → Content → Type 0
CanBeWritten version (content.request id wish to operation contexts body) = (id < 2 ^ 32) × CanAsk version wish × CanAddress version to × IsTarget to × IsClean operation × HaveTags contexts
CanBeWritten version (content.reply id status contexts body) = (id < 2 ^ 32) × (status < reply_statuses version) × HaveTags contexts
CanBeWritten version (content.cancel id) = id < 2 ^ 32
CanBeWritten version (content.locate_request id to) = (id < 2 ^ 32) × CanAddress version to × IsTarget to
CanBeWritten version (content.locate_reply id status body) = (id < 2 ^ 32) × (status < locate_statuses version)
CanBeWritten version (content.fragment id octets) = IfSome id (λ n. n < 2 ^ 32)
CanBeWritten version _ = ⊤

-- What is read can be written again.
abbrev pub ReadMessagesCanBeWritten : Type 0
ReadMessagesCanBeWritten = (version : Version) (kind : MessageKind) (order : Order) (octets : List ℕ) (m : Content) → AreOctets octets → message_of version kind order octets ≡ Ok m → CanBeWritten version m

-- the fields that are written for a message that a writer has
abbrev pub written_fields : Version → Content → List Value
written_fields version (content.request id wish to operation contexts body) = request_fields version id wish to operation contexts
written_fields version (content.reply id status contexts body) = reply_fields version id status contexts
written_fields version (content.cancel id) = cancel_fields id
written_fields version (content.locate_request id to) = locate_request_fields version id to
written_fields version (content.locate_reply id status body) = locate_reply_fields id status
written_fields version _ = []

-- the message with this body, if it has one
abbrev pub with_rest : Content → Rest → Content
with_rest (content.request id wish to operation contexts body) rest = content.request id wish to operation contexts rest
with_rest (content.reply id status contexts body) rest = content.reply id status contexts rest
with_rest (content.locate_reply id status body) rest = content.locate_reply id status rest
with_rest m rest = m

-- What was read, written again with a body of any values in either order, is read as the same message with that body. A
-- Fragment has no writer here.
abbrev pub ReadMessagesAreReadAgain : Type 0
ReadMessagesAreReadAgain = (version : Version) (kind : MessageKind) (order : Order) (octets : List ℕ) (m : Content) → AreOctets octets → message_of version kind order octets ≡ Ok m → kind ≢ Fragment
    → (again : Order) (body : Values) → IsReadAs version kind again (written_fields version m) body (with_rest m)

-- A written FT_REQUEST that is the first context of its id is present with its three fields.
abbrev pub WrittenFtIsPresent : Type 0
WrittenFtIsPresent = (order : Order) (client_id : List ℕ) (retention_id : ℤ) (expiration : ℕ) (before more : List (ℕ × List ℕ))
    → IsClean client_id → FitsSigned w32 retention_id → expiration < 2 ^ 64 → length (ft_octets order client_id retention_id expiration) < 2 ^ 32 → HasNone 13 before
    → ft_in (before ++ (13, ft_octets order client_id retention_id expiration) ∷ more) ≡ present client_id retention_id expiration

-- A Request that is written with an FT_REQUEST as its one context, and is not too long for its message size, carries it.
abbrev pub WrittenRequestCarriesFt : Type 0
WrittenRequestCarriesFt = (version : Version) (order : Order) (id : ℕ) (wish : ReplyWish) (to : Addressed) (operation : List ℕ) (client_id : List ℕ) (retention_id : ℤ) (expiration : ℕ) (body : Values)
    → IsClean client_id → FitsSigned w32 retention_id → expiration < 2 ^ 64
    → length (behind_header version Request order (request_fields version id wish to operation ((13, ft_octets order client_id retention_id expiration) ∷ [])) body) < 2 ^ 32
    → ft_in ((13, ft_octets order client_id retention_id expiration) ∷ []) ≡ present client_id retention_id expiration

-- FT_REQUEST is present exactly where the first context of its id is an encapsulation of its fields ..
abbrev pub PresentFtIsSpelled : Type 0
PresentFtIsSpelled = (contexts : List (ℕ × List ℕ)) (client_id : List ℕ) (retention_id : ℤ) (expiration : ℕ)
    → (ft_in contexts ≡ present client_id retention_id expiration)
    ↔ ((octets : List ℕ) × IsFirst 13 octets contexts × IsEncapsulated (λ order. Spells ft_request order (ft_value_of client_id retention_id expiration)) octets)

-- .. and absent exactly where no context has its id.
abbrev pub AbsentFtIsNowhere : Type 0
AbsentFtIsNowhere = (contexts : List (ℕ × List ℕ)) → (ft_in contexts ≡ absent) ↔ HasNone 13 contexts
