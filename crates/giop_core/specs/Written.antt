-- How a message is written: its fields, its body, and its header; and what each writer asks and does.
use Rattle.std.specs.Prelude.{◌≡◌, ℕ, ◌+◌, ◌<◌, ◌≤◌, ◌^◌, ℤ, pos, Bool, true, false, List, [], ◌∷◌, ◌++◌, length, map, replicate, Result, Ok, Err, ⊤}
use Rattle.cdr_core.specs.declared.order.Order.{Order}
use Rattle.cdr_core.specs.Writing.{and_then, octets_of, octets_of_all}
use Rattle.cdr_core.specs.Encapsulation.{byte_order}
use Rattle.cdr_core.specs.Numbers.{padding}
use Rattle.cdr_core.specs.Parts.{long_value, octet_value, short_value, ulong_value, ulonglong_value}
use Rattle.cdr_core.specs.Value as value
use Rattle.cdr_core.specs.Value.{Value, Values, values}
use Rattle.giop_core.specs.declared.header.Header.{Header}
use Rattle.giop_core.specs.declared.header.MessageKind.{MessageKind}
use Rattle.giop_core.specs.declared.header.MessageKind.TheVariants.{Request, Reply}
use Rattle.giop_core.specs.declared.header.Version.{Version}
use Rattle.giop_core.specs.declared.header.Version.TheVariants.{V10, V11, V12}
use Rattle.giop_core.specs.declared.request.ReplyWish.{ReplyWish}
use Rattle.giop_core.specs.declared.request.ReplyWish.TheVariants as wish
use Rattle.giop_core.specs.declared.error.WriteError.{WriteError}
use Rattle.giop_core.specs.declared.error.WriteError.TheVariants.{TooLong, Memory}
use Rattle.giop_core.specs.Content as content
use Rattle.giop_core.specs.Content.{Addressed}
use Rattle.giop_core.specs.Headers.{header_octets}
use Rattle.giop_core.specs.Items.{list_value, reference_as, tagged_value}
pub use Rattle.giop_core.specs.Statuses.{locate_statuses, reply_statuses}

-- the values of fields

-- GIOP 9.4.2: response_expected in 1.0 and 1.1, and response_flags in 1.2
abbrev pub response_expected : ReplyWish → Bool
response_expected wish.None = false
response_expected _ = true

abbrev pub response_flags : ReplyWish → ℕ
response_flags wish.None = 0
response_flags wish.Empty = 1
response_flags wish.Full = 3

-- GIOP 9.4.2: octet reserved[3], written as zeros
abbrev pub zeros : Value
zeros = value.array (values (octet_value 0 ∷ octet_value 0 ∷ octet_value 0 ∷ []))

-- a member of the union TargetAddress, by its discriminator
abbrev pub alternative : ℤ → Value → Value
alternative d v = value.union (short_value d) (value.value v value.no_values)

-- GIOP 9.4.2: struct IORAddressingInfo
abbrev pub selected_as : ℕ → List ℕ → List (ℕ × List ℕ) → Value
selected_as index type_id profiles = value.structure (values (ulong_value index ∷ reference_as type_id profiles ∷ []))

-- GIOP 9.4.2: the TargetAddress of 1.2
abbrev pub target_of : Addressed → Value
target_of (content.by_key key) = alternative (pos 0) (value.octets key)
target_of (content.by_profile tag octets) = alternative (pos 1) (tagged_value (tag, octets))
target_of (content.by_reference index type_id profiles) = alternative (pos 2) (selected_as index type_id profiles)

-- GIOP 9.4.2: the object_key of 1.0 and 1.1; no message of theirs is written for another target
abbrev pub key_value : Addressed → Value
key_value (content.by_key key) = value.octets key
key_value _ = value.octets []

-- the target as a version has it
abbrev pub target_in : Version → Addressed → Value
target_in V12 to = target_of to
target_in _ to = key_value to

-- the fields of messages, in the order of their rows

-- GIOP 9.4.2: a Request; its requesting_principal, in 1.0 and 1.1, is empty (own rule)
abbrev pub request_fields : Version → ℕ → ReplyWish → Addressed → List ℕ → List (ℕ × List ℕ) → List Value
request_fields V10 id wish to operation contexts = list_value contexts ∷ ulong_value id ∷ value.boolean (response_expected wish) ∷ key_value to ∷ value.string operation ∷ value.octets [] ∷ []
request_fields V11 id wish to operation contexts = list_value contexts ∷ ulong_value id ∷ value.boolean (response_expected wish) ∷ zeros ∷ key_value to ∷ value.string operation ∷ value.octets [] ∷ []
request_fields V12 id wish to operation contexts = ulong_value id ∷ octet_value (response_flags wish) ∷ zeros ∷ target_of to ∷ value.string operation ∷ list_value contexts ∷ []

-- GIOP 9.4.3: a Reply
abbrev pub reply_fields : Version → ℕ → ℕ → List (ℕ × List ℕ) → List Value
reply_fields V12 id status contexts = ulong_value id ∷ value.enumeration status ∷ list_value contexts ∷ []
reply_fields _ id status contexts = list_value contexts ∷ ulong_value id ∷ value.enumeration status ∷ []

-- GIOP 9.4.3: the body of a Reply that carries an exception: its repository id, and then its members
abbrev pub exception_body : List ℕ → Values → Values
exception_body id members = value.value (value.string id) members

-- GIOP 9.4.3: the body of a Reply that comes as octets: they stand one after another
abbrev pub octets_body : List ℕ → Values
octets_body octets = values (value.array (values (map octet_value octets)) ∷ [])

-- GIOP 9.4.4: a CancelRequest
abbrev pub cancel_fields : ℕ → List Value
cancel_fields id = ulong_value id ∷ []

-- GIOP 9.4.5: a LocateRequest
abbrev pub locate_request_fields : Version → ℕ → Addressed → List Value
locate_request_fields version id to = ulong_value id ∷ target_in version to ∷ []

-- GIOP 9.4.6: a LocateReply
abbrev pub locate_reply_fields : ℕ → ℕ → List Value
locate_reply_fields id status = ulong_value id ∷ value.enumeration status ∷ []

-- GIOP 9.4.2, GIOP 9.4.3: the octets of a body of 1.2 stand at the next place divisible by 8; where there are
-- none there is no padding before them (own rule)
abbrev pub behind_gap : ℕ → List ℕ → List ℕ
behind_gap gap [] = []
behind_gap gap (x ∷ xs) = replicate gap 0 ++ (x ∷ xs)

-- the padding and the octets of a body of 1.2, after fields that end at a place
abbrev pub aligned_octets : Order → Values → ℕ → List ℕ
aligned_octets order body place = behind_gap (padding place 8) (octets_of_all order body (place + padding place 8))

-- the octets of a body, after fields that end at a place
abbrev pub body_octets : Version → MessageKind → Order → Values → ℕ → List ℕ
body_octets V12 Request order body place = aligned_octets order body place
body_octets V12 Reply order body place = aligned_octets order body place
body_octets _ _ order body place = octets_of_all order body place

-- fields, and the body after them
abbrev pub with_body : Version → MessageKind → Order → Values → List ℕ → List ℕ
with_body version kind order body fields = and_then 12 fields (body_octets version kind order body)

-- what stands after the header
unfoldable pub behind_header : Version → MessageKind → Order → List Value → Values → List ℕ
behind_header version kind order fields body = with_body version kind order body (octets_of_all order (values fields) 12)

-- GIOP 9.4.1: the header of a message that is not cut
abbrev pub header_for : Version → MessageKind → Order → ℕ → Header
header_for version kind order size = record { version = version; order = order; more = false; kind = kind; size = size }

-- a whole message
abbrev pub message_octets : Version → MessageKind → Order → List ℕ → List ℕ
message_octets version kind order after = header_octets (header_for version kind order (length after)) ++ after

-- FT 23.2.7: struct FTRequestServiceContext, ..
abbrev pub ft_value_of : List ℕ → ℤ → ℕ → Value
ft_value_of client_id retention_id expiration = value.structure (values (value.string client_id ∷ long_value retention_id ∷ ulonglong_value expiration ∷ []))

-- .. which the context FT_REQUEST holds in an encapsulation
abbrev pub ft_octets : Order → List ℕ → ℤ → ℕ → List ℕ
ft_octets order client_id retention_id expiration = byte_order order ∷ octets_of order (ft_value_of client_id retention_id expiration) 1

-- what a writer asks

-- GIOP 9.4.2: 1.0 and 1.1 have no target but an object key
abbrev pub CanAddress : Version → Addressed → Type 0
CanAddress V12 to = ⊤
CanAddress _ (content.by_key key) = ⊤
CanAddress _ to = ⊥

-- GIOP 9.4.2: response_expected of 1.0 and 1.1 can't ask for a reply without its body
abbrev pub CanAsk : Version → ReplyWish → Type 0
CanAsk V12 w = ⊤
CanAsk _ wish.Empty = ⊥
CanAsk _ w = ⊤

-- what a writer does

-- A message with these octets after its header is appended; or it is too long for its message size; or memory ran out.
-- Where it is not appended the output is as it was.
abbrev pub Wrote : {A : Type 0} → Version → MessageKind → Order → List ℕ → Result A WriteError → List ℕ → List ℕ → Type 0
Wrote version kind order after (Ok x) old new = (length after < 2 ^ 32) × (new ≡ old ++ message_octets version kind order after)
Wrote version kind order after (Err TooLong) old new = (2 ^ 32 ≤ length after) × (new ≡ old)
Wrote version kind order after (Err Memory) old new = new ≡ old

-- Octets by themselves are appended; or they are more than an unsigned long can count; or memory ran out. Where they are not
-- appended the output is as it was.
abbrev pub WroteOctets : {A : Type 0} → List ℕ → Result A WriteError → List ℕ → List ℕ → Type 0
WroteOctets octets (Ok x) old new = (length octets < 2 ^ 32) × (new ≡ old ++ octets)
WroteOctets octets (Err TooLong) old new = (2 ^ 32 ≤ length octets) × (new ≡ old)
WroteOctets octets (Err Memory) old new = new ≡ old
