-- What a client writes and hears.
use Rattle.std.specs.Prelude.{ℕ, ◌==◌, ◌%◌, ◌||◌, pos, Bool, true, false, List, [], ◌∷◌, length, not}
use Rattle.std.specs.List.{list_any}
use Rattle.cdr_core.specs.Value.{Value, Values, no_values}
use Rattle.cdr_core.specs.declared.order.Order.{Order}
use Rattle.cdr_core.specs.declared.order.Order.TheVariants.{Big}
use Rattle.giop_core.specs.Content.{Rest, by_key}
use Rattle.giop_core.specs.Laws.{rest_after}
use Rattle.giop_core.specs.Written.{behind_header, cancel_fields, ft_octets, message_octets, request_fields}
use Rattle.giop_core.specs.declared.header.MessageKind.TheVariants.{CancelRequest, Request}
use Rattle.giop_core.specs.declared.header.Version.{Version}
use Rattle.giop_core.specs.declared.request.ReplyWish.{ReplyWish}
use Rattle.giop_core.specs.declared.request.ReplyWish.TheVariants as wish
use Rattle.giop_core.specs.declared.request.ReplyWish.TheVariants.{Full}
pub use Rattle.giop_link.specs.Answering.{Answer, Shown, located, replied}
use Rattle.giop_link.specs.Hearing.{Incoming, Question, asks, cancels, question_in}

-- how a raw call goes out: the version of its message, its byte order, the reply that is wished for, its service contexts but
-- for FT_REQUEST, and the place from which its body came
pub record Raw : Type 0 where
  pub version : Version
  pub order : Order
  pub wish : ReplyWish
  pub contexts : List (ℕ × List ℕ)
  pub place : ℕ

-- the form of a call: by typed arguments, or by a body as it came
pub data Form : Type 0 where
  typed : Form
  raw : Raw → Form

-- what a call asks, and until when: the number of 100 ns since 15 October 1582; the arguments of a raw call are the octets of its
-- body
pub record Call : Type 0 where
  pub object_key : List ℕ
  pub operation : List ℕ
  pub arguments : Values
  pub expiration : ℕ
  pub form : Form

-- the version of a call's message: the client's, where the arguments are typed; ..
abbrev pub version_in : Version → Form → Version
version_in version typed = version
version_in version (raw r) = r.version

-- .. the byte order, which is big there; ..
abbrev pub order_of : Form → Order
order_of typed = Big
order_of (raw r) = r.order

-- .. the wish, which is for the whole reply there; ..
abbrev pub wish_of : Form → ReplyWish
wish_of typed = Full
wish_of (raw r) = r.wish

-- .. and the service contexts beside FT_REQUEST, of which there are none there
abbrev pub others_of : Form → List (ℕ × List ℕ)
others_of typed = []
others_of (raw r) = r.contexts

-- GIOP 9.4.2: a request that wishes for no reply
abbrev pub is_oneway : ReplyWish → Bool
is_oneway wish.None = true
is_oneway wish.Empty = false
is_oneway wish.Full = false

-- own rule: FT_REQUEST is the client's own, and no context that a call brings
abbrev pub has_no_ft : Form → Bool
has_no_ft typed = true
has_no_ft (raw r) = not (list_any (λ x. x.0 == 13) r.contexts)

-- a call as it is sent: the version of its message, its client and the client's number for it, the link's number for the request,
-- and the object key under which it is asked for
pub record Transmission : Type 0 where
  pub version : Version
  pub client_id : List ℕ
  pub retention_id : ℕ
  pub request_id : ℕ
  pub at : List ℕ
  pub call : Call

-- what a client writes: a request, or that the reply to one is no longer wanted
pub data Said : Type 0 where
  Asked : Transmission → Said
  Withdrawn : Version → (request_id : ℕ) → Said

-- FT 23.2.7: its service contexts: FT_REQUEST, and then those that the call brings, in their order
abbrev pub contexts_of : Transmission → List (ℕ × List ℕ)
contexts_of t = (13, ft_octets Big t.client_id (pos t.retention_id) t.call.expiration) ∷ others_of t.call.form

-- GIOP 9.4.2: its fields
abbrev pub fields_of : Transmission → List Value
fields_of t = request_fields t.version t.request_id (wish_of t.call.form) (by_key t.at) t.call.operation (contexts_of t)

-- its octets after the header
abbrev pub request_behind : Transmission → List ℕ
request_behind t = behind_header t.version Request (order_of t.call.form) (fields_of t) t.call.arguments

-- GIOP 9.4.2: a Request
abbrev pub request_octets : Transmission → List ℕ
request_octets t = message_octets t.version Request (order_of t.call.form) (request_behind t)

-- its body as it stands in the message
abbrev pub body_in : Transmission → Rest
body_in t = rest_after t.version Request (order_of t.call.form) (fields_of t) t.call.arguments

-- CDR 9.3.1: a body that comes as octets is read as it was where its place is the same modulo 8. Where it has none, any place will do.
abbrev pub is_placed : Form → Rest → Bool
is_placed typed body = true
is_placed (raw r) body = length body.octets == 0 || body.place % 8 == r.place % 8

abbrev pub keeps_place : Transmission → Bool
keeps_place t = is_placed t.call.form (body_in t)

-- GIOP 9.4.4: a CancelRequest in big order
abbrev pub cancel_octets : Version → ℕ → List ℕ
cancel_octets version request_id = message_octets version CancelRequest Big (behind_header version CancelRequest Big (cancel_fields request_id) no_values)

-- the octets of what a client writes
abbrev pub octets_said : Said → List ℕ
octets_said (Asked t) = request_octets t
octets_said (Withdrawn version request_id) = cancel_octets version request_id

-- what a server hears of it
abbrev pub question_of : Transmission → Question
question_of t = question_in t.version t.request_id (wish_of t.call.form) (by_key t.at) t.call.operation (contexts_of t) (body_in t)

abbrev pub incoming_of : Said → Incoming
incoming_of (Asked t) = asks (question_of t)
incoming_of (Withdrawn version request_id) = cancels request_id
