-- Messages that are written into room of the caller.
use Rattle.std.specs.Prelude.{◌≡◌, ℕ, ◌+◌, ◌%◌, ◌<◌, ◌≤◌, ◌^◌, ℤ, List, [], ◌∷◌, length, Option, Some, None, Result, Ok, Err, ◌⊎◌, ⊤}
use Rattle.cdr_core.specs.declared.order.Order.{Order}
use Rattle.cdr_core.specs.declared.order.Order.TheVariants.{Big}
use Rattle.cdr_core.specs.Spelling.{IsClean}
use Rattle.cdr_core.specs.Value.{Value, no_values}
use Rattle.giop_core.specs.Content.{by_key}
use Rattle.giop_core.specs.Written.{CanAsk, behind_header, cancel_fields, ft_octets, locate_reply_fields, locate_request_fields, message_octets, octets_body, reply_fields, reply_statuses, request_fields}
use Rattle.giop_core.specs.declared.header.MessageKind.{MessageKind}
use Rattle.giop_core.specs.declared.header.MessageKind.TheVariants as kind
use Rattle.giop_core.specs.declared.header.Version.{Version}
use Rattle.giop_core.specs.declared.header.Version.TheVariants.{V10, V12}
use Rattle.giop_core.specs.declared.request.ReplyWish.{ReplyWish}
use Rattle.lemonrudder.specs.declared.messages.Asking.{Asking}
use Rattle.lemonrudder.specs.declared.messages.Manner.{Manner}
use Rattle.lemonrudder.specs.declared.refusal.Refusal.{Refusal}
use Rattle.lemonrudder.specs.declared.refusal.Refusal.TheVariants as refusal
use Rattle.lemonrudder.specs.Copies.{Fits}
use Rattle.lemonrudder.specs.Naming.{order_named, version_named, wish_named}
use Rattle.lemonrudder.specs.Refusals.{number_in}

-- what a writer makes of its room, and what it answers
abbrev pub Writing : Type 1
Writing = (room new : List ℕ) → Result ℕ Refusal → Type 0

-- what an export makes of its room by a writer, and the number that it answers
abbrev pub Writes : Writing → (room new : List ℕ) → ℤ → Type 0
Writes W room new answer = (r : Result ℕ Refusal) × (answer ≡ number_in r) × W room new r

-- nothing is written
abbrev pub refused : Refusal → Writing
refused e room new r = (r ≡ Err e) × (new ≡ room)

-- only what can be written is
abbrev pub checked : Type 0 → Refusal → Writing → Writing
checked Can e W room new r = (Can → W room new r) × (¬ Can → refused e room new r)

-- by what a number names
abbrev pub named : {A : Type 0} → Option A → (A → Writing) → Writing
named (Some x) W = W x
named None W = refused refusal.Range

-- some octets, all of them, unless those that have a count are too many for it, or there is no room; no memory is taken then
abbrev pub counted : (all octets : List ℕ) → Writing
counted all octets room new (Err refusal.Long) = (2 ^ 32 ≤ length all) × (new ≡ room)
counted all octets room new (Err refusal.Memory) = (length all < 2 ^ 32) × (length octets ≤ length room) × (new ≡ room)
counted all octets room new r = (length all < 2 ^ 32) × Fits octets room new r

-- a message with these octets after its header
abbrev pub message : Version → MessageKind → Order → List ℕ → Writing
message version k order after = counted after (message_octets version k order after)

-- by a version and an order of the header
abbrev pub manner : (version order : ℕ) → (Version → Order → Writing) → Writing
manner version order W = named (version_named version) (λ v. named (order_named order) (W v))

-- a version and an order that have these numbers; or one of these is none
abbrev pub IsManner : (version order : ℕ) → Result Manner Refusal → Type 0
IsManner version order (Ok m) = (version_named version ≡ Some m.version) × (order_named order ≡ Some m.order)
IsManner version order (Err e) = (e ≡ refusal.Range) × ((version_named version ≡ None) ⊎ (order_named order ≡ None))

-- what a Request says, but its version and order: its wish by number, its service contexts, and its body as octets
pub record Question : Type 0 where
  pub id : ℕ
  pub wish : ℕ
  pub key : List ℕ
  pub operation : List ℕ
  pub contexts : List (ℕ × List ℕ)
  pub body : List ℕ

-- a service context, where it has octets
abbrev pub context_of : ℕ → List ℕ → List (ℕ × List ℕ)
context_of id [] = []
context_of id (x ∷ xs) = (id, x ∷ xs) ∷ []

abbrev pub said_by : Asking → Question
said_by a = record { id = a.request_id; wish = a.wish; key = a.key.now; operation = a.operation.now; contexts = context_of a.context_id a.context.now; body = a.body.now }

-- its fields
abbrev pub asked_fields : Version → ReplyWish → Question → List Value
asked_fields v w q = request_fields v q.id w (by_key q.key) q.operation q.contexts

-- A body that is written for a place divisible by 8 can begin at a place: 1.2 has padding before it.
abbrev pub CanBegin : Version → ℕ → Type 0
CanBegin V12 place = ⊤
CanBegin _ place = place % 8 ≡ 0

-- it can, or there is none
abbrev pub CanStand : Version → ℕ → List ℕ → Type 0
CanStand v place [] = ⊤
CanStand v place (x ∷ xs) = CanBegin v place

-- only a body that can stand is written, and no other takes memory
abbrev pub placed : Type 0 → Writing → Writing
placed Can W room new (Err refusal.Place) = (¬ Can) × (new ≡ room)
placed Can W room new (Err refusal.Long) = W room new (Err refusal.Long)
placed Can W room new r = Can × W room new r

-- a Request of this wish: its body begins where the message ends without it
abbrev pub asked : Version → Order → ReplyWish → Question → Writing
asked v o w q =
    let after = behind_header v kind.Request o (asked_fields v w q) in
    placed (CanStand v (length (message_octets v kind.Request o (after no_values))) q.body) (message v kind.Request o (after (octets_body q.body)))

-- a Request to an object key
abbrev pub request : Version → Order → Question → Writing
request v o q = named (wish_named q.wish) (λ w. checked (CanAsk v w) refusal.Range (checked (IsClean q.operation) refusal.Text (asked v o w q)))

-- a Reply without service contexts
abbrev pub reply : Version → Order → (id status : ℕ) → List ℕ → Writing
reply v o id status body = checked (status < reply_statuses v) refusal.Range (message v kind.Reply o (behind_header v kind.Reply o (reply_fields v id status []) (octets_body body)))

-- a CancelRequest
abbrev pub cancel : Version → Order → (id : ℕ) → Writing
cancel v o id = Fits (message_octets v kind.CancelRequest o (behind_header v kind.CancelRequest o (cancel_fields id) no_values))

-- a LocateRequest of an object key
abbrev pub locate_request : Version → Order → (id : ℕ) → List ℕ → Writing
locate_request v o id key = message v kind.LocateRequest o (behind_header v kind.LocateRequest o (locate_request_fields v id (by_key key)) no_values)

-- a LocateReply without a body, which says that the object is unknown, or here
abbrev pub locate_reply : Version → Order → (id status : ℕ) → Writing
locate_reply v o id status = checked (status < 2) refusal.Range (Fits (message_octets v kind.LocateReply o (behind_header v kind.LocateReply o (locate_reply_fields id status) no_values)))

-- a message that has nothing after its header
abbrev pub bare : MessageKind → Writing
bare k = Fits (message_octets V10 k Big [])

-- the data of an FT_REQUEST context
abbrev pub ft_context : (order : ℕ) → (client : List ℕ) → (retention_id : ℤ) → (expiration : ℕ) → Writing
ft_context order client retention_id expiration = named (order_named order) (λ o. let octets = ft_octets o client retention_id expiration in checked (IsClean client) refusal.Text (counted octets octets))

-- Words of private functions.

-- how many octets the parts of a Request have
abbrev pub parts_size : Asking → ℕ
parts_size a = length a.key.now + length a.operation.now + length a.context.now + length a.body.now
