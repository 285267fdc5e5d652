-- What is reported of the message that an assembler lends.
use Rattle.std.specs.Prelude.{◌≡◌, ℕ, ◌==◌, if◌then◌else◌, ℤ, pos, min, List, length, map, is_some, slice_get, unwrap_or, Option, Some, None, Result, Ok, Err}
use Rattle.std.proofs.Common.{Vec, Global}
use Rattle.std.specs.Int.{from_bool}
use Rattle.std.specs.Option.{option_and_then, option_map_or}
use Rattle.cdr_core.specs.declared.order.Order.{Order}
use Rattle.giop_core.specs.declared.error.MessageFault.{MessageFault}
use Rattle.giop_core.specs.declared.header.Version.{Version}
use Rattle.giop_core.specs.Content as content
use Rattle.giop_core.specs.Content.{Content}
use Rattle.giop_core.specs.Ft as ft
use Rattle.giop_core.specs.Ft.{Ft, ft_in}
use Rattle.giop_core.specs.Keys.{key_of_addressed}
use Rattle.giop_frames.specs.Fragments.{content_of}
use Rattle.giop_frames.specs.Frames.{Frame}
use Rattle.lemonrudder.specs.Assembled.{Assembled}
use Rattle.lemonrudder.specs.declared.assembling.MessageHead.{MessageHead}
use Rattle.lemonrudder.specs.declared.refusal.Refusal.{Refusal}
use Rattle.lemonrudder.specs.Copies.{Copies}
use Rattle.lemonrudder.specs.Items.{CopiesItem}
use Rattle.lemonrudder.specs.Layouts.{laid, octets_of_message}
use Rattle.lemonrudder.specs.Naming.{minor_number, order_number, wish_number}

-- the type of a message, as its header has it (GIOP 9.4.1)
abbrev pub kind_number : Content → ℕ
kind_number (content.request id wish to operation contexts body) = 0
kind_number (content.reply id status contexts body) = 1
kind_number (content.cancel id) = 2
kind_number (content.locate_request id to) = 3
kind_number (content.locate_reply id status body) = 4
kind_number content.close = 5
kind_number content.error = 6
kind_number (content.fragment id payload) = 7

-- what a message has; a number is 0 where a message of its type has none

abbrev pub id_in : Content → ℕ
id_in (content.request id wish to operation contexts body) = id
id_in (content.reply id status contexts body) = id
id_in (content.cancel id) = id
id_in (content.locate_request id to) = id
id_in (content.locate_reply id status body) = id
id_in (content.fragment id payload) = unwrap_or id 0
id_in _ = 0

abbrev pub status_in : Content → ℕ
status_in (content.reply id status contexts body) = status
status_in (content.locate_reply id status body) = status
status_in _ = 0

abbrev pub wish_in : Content → ℕ
wish_in (content.request id wish to operation contexts body) = wish_number wish
wish_in _ = 0

abbrev pub key_in : Content → Option (List ℕ)
key_in (content.request id wish to operation contexts body) = key_of_addressed to
key_in (content.locate_request id to) = key_of_addressed to
key_in _ = None

abbrev pub operation_in : Content → Option (List ℕ)
operation_in (content.request id wish to operation contexts body) = Some operation
operation_in _ = None

-- the octets of the body, and their place in the message
abbrev pub body_in : Content → Option (List ℕ)
body_in (content.request id wish to operation contexts body) = Some body.octets
body_in (content.reply id status contexts body) = Some body.octets
body_in (content.locate_reply id status body) = Some body.octets
body_in _ = None

abbrev pub place_in : Content → ℕ
place_in (content.request id wish to operation contexts body) = body.place
place_in (content.reply id status contexts body) = body.place
place_in (content.locate_reply id status body) = body.place
place_in _ = 0

abbrev pub payload_in : Content → Option (List ℕ)
payload_in (content.fragment id payload) = Some payload
payload_in _ = None

abbrev pub contexts_in : Content → Option (List (ℕ × List ℕ))
contexts_in (content.request id wish to operation contexts body) = Some contexts
contexts_in (content.reply id status contexts body) = Some contexts
contexts_in _ = None

-- FT_REQUEST, which a Request may carry
abbrev pub ft_carried : Content → Ft
ft_carried (content.request id wish to operation contexts body) = ft_in contexts
ft_carried _ = ft.absent

abbrev pub client_by : Ft → Option (List ℕ)
client_by (ft.present client retention_id expiration) = Some client
client_by _ = None

abbrev pub retention_by : Ft → ℤ
retention_by (ft.present client retention_id expiration) = retention_id
retention_by _ = pos 0

abbrev pub expiration_by : Ft → ℕ
expiration_by (ft.present client retention_id expiration) = expiration
expiration_by _ = 0

-- how many there are, 0 where there are none
abbrev pub size_in : {A : Type 0} → Option (List A) → ℕ
size_in all = option_map_or length all 0

-- what is reported of a message; of its service contexts how many there are, or the greatest number that there is room for
abbrev pub head_of : Version → Order → Content → MessageHead
head_of version order c = record {
  key_size = size_in (key_in c);
  operation_size = size_in (operation_in c);
  body_size = size_in (body_in c);
  body_at = place_in c;
  payload_size = size_in (payload_in c);
  kind = kind_number c;
  version = minor_number version;
  order = order_number order;
  request_id = id_in c;
  status = status_in c;
  wish = wish_in c;
  contexts = min (size_in (contexts_in c)) 4294967295;
  has_key = from_bool (is_some (key_in c));
  has_client = from_bool (is_some (client_by (ft_carried c)));
  retention_id = retention_by (ft_carried c);
  client_size = size_in (client_by (ft_carried c));
  expiration = expiration_by (ft_carried c);
}

-- a part of a message, by its number in the header
abbrev pub part_in : ℕ → Content → Option (List ℕ)
part_in part c =
    if part == 0 then key_in c else
    (if part == 1 then operation_in c else
    (if part == 2 then body_in c else
    (if part == 3 then client_by (ft_carried c) else
    (if part == 4 then payload_in c else None))))

-- a service context of a message, by its index
abbrev pub context_in : ℕ → Content → Option (ℕ × List ℕ)
context_in index c = option_and_then (λ all. slice_get all index) (contexts_in c)

-- what valid octets say
abbrev pub said_by : Result Content MessageFault → Option Content
said_by (Ok c) = Some c
said_by (Err e) = None

-- what the message says that is lent, if one is
abbrev pub said_in : Option Frame → Option Content
said_in None = None
said_in (Some f) = said_by (content_of f.header f.octets)

abbrev pub said : Assembled → Option Content
said s = said_in s.assembler.message

-- 1, and what the lent message says, as much of the struct as the room has; or 0, where none is lent, and the room is as it was
abbrev pub Tells : Option Frame → (room new : List ℕ) → Result ℕ Refusal → Type 0
Tells None room new r = (r ≡ Ok 0) × (new ≡ room)
Tells (Some f) room new r = (r ≡ Ok 1) × ((c : Content) × (content_of f.header f.octets ≡ Ok c) × (new ≡ laid (octets_of_message (head_of f.header.version f.header.order c)) room))

abbrev pub OnMessage : (room new : List ℕ) → Assembled → Assembled → Result ℕ Refusal → Type 0
OnMessage room new s t r = (t ≡ s) × Tells s.assembler.message room new r

-- a part of the lent message is copied, if there is one and it has it
abbrev pub OnPart : ℕ → (room new : List ℕ) → Assembled → Assembled → Result ℕ Refusal → Type 0
OnPart part room new s t r = (t ≡ s) × Copies (option_and_then (part_in part) (said s)) room new r

-- a service context of the lent message is copied, and its id given, if there is one and it has it
abbrev pub OnContext : ℕ → (id given : ℕ) → (room new : List ℕ) → Assembled → Assembled → Result ℕ Refusal → Type 0
OnContext index id given room new s t r = (t ≡ s) × CopiesItem (option_and_then (context_in index) (said s)) id given room new r

-- Words of private functions.

-- a service context that was copied
abbrev pub copied_item : ℕ × Vec ℕ Global → ℕ × List ℕ
copied_item x = (x.0, x.1.items)

-- copies of the service contexts that the message has which is lent
abbrev pub AreThose : Option Frame → List (ℕ × Vec ℕ Global) → Type 0
AreThose lent copies = option_and_then contexts_in (said_in lent) ≡ Some (map copied_item copies)
