-- What a message says, without where it lies in memory.
use Rattle.std.specs.Prelude.{ℕ, zero, suc, ◌==◌, ◌%◌, ◌/◌, ℤ, pos, unsigned_abs, Bool, true, false, List, [], ◌∷◌, Option, Some, None, if◌then◌else◌}
use Rattle.std.specs.Ordering.{int_eq}
use Rattle.cdr_core.specs.declared.order.Order.{Order}
use Rattle.cdr_core.specs.Value as value
use Rattle.cdr_core.specs.Value.{Value, Values, label}
use Rattle.giop_core.specs.declared.header.Version.{Version}
use Rattle.giop_core.specs.declared.header.Version.TheVariants.{V10, V11, V12}
use Rattle.giop_core.specs.declared.header.MessageKind.{MessageKind}
use Rattle.giop_core.specs.declared.header.MessageKind.TheVariants.{Request, Reply, CancelRequest, LocateRequest, LocateReply, CloseConnection, MessageError, Fragment}
use Rattle.giop_core.specs.declared.request.ReplyWish.{ReplyWish}
use Rattle.giop_core.specs.declared.request.ReplyWish.TheVariants as wish

-- GIOP 9.4.2: what a message is for: an object by its key, by a profile, or by the chosen one of a reference's profiles
pub data Addressed : Type 0 where
  by_key : List ℕ → Addressed
  by_profile : ℕ → List ℕ → Addressed
  by_reference : ℕ → List ℕ → List (ℕ × List ℕ) → Addressed

-- the octets after the fields of a message, their place in the message and its order
pub record Rest : Type 0 where
  pub order : Order
  pub place : ℕ
  pub octets : List ℕ

-- GIOP 9.4.2 to GIOP 9.4.9: what a message of each kind says
pub data Content : Type 0 where
  request : ℕ → ReplyWish → Addressed → List ℕ → List (ℕ × List ℕ) → Rest → Content
  reply : ℕ → ℕ → List (ℕ × List ℕ) → Rest → Content
  cancel : ℕ → Content
  locate_request : ℕ → Addressed → Content
  locate_reply : ℕ → ℕ → Rest → Content
  close : Content
  error : Content
  fragment : Option ℕ → List ℕ → Content

-- the parts of values: each is a number, octets or members where the value has such, as each value of the row has

-- a number that is not negative
abbrev pub natural : Value → ℕ
natural (value.number kind z) = unsigned_abs z
natural (value.enumeration n) = n
natural _ = 0

-- a number
abbrev pub integer : Value → ℤ
integer (value.number kind z) = z
integer _ = pos 0

-- the octets of a string or of a sequence of octets
abbrev pub content_octets : Value → List ℕ
content_octets (value.octets xs) = xs
content_octets (value.string xs) = xs
content_octets _ = []

-- the value at a place, counted from 0
abbrev pub member : ℕ → Values → Value
member n value.no_values = value.boolean false
member zero (value.value v vs) = v
member (suc n) (value.value v vs) = member n vs

-- the members of a value
abbrev pub parts : Value → Values
parts (value.structure vs) = vs
parts (value.sequence vs) = vs
parts (value.union d vs) = vs
parts _ = value.no_values

-- an unsigned long and octets: a service context, or a profile
abbrev pub tagged_of : Value → ℕ × List ℕ
tagged_of v = (natural (member 0 (parts v)), content_octets (member 1 (parts v)))

-- each of some values as an unsigned long and octets
abbrev pub all_tagged : Values → List (ℕ × List ℕ)
all_tagged value.no_values = []
all_tagged (value.value v vs) = tagged_of v ∷ all_tagged vs

-- a list of service contexts, or of profiles
abbrev pub items_of : Value → List (ℕ × List ℕ)
items_of v = all_tagged (parts v)

-- struct IORAddressingInfo: an index, and a reference's type and profiles
abbrev pub by_selected : ℕ → Values → Addressed
by_selected index reference = by_reference index (content_octets (member 0 reference)) (items_of (member 1 reference))

-- union TargetAddress, by its discriminator
abbrev pub addressed_as : ℤ → Value → Addressed
addressed_as d v =
    if int_eq d (pos 0) then by_key (content_octets v) else
    (if int_eq d (pos 1) then by_profile (tagged_of v).0 (tagged_of v).1 else
    by_selected (natural (member 0 (parts v))) (parts (member 1 (parts v))))

-- a TargetAddress, or an object key by itself, as 1.0 and 1.1 have it
abbrev pub addressed : Value → Addressed
addressed (value.union d vs) = addressed_as (label d) (member 0 vs)
addressed v = by_key (content_octets v)

-- GIOP 9.4.2: bit 0 of response_flags asks for a reply, and bit 1 for its body; no other bit counts (own rule)
abbrev pub wish_by : ℕ → ReplyWish
wish_by flags = if flags % 2 == 0 then wish.None else (if (flags / 2) % 2 == 0 then wish.Empty else wish.Full)

-- GIOP 9.4.2: response_expected, in 1.0 and 1.1
abbrev pub wish_if : Bool → ReplyWish
wish_if true = wish.Full
wish_if false = wish.None

-- what either says
abbrev pub wish_of : Value → ReplyWish
wish_of (value.boolean b) = wish_if b
wish_of v = wish_by (natural v)

-- the field at a place of a row, counted from 0
abbrev pub nth : ℕ → List Value → Value
nth n [] = value.boolean false
nth zero (v ∷ vs) = v
nth (suc n) (v ∷ vs) = nth n vs

-- what values by the row of a kind in a version say, with the octets after them
unfoldable pub content : Version → MessageKind → List Value → Rest → Content
content V10 Request vs r = request (natural (nth 1 vs)) (wish_of (nth 2 vs)) (addressed (nth 3 vs)) (content_octets (nth 4 vs)) (items_of (nth 0 vs)) r
content V11 Request vs r = request (natural (nth 1 vs)) (wish_of (nth 2 vs)) (addressed (nth 4 vs)) (content_octets (nth 5 vs)) (items_of (nth 0 vs)) r
content V12 Request vs r = request (natural (nth 0 vs)) (wish_of (nth 1 vs)) (addressed (nth 3 vs)) (content_octets (nth 4 vs)) (items_of (nth 5 vs)) r
content V12 Reply vs r = reply (natural (nth 0 vs)) (natural (nth 1 vs)) (items_of (nth 2 vs)) r
content _ Reply vs r = reply (natural (nth 1 vs)) (natural (nth 2 vs)) (items_of (nth 0 vs)) r
content _ CancelRequest vs r = cancel (natural (nth 0 vs))
content _ LocateRequest vs r = locate_request (natural (nth 0 vs)) (addressed (nth 1 vs))
content _ LocateReply vs r = locate_reply (natural (nth 0 vs)) (natural (nth 1 vs)) r
content V12 Fragment vs r = fragment (Some (natural (nth 0 vs))) r.octets
content _ Fragment vs r = fragment None r.octets
content _ CloseConnection vs r = close
content _ MessageError vs r = error
