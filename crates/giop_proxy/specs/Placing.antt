-- A Request and a Reply whose body stands at a place. CDR 9.3.1.1: values in a body are aligned from the beginning of its
-- message, so a body that is passed on as it came has to stand, modulo 8, where it stood.
use Rattle.std.specs.Prelude.{◌≡◌, ℕ, ◌+◌, ◌%◌, ◌==◌, ◌<◌, ◌≤◌, Bool, true, false, List, [], ◌∷◌, ◌++◌, length, replicate, Option, Some, None, if◌then◌else◌}
use Rattle.cdr_core.specs.declared.order.Order.{Order}
use Rattle.cdr_core.specs.Numbers.{padding}
use Rattle.cdr_core.specs.Parts.{ulong_value}
use Rattle.cdr_core.specs.Value as value
use Rattle.cdr_core.specs.Value.{Value, values}
use Rattle.cdr_core.specs.Writing.{octets_of_all}
use Rattle.giop_core.specs.declared.error.WriteError.{WriteError}
use Rattle.giop_core.specs.declared.error.WriteError.TheVariants.{TooLong, Memory}
use Rattle.giop_core.specs.declared.header.MessageKind.{MessageKind}
use Rattle.giop_core.specs.declared.header.Version.{Version}
use Rattle.giop_core.specs.declared.header.Version.TheVariants.{V10, V11, V12}
use Rattle.giop_core.specs.declared.request.ReplyWish.{ReplyWish}
use Rattle.giop_core.specs.declared.request.ReplyWish.TheVariants as wish
use Rattle.giop_core.specs.Content as content
use Rattle.giop_core.specs.Items.{list_value}
use Rattle.giop_core.specs.Written as written
use Rattle.giop_core.specs.Written.{behind_header, message_octets, octets_body, response_expected, zeros}
use Rattle.giop_proxy.specs.declared.placed.PlacingError.{PlacingError}
use Rattle.giop_proxy.specs.declared.placed.PlacingError.TheVariants as refused

-- what moves a body of 1.0 and 1.1, which follows the fields

-- IOP 7.7: a service context that says nothing: one of a vendor's range, with four octets (own rule). Who does not know its id
-- passes over it.
abbrev pub padding_context : ℕ × List ℕ
padding_context = (0x4c52_0000, 0 ∷ 0 ∷ 0 ∷ 0 ∷ [])

-- service contexts, and behind them that one, or not
abbrev pub contexts_with : Bool → List (ℕ × List ℕ) → List (ℕ × List ℕ)
contexts_with false contexts = contexts
contexts_with true contexts = contexts ++ padding_context ∷ []

-- GIOP 9.4.2: the requesting_principal of 1.0 and 1.1: as many octets as the place of the body is past a multiple of 4; none
-- where the body has none (own rule)
abbrev pub principal_for : ℕ → List ℕ → List ℕ
principal_for place [] = []
principal_for place (x ∷ xs) = replicate (place % 4) 0

-- the fields of messages

-- GIOP 9.4.2: 1.0 and 1.1 can't ask for a reply without its body: there one with it is asked for (own rule)
abbrev pub wish_in : Version → ReplyWish → ReplyWish
wish_in V12 w = w
wish_in _ wish.Empty = wish.Full
wish_in _ w = w

-- GIOP 9.4.2: a Request for an object key, in 1.0 and 1.1 with a principal
abbrev pub request_fields : Version → ℕ → ReplyWish → List ℕ → List ℕ → List (ℕ × List ℕ) → List ℕ → List Value
request_fields V10 id w key operation contexts principal = list_value contexts ∷ ulong_value id ∷ value.boolean (response_expected w) ∷ value.octets key ∷ value.string operation ∷ value.octets principal ∷ []
request_fields V11 id w key operation contexts principal = list_value contexts ∷ ulong_value id ∷ value.boolean (response_expected w) ∷ zeros ∷ value.octets key ∷ value.string operation ∷ value.octets principal ∷ []
request_fields V12 id w key operation contexts principal = written.request_fields V12 id w (content.by_key key) operation contexts

-- .. as it is written for a body at a place, without the context that says nothing or with it
abbrev pub request_for : Version → ℕ → ReplyWish → List ℕ → List ℕ → List (ℕ × List ℕ) → ℕ → List ℕ → Bool → List Value
request_for version id w key operation contexts place body padded = request_fields version id (wish_in version w) key operation (contexts_with padded contexts) (principal_for place body)

-- GIOP 9.4.3: a Reply, the same
abbrev pub reply_for : Version → ℕ → ℕ → List (ℕ × List ℕ) → Bool → List Value
reply_for version id status contexts padded = written.reply_fields version id status (contexts_with padded contexts)

-- where bodies stand

-- where fields end
abbrev pub end_of : Order → List Value → ℕ
end_of order fields = 12 + length (octets_of_all order (values fields) 12)

-- GIOP 9.4.2, GIOP 9.4.3: where the body begins behind fields that end at a place: in 1.2 at the next one divisible by 8
abbrev pub begins_at : Version → ℕ → ℕ
begins_at V12 end = end + padding end 8
begins_at _ end = end

-- CDR 9.3.1.1: whether a body that is to stand at a place, modulo 8, may begin at another; one of no octets may anywhere
abbrev pub may_begin : ℕ → List ℕ → ℕ → Bool
may_begin place [] at = true
may_begin place (x ∷ xs) at = at % 8 == place % 8

-- whether it may stand behind these fields
abbrev pub may_follow : Version → Order → ℕ → List ℕ → List Value → Bool
may_follow version order place body fields = may_begin place body (begins_at version (end_of order fields))

-- the fields that are written: those without the context that says nothing, where the body may stand behind them; else those
-- with it; or none
abbrev pub fields_at : Version → Order → ℕ → List ℕ → (Bool → List Value) → Option (List Value)
fields_at version order place body fields =
    if may_follow version order place body (fields false) then Some (fields false) else
    (if may_follow version order place body (fields true) then Some (fields true) else None)

-- what writers do

-- what the refusal of a writer below is here
abbrev pub refused_as : WriteError → PlacingError
refused_as TooLong = refused.TooLong
refused_as Memory = refused.Memory

-- how many octets a message has
abbrev pub size_of : Version → MessageKind → Order → List ℕ → List Value → ℕ
size_of version kind order body fields = 12 + length (behind_header version kind order fields (octets_body body))

-- A message of these fields, with this body, is appended; it is within the limit.
pub record Appends (version : Version) (kind : MessageKind) (order : Order) (limit : ℕ) (body : List ℕ) (fields : Option (List Value)) (old new : List ℕ) : Type 0 where
  pub chosen : List Value
  pub are : fields ≡ Some chosen
  pub within : size_of version kind order body chosen ≤ limit
  pub appended : new ≡ old ++ message_octets version kind order (behind_header version kind order chosen (octets_body body))

-- A message of these fields is over the limit.
abbrev pub IsOver : Version → MessageKind → Order → ℕ → List ℕ → Option (List Value) → Type 0
IsOver version kind order limit body fields = (chosen : List Value) → fields ≡ Some chosen → limit < size_of version kind order body chosen
