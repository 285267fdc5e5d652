-- The laws of placing, each over the definitions alone.
use Rattle.std.specs.Prelude.{◌≡◌, ℕ, ◌<◌, ◌≤◌, ◌^◌, Bool, true, List, length, Ok, Some, IsSome}
use Rattle.cdr_core.specs.declared.order.Order.{Order}
use Rattle.cdr_core.specs.Numbers.{AreOctets}
use Rattle.cdr_core.specs.Spelling.{IsClean}
use Rattle.cdr_core.specs.Value.{Value}
use Rattle.giop_core.specs.declared.header.MessageKind.{MessageKind}
use Rattle.giop_core.specs.declared.header.MessageKind.TheVariants.{Request, Reply}
use Rattle.giop_core.specs.declared.header.Version.{Version}
use Rattle.giop_core.specs.declared.header.Version.TheVariants.{V12}
use Rattle.giop_core.specs.declared.request.ReplyWish.{ReplyWish}
use Rattle.giop_core.specs.Content as content
use Rattle.giop_core.specs.Content.{Content, Rest}
use Rattle.giop_core.specs.Laws.{HaveTags}
use Rattle.giop_core.specs.Messages.{message_of}
use Rattle.giop_core.specs.Statuses.{reply_statuses}
use Rattle.giop_core.specs.Written.{behind_header, octets_body}
use Rattle.giop_proxy.specs.Placing.{contexts_with, fields_at, may_begin, may_follow, reply_for, request_fields, request_for, size_of, wish_in}

-- The octets after a header are read as a message with this body, which stands at a place.
pub record IsReadAt (version : Version) (kind : MessageKind) (order : Order) (place : ℕ) (body : List ℕ) (after : List ℕ) (says : Rest → Content) : Type 0 where
  pub at : ℕ
  pub reads : message_of version kind order after ≡ Ok (says (record { order = order; place = at; octets = body }))
  pub stands : may_begin place body at ≡ true

-- What is written for a message is read as that message, with the context that says nothing or without it, and its body stands at
-- the place.

abbrev pub PlacedRequestsAreRead : Type 0
PlacedRequestsAreRead = (version : Version) (order : Order) (id : ℕ) (wish : ReplyWish) (key operation : List ℕ) (contexts : List (ℕ × List ℕ)) (place : ℕ) (body : List ℕ) (fields : List Value)
    → id < 2 ^ 32 → IsClean operation → HaveTags contexts → AreOctets body → size_of version Request order body fields < 2 ^ 32
    → fields_at version order place body (request_for version id wish key operation contexts place body) ≡ Some fields
    → (padded : Bool) × IsReadAt version Request order place body (behind_header version Request order fields (octets_body body))
    (content.request id (wish_in version wish) (content.by_key key) operation (contexts_with padded contexts))

abbrev pub PlacedRepliesAreRead : Type 0
PlacedRepliesAreRead = (version : Version) (order : Order) (id status : ℕ) (contexts : List (ℕ × List ℕ)) (place : ℕ) (body : List ℕ) (fields : List Value)
    → id < 2 ^ 32 → status < reply_statuses version → HaveTags contexts → AreOctets body → size_of version Reply order body fields < 2 ^ 32
    → fields_at version order place body (reply_for version id status contexts) ≡ Some fields
    → (padded : Bool) × IsReadAt version Reply order place body (behind_header version Reply order fields (octets_body body))
    (content.reply id status (contexts_with padded contexts))

-- In 1.0 and 1.1 the body of a Request may stand at every place.
abbrev pub RequestsHavePlaces : Type 0
RequestsHavePlaces = (version : Version) (order : Order) (id : ℕ) (wish : ReplyWish) (key operation : List ℕ) (contexts : List (ℕ × List ℕ)) (place : ℕ) (body : List ℕ)
    → (version ≡ V12 → ⊥) → IsSome (fields_at version order place body (request_for version id wish key operation contexts place body))

-- No fields that put the body at its place, with the context that says nothing or without it and, in a Request, with a principal of
-- less than four octets, make a shorter message than those that are written.

abbrev pub PlacedRequestsAreShort : Type 0
PlacedRequestsAreShort = (version : Version) (order : Order) (id : ℕ) (wish : ReplyWish) (key operation : List ℕ) (contexts : List (ℕ × List ℕ)) (place : ℕ) (body : List ℕ) (fields : List Value)
    → fields_at version order place body (request_for version id wish key operation contexts place body) ≡ Some fields
    → (padded : Bool) (principal : List ℕ) → length principal < 4
    → may_follow version order place body (request_fields version id (wish_in version wish) key operation (contexts_with padded contexts) principal) ≡ true
    → size_of version Request order body fields ≤ size_of version Request order body (request_fields version id (wish_in version wish) key operation (contexts_with padded contexts) principal)

abbrev pub PlacedRepliesAreShort : Type 0
PlacedRepliesAreShort = (version : Version) (order : Order) (id status : ℕ) (contexts : List (ℕ × List ℕ)) (place : ℕ) (body : List ℕ) (fields : List Value)
    → fields_at version order place body (reply_for version id status contexts) ≡ Some fields
    → (padded : Bool) → may_follow version order place body (reply_for version id status contexts padded) ≡ true
    → size_of version Reply order body fields ≤ size_of version Reply order body (reply_for version id status contexts padded)
