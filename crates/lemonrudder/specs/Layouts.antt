-- The structs of the header as octets, as C has them on x86-64: each member at its natural alignment, with its lowest octet first.
-- The members stand such that none of the structs has padding.
use Rattle.std.specs.Prelude.{ℕ, List, ◌++◌, length, replicate, take}
use Rattle.std.specs.Int.{cast_unsigned, to_le_bytes, w32, w64}
use Rattle.lemonrudder.specs.declared.assembling.MessageHead.{MessageHead}
use Rattle.lemonrudder.specs.declared.calling.CompletionHead.{CompletionHead}
use Rattle.lemonrudder.specs.declared.layout.Layout.{Layout}
use Rattle.lemonrudder.specs.declared.referring.ProfileHead.{ProfileHead}
use Rattle.lemonrudder.specs.declared.request.RequestHead.{RequestHead}
use Rattle.lemonrudder.specs.Refusals.{filled}

-- a room in which a struct is told: its octets, as many as the room has, and zeros behind
abbrev pub laid : (octets room : List ℕ) → List ℕ
laid octets room = filled octets (replicate (length room) 0)

-- `lr_request`
unfoldable pub octets_of_request : RequestHead → List ℕ
octets_of_request h =
    to_le_bytes w64 h.ticket
    ++ to_le_bytes w64 h.connection
    ++ to_le_bytes w64 h.key_size
    ++ to_le_bytes w64 h.operation_size
    ++ to_le_bytes w64 h.body_size
    ++ to_le_bytes w64 h.body_at
    ++ to_le_bytes w32 h.body_order
    ++ to_le_bytes w32 h.is_raw
    ++ to_le_bytes w32 h.request_id
    ++ to_le_bytes w32 h.version
    ++ to_le_bytes w32 h.wish
    ++ to_le_bytes w32 h.has_client
    ++ to_le_bytes w32 (cast_unsigned w32 h.retention_id)
    ++ to_le_bytes w32 h.contexts
    ++ to_le_bytes w64 h.client_size
    ++ to_le_bytes w64 h.expiration
    ++ to_le_bytes w32 h.is_refused
    ++ to_le_bytes w32 h.refusal

-- `lr_message`
unfoldable pub octets_of_message : MessageHead → List ℕ
octets_of_message h =
    to_le_bytes w64 h.key_size
    ++ to_le_bytes w64 h.operation_size
    ++ to_le_bytes w64 h.body_size
    ++ to_le_bytes w64 h.body_at
    ++ to_le_bytes w64 h.payload_size
    ++ to_le_bytes w32 h.kind
    ++ to_le_bytes w32 h.version
    ++ to_le_bytes w32 h.order
    ++ to_le_bytes w32 h.request_id
    ++ to_le_bytes w32 h.status
    ++ to_le_bytes w32 h.wish
    ++ to_le_bytes w32 h.contexts
    ++ to_le_bytes w32 h.has_key
    ++ to_le_bytes w32 h.has_client
    ++ to_le_bytes w32 (cast_unsigned w32 h.retention_id)
    ++ to_le_bytes w64 h.client_size
    ++ to_le_bytes w64 h.expiration

-- `lr_completion`
unfoldable pub octets_of_completion : CompletionHead → List ℕ
octets_of_completion h =
    to_le_bytes w64 h.body_size
    ++ to_le_bytes w64 h.body_at
    ++ to_le_bytes w32 (cast_unsigned w32 h.call)
    ++ to_le_bytes w32 h.how
    ++ to_le_bytes w32 h.body_order
    ++ to_le_bytes w32 h.reserved

-- `lr_profile`
unfoldable pub octets_of_profile : ProfileHead → List ℕ
octets_of_profile h =
    to_le_bytes w64 h.data_size
    ++ to_le_bytes w64 h.host_size
    ++ to_le_bytes w64 h.key_size
    ++ to_le_bytes w32 h.tag
    ++ to_le_bytes w32 h.is_iiop
    ++ to_le_bytes w32 h.minor
    ++ to_le_bytes w32 h.port
    ++ to_le_bytes w32 h.components
    ++ to_le_bytes w32 h.reserved

-- Words of private functions.

-- the octets that are laid out so far
abbrev pub written : Layout → List ℕ
written l = take l.len l.octets
