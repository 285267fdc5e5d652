-- What a request says of itself and of its client, in the head of the caller.
use Rattle.std.specs.Prelude.{ℕ, pos, min, List, length, Option, Some, None}
use Rattle.giop_core.specs.declared.header.Version.{Version}
use Rattle.giop_core.specs.declared.request.ReplyWish.{ReplyWish}
use Rattle.giop_core.specs.Ft as ft
use Rattle.giop_core.specs.Ft.{Ft, ft_in}
use Rattle.ft_log.specs.declared.system_exception.SystemName.{SystemName}
use Rattle.lemonrudder.specs.declared.request.RequestHead.{RequestHead}
use Rattle.lemonrudder.specs.Naming.{minor_number, system_number, wish_number}

-- a head that says nothing
abbrev pub no_request : RequestHead
no_request = record {
  ticket = 0;
  connection = 0;
  key_size = 0;
  operation_size = 0;
  body_size = 0;
  body_at = 0;
  body_order = 0;
  is_raw = 0;
  request_id = 0;
  version = 0;
  wish = 0;
  has_client = 0;
  retention_id = pos 0;
  contexts = 0;
  client_size = 0;
  expiration = 0;
  is_refused = 0;
  refusal = 0;
}

-- a head with what would refuse a request of which its owner is asked first
abbrev pub with_refusal : Option SystemName → RequestHead → RequestHead
with_refusal None h = h
with_refusal (Some name) h = record h { is_refused = 1; refusal = system_number name }

-- a head with what FT_REQUEST says, if it is there and valid
abbrev pub with_client : Ft → RequestHead → RequestHead
with_client (ft.present client_id retention_id expiration) h = record h { has_client = 1; retention_id = retention_id; client_size = length client_id; expiration = expiration }
with_client _ h = h

-- a head with the version, the id, the wish, how many service contexts there are, or the greatest number that there is room for, and
-- the FT_REQUEST of a request
abbrev pub with_question : Version → ℕ → ReplyWish → List (ℕ × List ℕ) → RequestHead → RequestHead
with_question version id wish contexts h = with_client (ft_in contexts) (record h { request_id = id; version = minor_number version; wish = wish_number wish; contexts = min (length contexts) 4294967295 })
