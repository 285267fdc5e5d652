-- The request that the example writes.
use Rattle.std.specs.Prelude.{ℕ, ℤ, List, [], ◌∷◌, codes}
use Rattle.cdr_core.specs.declared.order.Order.TheVariants.{Big}
use Rattle.cdr_core.specs.Parts.{long_value}
use Rattle.cdr_core.specs.Value.{values}
use Rattle.giop_core.specs.declared.header.MessageKind.TheVariants as kind
use Rattle.giop_core.specs.declared.header.Version.TheVariants.{V12}
use Rattle.giop_core.specs.declared.request.ReplyWish.TheVariants as wish
use Rattle.giop_core.specs.Content.{by_key}
use Rattle.giop_core.specs.Written.{behind_header, ft_octets, message_octets, request_fields}
use Rattle.uses.specs.declared.invocation.Retry.{Retry}

-- a Request of 1.2 for add with an amount, with a full reply wished for, and the retry in a context of id 13
abbrev pub add_octets : ℕ → List ℕ → ℤ → Retry → List ℕ
add_octets id key amount retry =
    let context = ft_octets Big retry.client_id.now retry.retention_id retry.expiration in
    let fields = request_fields V12 id wish.Full (by_key key) (codes "add") ((13, context) ∷ []) in
    message_octets V12 kind.Request Big (behind_header V12 kind.Request Big fields (values (long_value amount ∷ [])))
