use Rattle.std.proofs.Common.{inl, refl, map, Ok, Err}
use Rattle.std.proofs.lemmas.Result.{err_from_is_err_and}
use Rattle.giop_core.specs.declared.header.MessageKind.TheVariants as kind
use Rattle.giop_core.specs.Items.{item_at}
use Rattle.giop_proxy.specs.Placing.{wish_in}
use Rattle.giop_proxy.proofs.Ending.{begins-bare}
use Rattle.giop_proxy.proofs.Requesting.{bare, request-ended, request-keeps, request-refused, request-room}
use Rattle.giop_proxy.proofs.fields.put_request.Goals as goal

pub returns-in_err-put_bare_request : goal.returns-in_err-put_bare_request
returns-in_err-put_bare_request c =
    let a = c.args in
    let f = a.fields.now in
    let w = wish_in a.version f.wish in
    let items = map item_at a.contexts.now in
    let p = err_from_is_err_and c.from_residual.result c.from_residual.ensures.1 in
    let mid = c.put_bare_request.new.out.items in
    rw (p.1, p.2) (request-refused a.order f.request_id w f.object_key.now f.operation.now items a.principal a.out.now.items mid a.version c.in_err-put_bare_request.field-0.0
    (begins-bare a.version kind.Request a.order (bare a.order f.request_id w f.object_key.now f.operation.now items a.version) (Err c.in_err-put_bare_request.field-0.0) a.out.now.items mid (inl refl) c.in_err-put_bare_request.ensures))

pub end_request-requires-clause-some : goal.end_request-requires-clause-some
end_request-requires-clause-some c =
    let a = c.args in
    let f = a.fields.now in
    let w = wish_in a.version f.wish in
    let items = map item_at a.contexts.now in
    let mid = c.put_bare_request.new.out.items in
    request-room a.order f.request_id w f.object_key.now f.operation.now items a.principal a.out.now.items mid a.version
    (begins-bare a.version kind.Request a.order (bare a.order f.request_id w f.object_key.now f.operation.now items a.version) (Ok tt) a.out.now.items mid (inl refl) c.in_ok-put_bare_request.ensures)

pub returns-in_err-end_request : goal.returns-in_err-end_request
returns-in_err-end_request c =
    let a = c.args in
    let f = a.fields.now in
    let w = wish_in a.version f.wish in
    let items = map item_at a.contexts.now in
    let p = err_from_is_err_and c.from_residual-in_err-end_request.result c.from_residual-in_err-end_request.ensures.1 in
    let mid = c.put_bare_request.new.out.items in
    rw (p.1, p.2) (request-keeps a.order f.request_id w f.object_key.now f.operation.now items a.principal a.out.now.items mid a.version c.end_request.new.out.items
    (begins-bare a.version kind.Request a.order (bare a.order f.request_id w f.object_key.now f.operation.now items a.version) (Ok tt) a.out.now.items mid (inl refl) c.in_ok-put_bare_request.ensures) c.in_err-end_request.ensures.err)

pub returns : goal.returns
returns c =
    let a = c.args in
    let f = a.fields.now in
    let w = wish_in a.version f.wish in
    let items = map item_at a.contexts.now in
    let mid = c.put_bare_request.new.out.items in
    request-ended a.order f.request_id w f.object_key.now f.operation.now items a.principal a.out.now.items mid a.version c.end_request.new.out.items
    (begins-bare a.version kind.Request a.order (bare a.order f.request_id w f.object_key.now f.operation.now items a.version) (Ok tt) a.out.now.items mid (inl refl) c.in_ok-put_bare_request.ensures) c.in_ok-end_request.ensures.ok
