use Rattle.std.proofs.Common.{inr, refl, map}
use Rattle.giop_core.specs.declared.header.MessageKind.TheVariants as kind
use Rattle.giop_core.specs.Items.{item_at}
use Rattle.giop_core.specs.Written.{reply_fields}
use Rattle.giop_proxy.proofs.Ending.{begins-bare}
use Rattle.giop_proxy.proofs.fields.put_reply.Goals as goal

pub returns : goal.returns
returns c =
    let a = c.args in
    begins-bare a.version kind.Reply a.order (reply_fields a.version a.fields.now.request_id a.fields.now.status (map item_at a.contexts.now)) c.write_reply.result a.out.now.items c.write_reply.new.out.items (inr refl) c.write_reply.ensures
