use Rattle.std.proofs.Common.{◌∙◌}
use Rattle.giop_core.proofs.Short.{locate_put}
use Rattle.giop_core.proofs.locate.locate_reply_octets.Goals as goal

pub returns : goal.returns
returns c =
    locate_put c.args.version c.args.order c.args.request_id c.args.status c.copy_from_slice.new.self c.put_ulong.new.octets c.put_ulong-2.new.octets
    (c.copy_from_slice.ensures.after ∙ c.octets.ensures) c.put_ulong.ensures c.put_ulong-2.ensures
