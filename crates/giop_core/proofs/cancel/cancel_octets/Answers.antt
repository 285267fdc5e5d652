use Rattle.std.proofs.Common.{◌∙◌}
use Rattle.giop_core.proofs.Short.{cancel_put}
use Rattle.giop_core.proofs.cancel.cancel_octets.Goals as goal

pub returns : goal.returns
returns c = cancel_put c.args.version c.args.order c.args.request_id c.copy_from_slice.new.self c.put_ulong.new.octets (c.copy_from_slice.ensures.after ∙ c.octets.ensures) c.put_ulong.ensures
