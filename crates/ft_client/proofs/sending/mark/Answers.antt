use Rattle.std.proofs.Common.{refl}
use Rattle.ft_client.proofs.Marking.{marked_set}
use Rattle.ft_client.proofs.sending.mark.Goals as goal

pub returns : goal.returns
returns c = marked_set c.args.pending.now c.args.place _ c.index-pending-place.result c.args.sent refl
