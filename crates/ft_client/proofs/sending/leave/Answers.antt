use Rattle.std.proofs.Common.{refl}
use Rattle.std.specs.Option.{option_map}
use Rattle.ft_client.specs.Ends.{body_of}
use Rattle.ft_client.proofs.Marking.{left_set}
use Rattle.ft_client.proofs.sending.leave.Goals as goal

pub returns : goal.returns
returns c = left_set c.args.pending.now c.args.place _ c.index-pending-place.result (option_map body_of c.args.led) refl
