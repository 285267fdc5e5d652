use Rattle.ft_client.proofs.Marking.{put_set}
use Rattle.ft_client.proofs.sending.put_for.Goals as goal

pub returns-clause-kept : goal.returns-clause-kept
returns-clause-kept c = put_set c.args.pending.now c.args.place c.args.call
