use Rattle.ft_orb.proofs.Replies.{body_is_last}
use Rattle.ft_orb.proofs.laws.replies_have_one_body.Goals as goal

pub returns : goal.returns
returns c = body_is_last
