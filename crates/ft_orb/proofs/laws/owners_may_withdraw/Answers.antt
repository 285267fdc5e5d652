use Rattle.ft_log.specs.Keys.{has_room_for}
use Rattle.ft_orb.specs.Requests.{asked_of}
use Rattle.ft_orb.proofs.Withdrawn.{may-withdraw}
use Rattle.ft_orb.proofs.laws.owners_may_withdraw.Goals as goal

pub returns : goal.returns
returns c = λ interface capacity share. may-withdraw (asked_of interface) (has_room_for capacity share)
