use Rattle.std.proofs.Common.{rules}
use Rattle.giop_core.specs.Ft.{ft_in}
use Rattle.giop_core.proofs.ft.ft_request.Goals as goal

pub returns-in-None : goal.returns-in-None
unfolding ft_in
returns-in-None c = search rules

pub returns-in-Some : goal.returns-in-Some
unfolding ft_in
returns-in-Some c = search rules
