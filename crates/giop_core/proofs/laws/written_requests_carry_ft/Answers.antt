use Rattle.giop_core.proofs.Carried.{carries-ft}
use Rattle.giop_core.proofs.laws.written_requests_carry_ft.Goals as goal

pub returns : goal.returns
returns c = carries-ft c.written_ft_is_present.ensures
