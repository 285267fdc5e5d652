use Rattle.std.proofs.Common.{◌∙◌}
use Rattle.ft_orb.specs.Parking.{by_number}
use Rattle.ft_orb.proofs.Books.{book_by, kept-folded}
use Rattle.ft_orb.proofs.Said.{past_now_by}
use Rattle.ft_orb.proofs.engine.Engine.calls_are_taken_now.Goals as goal

pub returns : goal.returns
returns g c s held calls past waiting h kept = h.rests.stands.table.state ∙ (past_now_by (book_by (by_number s held)) past (kept-folded (by_number s held) past kept)).state
