use Rattle.std.proofs.Common.{◌∙◌}
use Rattle.ft_orb.specs.Parking.{by_number}
use Rattle.ft_orb.proofs.Books.{book_by, kept-folded}
use Rattle.ft_orb.proofs.Headline.{past_stands_by}
use Rattle.ft_orb.proofs.engine.Engine.calls_are_taken_once.Goals as goal

pub returns : goal.returns
returns g c s held calls past waiting h kept one = h.rests.stands.table.state ∙ (past_stands_by (book_by (by_number s held)) past (kept-folded (by_number s held) past kept) one).state
