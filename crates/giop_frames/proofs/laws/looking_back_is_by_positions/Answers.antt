use Rattle.giop_frames.proofs.Positions.{begun_found, begun_only}
use Rattle.giop_frames.proofs.laws.looking_back_is_by_positions.Goals as goal

pub returns-clause-found : goal.returns-clause-found
returns-clause-found c = begun_found

pub returns-clause-only : goal.returns-clause-only
returns-clause-only c = begun_only
