use Rattle.ft_orb.proofs.streaming.ServerHostUnit.has_ended.Goals as goal

pub returns-clause-late : goal.returns-clause-late
returns-clause-late g c s held calls past waiting x = absurd x

pub returns-clause-table : goal.returns-clause-table
returns-clause-table g c made calls past st = c.is_closed.ensures made past st
