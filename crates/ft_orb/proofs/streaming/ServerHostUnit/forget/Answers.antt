use Rattle.ft_orb.proofs.Streams.{lost-closed}
use Rattle.ft_orb.proofs.streaming.ServerHostUnit.forget.Goals as goal

pub returns-clause-closed : goal.returns-clause-closed
returns-clause-closed g c made calls past note st = lost-closed g.S.Servant.meaning made c.lost.new.self past c.args.connection note (c.lost.ensures.table made _ st)

pub returns-clause-late : goal.returns-clause-late
returns-clause-late g c s held calls past waiting x = absurd x
