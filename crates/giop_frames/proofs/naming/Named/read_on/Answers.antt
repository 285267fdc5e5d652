use Rattle.giop_frames.specs.declared.naming.Named.TheVariants.{UpTo, Id}
use Rattle.std.proofs.Common.{◌∙◌}
use Rattle.giop_frames.proofs.Ids.{read-so-far}
use Rattle.giop_frames.proofs.naming.Named.read_on.Goals as goal

pub returns-in-UpTo-clause-id : goal.returns-in-UpTo-clause-id
returns-in-UpTo-clause-id c = c.read_from.ensures.id ∙ read-so-far c.args.order c.args.self (UpTo c.in-UpTo.at c.in-UpTo.left) c.args.message.now c.in-UpTo.is c.requires.read

pub returns-in-Id-clause-id : goal.returns-in-Id-clause-id
returns-in-Id-clause-id c = rw c.in-Id.is (read-so-far c.args.order c.args.self (Id c.in-Id.field-0) c.args.message.now c.in-Id.is c.requires.read)
