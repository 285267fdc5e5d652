use Rattle.giop_core.specs.declared.header.Version.TheVariants.{V11, V12}
use Rattle.giop_frames.proofs.Rejoins.{cut_again}
use Rattle.giop_frames.proofs.laws.cut_messages_are_read_again.Goals as goal

pub returns-clause-in_1_2 : goal.returns-clause-in_1_2
returns-clause-in_1_2 c = cut_again c.headers_are_read_again.ensures V12

pub returns-clause-in_1_1 : goal.returns-clause-in_1_1
returns-clause-in_1_1 c = cut_again c.headers_are_read_again.ensures V11
