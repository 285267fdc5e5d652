use Rattle.std.proofs.Common.{rules, sym}
use Rattle.ft_orb.specs.Engines.{awaited_lent}
use Rattle.uses.proofs.durable.answer.Goals as goal

-- the store can perform what waits and would not be refused
pub perform_once-verdict-requires : goal.perform_once-verdict-requires
perform_once-verdict-requires g c = record { performs = c.requires.performs (awaited_lent c.in-Some.asked) (sym c.in-Some.ensures) (search rules) }
