use Rattle.giop_tap.proofs.Kept.{forgotten}
use Rattle.giop_tap.proofs.waiting.forget.Goals as goal

pub returns-then-is_emptied : goal.returns-then-is_emptied
returns-then-is_emptied c = λ other. forgotten c.args.waiting.now.entries c.remove.new.self.entries c.args.place (c.is_emptied.ensures c.if-is_emptied.true) c.remove.ensures.updates.0 other
