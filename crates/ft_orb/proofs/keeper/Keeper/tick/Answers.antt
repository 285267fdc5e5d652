use Rattle.std.proofs.Common.{◌∙◌}
use Rattle.ft_log.specs.Logged.{logged}
use Rattle.ft_orb.proofs.Desks.{renderable-forgot}
use Rattle.ft_orb.proofs.keeper.Keeper.tick.Goals as goal

pub invariant_of-self : goal.invariant_of-self
invariant_of-self g = record { renderable = renderable-forgot g.max-self.result (logged g.args.self.now.log) (logged g.give_back.new.self) (g.give_back.ensures.same ∙ g.forget_expired.ensures) g.args.self.now.renderable }
