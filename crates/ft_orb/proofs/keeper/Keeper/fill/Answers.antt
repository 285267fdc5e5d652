use Rattle.std.proofs.Common.{ap, subst, sym}
use Rattle.ft_log.specs.Logged.{Logged, logged}
use Rattle.ft_log.specs.View.{key_of, performed_in}
use Rattle.ft_objects.specs.Replies.{AreRenderable}
use Rattle.ft_orb.proofs.Desks.{renderable-filled}
use Rattle.ft_orb.proofs.keeper.Keeper.fill.Goals as goal

pub invariant_of-self : goal.invariant_of-self
invariant_of-self c = record {
  renderable = subst AreRenderable (sym (ap (λ (l : Logged). l.entries) c.fill.ensures.entries))
      (renderable-filled (key_of c.in-Some.field-0.key) c.args.number (performed_in c.args.outcome) (logged c.args.self.now.log).entries c.requires.renderable c.args.self.now.renderable);
}
