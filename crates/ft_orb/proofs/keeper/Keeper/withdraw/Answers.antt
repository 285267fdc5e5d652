use Rattle.std.proofs.Common.{ap, not, subst, sym}
use Rattle.ft_log.specs.Kept.{is_parked_at}
use Rattle.ft_log.specs.Logged.{Logged, logged}
use Rattle.ft_log.specs.View.{key_of}
use Rattle.ft_objects.specs.Replies.{AreRenderable}
use Rattle.ft_orb.proofs.Desks.{renderable-others}
use Rattle.ft_orb.proofs.keeper.Keeper.withdraw.Goals as goal

pub invariant_of-self : goal.invariant_of-self
invariant_of-self c = record {
  renderable = subst AreRenderable (sym (ap (λ (l : Logged). l.entries) c.withdraw.ensures.entries))
      (renderable-others (λ e. not (is_parked_at (key_of c.in-Some.field-0.key) c.args.number e)) (logged c.args.self.now.log).entries c.args.self.now.renderable);
}
