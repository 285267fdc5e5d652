use Rattle.std.proofs.Common.{ℕ, [], ap, max, sym, subst, ◌∙◌}
use Rattle.ft_log.specs.Kept.{unexpired}
use Rattle.ft_log.specs.Logged.{logged}
use Rattle.ft_orb.specs.declared.events.Note.TheVariants.{Refused}
use Rattle.ft_orb.specs.Engines.{kept_in, shown_in}
use Rattle.ft_orb.specs.History.{Piece}
use Rattle.ft_orb.specs.Standing.{Shown, Stands}
use Rattle.ft_orb.proofs.Images.{calls_at, shown-rests}
use Rattle.ft_orb.proofs.Servants.{then-shown}
use Rattle.ft_orb.proofs.server.Server.tick.Goals as goal

pub returns-clause-table : goal.returns-clause-table
returns-clause-table g c made past other st gone =
    let stood : Stands g.S.Servant.meaning made (shown_in c.rest.new.self) past = subst (λ (s : Shown g.row.S.Denot). Stands g.S.Servant.meaning made s past) (sym (c.rest.ensures.shown ∙ c.self.view_is)) st in
    let r = shown-rests g.S.Servant.meaning made c.rest.new.self past c.rest.ensures.free c.rest.ensures.idle stood in
    then-shown g.S.Servant.meaning made (calls_at g.S.Servant.meaning made past) past (Piece other c.args.moment []) Refused c.rest.new.self c.tick.new.self [] c.tick.ensures.catalogue r.1
    (c.tick.ensures.table _ (calls_at g.S.Servant.meaning made past) past other r.0 gone)

pub returns-clause-forgotten : goal.returns-clause-forgotten
returns-clause-forgotten g c =
    c.tick.ensures.forgotten ∙ ap (λ (n : ℕ). unexpired n (kept_in c.rest.new.self)) c.tick.ensures.clock
    ∙ ap (λ (s : Shown g.row.S.Denot). unexpired (max s.clock c.args.moment) (logged s.log).entries) (c.rest.ensures.shown ∙ c.self.view_is)
