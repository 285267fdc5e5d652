use Rattle.std.proofs.Common.{ℕ, Bool, length, sym, ap, ◌∙◌}
use Rattle.ft_orb.specs.Parked.{on_going}
use Rattle.ft_orb.specs.Tellings.{nothing_yet}
use Rattle.ft_orb.proofs.Late.{links-go}
use Rattle.ft_orb.proofs.engine.Engine.wanted.Goals as goal

pub returns-in-Some-clause-late : goal.returns-in-Some-clause-late
returns-in-Some-clause-late g c s held calls past waiting h there =
    let goes = links-go g.C.Catalogue.offers s nothing_yet held calls c.args.self.now past h.rests in
    c.count_going.ensures ∙ ap (λ (f : ℕ → Bool). length (on_going f c.in-Some.parked.now.waiters.items)) goes ∙ ap length (h.parks.lists c.args.number c.in-Some.parked.now (sym c.in-Some.ensures.value))
