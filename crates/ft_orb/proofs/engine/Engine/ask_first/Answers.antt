use Rattle.std.proofs.Common.{refl}
use Rattle.ft_orb.proofs.Acting.{changed-deed, resting}
use Rattle.ft_orb.proofs.Changes.{rests-changed, stays-changed}
use Rattle.ft_orb.proofs.engine.Engine.ask_first.Goals as goal

pub returns-clause-late : goal.returns-clause-late
returns-clause-late g c s held calls past waiting h is = stays-changed g.C.Catalogue.offers s held calls c.args.self.now past waiting _ _ h is

pub returns-clause-deed : goal.returns-clause-deed
returns-clause-deed g c s h holds is =
    let r = resting g.C.Catalogue.offers s h c.args.self.now holds c.requires.idle in
    changed-deed g.C.Catalogue.offers s h c.args.self.now _ r (stays-changed g.C.Catalogue.offers s h.held h.calls c.args.self.now h.past h.waiting _ _ r.stays is) (λ q. (refl, refl)) refl

pub returns-clause-table : goal.returns-clause-table
returns-clause-table g c owner calls past h is = rests-changed g.C.Catalogue.offers owner calls c.args.self.now past _ _ h is
