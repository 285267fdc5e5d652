use Rattle.std.proofs.Common.{◌≡◌, ◌==◌, ℕ, false, refl, arith}
use Rattle.std.proofs.lemmas.Grind.{common_steps}
use Rattle.std.specs.BTreeMap.{get}
use Rattle.std.specs.Ordering.{nat_cmp}
use Rattle.ft_orb.specs.Owners.{owning}
use Rattle.ft_orb.specs.Parking.{numbering}
use Rattle.ft_orb.specs.Tellings.{nothing_yet}
use Rattle.ft_orb.proofs.Meanwhile.{lost-late, rests-lost}
use Rattle.ft_orb.proofs.Others.{links-others}
use Rattle.ft_orb.proofs.engine.Engine.lost.Goals as goal

pub returns-clause-table : goal.returns-clause-table
returns-clause-table g c owner calls past h =
    let others : (q : ℕ) → (c.args.connection == q) ≡ false → get nat_cmp c.remove.new.self q ≡ get nat_cmp c.args.self.now.links q = λ q n. grind (arith, common_steps) in
    rests-lost g.C.Catalogue.offers (owning owner) calls c.args.self.now _ past c.args.connection h refl refl (record { limits = refl; capacity = refl; share = refl; greatest = refl; others = others }) refl refl c.remove.ensures.updates.1

pub returns-clause-late : goal.returns-clause-late
returns-clause-late g c s held calls past waiting h =
    let others : (q : ℕ) → (c.args.connection == q) ≡ false → get nat_cmp c.remove.new.self q ≡ get nat_cmp c.args.self.now.links q = λ q n. grind (arith, common_steps) in
    lost-late g.C.Catalogue.offers s c.streams_are_heard.ensures.stays held calls c.args.self.now _ past waiting c.args.connection h
    (rests-lost g.C.Catalogue.offers (numbering s nothing_yet held) calls c.args.self.now _ past c.args.connection h.rests refl refl (record { limits = refl; capacity = refl; share = refl; greatest = refl; others = others }) refl refl c.remove.ensures.updates.1)
    refl refl refl

pub returns-clause-waiting : goal.returns-clause-waiting
returns-clause-waiting g c q =
    let others : (q : ℕ) → (c.args.connection == q) ≡ false → get nat_cmp c.remove.new.self q ≡ get nat_cmp c.args.self.now.links q = λ q n. grind (arith, common_steps) in
    links-others c.args.connection c.args.self.now.links c.remove.new.self others (get nat_cmp c.args.self.now.parked.requests q)
