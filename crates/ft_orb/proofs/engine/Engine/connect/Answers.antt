use Rattle.std.proofs.Common.{rules, ◌≡◌, ◌==◌, ℕ, false, [], refl, arith}
use Rattle.std.proofs.lemmas.Grind.{common_steps}
use Rattle.std.specs.BTreeMap.{get}
use Rattle.std.specs.Ordering.{nat_cmp}
use Rattle.ft_orb.proofs.Others.{links-others}
use Rattle.ft_orb.specs.History.{Opened}
use Rattle.ft_orb.specs.declared.events.Note.TheVariants.{Done, Memory, Refused}
use Rattle.ft_orb.proofs.Meanwhile.{counts-opened, then-late}
use Rattle.ft_orb.proofs.engine.Engine.connect.Goals as goal

pub returns-then-connection-greatest-clause-late : goal.returns-then-connection-greatest-clause-late
returns-then-connection-greatest-clause-late g c s held calls past waiting h =
    then-late g.C.Catalogue.offers s c.streams_are_heard.ensures.stays held calls c.args.self.now _ past waiting (Opened c.args.connection) Refused [] [] h (λ late r. ([], refl, search rules)) refl refl (omega arith)

pub returns-then-is_err-clause-late : goal.returns-then-is_err-clause-late
returns-then-is_err-clause-late g c s held calls past waiting h =
    then-late g.C.Catalogue.offers s c.streams_are_heard.ensures.stays held calls c.args.self.now _ past waiting (Opened c.args.connection) (Memory 0 0) [] [] h (λ late r. ([], refl, search rules)) refl refl (omega arith)

pub returns-clause-late : goal.returns-clause-late
returns-clause-late g c s held calls past waiting h =
    then-late g.C.Catalogue.offers s c.streams_are_heard.ensures.stays held calls c.args.self.now _ past waiting (Opened c.args.connection) Done [] [] h (λ late r. ([], refl, search (rules, counts-opened))) refl refl (omega arith)

pub returns-then-is_err-clause-waiting : goal.returns-then-is_err-clause-waiting
returns-then-is_err-clause-waiting g c q =
    let others : (q : ℕ) → (c.args.connection == q) ≡ false → get nat_cmp c.insert.new.self q ≡ get nat_cmp c.args.self.now.links q = λ q n. grind (arith, common_steps) in
    links-others c.args.connection c.args.self.now.links c.insert.new.self others (get nat_cmp c.args.self.now.parked.requests q)

pub returns-clause-waiting : goal.returns-clause-waiting
returns-clause-waiting g c q =
    let others : (q : ℕ) → (c.args.connection == q) ≡ false → get nat_cmp c.insert.new.self q ≡ get nat_cmp c.args.self.now.links q = λ q n. grind (arith, common_steps) in
    links-others c.args.connection c.args.self.now.links c.insert.new.self others (get nat_cmp c.args.self.now.parked.requests q)
