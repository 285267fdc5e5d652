use Rattle.std.proofs.Common.{◌≡◌, ◌==◌, ℕ, false, None, Some, refl, sym, arith}
use Rattle.std.proofs.lemmas.Grind.{common_steps}
use Rattle.std.specs.BTreeMap.{get}
use Rattle.std.specs.Ordering.{nat_cmp}
use Rattle.giop_link.specs.Linking.{shut}
use Rattle.ft_orb.specs.History.{Close}
use Rattle.ft_orb.specs.declared.events.Note.TheVariants.{Done, Memory, Refused}
use Rattle.ft_orb.proofs.Late.{ends-late}
use Rattle.ft_orb.proofs.Meanwhile.{closed-cut, closed-done, closed-none}
use Rattle.ft_orb.proofs.Others.{links-others}
use Rattle.ft_orb.proofs.engine.Engine.close.Goals as goal

pub returns-in_default-clause-late : goal.returns-in_default-clause-late
returns-in_default-clause-late g c s held calls past waiting h =
    let others : (q : ℕ) → (c.args.connection == q) ≡ false → get nat_cmp c.get_mut.follows.lender-at-none q ≡ get nat_cmp c.args.self.now.links q = λ q n. grind (arith, common_steps) in
    let gone : get nat_cmp c.get_mut.follows.lender-at-none c.args.connection ≡ None = grind (arith, common_steps) in
    ends-late g.C.Catalogue.offers s c.streams_are_heard.ensures.stays held calls c.args.self.now _ past waiting (Close c.args.connection) Refused c.args.out.now.items c.args.out.now.items h
    (λ late r. closed-none g.C.Catalogue.offers s late held calls c.args.self.now _ past c.args.connection r refl refl (record { limits = refl; capacity = refl; share = refl; greatest = refl; others = others }) refl refl c.args.out.now.items (sym c.in_default.ensures.value) gone) refl refl (omega arith)

pub returns-clause-late : goal.returns-clause-late
returns-clause-late g c s held calls past waiting h =
    let others : (q : ℕ) → (c.args.connection == q) ≡ false → get nat_cmp (c.get_mut.follows.lender c.close.new.self) q ≡ get nat_cmp c.args.self.now.links q = λ q n. grind (arith, common_steps) in
    let next : get nat_cmp (c.get_mut.follows.lender c.close.new.self) c.args.connection ≡ Some (shut c.in-Some.link.now) = grind (arith, common_steps) in
    ends-late g.C.Catalogue.offers s c.streams_are_heard.ensures.stays held calls c.args.self.now _ past waiting (Close c.args.connection) Done c.args.out.now.items c.close.new.out.items h
    (λ late r. closed-done g.C.Catalogue.offers s late held calls c.args.self.now _ past c.args.connection r refl refl (record { limits = refl; capacity = refl; share = refl; greatest = refl; others = others }) refl refl c.args.out.now.items c.close.new.out.items c.in-Some.link.now (sym c.in-Some.ensures.value) next (let ok = c.close.ensures.ok in let is = c.if-is_err.false in grind (arith, common_steps))) refl refl (omega arith)

pub returns-then-is_err-clause-late : goal.returns-then-is_err-clause-late
returns-then-is_err-clause-late g c s held calls past waiting h =
    let others : (q : ℕ) → (c.args.connection == q) ≡ false → get nat_cmp c.end_link.new.links q ≡ get nat_cmp c.args.self.now.links q = λ q n. grind (arith, common_steps) in
    let gone : get nat_cmp c.end_link.new.links c.args.connection ≡ None = c.end_link.ensures.gone in
    ends-late g.C.Catalogue.offers s c.streams_are_heard.ensures.stays held calls c.args.self.now _ past waiting (Close c.args.connection) (Memory 0 0) c.args.out.now.items c.close.new.out.items h
    (λ late r. closed-cut g.C.Catalogue.offers s late held calls c.args.self.now _ past c.args.connection r refl refl (record { limits = refl; capacity = refl; share = refl; greatest = refl; others = others }) refl refl c.args.out.now.items c.close.new.out.items c.in-Some.link.now (sym c.in-Some.ensures.value) gone (let err = c.close.ensures.err in let is = c.if-is_err.true in grind (arith, common_steps)) (let err = c.close.ensures.err in let is = c.if-is_err.true in grind (arith, common_steps))) refl refl (omega arith)

pub returns-in_default-clause-waiting : goal.returns-in_default-clause-waiting
returns-in_default-clause-waiting g c q =
    let others : (q : ℕ) → (c.args.connection == q) ≡ false → get nat_cmp c.get_mut.follows.lender-at-none q ≡ get nat_cmp c.args.self.now.links q = λ q n. grind (arith, common_steps) in
    links-others c.args.connection c.args.self.now.links c.get_mut.follows.lender-at-none others (get nat_cmp c.args.self.now.parked.requests q)

pub returns-clause-waiting : goal.returns-clause-waiting
returns-clause-waiting g c q =
    let others : (q : ℕ) → (c.args.connection == q) ≡ false → get nat_cmp (c.get_mut.follows.lender c.close.new.self) q ≡ get nat_cmp c.args.self.now.links q = λ q n. grind (arith, common_steps) in
    links-others c.args.connection c.args.self.now.links (c.get_mut.follows.lender c.close.new.self) others (get nat_cmp c.args.self.now.parked.requests q)

pub returns-then-is_err-clause-waiting : goal.returns-then-is_err-clause-waiting
returns-then-is_err-clause-waiting g c q =
    let others : (q : ℕ) → (c.args.connection == q) ≡ false → get nat_cmp c.end_link.new.links q ≡ get nat_cmp c.args.self.now.links q = λ q n. grind (arith, common_steps) in
    links-others c.args.connection c.args.self.now.links c.end_link.new.links others (get nat_cmp c.args.self.now.parked.requests q)
