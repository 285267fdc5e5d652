use Rattle.std.proofs.Common.{◌≡◌, ℕ, ◌+◌, ◌<◌, List, [], ◌∷◌, ◌++◌, None, Some, get_or, length, take, refl, sym, ap, subst, ◌∙◌, arith}
use Rattle.std.proofs.lemmas.List.{take_all, take_more}
use Rattle.ft_orb.specs.declared.deeds.Deed.{Deed as CodeDeed}
use Rattle.ft_orb.specs.Deeds.{opening, after_deeds}
use Rattle.ft_orb.specs.DeedsPlayed.{AreOf}
use Rattle.ft_orb.proofs.Acting.{answered-late, done-more, done-none}
use Rattle.ft_orb.proofs.deeds.play_deeds.Goals as goal

one-more : (deeds : List CodeDeed) (i : ℕ) (d : CodeDeed) → i < length deeds → d ≡ get_or deeds i d → take (i + 1) deeds ≡ take i deeds ++ d ∷ []
one-more deeds i d within is = take_more deeds i d within ∙ ap (λ (x : CodeDeed). take i deeds ++ x ∷ []) (sym is)

pub loop-i-init : goal.loop-i-init
loop-i-init g c = record { run = λ s h holds. done-none g.C.Catalogue.offers s h c.args.engine.now c.args.out.now.items holds; catalogue = refl }

pub loop-i-preserved : goal.loop-i-preserved
loop-i-preserved g c = record {
  run = λ s h holds.
      done-more g.C.Catalogue.offers s h (take c.loop-i.i c.args.deeds.now) (take (c.loop-i.i + 1) c.args.deeds.now) c.loop-i.engine c.do_deed.new.engine c.args.out.now.items c.loop-i.out.items c.do_deed.new.out.items (c.loop-i.invariant.run s h holds)
      c.index-deeds-i.result (one-more c.args.deeds.now c.loop-i.i c.index-deeds-i.result (omega arith) c.index-deeds-i.is) None ((rw c.in-Ok-None.field-0-is at c.in-Ok-None.ensures.ok) s);
  catalogue = c.do_deed.ensures.catalogue ∙ c.loop-i.invariant.catalogue;
}

-- a piece is left
left-some : goal.returns-in-Ok-Some-clause-run
left-some g c s h holds =
    let x = done-more g.C.Catalogue.offers s h (take c.loop-i.i c.args.deeds.now) (take (c.loop-i.i + 1) c.args.deeds.now) c.loop-i.engine c.do_deed.new.engine c.args.out.now.items c.loop-i.out.items c.do_deed.new.out.items (c.loop-i.invariant.run s h holds)
    c.index-deeds-i.result (one-more c.args.deeds.now c.loop-i.i c.index-deeds-i.result (omega arith) c.index-deeds-i.is) (Some c.in-Ok-Some.taken) ((rw c.in-Ok-Some.field-0-is at c.in-Ok-Some.ensures.ok) s) in
    (x.ds, x.written, x.appended, x.are, x.runs, x.notes, x.left, x.holds)

pub returns-in-Ok-Some-clause-run : goal.returns-in-Ok-Some-clause-run
returns-in-Ok-Some-clause-run = left-some

pub returns-in-Ok-Some-clause-new : goal.returns-in-Ok-Some-clause-new
returns-in-Ok-Some-clause-new g c s held holds =
    let x = left-some g c s (opening held) holds in
    (x.0, x.1, x.2, x.3, x.4, x.5, x.6, x.7, answered-late s c.streams_are_heard.ensures.stays held x.0 x.4)

pub returns-in-Err-clause-run : goal.returns-in-Err-clause-run
returns-in-Err-clause-run g c s h holds =
    let x = c.loop-i.invariant.run s h holds in
    let same = c.in-Err.ensures.err in
    (x.ds, x.written, same.0 ∙ x.appended, x.are, x.runs, x.notes, x.left, same.2 s (after_deeds s h x.ds) x.holds)

pub returns-in-Err-clause-new : goal.returns-in-Err-clause-new
returns-in-Err-clause-new g c s held holds =
    let x = returns-in-Err-clause-run g c s (opening held) holds in
    (x.0, x.1, x.2, x.3, x.4, x.5, x.6, x.7, answered-late s c.streams_are_heard.ensures.stays held x.0 x.4)

pub returns-clause-run : goal.returns-clause-run
returns-clause-run g c s h holds =
    let x = c.loop-i.invariant.run s h holds in
    let all : take c.loop-i.i c.args.deeds.now ≡ take (length c.args.deeds.now) c.args.deeds.now = take_all c.loop-i.i c.args.deeds.now c.loop-i-test.false ∙ sym (take_all (length c.args.deeds.now) c.args.deeds.now (omega arith)) in
    (x.ds, x.written, x.appended, subst (λ (l : List CodeDeed). AreOf l x.ds) all x.are, x.runs, x.notes, x.left, x.holds)

pub returns-clause-new : goal.returns-clause-new
returns-clause-new g c s held holds =
    let x = returns-clause-run g c s (opening held) holds in
    (x.0, x.1, x.2, x.3, x.4, x.5, x.6, x.7, answered-late s c.streams_are_heard.ensures.stays held x.0 x.4)

pub returns-in-Err-clause-refused : goal.returns-in-Err-clause-refused
returns-in-Err-clause-refused g c = (c.index-deeds-i.result, one-more c.args.deeds.now c.loop-i.i c.index-deeds-i.result (omega arith) c.index-deeds-i.is, c.in-Err.ensures.err.1)
