use Rattle.std.proofs.Common.{◌≡◌, List, ℕ, [], ◌++◌, Ok, Err, inl, inr, ap, sym, refl, subst, ◌∙◌, arith}
use Rattle.std.proofs.lemmas.Grind.{common_steps}
use Rattle.ft_orb.specs.declared.engine.Engine.{Engine}
use Rattle.ft_orb.specs.declared.error.CloseError.TheVariants as closing
use Rattle.ft_orb.specs.declared.events.Note.TheVariants as noting
use Rattle.ft_orb.specs.Engines.{Rests}
use Rattle.ft_orb.specs.Outputs.{table_says}
use Rattle.ft_orb.specs.History.{Close, Lost}
use Rattle.ft_orb.specs.History.{line}
use Rattle.ft_orb.specs.Owners.{made_of, meaning_of}
use Rattle.ft_orb.specs.Parking.{Stays, parked_in, told_in}
use Rattle.ft_orb.specs.Standing.{note_of_closing}
use Rattle.ft_orb.specs.Tellings.{nothing_yet}
use Rattle.ft_orb.proofs.Elsewhere.{attended-none, event-late, off-closed}
use Rattle.ft_orb.proofs.Handing.{stay-then}
use Rattle.ft_orb.proofs.Streams.{closed-by, closed-so, refused-gone}
use Rattle.ft_orb.proofs.attending.EngineHost.part.Goals as goal

pub returns-in-Ok-clause-table : goal.returns-in-Ok-clause-table
returns-in-Ok-clause-table g c o calls past rests going =
    let w = closed-so c.close.result noting.Done _ (ap note_of_closing c.in-Ok.is) (c.close.ensures.table o calls past rests) in
    let is = closed-by o.limits o.offer.knows (table_says (meaning_of o) (made_of o)) past c.args.connection (Ok (tt {0})) w.0 refl going w.2.0 in
    (noting.Done, refl, w.1 ∙ ap (λ (xs : List ℕ). c.args.out.now.items ++ xs) is, w.2.1)

pub returns-in-Err-Waits-clause-parked : goal.returns-in-Err-Waits-clause-parked
returns-in-Err-Waits-clause-parked g c = stay-then parked_in told_in c.args.self.now c.close.new.self c.lost.new.self c.close.ensures.parked c.lost.ensures.parked

pub returns-in-Err-Waits-clause-waiting : goal.returns-in-Err-Waits-clause-waiting
returns-in-Err-Waits-clause-waiting g c q = c.lost.ensures.waiting q ∙ c.close.ensures.waiting q

pub returns-in-Err-Waits-clause-table : goal.returns-in-Err-Waits-clause-table
returns-in-Err-Waits-clause-table g c o calls past rests going =
    let waits : c.close.result ≡ Err closing.Waits = grind (arith, common_steps) in
    let same = c.close.ensures.unchanged waits in
    (noting.Memory 0 0, refl, tt, c.lost.ensures.table o calls past (subst (λ (e : Engine g.row.C.Denot). Rests g.C.Catalogue.offers o calls e past) (sym same.0) rests))

pub returns-in-Err-NoConnection-clause-table : goal.returns-in-Err-NoConnection-clause-table
returns-in-Err-NoConnection-clause-table g c o calls past rests going =
    let fails : c.close.result ≡ Err closing.NoConnection = grind (arith, common_steps) in
    let w = closed-so c.close.result noting.Refused _ (ap note_of_closing fails) (c.close.ensures.table o calls past rests) in
    absurd (refused-gone o.limits (line past c.args.connection) going w.2.0.1)

pub returns-in-Err-Memory-clause-table : goal.returns-in-Err-Memory-clause-table
returns-in-Err-Memory-clause-table g c o calls past rests going =
    let fails : c.close.result ≡ Err closing.Memory = grind (arith, common_steps) in
    let w = closed-so c.close.result (noting.Memory 0 0) _ (ap note_of_closing fails) (c.close.ensures.table o calls past rests) in
    (noting.Memory 0 0, refl, tt, w.2.1)

pub returns-in-Ok-clause-late : goal.returns-in-Ok-clause-late
returns-in-Ok-clause-late g c s held calls past waiting h =
    event-late g.C.Catalogue.offers s held calls past waiting c.args.connection _ (Close c.args.connection) noting.Done c.close.new.self refl refl (closed-so c.close.result noting.Done _ (ap note_of_closing c.in-Ok.is) (c.close.ensures.late s held calls past waiting h)).stays

pub returns-in-Err-Waits-clause-late : goal.returns-in-Err-Waits-clause-late
returns-in-Err-Waits-clause-late g c s held calls past waiting h =
    let waits : c.close.result ≡ Err closing.Waits = grind (arith, common_steps) in
    let same = c.close.ensures.unchanged waits in
    event-late g.C.Catalogue.offers s held calls past waiting c.args.connection _ (Lost c.args.connection) noting.Done c.lost.new.self refl (([], refl, tt), refl)
    (c.lost.ensures.late s held calls past waiting (subst (λ (e : Engine g.row.C.Denot). Stays g.C.Catalogue.offers s held calls e past waiting) (sym same.0) h))

pub returns-in-Err-NoConnection-clause-late : goal.returns-in-Err-NoConnection-clause-late
returns-in-Err-NoConnection-clause-late g c s held calls past waiting h =
    let fails : c.close.result ≡ Err closing.NoConnection = grind (arith, common_steps) in
    let ends = closed-so c.close.result noting.Refused _ (ap note_of_closing fails) (c.close.ensures.late s held calls past waiting h) in
    let off = off-closed s.limits past c.args.connection (ends.ends nothing_yet).writes.1 in
    let same = c.close.ensures.nothing fails in
    attended-none (λ s held calls engine past waiting. Stays g.C.Catalogue.offers s held calls engine past waiting) c.args.connection _ s held calls past waiting c.close.new.self ((tt, off), refl)
    (subst (λ (e : Engine g.row.C.Denot). Stays g.C.Catalogue.offers s held calls e past waiting) (sym same.0) h)

pub returns-in-Err-Memory-clause-late : goal.returns-in-Err-Memory-clause-late
returns-in-Err-Memory-clause-late g c s held calls past waiting h =
    let fails : c.close.result ≡ Err closing.Memory = grind (arith, common_steps) in
    event-late g.C.Catalogue.offers s held calls past waiting c.args.connection _ (Close c.args.connection) (noting.Memory 0 0) c.close.new.self refl (([], refl, tt), refl) (closed-so c.close.result (noting.Memory 0 0) _ (ap note_of_closing fails) (c.close.ensures.late s held calls past waiting h)).stays

pub returns-in-Err-Waits-clause-cut : goal.returns-in-Err-Waits-clause-cut
returns-in-Err-Waits-clause-cut g c = inr refl

pub returns-in-Err-NoConnection-clause-cut : goal.returns-in-Err-NoConnection-clause-cut
returns-in-Err-NoConnection-clause-cut g c = inl refl

pub returns-in-Err-Memory-clause-cut : goal.returns-in-Err-Memory-clause-cut
returns-in-Err-Memory-clause-cut g c = inr refl
