use Rattle.ft_orb.specs.declared.events.Note.TheVariants.{Done, Memory}
use Rattle.std.proofs.Common.{ap, length, map, ◌++◌, ◌∷◌, [], ◌==◌, ℕ, false, None, Some, ◌≡◌, sym, subst, refl, ◌∙◌, arith}
use Rattle.std.proofs.lemmas.Grind.{common_steps}
use Rattle.std.specs.BTreeMap.{get}
use Rattle.std.specs.Ordering.{nat_cmp}
use Rattle.ft_log.specs.View.{performed_in}
use Rattle.ft_orb.specs.Pause.{pending_by, pending_of}
use Rattle.ft_orb.proofs.Owning.{answered-done, answered-cut, idle-by, resumes-once}
use Rattle.ft_orb.proofs.OwningNow.{resumes-now}
use Rattle.ft_orb.specs.Parking.{numbering, others_of, put_at}
use Rattle.ft_orb.specs.Tellings.{nothing_yet}
use Rattle.ft_orb.proofs.Late.{put-here}
use Rattle.ft_orb.proofs.Meanwhile.{answers-as, answers-late}
use Rattle.ft_orb.specs.Parked.{going_in}
use Rattle.ft_orb.proofs.Others.{links-others}
use Rattle.ft_orb.proofs.engine.Engine.answer_with.Goals as goal
use Rattle.ft_log.specs.Holding.{known}
use Rattle.giop_core.specs.Items.{item_at}
use Rattle.ft_orb.specs.Carrying.{asker_in, reply_if}
use Rattle.ft_orb.proofs.Carried.{asks-so, carried-fits, cut-plain, finished-plain, put-counted, put-cut}
use Rattle.ft_orb.specs.Owners.{owning}
use Rattle.ft_orb.proofs.Books.{owning-folded}

pub returns-in-Ok-clause-table : goal.returns-in-Ok-clause-table
returns-in-Ok-clause-table g c owner calls past moment octets written w a gave =
    let grown = c.args.out.now.items ++ reply_if [] (asker_in c.args.self.now) (Some (performed_in c.args.outcome)) in
    let done = finished-plain (map item_at c.args.contexts.now) c.args.self.now.keeper.slot (performed_in c.args.outcome) _ _ c.args.out.now.items c.finish-step.new.out.items c.in-Some.ask.place.handled c.finish-step.ensures.kept c.finish-step.result c.in-Ok.field-0 c.counted.result c.finish-step.ensures.put c.counted.ensures c.in-Ok.is (asker_in c.args.self.now) (asks-so c.args.self.now.keeper.slot _ c.in-Some.ask (sym c.take.ensures.value ∙ c.in-Some.is)) in
    answered-done g.C.Catalogue.offers (owning owner) c.streams_are_heard.ensures.grows calls c.args.self.now _ past moment octets written (pending_by c.args.self.now.keeper.slot c.in-Some.ask) w (ap (pending_of c.args.self.now.keeper.slot) (sym c.take.ensures.value ∙ c.in-Some.is)) a (performed_in c.args.outcome) (ap known gave) c.finish-step.result c.args.out.now.items grown c.counted.result done c.counted.ensures refl (idle-by (ap (pending_of _) c.take.ensures.after)) (record { limits = refl; capacity = c.finish-step.ensures.capacity; share = c.finish-step.ensures.share; greatest = refl; others = λ q n. refl }) c.finish-step.ensures.clock c.in-Ok.field-0 c.in-Ok.is refl

pub returns-in-Err-clause-table : goal.returns-in-Err-clause-table
returns-in-Err-clause-table g c owner calls past moment octets written w a gave =
    let done = cut-plain (map item_at c.args.contexts.now) c.args.self.now.keeper.slot (performed_in c.args.outcome) _ _ c.args.out.now.items c.finish-step.new.out.items c.in-Some.ask.place.handled c.finish-step.ensures.kept c.finish-step.result c.in-Err.cut c.counted.result c.finish-step.ensures.put c.counted.ensures c.in-Err.is in
    let others : (q : ℕ) → (c.in-Some.ask.connection == q) ≡ false → get nat_cmp c.end_link.new.links q ≡ get nat_cmp c.args.self.now.links q = λ q n. grind (arith, common_steps) in
    let gone : get nat_cmp c.end_link.new.links c.in-Some.ask.connection ≡ None = grind (arith, common_steps) in
    answered-cut g.C.Catalogue.offers (owning owner) c.streams_are_heard.ensures.grows calls c.args.self.now _ past moment octets written (pending_by c.args.self.now.keeper.slot c.in-Some.ask) w (ap (pending_of c.args.self.now.keeper.slot) (sym c.take.ensures.value ∙ c.in-Some.is)) a (performed_in c.args.outcome) (ap known gave) c.finish-step.result c.args.out.now.items (c.args.out.now.items ++ []) c.counted.result done c.counted.ensures refl (idle-by (ap (pending_of _) c.take.ensures.after)) (record { limits = refl; capacity = c.finish-step.ensures.capacity; share = c.finish-step.ensures.share; greatest = refl; others = others }) c.finish-step.ensures.clock c.in-Err.cut c.in-Err.is gone

pub returns-in-Ok-clause-once : goal.returns-in-Ok-clause-once
returns-in-Ok-clause-once g c owner calls past moment octets written w a gave =
    let grown = c.args.out.now.items ++ reply_if [] (asker_in c.args.self.now) (Some (performed_in c.args.outcome)) in
    resumes-once g.C.Catalogue.offers (owning owner) (owning-folded owner) (calls ++ w.call ∷ []) past w.connection moment octets written Done _ c.args.out.now.items grown (returns-in-Ok-clause-table g c owner calls past moment octets written w a gave)

pub returns-in-Err-clause-once : goal.returns-in-Err-clause-once
returns-in-Err-clause-once g c owner calls past moment octets written w a gave =
    resumes-once g.C.Catalogue.offers (owning owner) (owning-folded owner) (calls ++ w.call ∷ []) past w.connection moment octets written (Memory c.in-Err.cut.handled c.in-Err.cut.answered) _ c.args.out.now.items (c.args.out.now.items ++ []) (returns-in-Err-clause-table g c owner calls past moment octets written w a gave)

pub returns-in-Ok-clause-now : goal.returns-in-Ok-clause-now
returns-in-Ok-clause-now g c owner calls past moment octets written w a gave =
    let grown = c.args.out.now.items ++ reply_if [] (asker_in c.args.self.now) (Some (performed_in c.args.outcome)) in
    resumes-now g.C.Catalogue.offers (owning owner) (owning-folded owner) (calls ++ w.call ∷ []) past w.connection moment octets written Done _ c.args.out.now.items grown (returns-in-Ok-clause-table g c owner calls past moment octets written w a gave)

pub returns-in-Err-clause-now : goal.returns-in-Err-clause-now
returns-in-Err-clause-now g c owner calls past moment octets written w a gave =
    resumes-now g.C.Catalogue.offers (owning owner) (owning-folded owner) (calls ++ w.call ∷ []) past w.connection moment octets written (Memory c.in-Err.cut.handled c.in-Err.cut.answered) _ c.args.out.now.items (c.args.out.now.items ++ []) (returns-in-Err-clause-table g c owner calls past moment octets written w a gave)

pub returns-in-Ok-clause-late : goal.returns-in-Ok-clause-late
returns-in-Ok-clause-late g c s held calls past waiting moment octets written w a =
    let grown = c.args.out.now.items ++ reply_if [] (asker_in c.args.self.now) (Some (performed_in c.args.outcome)) in
    let done = finished-plain (map item_at c.args.contexts.now) c.args.self.now.keeper.slot (performed_in c.args.outcome) _ _ c.args.out.now.items c.finish-step.new.out.items c.in-Some.ask.place.handled c.finish-step.ensures.kept c.finish-step.result c.in-Ok.field-0 c.counted.result c.finish-step.ensures.put c.counted.ensures c.in-Ok.is (asker_in c.args.self.now) (asks-so c.args.self.now.keeper.slot _ c.in-Some.ask (sym c.take.ensures.value ∙ c.in-Some.is)) in
    answers-late g.C.Catalogue.offers s c.streams_are_heard.ensures.stays held calls c.args.self.now _ past waiting moment octets written w Done c.args.out.now.items grown a refl refl refl (performed_in c.args.outcome) (
    answered-done g.C.Catalogue.offers (numbering s nothing_yet (put_at (length calls) (known (performed_in c.args.outcome)) held)) c.streams_are_heard.ensures.grows calls c.args.self.now _ past moment octets written (pending_by c.args.self.now.keeper.slot c.in-Some.ask) w (ap (pending_of c.args.self.now.keeper.slot) (sym c.take.ensures.value ∙ c.in-Some.is)) (answers-as g.C.Catalogue.offers s c.streams_are_heard.ensures.stays held calls c.args.self.now c.args.self.now past waiting moment octets written w Done [] [] a refl refl refl (performed_in c.args.outcome)) (performed_in c.args.outcome) (put-here (length calls) (known (performed_in c.args.outcome)) held) c.finish-step.result c.args.out.now.items grown c.counted.result done c.counted.ensures refl (idle-by (ap (pending_of _) c.take.ensures.after)) (record { limits = refl; capacity = c.finish-step.ensures.capacity; share = c.finish-step.ensures.share; greatest = refl; others = λ q n. refl }) c.finish-step.ensures.clock c.in-Ok.field-0 c.in-Ok.is refl)

pub returns-in-Err-clause-late : goal.returns-in-Err-clause-late
returns-in-Err-clause-late g c s held calls past waiting moment octets written w a =
    let done = cut-plain (map item_at c.args.contexts.now) c.args.self.now.keeper.slot (performed_in c.args.outcome) _ _ c.args.out.now.items c.finish-step.new.out.items c.in-Some.ask.place.handled c.finish-step.ensures.kept c.finish-step.result c.in-Err.cut c.counted.result c.finish-step.ensures.put c.counted.ensures c.in-Err.is in
    let others : (q : ℕ) → (c.in-Some.ask.connection == q) ≡ false → get nat_cmp c.end_link.new.links q ≡ get nat_cmp c.args.self.now.links q = λ q n. grind (arith, common_steps) in
    let gone : get nat_cmp c.end_link.new.links c.in-Some.ask.connection ≡ None = grind (arith, common_steps) in
    answers-late g.C.Catalogue.offers s c.streams_are_heard.ensures.stays held calls c.args.self.now _ past waiting moment octets written w (Memory c.in-Err.cut.handled c.in-Err.cut.answered) c.args.out.now.items (c.args.out.now.items ++ []) a refl refl refl (performed_in c.args.outcome) (
    answered-cut g.C.Catalogue.offers (numbering s nothing_yet (put_at (length calls) (known (performed_in c.args.outcome)) held)) c.streams_are_heard.ensures.grows calls c.args.self.now _ past moment octets written (pending_by c.args.self.now.keeper.slot c.in-Some.ask) w (ap (pending_of c.args.self.now.keeper.slot) (sym c.take.ensures.value ∙ c.in-Some.is)) (answers-as g.C.Catalogue.offers s c.streams_are_heard.ensures.stays held calls c.args.self.now c.args.self.now past waiting moment octets written w Done [] [] a refl refl refl (performed_in c.args.outcome)) (performed_in c.args.outcome) (put-here (length calls) (known (performed_in c.args.outcome)) held) c.finish-step.result c.args.out.now.items (c.args.out.now.items ++ []) c.counted.result done c.counted.ensures refl (idle-by (ap (pending_of _) c.take.ensures.after)) (record { limits = refl; capacity = c.finish-step.ensures.capacity; share = c.finish-step.ensures.share; greatest = refl; others = others }) c.finish-step.ensures.clock c.in-Err.cut c.in-Err.is gone)

pub returns-in-Err-clause-waiting : goal.returns-in-Err-clause-waiting
returns-in-Err-clause-waiting g c w is q =
    let others : (q : ℕ) → (c.in-Some.ask.connection == q) ≡ false → get nat_cmp c.end_link.new.links q ≡ get nat_cmp c.args.self.now.links q = λ q n. grind (arith, common_steps) in
    let same : w.connection ≡ c.in-Some.ask.connection = grind (arith, common_steps) in
    subst (λ (n : ℕ). others_of (going_in c.end_link.new.links) n (get nat_cmp c.args.self.now.parked.requests q) ≡ others_of (going_in c.args.self.now.links) n (get nat_cmp c.args.self.now.parked.requests q)) (sym same)
    (links-others c.in-Some.ask.connection c.args.self.now.links c.end_link.new.links others (get nat_cmp c.args.self.now.parked.requests q))

pub returns-in-Ok-clause-sent : goal.returns-in-Ok-clause-sent
returns-in-Ok-clause-sent g c =
    put-counted (map item_at c.args.contexts.now) c.args.self.now.keeper.slot.asker (performed_in c.args.outcome) c.finish-step.result c.args.out.now.items c.finish-step.new.out.items c.in-Some.ask.place.handled c.in-Ok.field-0 c.counted.result c.finish-step.ensures.put c.counted.ensures c.in-Ok.is (asker_in c.args.self.now) (asks-so c.args.self.now.keeper.slot _ c.in-Some.ask (sym c.take.ensures.value ∙ c.in-Some.is))

pub returns-in-Err-clause-sent : goal.returns-in-Err-clause-sent
returns-in-Err-clause-sent g c =
    put-cut _ c.finish-step.result c.args.out.now.items c.finish-step.new.out.items c.in-Some.ask.place.handled c.in-Err.cut c.counted.result c.finish-step.ensures.put c.counted.ensures c.in-Err.is

pub finish-step-requires-clause-fits : goal.finish-step-requires-clause-fits
finish-step-requires-clause-fits g c =
    carried-fits (map item_at c.args.contexts.now) (asker_in c.args.self.now) (Some (performed_in c.args.outcome)) c.args.self.now.keeper.slot.asker (performed_in c.args.outcome) (asks-so c.args.self.now.keeper.slot _ c.in-Some.ask (sym c.take.ensures.value ∙ c.in-Some.is)) refl c.requires.carries
