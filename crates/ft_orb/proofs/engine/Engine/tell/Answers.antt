use Rattle.std.proofs.Common.{ap, length, [], ◌==◌, ℕ, Option, false, None, Some, ◌+◌, ◌<◌, ◌≡◌, sym, subst, refl, ◌∙◌, arith}
use Rattle.std.proofs.lemmas.Grind.{common_steps}
use Rattle.std.specs.BTreeMap.{get}
use Rattle.std.specs.Option.{option_map_or}
use Rattle.ft_log.specs.Logged as log
use Rattle.ft_log.specs.Logged.{logged}
use Rattle.ft_log.specs.View.{performed_in}
use Rattle.ft_orb.specs.declared.answering.Asker.{Asker}
use Rattle.ft_orb.specs.declared.pausing.Ask.{Ask}
use Rattle.ft_orb.specs.declared.pausing.Pending.{Pending}
use Rattle.ft_orb.specs.Engines.{handled_in}
use Rattle.std.specs.Ordering.{nat_cmp}
use Rattle.ft_orb.specs.declared.desk.Step.{Step}
use Rattle.ft_orb.specs.declared.events.Note.TheVariants.{Memory}
use Rattle.ft_orb.specs.Pause.{pending_by, pending_of}
use Rattle.ft_orb.specs.Parked.{going_in}
use Rattle.ft_orb.specs.Parking.{by_number, numbering, others_of}
use Rattle.ft_orb.specs.Private.{IsPut}
use Rattle.ft_orb.specs.Tellings.{nothing_yet, reply_by}
use Rattle.ft_orb.proofs.Meanwhile.{leaves-late}
use Rattle.ft_orb.proofs.Others.{links-others}
use Rattle.ft_orb.proofs.Owning.{given-count, given-up, idle-by}
use Rattle.ft_orb.proofs.Refusing.{cut-as, declines, unput}
use Rattle.ft_orb.proofs.engine.Engine.tell.Goals as goal

pub returns-in-Answered-clause-late : goal.returns-in-Answered-clause-late
returns-in-Answered-clause-late g c s held calls past waiting moment octets written w a =
    let slot = c.args.self.now.keeper.slot in
    declines g.C.Catalogue.offers s c.streams_are_heard.ensures.grows c.streams_are_heard.ensures.stays held calls c.args.self.now _ past waiting moment octets written w (pending_by slot c.in-Some.ask) (ap (pending_of slot) (sym c.take.ensures.value ∙ c.in-Some.is)) a c.args.outcome.now
    refl (idle-by (ap (pending_of _) c.take.ensures.after)) refl refl refl c.tell.ensures.clock c.tell.ensures.log refl refl refl c.args.out.now.items c.tell.new.out.items
    (subst (λ (step : Step). IsPut (reply_by slot.asker.wish slot.asker.version slot.asker.request_id (performed_in c.args.outcome.now)) step c.args.out.now.items c.tell.new.out.items) c.in-Answered.is c.tell.ensures.put)

pub returns-clause-given_up : goal.returns-clause-given_up
returns-clause-given_up g c s held calls past waiting moment octets written w a =
    let slot = c.args.self.now.keeper.slot in
    let asks = sym c.take.ensures.value ∙ c.in-Some.is in
    let others : (q : ℕ) → (c.in-Some.ask.connection == q) ≡ false → get nat_cmp c.end_link.new.links q ≡ get nat_cmp c.args.self.now.links q = λ q n. grind (arith, common_steps) in
    let gone : get nat_cmp c.end_link.new.links c.in-Some.ask.connection ≡ None = grind (arith, common_steps) in
    let handled : handled_in c.args.self.now ≡ c.in-Some.ask.place.handled = ap (λ (o : Option Ask). option_map_or (λ (ask : Ask). ask.place.handled) o 0) asks in
    cut-as g.C.Catalogue.offers s held calls past waiting w.connection moment octets written (handled_in c.args.self.now) c.in-Some.ask.place.handled _ handled
    (leaves-late g.C.Catalogue.offers s c.streams_are_heard.ensures.stays held calls c.args.self.now _ past waiting moment octets written w (Memory c.in-Some.ask.place.handled c.in-Some.ask.place.handled) [] [] a refl refl refl (
    given-up g.C.Catalogue.offers (numbering s nothing_yet held) c.streams_are_heard.ensures.grows calls c.args.self.now _ past moment octets written (pending_by slot c.in-Some.ask) w (ap (pending_of slot) asks) a.asks refl (idle-by (ap (pending_of _) c.take.ensures.after))
    (record { limits = refl; capacity = ap (λ (l : log.Shown). (logged l).capacity) c.tell.ensures.log; share = ap (λ (l : log.Shown). (logged l).share) c.tell.ensures.log; greatest = refl; others = others }) c.tell.ensures.clock (ap (λ (l : log.Shown). (logged l).entries) c.tell.ensures.log) gone))

pub returns-clause-due : goal.returns-clause-due
returns-clause-due g c s held calls past waiting moment octets written w a =
    let slot = c.args.self.now.keeper.slot in
    let same : pending_by slot c.in-Some.ask ≡ a.asks.pending = (let both : Some (pending_by slot c.in-Some.ask) ≡ Some a.asks.pending = sym (ap (pending_of slot) (sym c.take.ensures.value ∙ c.in-Some.is)) ∙ a.asks.keeps.waits in cc) in
    subst (λ (k : Asker). 0 < length (reply_by k.wish k.version k.request_id (performed_in c.args.outcome.now))) (ap (λ (p : Pending). p.waiting.asker) same ∙ a.asks.asker)
    (unput (reply_by slot.asker.wish slot.asker.version slot.asker.request_id (performed_in c.args.outcome.now)) c.tell.result c.args.out.now.items c.tell.new.out.items c.in_default-tell.not-Answered c.tell.ensures.put)

pub returns-clause-counts : goal.returns-clause-counts
returns-clause-counts g c s held calls past waiting moment octets written w a =
    let slot = c.args.self.now.keeper.slot in
    let asks = sym c.take.ensures.value ∙ c.in-Some.is in
    let handled : handled_in c.args.self.now ≡ c.in-Some.ask.place.handled = ap (λ (o : Option Ask). option_map_or (λ (ask : Ask). ask.place.handled) o 0) asks in
    ap (λ (n : ℕ). n + 1) handled ∙ given-count g.C.Catalogue.offers (by_number s held) calls c.args.self.now past moment octets written (pending_by slot c.in-Some.ask) w (ap (pending_of slot) asks) a.asks

pub returns-clause-waiting : goal.returns-clause-waiting
returns-clause-waiting g c w is q =
    let others : (q : ℕ) → (c.in-Some.ask.connection == q) ≡ false → get nat_cmp c.end_link.new.links q ≡ get nat_cmp c.args.self.now.links q = λ q n. grind (arith, common_steps) in
    let same : w.connection ≡ c.in-Some.ask.connection = grind (arith, common_steps) in
    subst (λ (n : ℕ). others_of (going_in c.end_link.new.links) n (get nat_cmp c.args.self.now.parked.requests q) ≡ others_of (going_in c.args.self.now.links) n (get nat_cmp c.args.self.now.parked.requests q)) (sym same)
    (links-others c.in-Some.ask.connection c.args.self.now.links c.end_link.new.links others (get nat_cmp c.args.self.now.parked.requests q))
