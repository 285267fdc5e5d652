use Rattle.std.proofs.Common.{ap, subst, take, length, ◌≡◌, ◌==◌, ◌+◌, ℕ, [], false, Some, None, sym, refl, ◌∙◌, arith}
use Rattle.std.proofs.lemmas.Grind.{common_steps}
use Rattle.ft_log.specs.Logged.{logged}
use Rattle.ft_orb.specs.declared.events.Note.TheVariants.{Done, Memory, Refused}
use Rattle.ft_orb.specs.Engines.{as_server}
use Rattle.ft_orb.specs.Owners.{kept_of, owned_table, owner_rules, owning, voice_of}
use Rattle.ft_orb.specs.Parking.{by_number, numbering}
use Rattle.ft_orb.proofs.Late.{ends-late, fewer-go, repeats-cut, repeats-late, stops-late}
use Rattle.ft_orb.proofs.Unmoved.{joined-parked}
use Rattle.ft_orb.proofs.Others.{joined-others, links-others}
use Rattle.ft_orb.specs.Parked.{going_in}
use Rattle.ft_orb.specs.History.{Piece, arrivals_in, line, origin}
use Rattle.ft_orb.specs.declared.engine.Fed.TheVariants as fed
use Rattle.ft_orb.proofs.Endings.{heard-closed, heard-fed}
use Rattle.ft_orb.specs.Waits.{call_of, field_with}
use Rattle.ft_orb.proofs.Books.{book_by, owning-folded}
use Rattle.ft_orb.proofs.Owning.{asks-is, still-idle, breaks-is, ends-once, known-apart, repeats-is, rests-ends, start-at, stops-now, stops-once, turns-of, whole-is}
use Rattle.ft_orb.proofs.OwningNow.{ends-now, asks-now}
use Rattle.ft_orb.proofs.Pieces.{fed-none, fed-closed, fed-ok, fed-err}
use Rattle.ft_orb.proofs.Stopping.{reach-left}
use Rattle.ft_orb.proofs.Below.{below-left, below-start}
use Rattle.ft_orb.proofs.Dues.{cut-answered, due-before, due-closed, due-cut, due-first, due-whole, enough-all, enough-is, stopped-few}
use Rattle.ft_orb.specs.Bounds.{IsBelow}
use Rattle.ft_orb.specs.Pauses.{StopsBelow}
use Rattle.ft_orb.specs.Requests.{asked_at}
use Rattle.ft_orb.specs.Tellings.{nothing_yet, told_at}
use Rattle.ft_orb.specs.Decided.{AreCountsOf, octets_to}
use Rattle.ft_orb.specs.Pause as pause
use Rattle.ft_orb.specs.Pause.{Pause, pause_by}
use Rattle.ft_orb.specs.Seen.{seen_table}
use Rattle.ft_orb.proofs.Tallies.{counts-closed, counts-cut, counts-fed, sums-left, sums-nothing, sums-off}
use Rattle.ft_orb.specs.Private.{all_answered}
use Rattle.ft_orb.proofs.engine.Engine.feed_within.Goals as goal
use Rattle.std.specs.BTreeMap.{get}
use Rattle.std.specs.Ordering.{nat_cmp}

pub returns-in_default-clause-table : goal.returns-in_default-clause-table
returns-in_default-clause-table g c owner calls past h =
    let others : (q : ℕ) → (c.args.connection == q) ≡ false → get nat_cmp c.get_mut.follows.lender-at-none q ≡ get nat_cmp c.args.self.now.links q = λ q n. grind (arith, common_steps) in
    let held : get nat_cmp c.get_mut.follows.lender-at-none c.args.connection ≡ None = grind (arith, common_steps) in
    rests-ends g.C.Catalogue.offers (owning owner) calls past (Piece c.args.connection c.args.moment c.args.piece.now) Refused _ c.args.out.now.items c.args.out.now.items h.offer_is (still-idle c.args.self.now.asking c.args.self.now.keeper.slot _ c.requires.idle)
    (fed-none (book_by (owning owner)) (as_server c.args.self.now calls) _ past c.args.connection c.args.moment c.args.piece.now c.args.out.now.items h.stands (record { limits = refl; capacity = refl; share = refl; greatest = refl; others = others }) c.max-self.ensures refl (sym c.in_default.ensures.value) held)

pub returns-in_default-clause-once : goal.returns-in_default-clause-once
returns-in_default-clause-once g c owner calls past h =
    ends-once g.C.Catalogue.offers (owning owner) (owning-folded owner) calls past (Piece c.args.connection c.args.moment c.args.piece.now) Refused _ c.args.out.now.items c.args.out.now.items (returns-in_default-clause-table g c owner calls past h)

pub returns-then-is_closed-clause-table : goal.returns-then-is_closed-clause-table
returns-then-is_closed-clause-table g c owner calls past h =
    let others : (q : ℕ) → (c.args.connection == q) ≡ false → get nat_cmp (c.get_mut.follows.lender c.in-Some.link.now) q ≡ get nat_cmp c.args.self.now.links q = λ q n. grind (arith, common_steps) in
    let held : get nat_cmp (c.get_mut.follows.lender c.in-Some.link.now) c.args.connection ≡ Some c.in-Some.link.now = grind (arith, common_steps) in
    rests-ends g.C.Catalogue.offers (owning owner) calls past (Piece c.args.connection c.args.moment c.args.piece.now) Done _ c.args.out.now.items c.args.out.now.items h.offer_is (still-idle c.args.self.now.asking c.args.self.now.keeper.slot _ c.requires.idle)
    (fed-closed (book_by (owning owner)) (as_server c.args.self.now calls) _ past c.args.connection c.args.moment c.args.piece.now c.args.out.now.items c.in-Some.link.now c.streams_are_heard.ensures.stays c.streams_are_heard.ensures.silent h.stands (record { limits = refl; capacity = refl; share = refl; greatest = refl; others = others }) c.max-self.ensures refl (sym c.in-Some.ensures.value) held (sym c.is_closed.ensures ∙ c.if-is_closed.true))

pub returns-then-is_closed-clause-once : goal.returns-then-is_closed-clause-once
returns-then-is_closed-clause-once g c owner calls past h =
    ends-once g.C.Catalogue.offers (owning owner) (owning-folded owner) calls past (Piece c.args.connection c.args.moment c.args.piece.now) Done _ c.args.out.now.items c.args.out.now.items (returns-then-is_closed-clause-table g c owner calls past h)

pub returns-in-Ok-Whole-clause-table : goal.returns-in-Ok-Whole-clause-table
returns-in-Ok-Whole-clause-table g c owner calls past h =
    let others : (q : ℕ) → (c.args.connection == q) ≡ false → get nat_cmp (c.get_mut.follows.lender c.serve_until_ask.new.link) q ≡ get nat_cmp c.args.self.now.links q = λ q n. grind (arith, common_steps) in
    let held : get nat_cmp (c.get_mut.follows.lender c.serve_until_ask.new.link) c.args.connection ≡ Some c.serve_until_ask.new.link = grind (arith, common_steps) in
    rests-ends g.C.Catalogue.offers (owning owner) calls past (Piece c.args.connection c.args.moment c.args.piece.now) Done _ c.args.out.now.items c.serve_until_ask.new.out.items h.offer_is (still-idle c.args.self.now.asking c.args.self.now.keeper.slot _ c.requires.idle)
    (fed-ok (book_by (owning owner)) (as_server c.args.self.now calls) _ past c.args.connection c.args.moment c.args.piece.now c.max-self.result c.args.out.now.items c.serve_until_ask.new.out.items c.in-Some.link.now c.serve_until_ask.new.link h.stands (record { limits = refl; capacity = c.serve_until_ask.ensures.capacity; share = c.serve_until_ask.ensures.share; greatest = refl; others = others }) c.max-self.ensures c.serve_until_ask.ensures.clock (sym c.in-Some.ensures.value) held (sym c.is_closed.ensures ∙ c.if-is_closed.false)
    (λ s t st al. whole-is (owning owner).terms (voice_of (owning owner)) (logged c.args.self.now.keeper.log).capacity (logged c.args.self.now.keeper.log).share owner.limits (origin past c.args.connection) c.max-self.result t s c.args.out.now.items c.args.piece.now calls (pause_by c.serve_until_ask.new.keeper.slot c.in-Ok-Whole.field-0) c.serve_until_ask.new.link (logged c.serve_until_ask.new.keeper.log).entries c.serve_until_ask.new.out.items (ap (pause_by c.serve_until_ask.new.keeper.slot) c.in-Ok-Whole.field-0-is)
    (c.in-Ok-Whole.ensures.ok (owning owner).terms (voice_of (owning owner)) owner.limits (origin past c.args.connection) t s c.args.out.now.items calls (sym h.offer_is) (start-at (owning owner).terms (voice_of (owning owner)) (logged c.args.self.now.keeper.log).capacity (logged c.args.self.now.keeper.log).share owner.limits (origin past c.args.connection) c.max-self.result t s c.args.piece.now c.in-Some.link.now calls (logged c.args.self.now.keeper.log).entries c.args.out.now.items st al))))

pub returns-in-Ok-Whole-clause-once : goal.returns-in-Ok-Whole-clause-once
returns-in-Ok-Whole-clause-once g c owner calls past h =
    ends-once g.C.Catalogue.offers (owning owner) (owning-folded owner) calls past (Piece c.args.connection c.args.moment c.args.piece.now) Done _ c.args.out.now.items c.serve_until_ask.new.out.items (returns-in-Ok-Whole-clause-table g c owner calls past h)

pub returns-in-Err-clause-table : goal.returns-in-Err-clause-table
returns-in-Err-clause-table g c owner calls past h =
    let others : (q : ℕ) → (c.args.connection == q) ≡ false → get nat_cmp c.end_link-in-Err.new.links q ≡ get nat_cmp c.args.self.now.links q = λ q n. grind (arith, common_steps) in
    let held : get nat_cmp c.end_link-in-Err.new.links c.args.connection ≡ None = grind (arith, common_steps) in
    rests-ends g.C.Catalogue.offers (owning owner) calls past (Piece c.args.connection c.args.moment c.args.piece.now) (Memory c.in-Err.cut.handled c.in-Err.cut.answered) _ c.args.out.now.items c.serve_until_ask.new.out.items h.offer_is (still-idle c.args.self.now.asking c.args.self.now.keeper.slot _ c.requires.idle)
    (fed-err (book_by (owning owner)) (as_server c.args.self.now calls) _ past c.args.connection c.args.moment c.args.piece.now c.max-self.result c.args.out.now.items c.serve_until_ask.new.out.items c.in-Some.link.now c.in-Err.cut h.stands (record { limits = refl; capacity = c.serve_until_ask.ensures.capacity; share = c.serve_until_ask.ensures.share; greatest = refl; others = others }) c.max-self.ensures c.serve_until_ask.ensures.clock (sym c.in-Some.ensures.value) held (sym c.is_closed.ensures ∙ c.if-is_closed.false) c.in-Err.ensures.some
    (λ s t st al. breaks-is (owning owner).terms (voice_of (owning owner)) (logged c.args.self.now.keeper.log).capacity (logged c.args.self.now.keeper.log).share owner.limits (origin past c.args.connection) c.max-self.result t s c.args.out.now.items c.args.piece.now calls c.in-Err.cut (logged c.serve_until_ask.new.keeper.log).entries c.serve_until_ask.new.out.items
    (c.in-Err.ensures.err (owning owner).terms (voice_of (owning owner)) owner.limits (origin past c.args.connection) t s c.args.out.now.items calls (sym h.offer_is) (start-at (owning owner).terms (voice_of (owning owner)) (logged c.args.self.now.keeper.log).capacity (logged c.args.self.now.keeper.log).share owner.limits (origin past c.args.connection) c.max-self.result t s c.args.piece.now c.in-Some.link.now calls (logged c.args.self.now.keeper.log).entries c.args.out.now.items st al))))

pub returns-in-Err-clause-once : goal.returns-in-Err-clause-once
returns-in-Err-clause-once g c owner calls past h =
    ends-once g.C.Catalogue.offers (owning owner) (owning-folded owner) calls past (Piece c.args.connection c.args.moment c.args.piece.now) (Memory c.in-Err.cut.handled c.in-Err.cut.answered) _ c.args.out.now.items c.serve_until_ask.new.out.items (returns-in-Err-clause-table g c owner calls past h)

pub returns-in-Some-next_number-clause-table : goal.returns-in-Some-next_number-clause-table
returns-in-Some-next_number-clause-table g c owner calls past h =
    let others : (q : ℕ) → (c.args.connection == q) ≡ false → get nat_cmp (c.get_mut.follows.lender c.serve_until_ask.new.link) q ≡ get nat_cmp c.args.self.now.links q = λ q n. grind (arith, common_steps) in
    let held : get nat_cmp (c.get_mut.follows.lender c.serve_until_ask.new.link) c.args.connection ≡ Some c.serve_until_ask.new.link = grind (arith, common_steps) in
    let further = rw c.in-Ok-Asks.field-0-is at c.in-Ok-Asks.ensures.further in
    stops-now g.C.Catalogue.offers (owning owner) calls c.args.self.now _ past c.args.connection c.args.moment c.args.piece.now c.max-self.result c.args.out.now.items c.serve_until_ask.new.out.items c.in-Some.link.now c.serve_until_ask.new.link c.serve_until_ask.new.keeper.slot c.in-Ok-Asks.place c.in-Some-next_number.number _
    h h.offer_is refl refl (record { limits = refl; capacity = c.serve_until_ask.ensures.capacity; share = c.serve_until_ask.ensures.share; greatest = refl; others = others }) c.max-self.ensures c.serve_until_ask.ensures.clock (sym c.in-Some.ensures.value) held (sym c.is_closed.ensures ∙ c.if-is_closed.false)
    further.0 further.1
    (λ voice s t st al. asks-is (owning owner).terms voice (logged c.args.self.now.keeper.log).capacity (logged c.args.self.now.keeper.log).share owner.limits (origin past c.args.connection) c.max-self.result t s c.args.out.now.items c.args.piece.now calls (pause_by c.serve_until_ask.new.keeper.slot c.in-Ok-Asks.field-0) c.serve_until_ask.new.keeper.slot c.in-Ok-Asks.place c.serve_until_ask.new.link (logged c.serve_until_ask.new.keeper.log).entries c.serve_until_ask.new.out.items (ap (pause_by c.serve_until_ask.new.keeper.slot) c.in-Ok-Asks.field-0-is)
    (c.in-Ok-Asks.ensures.ok (owning owner).terms voice owner.limits (origin past c.args.connection) t s c.args.out.now.items calls (sym h.offer_is) (start-at (owning owner).terms voice (logged c.args.self.now.keeper.log).capacity (logged c.args.self.now.keeper.log).share owner.limits (origin past c.args.connection) c.max-self.result t s c.args.piece.now c.in-Some.link.now calls (logged c.args.self.now.keeper.log).entries c.args.out.now.items st al)))

pub returns-in-Some-next_number-clause-once : goal.returns-in-Some-next_number-clause-once
returns-in-Some-next_number-clause-once g c owner calls past h =
    stops-once g.C.Catalogue.offers (owning owner) (owning-folded owner) calls past c.args.connection c.args.moment c.args.piece.now c.in-Ok-Asks.place.taken _ c.args.out.now.items c.serve_until_ask.new.out.items (returns-in-Some-next_number-clause-table g c owner calls past h)

pub returns-in-Some-next_number-clause-place : goal.returns-in-Some-next_number-clause-place
returns-in-Some-next_number-clause-place g c =
    let further = rw c.in-Ok-Asks.field-0-is at c.in-Ok-Asks.ensures.further in
    (further.0, further.1, c.in-Some-next_number.number, call_of c.serve_until_ask.new.keeper.slot, field_with c.serve_until_ask.new.keeper.slot.retained, c.serve_until_ask.new.keeper.slot.refused, refl)

pub returns-in-Some-next_number-clause-fit : goal.returns-in-Some-next_number-clause-fit
returns-in-Some-next_number-clause-fit g c = rw c.in-Ok-Asks.field-0-is at c.in-Ok-Asks.ensures.fit

pub returns-in_default-clause-now : goal.returns-in_default-clause-now
returns-in_default-clause-now g c owner calls past h =
    ends-now g.C.Catalogue.offers (owning owner) (owning-folded owner) calls past (Piece c.args.connection c.args.moment c.args.piece.now) Refused _ c.args.out.now.items c.args.out.now.items (returns-in_default-clause-table g c owner calls past h)

pub returns-then-is_closed-clause-now : goal.returns-then-is_closed-clause-now
returns-then-is_closed-clause-now g c owner calls past h =
    ends-now g.C.Catalogue.offers (owning owner) (owning-folded owner) calls past (Piece c.args.connection c.args.moment c.args.piece.now) Done _ c.args.out.now.items c.args.out.now.items (returns-then-is_closed-clause-table g c owner calls past h)

pub returns-in-Ok-Whole-clause-now : goal.returns-in-Ok-Whole-clause-now
returns-in-Ok-Whole-clause-now g c owner calls past h =
    ends-now g.C.Catalogue.offers (owning owner) (owning-folded owner) calls past (Piece c.args.connection c.args.moment c.args.piece.now) Done _ c.args.out.now.items c.serve_until_ask.new.out.items (returns-in-Ok-Whole-clause-table g c owner calls past h)

pub returns-in-Err-clause-now : goal.returns-in-Err-clause-now
returns-in-Err-clause-now g c owner calls past h =
    ends-now g.C.Catalogue.offers (owning owner) (owning-folded owner) calls past (Piece c.args.connection c.args.moment c.args.piece.now) (Memory c.in-Err.cut.handled c.in-Err.cut.answered) _ c.args.out.now.items c.serve_until_ask.new.out.items (returns-in-Err-clause-table g c owner calls past h)

pub returns-in-Some-next_number-clause-now : goal.returns-in-Some-next_number-clause-now
returns-in-Some-next_number-clause-now g c owner calls past h =
    asks-now g.C.Catalogue.offers (owning owner) (owning-folded owner) calls past c.args.connection c.args.moment c.args.piece.now c.in-Ok-Asks.place.taken _ c.args.out.now.items c.serve_until_ask.new.out.items (returns-in-Some-next_number-clause-table g c owner calls past h)

-- no number is left
pub returns-in_default-next_number-clause-table : goal.returns-in_default-next_number-clause-table
returns-in_default-next_number-clause-table g c owner calls past h =
    let others : (q : ℕ) → (c.args.connection == q) ≡ false → get nat_cmp c.end_link.new.links q ≡ get nat_cmp c.args.self.now.links q = λ q n. grind (arith, common_steps) in
    let held : get nat_cmp c.end_link.new.links c.args.connection ≡ None = grind (arith, common_steps) in
    let further = rw c.in-Ok-Asks.field-0-is at c.in-Ok-Asks.ensures.further in
    let some = further.0 in
    let within = further.1 in
    rests-ends g.C.Catalogue.offers (owning owner) calls past (Piece c.args.connection c.args.moment c.args.piece.now) (Memory c.in-Ok-Asks.place.handled c.in-Ok-Asks.place.handled) _ c.args.out.now.items c.serve_until_ask.new.out.items h.offer_is (still-idle c.args.self.now.asking c.args.self.now.keeper.slot _ c.requires.idle)
    (fed-err (book_by (owning owner)) (as_server c.args.self.now calls) _ past c.args.connection c.args.moment c.args.piece.now c.max-self.result c.args.out.now.items c.serve_until_ask.new.out.items c.in-Some.link.now (all_answered c.in-Ok-Asks.place.handled) h.stands (record { limits = refl; capacity = c.serve_until_ask.ensures.capacity; share = c.serve_until_ask.ensures.share; greatest = refl; others = others }) c.max-self.ensures c.serve_until_ask.ensures.clock (sym c.in-Some.ensures.value) held (sym c.is_closed.ensures ∙ c.if-is_closed.false)
    (omega (arith, some, within))
    (λ s t st al. reach-left (owning owner).terms (voice_of (owning owner)) (logged c.args.self.now.keeper.log).capacity (logged c.args.self.now.keeper.log).share owner.limits (origin past c.args.connection) c.max-self.result t s c.args.out.now.items c.args.piece.now c.streams_are_heard.ensures.grows c.in-Ok-Asks.place c.serve_until_ask.new.link calls (logged c.serve_until_ask.new.keeper.log).entries (logged c.serve_until_ask.new.keeper.log).entries c.serve_until_ask.new.out.items c.serve_until_ask.new.keeper.slot within
    (asks-is (owning owner).terms (voice_of (owning owner)) (logged c.args.self.now.keeper.log).capacity (logged c.args.self.now.keeper.log).share owner.limits (origin past c.args.connection) c.max-self.result t s c.args.out.now.items c.args.piece.now calls (pause_by c.serve_until_ask.new.keeper.slot c.in-Ok-Asks.field-0) c.serve_until_ask.new.keeper.slot c.in-Ok-Asks.place c.serve_until_ask.new.link (logged c.serve_until_ask.new.keeper.log).entries c.serve_until_ask.new.out.items (ap (pause_by c.serve_until_ask.new.keeper.slot) c.in-Ok-Asks.field-0-is)
    (c.in-Ok-Asks.ensures.ok (owning owner).terms (voice_of (owning owner)) owner.limits (origin past c.args.connection) t s c.args.out.now.items calls (sym h.offer_is) (start-at (owning owner).terms (voice_of (owning owner)) (logged c.args.self.now.keeper.log).capacity (logged c.args.self.now.keeper.log).share owner.limits (origin past c.args.connection) c.max-self.result t s c.args.piece.now c.in-Some.link.now calls (logged c.args.self.now.keeper.log).entries c.args.out.now.items st al)))
    refl))

pub returns-in_default-next_number-clause-once : goal.returns-in_default-next_number-clause-once
returns-in_default-next_number-clause-once g c owner calls past h =
    ends-once g.C.Catalogue.offers (owning owner) (owning-folded owner) calls past (Piece c.args.connection c.args.moment c.args.piece.now) (Memory c.in-Ok-Asks.place.handled c.in-Ok-Asks.place.handled) _ c.args.out.now.items c.serve_until_ask.new.out.items (returns-in_default-next_number-clause-table g c owner calls past h)

pub returns-in_default-next_number-clause-now : goal.returns-in_default-next_number-clause-now
returns-in_default-next_number-clause-now g c owner calls past h =
    ends-now g.C.Catalogue.offers (owning owner) (owning-folded owner) calls past (Piece c.args.connection c.args.moment c.args.piece.now) (Memory c.in-Ok-Asks.place.handled c.in-Ok-Asks.place.handled) _ c.args.out.now.items c.serve_until_ask.new.out.items (returns-in_default-next_number-clause-table g c owner calls past h)

-- While requests are parked.

pub returns-in_default-clause-late : goal.returns-in_default-clause-late
returns-in_default-clause-late g c terms view calls past waiting all =
    ends-late g.C.Catalogue.offers terms c.streams_are_heard.ensures.stays view calls c.args.self.now _ past waiting (Piece c.args.connection c.args.moment c.args.piece.now) Refused c.args.out.now.items c.args.out.now.items all (λ late h.
    let others : (q : ℕ) → (c.args.connection == q) ≡ false → get nat_cmp c.get_mut.follows.lender-at-none q ≡ get nat_cmp c.args.self.now.links q = λ q n. grind (arith, common_steps) in
    let held : get nat_cmp c.get_mut.follows.lender-at-none c.args.connection ≡ None = grind (arith, common_steps) in
    rests-ends g.C.Catalogue.offers (numbering terms late view) calls past (Piece c.args.connection c.args.moment c.args.piece.now) Refused _ c.args.out.now.items c.args.out.now.items h.offer_is (still-idle c.args.self.now.asking c.args.self.now.keeper.slot _ c.requires.idle)
    (fed-none (book_by (numbering terms late view)) (as_server c.args.self.now calls) _ past c.args.connection c.args.moment c.args.piece.now c.args.out.now.items h.stands (record { limits = refl; capacity = refl; share = refl; greatest = refl; others = others }) c.max-self.ensures refl (sym c.in_default.ensures.value) held))
    refl refl (omega arith)

pub returns-then-is_closed-clause-late : goal.returns-then-is_closed-clause-late
returns-then-is_closed-clause-late g c terms view calls past waiting all =
    ends-late g.C.Catalogue.offers terms c.streams_are_heard.ensures.stays view calls c.args.self.now _ past waiting (Piece c.args.connection c.args.moment c.args.piece.now) Done c.args.out.now.items c.args.out.now.items all (λ late h.
    let others : (q : ℕ) → (c.args.connection == q) ≡ false → get nat_cmp (c.get_mut.follows.lender c.in-Some.link.now) q ≡ get nat_cmp c.args.self.now.links q = λ q n. grind (arith, common_steps) in
    let held : get nat_cmp (c.get_mut.follows.lender c.in-Some.link.now) c.args.connection ≡ Some c.in-Some.link.now = grind (arith, common_steps) in
    rests-ends g.C.Catalogue.offers (numbering terms late view) calls past (Piece c.args.connection c.args.moment c.args.piece.now) Done _ c.args.out.now.items c.args.out.now.items h.offer_is (still-idle c.args.self.now.asking c.args.self.now.keeper.slot _ c.requires.idle)
    (fed-closed (book_by (numbering terms late view)) (as_server c.args.self.now calls) _ past c.args.connection c.args.moment c.args.piece.now c.args.out.now.items c.in-Some.link.now c.streams_are_heard.ensures.stays c.streams_are_heard.ensures.silent h.stands (record { limits = refl; capacity = refl; share = refl; greatest = refl; others = others }) c.max-self.ensures refl (sym c.in-Some.ensures.value) held (sym c.is_closed.ensures ∙ c.if-is_closed.true)))
    refl refl (omega arith)

pub returns-in-Ok-Whole-clause-late : goal.returns-in-Ok-Whole-clause-late
returns-in-Ok-Whole-clause-late g c terms view calls past waiting all =
    ends-late g.C.Catalogue.offers terms c.streams_are_heard.ensures.stays view calls c.args.self.now _ past waiting (Piece c.args.connection c.args.moment c.args.piece.now) Done c.args.out.now.items c.serve_until_ask.new.out.items all (λ late h.
    let others : (q : ℕ) → (c.args.connection == q) ≡ false → get nat_cmp (c.get_mut.follows.lender c.serve_until_ask.new.link) q ≡ get nat_cmp c.args.self.now.links q = λ q n. grind (arith, common_steps) in
    let held : get nat_cmp (c.get_mut.follows.lender c.serve_until_ask.new.link) c.args.connection ≡ Some c.serve_until_ask.new.link = grind (arith, common_steps) in
    rests-ends g.C.Catalogue.offers (numbering terms late view) calls past (Piece c.args.connection c.args.moment c.args.piece.now) Done _ c.args.out.now.items c.serve_until_ask.new.out.items h.offer_is (still-idle c.args.self.now.asking c.args.self.now.keeper.slot _ c.requires.idle)
    (fed-ok (book_by (numbering terms late view)) (as_server c.args.self.now calls) _ past c.args.connection c.args.moment c.args.piece.now c.max-self.result c.args.out.now.items c.serve_until_ask.new.out.items c.in-Some.link.now c.serve_until_ask.new.link h.stands (record { limits = refl; capacity = c.serve_until_ask.ensures.capacity; share = c.serve_until_ask.ensures.share; greatest = refl; others = others }) c.max-self.ensures c.serve_until_ask.ensures.clock (sym c.in-Some.ensures.value) held (sym c.is_closed.ensures ∙ c.if-is_closed.false)
    (λ s t st al. whole-is terms.terms (voice_of (numbering terms late view)) (logged c.args.self.now.keeper.log).capacity (logged c.args.self.now.keeper.log).share terms.limits (origin past c.args.connection) c.max-self.result t s c.args.out.now.items c.args.piece.now calls (pause_by c.serve_until_ask.new.keeper.slot c.in-Ok-Whole.field-0) c.serve_until_ask.new.link (logged c.serve_until_ask.new.keeper.log).entries c.serve_until_ask.new.out.items (ap (pause_by c.serve_until_ask.new.keeper.slot) c.in-Ok-Whole.field-0-is)
    (c.in-Ok-Whole.ensures.ok terms.terms (voice_of (numbering terms late view)) terms.limits (origin past c.args.connection) t s c.args.out.now.items calls (sym h.offer_is) (start-at terms.terms (voice_of (numbering terms late view)) (logged c.args.self.now.keeper.log).capacity (logged c.args.self.now.keeper.log).share terms.limits (origin past c.args.connection) c.max-self.result t s c.args.piece.now c.in-Some.link.now calls (logged c.args.self.now.keeper.log).entries c.args.out.now.items st al)))))
    refl refl (omega arith)

pub returns-in-Err-clause-late : goal.returns-in-Err-clause-late
returns-in-Err-clause-late g c terms view calls past waiting all =
    ends-late g.C.Catalogue.offers terms c.streams_are_heard.ensures.stays view calls c.args.self.now _ past waiting (Piece c.args.connection c.args.moment c.args.piece.now) (Memory c.in-Err.cut.handled c.in-Err.cut.answered) c.args.out.now.items c.serve_until_ask.new.out.items all (λ late h.
    let others : (q : ℕ) → (c.args.connection == q) ≡ false → get nat_cmp c.end_link-in-Err.new.links q ≡ get nat_cmp c.args.self.now.links q = λ q n. grind (arith, common_steps) in
    let held : get nat_cmp c.end_link-in-Err.new.links c.args.connection ≡ None = grind (arith, common_steps) in
    rests-ends g.C.Catalogue.offers (numbering terms late view) calls past (Piece c.args.connection c.args.moment c.args.piece.now) (Memory c.in-Err.cut.handled c.in-Err.cut.answered) _ c.args.out.now.items c.serve_until_ask.new.out.items h.offer_is (still-idle c.args.self.now.asking c.args.self.now.keeper.slot _ c.requires.idle)
    (fed-err (book_by (numbering terms late view)) (as_server c.args.self.now calls) _ past c.args.connection c.args.moment c.args.piece.now c.max-self.result c.args.out.now.items c.serve_until_ask.new.out.items c.in-Some.link.now c.in-Err.cut h.stands (record { limits = refl; capacity = c.serve_until_ask.ensures.capacity; share = c.serve_until_ask.ensures.share; greatest = refl; others = others }) c.max-self.ensures c.serve_until_ask.ensures.clock (sym c.in-Some.ensures.value) held (sym c.is_closed.ensures ∙ c.if-is_closed.false) c.in-Err.ensures.some
    (λ s t st al. breaks-is terms.terms (voice_of (numbering terms late view)) (logged c.args.self.now.keeper.log).capacity (logged c.args.self.now.keeper.log).share terms.limits (origin past c.args.connection) c.max-self.result t s c.args.out.now.items c.args.piece.now calls c.in-Err.cut (logged c.serve_until_ask.new.keeper.log).entries c.serve_until_ask.new.out.items
    (c.in-Err.ensures.err terms.terms (voice_of (numbering terms late view)) terms.limits (origin past c.args.connection) t s c.args.out.now.items calls (sym h.offer_is) (start-at terms.terms (voice_of (numbering terms late view)) (logged c.args.self.now.keeper.log).capacity (logged c.args.self.now.keeper.log).share terms.limits (origin past c.args.connection) c.max-self.result t s c.args.piece.now c.in-Some.link.now calls (logged c.args.self.now.keeper.log).entries c.args.out.now.items st al)))))
    refl refl (omega arith)

pub returns-in_default-next_number-clause-late : goal.returns-in_default-next_number-clause-late
returns-in_default-next_number-clause-late g c terms view calls past waiting all =
    ends-late g.C.Catalogue.offers terms c.streams_are_heard.ensures.stays view calls c.args.self.now _ past waiting (Piece c.args.connection c.args.moment c.args.piece.now) (Memory c.in-Ok-Asks.place.handled c.in-Ok-Asks.place.handled) c.args.out.now.items c.serve_until_ask.new.out.items all (λ late h.
    let others : (q : ℕ) → (c.args.connection == q) ≡ false → get nat_cmp c.end_link.new.links q ≡ get nat_cmp c.args.self.now.links q = λ q n. grind (arith, common_steps) in
    let held : get nat_cmp c.end_link.new.links c.args.connection ≡ None = grind (arith, common_steps) in
    let further = rw c.in-Ok-Asks.field-0-is at c.in-Ok-Asks.ensures.further in
    let some = further.0 in
    let within = further.1 in
    rests-ends g.C.Catalogue.offers (numbering terms late view) calls past (Piece c.args.connection c.args.moment c.args.piece.now) (Memory c.in-Ok-Asks.place.handled c.in-Ok-Asks.place.handled) _ c.args.out.now.items c.serve_until_ask.new.out.items h.offer_is (still-idle c.args.self.now.asking c.args.self.now.keeper.slot _ c.requires.idle)
    (fed-err (book_by (numbering terms late view)) (as_server c.args.self.now calls) _ past c.args.connection c.args.moment c.args.piece.now c.max-self.result c.args.out.now.items c.serve_until_ask.new.out.items c.in-Some.link.now (all_answered c.in-Ok-Asks.place.handled) h.stands (record { limits = refl; capacity = c.serve_until_ask.ensures.capacity; share = c.serve_until_ask.ensures.share; greatest = refl; others = others }) c.max-self.ensures c.serve_until_ask.ensures.clock (sym c.in-Some.ensures.value) held (sym c.is_closed.ensures ∙ c.if-is_closed.false)
    (omega (arith, some, within))
    (λ s t st al. reach-left terms.terms (voice_of (numbering terms late view)) (logged c.args.self.now.keeper.log).capacity (logged c.args.self.now.keeper.log).share terms.limits (origin past c.args.connection) c.max-self.result t s c.args.out.now.items c.args.piece.now c.streams_are_heard.ensures.grows c.in-Ok-Asks.place c.serve_until_ask.new.link calls (logged c.serve_until_ask.new.keeper.log).entries (logged c.serve_until_ask.new.keeper.log).entries c.serve_until_ask.new.out.items c.serve_until_ask.new.keeper.slot within
    (asks-is terms.terms (voice_of (numbering terms late view)) (logged c.args.self.now.keeper.log).capacity (logged c.args.self.now.keeper.log).share terms.limits (origin past c.args.connection) c.max-self.result t s c.args.out.now.items c.args.piece.now calls (pause_by c.serve_until_ask.new.keeper.slot c.in-Ok-Asks.field-0) c.serve_until_ask.new.keeper.slot c.in-Ok-Asks.place c.serve_until_ask.new.link (logged c.serve_until_ask.new.keeper.log).entries c.serve_until_ask.new.out.items (ap (pause_by c.serve_until_ask.new.keeper.slot) c.in-Ok-Asks.field-0-is)
    (c.in-Ok-Asks.ensures.ok terms.terms (voice_of (numbering terms late view)) terms.limits (origin past c.args.connection) t s c.args.out.now.items calls (sym h.offer_is) (start-at terms.terms (voice_of (numbering terms late view)) (logged c.args.self.now.keeper.log).capacity (logged c.args.self.now.keeper.log).share terms.limits (origin past c.args.connection) c.max-self.result t s c.args.piece.now c.in-Some.link.now calls (logged c.args.self.now.keeper.log).entries c.args.out.now.items st al)))
    refl)))
    refl refl (let asks = c.in_default-next_number.ensures.0 in omega (arith, asks))

pub returns-in-Some-next_number-clause-late : goal.returns-in-Some-next_number-clause-late
returns-in-Some-next_number-clause-late g c terms view calls past waiting all =
    stops-late g.C.Catalogue.offers terms c.streams_are_heard.ensures.stays view calls c.args.self.now _ past waiting c.args.connection c.args.moment c.args.piece.now c.in-Ok-Asks.place.taken c.args.out.now.items c.serve_until_ask.new.out.items _ all (λ late h.
    let others : (q : ℕ) → (c.args.connection == q) ≡ false → get nat_cmp (c.get_mut.follows.lender c.serve_until_ask.new.link) q ≡ get nat_cmp c.args.self.now.links q = λ q n. grind (arith, common_steps) in
    let held : get nat_cmp (c.get_mut.follows.lender c.serve_until_ask.new.link) c.args.connection ≡ Some c.serve_until_ask.new.link = grind (arith, common_steps) in
    let further = rw c.in-Ok-Asks.field-0-is at c.in-Ok-Asks.ensures.further in
    stops-now g.C.Catalogue.offers (numbering terms late view) calls c.args.self.now _ past c.args.connection c.args.moment c.args.piece.now c.max-self.result c.args.out.now.items c.serve_until_ask.new.out.items c.in-Some.link.now c.serve_until_ask.new.link c.serve_until_ask.new.keeper.slot c.in-Ok-Asks.place c.in-Some-next_number.number _
    h h.offer_is refl refl (record { limits = refl; capacity = c.serve_until_ask.ensures.capacity; share = c.serve_until_ask.ensures.share; greatest = refl; others = others }) c.max-self.ensures c.serve_until_ask.ensures.clock (sym c.in-Some.ensures.value) held (sym c.is_closed.ensures ∙ c.if-is_closed.false)
    further.0 further.1
    (λ voice s t st al. asks-is terms.terms voice (logged c.args.self.now.keeper.log).capacity (logged c.args.self.now.keeper.log).share terms.limits (origin past c.args.connection) c.max-self.result t s c.args.out.now.items c.args.piece.now calls (pause_by c.serve_until_ask.new.keeper.slot c.in-Ok-Asks.field-0) c.serve_until_ask.new.keeper.slot c.in-Ok-Asks.place c.serve_until_ask.new.link (logged c.serve_until_ask.new.keeper.log).entries c.serve_until_ask.new.out.items (ap (pause_by c.serve_until_ask.new.keeper.slot) c.in-Ok-Asks.field-0-is)
    (c.in-Ok-Asks.ensures.ok terms.terms voice terms.limits (origin past c.args.connection) t s c.args.out.now.items calls (sym h.offer_is) (start-at terms.terms voice (logged c.args.self.now.keeper.log).capacity (logged c.args.self.now.keeper.log).share terms.limits (origin past c.args.connection) c.max-self.result t s c.args.piece.now c.in-Some.link.now calls (logged c.args.self.now.keeper.log).entries c.args.out.now.items st al))))
    refl c.in-Some-next_number.ensures.0 c.in-Some-next_number.ensures.1 refl refl

-- Where each outcome is known nothing repeats what is parked.

pub returns-in-Ok-clause-table : goal.returns-in-Ok-clause-table
returns-in-Ok-clause-table g c owner calls past h =
    known-apart c.in-Ok-Repeats.repeat.number _ (turns-of g.C.Catalogue.offers (owning owner) calls c.args.self.now past c.args.connection c.args.moment c.args.piece.now c.max-self.result c.args.out.now.items c.serve_until_ask.new.out.items c.in-Some.link.now c.serve_until_ask.new.link c.in-Ok-Repeats.repeat c.in-Ok-Repeats.place (logged c.serve_until_ask.new.keeper.log).entries
    h c.max-self.ensures (sym c.in-Some.ensures.value) (sym c.is_closed.ensures ∙ c.if-is_closed.false)
    (λ voice s t st al. repeats-is (owning owner).terms voice (logged c.args.self.now.keeper.log).capacity (logged c.args.self.now.keeper.log).share owner.limits (origin past c.args.connection) c.max-self.result t s c.args.out.now.items c.args.piece.now calls (pause_by c.serve_until_ask.new.keeper.slot c.in-Ok-Repeats.field-0) c.in-Ok-Repeats.repeat c.in-Ok-Repeats.place c.serve_until_ask.new.link (logged c.serve_until_ask.new.keeper.log).entries c.serve_until_ask.new.out.items (ap (pause_by c.serve_until_ask.new.keeper.slot) c.in-Ok-Repeats.field-0-is)
    (c.in-Ok-Repeats.ensures.ok (owning owner).terms voice owner.limits (origin past c.args.connection) t s c.args.out.now.items calls (sym h.offer_is) (start-at (owning owner).terms voice (logged c.args.self.now.keeper.log).capacity (logged c.args.self.now.keeper.log).share owner.limits (origin past c.args.connection) c.max-self.result t s c.args.piece.now c.in-Some.link.now calls (logged c.args.self.now.keeper.log).entries c.args.out.now.items st al)))).2.says

pub returns-in-Ok-clause-once : goal.returns-in-Ok-clause-once
returns-in-Ok-clause-once g c owner calls past h =
    known-apart c.in-Ok-Repeats.repeat.number _ (turns-of g.C.Catalogue.offers (owning owner) calls c.args.self.now past c.args.connection c.args.moment c.args.piece.now c.max-self.result c.args.out.now.items c.serve_until_ask.new.out.items c.in-Some.link.now c.serve_until_ask.new.link c.in-Ok-Repeats.repeat c.in-Ok-Repeats.place (logged c.serve_until_ask.new.keeper.log).entries
    h c.max-self.ensures (sym c.in-Some.ensures.value) (sym c.is_closed.ensures ∙ c.if-is_closed.false)
    (λ voice s t st al. repeats-is (owning owner).terms voice (logged c.args.self.now.keeper.log).capacity (logged c.args.self.now.keeper.log).share owner.limits (origin past c.args.connection) c.max-self.result t s c.args.out.now.items c.args.piece.now calls (pause_by c.serve_until_ask.new.keeper.slot c.in-Ok-Repeats.field-0) c.in-Ok-Repeats.repeat c.in-Ok-Repeats.place c.serve_until_ask.new.link (logged c.serve_until_ask.new.keeper.log).entries c.serve_until_ask.new.out.items (ap (pause_by c.serve_until_ask.new.keeper.slot) c.in-Ok-Repeats.field-0-is)
    (c.in-Ok-Repeats.ensures.ok (owning owner).terms voice owner.limits (origin past c.args.connection) t s c.args.out.now.items calls (sym h.offer_is) (start-at (owning owner).terms voice (logged c.args.self.now.keeper.log).capacity (logged c.args.self.now.keeper.log).share owner.limits (origin past c.args.connection) c.max-self.result t s c.args.piece.now c.in-Some.link.now calls (logged c.args.self.now.keeper.log).entries c.args.out.now.items st al)))).2.says

pub returns-in-Ok-clause-now : goal.returns-in-Ok-clause-now
returns-in-Ok-clause-now g c owner calls past h =
    known-apart c.in-Ok-Repeats.repeat.number _ (turns-of g.C.Catalogue.offers (owning owner) calls c.args.self.now past c.args.connection c.args.moment c.args.piece.now c.max-self.result c.args.out.now.items c.serve_until_ask.new.out.items c.in-Some.link.now c.serve_until_ask.new.link c.in-Ok-Repeats.repeat c.in-Ok-Repeats.place (logged c.serve_until_ask.new.keeper.log).entries
    h c.max-self.ensures (sym c.in-Some.ensures.value) (sym c.is_closed.ensures ∙ c.if-is_closed.false)
    (λ voice s t st al. repeats-is (owning owner).terms voice (logged c.args.self.now.keeper.log).capacity (logged c.args.self.now.keeper.log).share owner.limits (origin past c.args.connection) c.max-self.result t s c.args.out.now.items c.args.piece.now calls (pause_by c.serve_until_ask.new.keeper.slot c.in-Ok-Repeats.field-0) c.in-Ok-Repeats.repeat c.in-Ok-Repeats.place c.serve_until_ask.new.link (logged c.serve_until_ask.new.keeper.log).entries c.serve_until_ask.new.out.items (ap (pause_by c.serve_until_ask.new.keeper.slot) c.in-Ok-Repeats.field-0-is)
    (c.in-Ok-Repeats.ensures.ok (owning owner).terms voice owner.limits (origin past c.args.connection) t s c.args.out.now.items calls (sym h.offer_is) (start-at (owning owner).terms voice (logged c.args.self.now.keeper.log).capacity (logged c.args.self.now.keeper.log).share owner.limits (origin past c.args.connection) c.max-self.result t s c.args.piece.now c.in-Some.link.now calls (logged c.args.self.now.keeper.log).entries c.args.out.now.items st al)))).2.says

pub returns-in-Err-counted-clause-table : goal.returns-in-Err-counted-clause-table
returns-in-Err-counted-clause-table g c owner calls past h =
    known-apart c.in-Ok-Repeats.repeat.number _ (turns-of g.C.Catalogue.offers (owning owner) calls c.args.self.now past c.args.connection c.args.moment c.args.piece.now c.max-self.result c.args.out.now.items c.serve_until_ask.new.out.items c.in-Some.link.now c.serve_until_ask.new.link c.in-Ok-Repeats.repeat c.in-Ok-Repeats.place (logged c.serve_until_ask.new.keeper.log).entries
    h c.max-self.ensures (sym c.in-Some.ensures.value) (sym c.is_closed.ensures ∙ c.if-is_closed.false)
    (λ voice s t st al. repeats-is (owning owner).terms voice (logged c.args.self.now.keeper.log).capacity (logged c.args.self.now.keeper.log).share owner.limits (origin past c.args.connection) c.max-self.result t s c.args.out.now.items c.args.piece.now calls (pause_by c.serve_until_ask.new.keeper.slot c.in-Ok-Repeats.field-0) c.in-Ok-Repeats.repeat c.in-Ok-Repeats.place c.serve_until_ask.new.link (logged c.serve_until_ask.new.keeper.log).entries c.serve_until_ask.new.out.items (ap (pause_by c.serve_until_ask.new.keeper.slot) c.in-Ok-Repeats.field-0-is)
    (c.in-Ok-Repeats.ensures.ok (owning owner).terms voice owner.limits (origin past c.args.connection) t s c.args.out.now.items calls (sym h.offer_is) (start-at (owning owner).terms voice (logged c.args.self.now.keeper.log).capacity (logged c.args.self.now.keeper.log).share owner.limits (origin past c.args.connection) c.max-self.result t s c.args.piece.now c.in-Some.link.now calls (logged c.args.self.now.keeper.log).entries c.args.out.now.items st al)))).2.says

pub returns-in-Err-counted-clause-once : goal.returns-in-Err-counted-clause-once
returns-in-Err-counted-clause-once g c owner calls past h =
    known-apart c.in-Ok-Repeats.repeat.number _ (turns-of g.C.Catalogue.offers (owning owner) calls c.args.self.now past c.args.connection c.args.moment c.args.piece.now c.max-self.result c.args.out.now.items c.serve_until_ask.new.out.items c.in-Some.link.now c.serve_until_ask.new.link c.in-Ok-Repeats.repeat c.in-Ok-Repeats.place (logged c.serve_until_ask.new.keeper.log).entries
    h c.max-self.ensures (sym c.in-Some.ensures.value) (sym c.is_closed.ensures ∙ c.if-is_closed.false)
    (λ voice s t st al. repeats-is (owning owner).terms voice (logged c.args.self.now.keeper.log).capacity (logged c.args.self.now.keeper.log).share owner.limits (origin past c.args.connection) c.max-self.result t s c.args.out.now.items c.args.piece.now calls (pause_by c.serve_until_ask.new.keeper.slot c.in-Ok-Repeats.field-0) c.in-Ok-Repeats.repeat c.in-Ok-Repeats.place c.serve_until_ask.new.link (logged c.serve_until_ask.new.keeper.log).entries c.serve_until_ask.new.out.items (ap (pause_by c.serve_until_ask.new.keeper.slot) c.in-Ok-Repeats.field-0-is)
    (c.in-Ok-Repeats.ensures.ok (owning owner).terms voice owner.limits (origin past c.args.connection) t s c.args.out.now.items calls (sym h.offer_is) (start-at (owning owner).terms voice (logged c.args.self.now.keeper.log).capacity (logged c.args.self.now.keeper.log).share owner.limits (origin past c.args.connection) c.max-self.result t s c.args.piece.now c.in-Some.link.now calls (logged c.args.self.now.keeper.log).entries c.args.out.now.items st al)))).2.says

pub returns-in-Err-counted-clause-now : goal.returns-in-Err-counted-clause-now
returns-in-Err-counted-clause-now g c owner calls past h =
    known-apart c.in-Ok-Repeats.repeat.number _ (turns-of g.C.Catalogue.offers (owning owner) calls c.args.self.now past c.args.connection c.args.moment c.args.piece.now c.max-self.result c.args.out.now.items c.serve_until_ask.new.out.items c.in-Some.link.now c.serve_until_ask.new.link c.in-Ok-Repeats.repeat c.in-Ok-Repeats.place (logged c.serve_until_ask.new.keeper.log).entries
    h c.max-self.ensures (sym c.in-Some.ensures.value) (sym c.is_closed.ensures ∙ c.if-is_closed.false)
    (λ voice s t st al. repeats-is (owning owner).terms voice (logged c.args.self.now.keeper.log).capacity (logged c.args.self.now.keeper.log).share owner.limits (origin past c.args.connection) c.max-self.result t s c.args.out.now.items c.args.piece.now calls (pause_by c.serve_until_ask.new.keeper.slot c.in-Ok-Repeats.field-0) c.in-Ok-Repeats.repeat c.in-Ok-Repeats.place c.serve_until_ask.new.link (logged c.serve_until_ask.new.keeper.log).entries c.serve_until_ask.new.out.items (ap (pause_by c.serve_until_ask.new.keeper.slot) c.in-Ok-Repeats.field-0-is)
    (c.in-Ok-Repeats.ensures.ok (owning owner).terms voice owner.limits (origin past c.args.connection) t s c.args.out.now.items calls (sym h.offer_is) (start-at (owning owner).terms voice (logged c.args.self.now.keeper.log).capacity (logged c.args.self.now.keeper.log).share owner.limits (origin past c.args.connection) c.max-self.result t s c.args.piece.now c.in-Some.link.now calls (logged c.args.self.now.keeper.log).entries c.args.out.now.items st al)))).2.says

pub returns-in-Ok-clause-late : goal.returns-in-Ok-clause-late
returns-in-Ok-clause-late g c terms view calls past waiting all =
    let h = all.rests in
    let others : (q : ℕ) → (c.args.connection == q) ≡ false → get nat_cmp (c.get_mut.follows.lender c.serve_until_ask.new.link) q ≡ get nat_cmp c.args.self.now.links q = λ q n. grind (arith, common_steps) in
    let further = rw c.in-Ok-Repeats.field-0-is at c.in-Ok-Repeats.ensures.further in
    let held : get nat_cmp (c.get_mut.follows.lender c.serve_until_ask.new.link) c.args.connection ≡ Some c.serve_until_ask.new.link = grind (arith, common_steps) in
    repeats-late g.C.Catalogue.offers terms c.streams_are_heard.ensures.stays c.streams_are_heard.ensures.grows view calls c.args.self.now _ past c.args.connection c.args.moment c.args.piece.now c.max-self.result c.args.out.now.items c.serve_until_ask.new.out.items c.in-Some.link.now c.serve_until_ask.new.link c.in-Ok-Repeats.repeat c.in-Ok-Repeats.place waiting
    all h.offer_is (still-idle c.args.self.now.asking c.args.self.now.keeper.slot _ c.requires.idle) (record { limits = refl; capacity = c.serve_until_ask.ensures.capacity; share = c.serve_until_ask.ensures.share; greatest = refl; others = others }) c.max-self.ensures c.serve_until_ask.ensures.clock (sym c.in-Some.ensures.value) (sym c.is_closed.ensures ∙ c.if-is_closed.false) further.0 further.1
    (λ voice s t st al. repeats-is terms.terms voice (logged c.args.self.now.keeper.log).capacity (logged c.args.self.now.keeper.log).share terms.limits (origin past c.args.connection) c.max-self.result t s c.args.out.now.items c.args.piece.now calls (pause_by c.serve_until_ask.new.keeper.slot c.in-Ok-Repeats.field-0) c.in-Ok-Repeats.repeat c.in-Ok-Repeats.place c.serve_until_ask.new.link (logged c.serve_until_ask.new.keeper.log).entries c.serve_until_ask.new.out.items (ap (pause_by c.serve_until_ask.new.keeper.slot) c.in-Ok-Repeats.field-0-is)
    (c.in-Ok-Repeats.ensures.ok terms.terms voice terms.limits (origin past c.args.connection) t s c.args.out.now.items calls (sym h.offer_is) (start-at terms.terms voice (logged c.args.self.now.keeper.log).capacity (logged c.args.self.now.keeper.log).share terms.limits (origin past c.args.connection) c.max-self.result t s c.args.piece.now c.in-Some.link.now calls (logged c.args.self.now.keeper.log).entries c.args.out.now.items st al)))
    refl refl _ c.answer_repeat-step.result c.answer_repeat-step.new.out.items c.answer_repeat-step.ensures.joins c.answer_repeat-step.ensures.others refl held c.in-Ok.field-0 (sym c.counted.ensures ∙ c.in-Ok.is)

pub returns-in-Err-counted-clause-late : goal.returns-in-Err-counted-clause-late
returns-in-Err-counted-clause-late g c terms view calls past waiting all =
    let h = all.rests in
    let others : (q : ℕ) → (c.args.connection == q) ≡ false → get nat_cmp c.end_link-in-Err-counted.new.links q ≡ get nat_cmp c.args.self.now.links q = λ q n. grind (arith, common_steps) in
    let further = rw c.in-Ok-Repeats.field-0-is at c.in-Ok-Repeats.ensures.further in
    let gone : get nat_cmp c.end_link-in-Err-counted.new.links c.args.connection ≡ None = grind (arith, common_steps) in
    repeats-cut g.C.Catalogue.offers terms c.streams_are_heard.ensures.stays c.streams_are_heard.ensures.grows view calls c.args.self.now _ past c.args.connection c.args.moment c.args.piece.now c.max-self.result c.args.out.now.items c.serve_until_ask.new.out.items c.in-Some.link.now c.serve_until_ask.new.link c.in-Ok-Repeats.repeat c.in-Ok-Repeats.place waiting
    all h.offer_is (still-idle c.args.self.now.asking c.args.self.now.keeper.slot _ c.requires.idle) (record { limits = refl; capacity = c.serve_until_ask.ensures.capacity; share = c.serve_until_ask.ensures.share; greatest = refl; others = others }) c.max-self.ensures c.serve_until_ask.ensures.clock (sym c.in-Some.ensures.value) (sym c.is_closed.ensures ∙ c.if-is_closed.false) further.0 further.1
    (λ voice s t st al. repeats-is terms.terms voice (logged c.args.self.now.keeper.log).capacity (logged c.args.self.now.keeper.log).share terms.limits (origin past c.args.connection) c.max-self.result t s c.args.out.now.items c.args.piece.now calls (pause_by c.serve_until_ask.new.keeper.slot c.in-Ok-Repeats.field-0) c.in-Ok-Repeats.repeat c.in-Ok-Repeats.place c.serve_until_ask.new.link (logged c.serve_until_ask.new.keeper.log).entries c.serve_until_ask.new.out.items (ap (pause_by c.serve_until_ask.new.keeper.slot) c.in-Ok-Repeats.field-0-is)
    (c.in-Ok-Repeats.ensures.ok terms.terms voice terms.limits (origin past c.args.connection) t s c.args.out.now.items calls (sym h.offer_is) (start-at terms.terms voice (logged c.args.self.now.keeper.log).capacity (logged c.args.self.now.keeper.log).share terms.limits (origin past c.args.connection) c.max-self.result t s c.args.piece.now c.in-Some.link.now calls (logged c.args.self.now.keeper.log).entries c.args.out.now.items st al)))
    refl refl _ c.answer_repeat-step.result c.answer_repeat-step.new.out.items c.answer_repeat-step.ensures.joins c.answer_repeat-step.ensures.others gone c.in-Err-counted.cut (sym c.counted.ensures ∙ c.in-Err-counted.is)
    (fewer-go (c.get_mut.follows.lender c.serve_until_ask.new.link) c.end_link-in-Err-counted.new.links c.args.connection (λ q n. grind (arith, common_steps)) gone)

pub returns-in-Ok-clause-parked : goal.returns-in-Ok-clause-parked
returns-in-Ok-clause-parked g c = joined-parked (get nat_cmp c.args.self.now.parked.requests) (get nat_cmp c.answer_repeat-step.new.parked.requests) c.in-Ok-Repeats.repeat.number c.args.self.now.places.joined c.args.connection _ c.in-Ok-Repeats.repeat c.answer_repeat-step.result c.serve_until_ask.new.out.items c.answer_repeat-step.new.out.items c.answer_repeat-step.ensures.joins c.answer_repeat-step.ensures.others

pub returns-in-Err-counted-clause-parked : goal.returns-in-Err-counted-clause-parked
returns-in-Err-counted-clause-parked g c = joined-parked (get nat_cmp c.args.self.now.parked.requests) (get nat_cmp c.answer_repeat-step.new.parked.requests) c.in-Ok-Repeats.repeat.number c.args.self.now.places.joined c.args.connection _ c.in-Ok-Repeats.repeat c.answer_repeat-step.result c.serve_until_ask.new.out.items c.answer_repeat-step.new.out.items c.answer_repeat-step.ensures.joins c.answer_repeat-step.ensures.others

-- What was counted.

pub returns-then-is_closed-clause-counted : goal.returns-then-is_closed-clause-counted
returns-then-is_closed-clause-counted g c terms view calls past waiting all =
    let h = all.rests in
    counts-closed terms view (as_server c.args.self.now calls) past c.args.connection c.args.moment c.max-self.result c.in-Some.link.now h.stands c.max-self.ensures (sym c.in-Some.ensures.value) c.streams_are_heard.ensures.silent c.args.piece.now c.args.self.now.keeper.counts (sym c.is_closed.ensures ∙ c.if-is_closed.true)

pub returns-in-Ok-Whole-clause-counted : goal.returns-in-Ok-Whole-clause-counted
returns-in-Ok-Whole-clause-counted g c terms view calls past waiting all =
    let h = all.rests in
    counts-fed terms view (as_server c.args.self.now calls) past c.args.connection c.args.moment c.max-self.result c.in-Some.link.now h.stands c.max-self.ensures (sym c.in-Some.ensures.value) c.args.piece.now c.args.self.now.keeper.counts c.serve_until_ask.new.keeper.counts (sym c.is_closed.ensures ∙ c.if-is_closed.false) (λ x ls al.
    (subst (λ (p : Pause). AreCountsOf terms.terms (kept_of (by_number terms view)) (logged c.args.self.now.keeper.log).capacity (logged c.args.self.now.keeper.log).share terms.limits (origin past c.args.connection) c.max-self.result (seen_table view (owned_table (by_number terms view) past)) x (octets_to c.args.piece.now p) c.args.self.now.keeper.counts c.serve_until_ask.new.keeper.counts) (ap (pause_by c.serve_until_ask.new.keeper.slot) c.in-Ok-Whole.field-0-is)
    (c.in-Ok-Whole.ensures.counted terms.terms (voice_of (by_number terms view)) terms.limits (origin past c.args.connection) (seen_table view (owned_table (by_number terms view) past)) x c.args.out.now.items calls c.args.self.now.keeper.counts
    (sym h.offer_is) (start-at terms.terms (voice_of (by_number terms view)) (logged c.args.self.now.keeper.log).capacity (logged c.args.self.now.keeper.log).share terms.limits (origin past c.args.connection) c.max-self.result (seen_table view (owned_table (by_number terms view) past)) x c.args.piece.now c.in-Some.link.now calls (logged c.args.self.now.keeper.log).entries c.args.out.now.items ls al)
    (sums-nothing terms.terms (voice_of (by_number terms view)) (logged c.args.self.now.keeper.log).capacity (logged c.args.self.now.keeper.log).share terms.limits (origin past c.args.connection) c.max-self.result (seen_table view (owned_table (by_number terms view) past)) x c.args.self.now.keeper.counts))))

pub returns-in-Some-next_number-clause-counted : goal.returns-in-Some-next_number-clause-counted
returns-in-Some-next_number-clause-counted g c terms view calls past waiting all =
    let h = all.rests in
    counts-fed terms view (as_server c.args.self.now calls) past c.args.connection c.args.moment c.max-self.result c.in-Some.link.now h.stands c.max-self.ensures (sym c.in-Some.ensures.value) (take c.in-Ok-Asks.place.taken c.args.piece.now) c.args.self.now.keeper.counts c.serve_until_ask.new.keeper.counts (sym c.is_closed.ensures ∙ c.if-is_closed.false) (λ x ls al.
    (subst (λ (p : Pause). AreCountsOf terms.terms (kept_of (by_number terms view)) (logged c.args.self.now.keeper.log).capacity (logged c.args.self.now.keeper.log).share terms.limits (origin past c.args.connection) c.max-self.result (seen_table view (owned_table (by_number terms view) past)) x (octets_to c.args.piece.now p) c.args.self.now.keeper.counts c.serve_until_ask.new.keeper.counts) (ap (pause_by c.serve_until_ask.new.keeper.slot) c.in-Ok-Asks.field-0-is)
    (c.in-Ok-Asks.ensures.counted terms.terms (voice_of (by_number terms view)) terms.limits (origin past c.args.connection) (seen_table view (owned_table (by_number terms view) past)) x c.args.out.now.items calls c.args.self.now.keeper.counts
    (sym h.offer_is) (start-at terms.terms (voice_of (by_number terms view)) (logged c.args.self.now.keeper.log).capacity (logged c.args.self.now.keeper.log).share terms.limits (origin past c.args.connection) c.max-self.result (seen_table view (owned_table (by_number terms view) past)) x c.args.piece.now c.in-Some.link.now calls (logged c.args.self.now.keeper.log).entries c.args.out.now.items ls al)
    (sums-nothing terms.terms (voice_of (by_number terms view)) (logged c.args.self.now.keeper.log).capacity (logged c.args.self.now.keeper.log).share terms.limits (origin past c.args.connection) c.max-self.result (seen_table view (owned_table (by_number terms view) past)) x c.args.self.now.keeper.counts))))

pub returns-in-Ok-clause-counted : goal.returns-in-Ok-clause-counted
returns-in-Ok-clause-counted g c terms view calls past waiting all =
    let h = all.rests in
    counts-fed terms view (as_server c.args.self.now calls) past c.args.connection c.args.moment c.max-self.result c.in-Some.link.now h.stands c.max-self.ensures (sym c.in-Some.ensures.value) (take c.in-Ok-Repeats.place.taken c.args.piece.now) c.args.self.now.keeper.counts c.serve_until_ask.new.keeper.counts (sym c.is_closed.ensures ∙ c.if-is_closed.false) (λ x ls al.
    (subst (λ (p : Pause). AreCountsOf terms.terms (kept_of (by_number terms view)) (logged c.args.self.now.keeper.log).capacity (logged c.args.self.now.keeper.log).share terms.limits (origin past c.args.connection) c.max-self.result (seen_table view (owned_table (by_number terms view) past)) x (octets_to c.args.piece.now p) c.args.self.now.keeper.counts c.serve_until_ask.new.keeper.counts) (ap (pause_by c.serve_until_ask.new.keeper.slot) c.in-Ok-Repeats.field-0-is)
    (c.in-Ok-Repeats.ensures.counted terms.terms (voice_of (by_number terms view)) terms.limits (origin past c.args.connection) (seen_table view (owned_table (by_number terms view) past)) x c.args.out.now.items calls c.args.self.now.keeper.counts
    (sym h.offer_is) (start-at terms.terms (voice_of (by_number terms view)) (logged c.args.self.now.keeper.log).capacity (logged c.args.self.now.keeper.log).share terms.limits (origin past c.args.connection) c.max-self.result (seen_table view (owned_table (by_number terms view) past)) x c.args.piece.now c.in-Some.link.now calls (logged c.args.self.now.keeper.log).entries c.args.out.now.items ls al)
    (sums-nothing terms.terms (voice_of (by_number terms view)) (logged c.args.self.now.keeper.log).capacity (logged c.args.self.now.keeper.log).share terms.limits (origin past c.args.connection) c.max-self.result (seen_table view (owned_table (by_number terms view) past)) x c.args.self.now.keeper.counts))))

pub returns-in_default-next_number-clause-counted : goal.returns-in_default-next_number-clause-counted
returns-in_default-next_number-clause-counted g c terms view calls past waiting all =
    let h = all.rests in
    let further = rw c.in-Ok-Asks.field-0-is at c.in-Ok-Asks.ensures.further in
    counts-cut terms view (as_server c.args.self.now calls) past c.args.connection c.args.moment c.max-self.result c.in-Some.link.now h.stands c.max-self.ensures (sym c.in-Some.ensures.value) c.args.piece.now (all_answered c.in-Ok-Asks.place.handled) c.args.self.now.keeper.counts c.serve_until_ask.new.keeper.counts (sym c.is_closed.ensures ∙ c.if-is_closed.false) (λ x ls al.
    let r = asks-is terms.terms (voice_of (by_number terms view)) (logged c.args.self.now.keeper.log).capacity (logged c.args.self.now.keeper.log).share terms.limits (origin past c.args.connection) c.max-self.result (seen_table view (owned_table (by_number terms view) past)) x c.args.out.now.items c.args.piece.now calls (pause_by c.serve_until_ask.new.keeper.slot c.in-Ok-Asks.field-0) c.serve_until_ask.new.keeper.slot c.in-Ok-Asks.place c.serve_until_ask.new.link (logged c.serve_until_ask.new.keeper.log).entries c.serve_until_ask.new.out.items (ap (pause_by c.serve_until_ask.new.keeper.slot) c.in-Ok-Asks.field-0-is)
    (c.in-Ok-Asks.ensures.ok terms.terms (voice_of (by_number terms view)) terms.limits (origin past c.args.connection) (seen_table view (owned_table (by_number terms view) past)) x c.args.out.now.items calls
    (sym h.offer_is) (start-at terms.terms (voice_of (by_number terms view)) (logged c.args.self.now.keeper.log).capacity (logged c.args.self.now.keeper.log).share terms.limits (origin past c.args.connection) c.max-self.result (seen_table view (owned_table (by_number terms view) past)) x c.args.piece.now c.in-Some.link.now calls (logged c.args.self.now.keeper.log).entries c.args.out.now.items ls al)) in
    sums-left terms.terms (voice_of (by_number terms view)) (logged c.args.self.now.keeper.log).capacity (logged c.args.self.now.keeper.log).share terms.limits (origin past c.args.connection) c.max-self.result (seen_table view (owned_table (by_number terms view) past)) x c.streams_are_heard.ensures.grows c.args.piece.now c.in-Ok-Asks.place.taken c.in-Ok-Asks.place.handled r.2.before r.2.a c.args.self.now.keeper.counts c.serve_until_ask.new.keeper.counts further.1 r.2.arrivals r.2.count
    (subst (λ (p : Pause). AreCountsOf terms.terms (kept_of (by_number terms view)) (logged c.args.self.now.keeper.log).capacity (logged c.args.self.now.keeper.log).share terms.limits (origin past c.args.connection) c.max-self.result (seen_table view (owned_table (by_number terms view) past)) x (octets_to c.args.piece.now p) c.args.self.now.keeper.counts c.serve_until_ask.new.keeper.counts) (ap (pause_by c.serve_until_ask.new.keeper.slot) c.in-Ok-Asks.field-0-is)
    (c.in-Ok-Asks.ensures.counted terms.terms (voice_of (by_number terms view)) terms.limits (origin past c.args.connection) (seen_table view (owned_table (by_number terms view) past)) x c.args.out.now.items calls c.args.self.now.keeper.counts
    (sym h.offer_is) (start-at terms.terms (voice_of (by_number terms view)) (logged c.args.self.now.keeper.log).capacity (logged c.args.self.now.keeper.log).share terms.limits (origin past c.args.connection) c.max-self.result (seen_table view (owned_table (by_number terms view) past)) x c.args.piece.now c.in-Some.link.now calls (logged c.args.self.now.keeper.log).entries c.args.out.now.items ls al)
    (sums-nothing terms.terms (voice_of (by_number terms view)) (logged c.args.self.now.keeper.log).capacity (logged c.args.self.now.keeper.log).share terms.limits (origin past c.args.connection) c.max-self.result (seen_table view (owned_table (by_number terms view) past)) x c.args.self.now.keeper.counts))))

pub returns-in-Err-counted-clause-counted : goal.returns-in-Err-counted-clause-counted
returns-in-Err-counted-clause-counted g c terms view calls past waiting all =
    let h = all.rests in
    let further = rw c.in-Ok-Repeats.field-0-is at c.in-Ok-Repeats.ensures.further in
    counts-cut terms view (as_server c.args.self.now calls) past c.args.connection c.args.moment c.max-self.result c.in-Some.link.now h.stands c.max-self.ensures (sym c.in-Some.ensures.value) c.args.piece.now c.in-Err-counted.cut c.args.self.now.keeper.counts c.serve_until_ask.new.keeper.counts (sym c.is_closed.ensures ∙ c.if-is_closed.false) (λ x ls al.
    let r = repeats-is terms.terms (voice_of (by_number terms view)) (logged c.args.self.now.keeper.log).capacity (logged c.args.self.now.keeper.log).share terms.limits (origin past c.args.connection) c.max-self.result (seen_table view (owned_table (by_number terms view) past)) x c.args.out.now.items c.args.piece.now calls (pause_by c.serve_until_ask.new.keeper.slot c.in-Ok-Repeats.field-0) c.in-Ok-Repeats.repeat c.in-Ok-Repeats.place c.serve_until_ask.new.link (logged c.serve_until_ask.new.keeper.log).entries c.serve_until_ask.new.out.items (ap (pause_by c.serve_until_ask.new.keeper.slot) c.in-Ok-Repeats.field-0-is)
    (c.in-Ok-Repeats.ensures.ok terms.terms (voice_of (by_number terms view)) terms.limits (origin past c.args.connection) (seen_table view (owned_table (by_number terms view) past)) x c.args.out.now.items calls
    (sym h.offer_is) (start-at terms.terms (voice_of (by_number terms view)) (logged c.args.self.now.keeper.log).capacity (logged c.args.self.now.keeper.log).share terms.limits (origin past c.args.connection) c.max-self.result (seen_table view (owned_table (by_number terms view) past)) x c.args.piece.now c.in-Some.link.now calls (logged c.args.self.now.keeper.log).entries c.args.out.now.items ls al)) in
    sums-off terms.terms (voice_of (by_number terms view)) (logged c.args.self.now.keeper.log).capacity (logged c.args.self.now.keeper.log).share terms.limits (origin past c.args.connection) c.max-self.result (seen_table view (owned_table (by_number terms view) past)) x c.streams_are_heard.ensures.grows c.args.piece.now c.in-Ok-Repeats.place.taken c.in-Ok-Repeats.place.handled c.in-Err-counted.cut c.answer_repeat-step.result r.2.before r.2.a c.args.self.now.keeper.counts c.serve_until_ask.new.keeper.counts further.1 r.2.arrivals r.2.count
    (subst (λ (p : Pause). AreCountsOf terms.terms (kept_of (by_number terms view)) (logged c.args.self.now.keeper.log).capacity (logged c.args.self.now.keeper.log).share terms.limits (origin past c.args.connection) c.max-self.result (seen_table view (owned_table (by_number terms view) past)) x (octets_to c.args.piece.now p) c.args.self.now.keeper.counts c.serve_until_ask.new.keeper.counts) (ap (pause_by c.serve_until_ask.new.keeper.slot) c.in-Ok-Repeats.field-0-is)
    (c.in-Ok-Repeats.ensures.counted terms.terms (voice_of (by_number terms view)) terms.limits (origin past c.args.connection) (seen_table view (owned_table (by_number terms view) past)) x c.args.out.now.items calls c.args.self.now.keeper.counts
    (sym h.offer_is) (start-at terms.terms (voice_of (by_number terms view)) (logged c.args.self.now.keeper.log).capacity (logged c.args.self.now.keeper.log).share terms.limits (origin past c.args.connection) c.max-self.result (seen_table view (owned_table (by_number terms view) past)) x c.args.piece.now c.in-Some.link.now calls (logged c.args.self.now.keeper.log).entries c.args.out.now.items ls al)
    (sums-nothing terms.terms (voice_of (by_number terms view)) (logged c.args.self.now.keeper.log).capacity (logged c.args.self.now.keeper.log).share terms.limits (origin past c.args.connection) c.max-self.result (seen_table view (owned_table (by_number terms view) past)) x c.args.self.now.keeper.counts)))
    (sym c.counted.ensures ∙ c.in-Err-counted.is))

pub returns-in-Err-clause-counted : goal.returns-in-Err-clause-counted
returns-in-Err-clause-counted g c terms view calls past waiting all =
    let h = all.rests in
    counts-cut terms view (as_server c.args.self.now calls) past c.args.connection c.args.moment c.max-self.result c.in-Some.link.now h.stands c.max-self.ensures (sym c.in-Some.ensures.value) c.args.piece.now c.in-Err.cut c.args.self.now.keeper.counts c.serve_until_ask.new.keeper.counts (sym c.is_closed.ensures ∙ c.if-is_closed.false) (λ x ls al.
    (c.in-Err.ensures.dropped terms.terms (voice_of (by_number terms view)) terms.limits (origin past c.args.connection) (seen_table view (owned_table (by_number terms view) past)) x c.args.out.now.items calls c.args.self.now.keeper.counts
    (sym h.offer_is) (start-at terms.terms (voice_of (by_number terms view)) (logged c.args.self.now.keeper.log).capacity (logged c.args.self.now.keeper.log).share terms.limits (origin past c.args.connection) c.max-self.result (seen_table view (owned_table (by_number terms view) past)) x c.args.piece.now c.in-Some.link.now calls (logged c.args.self.now.keeper.log).entries c.args.out.now.items ls al)
    (sums-nothing terms.terms (voice_of (by_number terms view)) (logged c.args.self.now.keeper.log).capacity (logged c.args.self.now.keeper.log).share terms.limits (origin past c.args.connection) c.max-self.result (seen_table view (owned_table (by_number terms view) past)) x c.args.self.now.keeper.counts)))

-- who waits on other connections

pub returns-in_default-clause-waiting : goal.returns-in_default-clause-waiting
returns-in_default-clause-waiting g c q =
    let others : (q : ℕ) → (c.args.connection == q) ≡ false → get nat_cmp c.get_mut.follows.lender-at-none q ≡ get nat_cmp c.args.self.now.links q = λ q n. grind (arith, common_steps) in
    links-others c.args.connection c.args.self.now.links c.get_mut.follows.lender-at-none others (get nat_cmp c.args.self.now.parked.requests q)

pub returns-then-is_closed-clause-waiting : goal.returns-then-is_closed-clause-waiting
returns-then-is_closed-clause-waiting g c q =
    let others : (q : ℕ) → (c.args.connection == q) ≡ false → get nat_cmp (c.get_mut.follows.lender c.in-Some.link.now) q ≡ get nat_cmp c.args.self.now.links q = λ q n. grind (arith, common_steps) in
    links-others c.args.connection c.args.self.now.links (c.get_mut.follows.lender c.in-Some.link.now) others (get nat_cmp c.args.self.now.parked.requests q)

pub returns-in-Ok-Whole-clause-waiting : goal.returns-in-Ok-Whole-clause-waiting
returns-in-Ok-Whole-clause-waiting g c q =
    let others : (q : ℕ) → (c.args.connection == q) ≡ false → get nat_cmp (c.get_mut.follows.lender c.serve_until_ask.new.link) q ≡ get nat_cmp c.args.self.now.links q = λ q n. grind (arith, common_steps) in
    links-others c.args.connection c.args.self.now.links (c.get_mut.follows.lender c.serve_until_ask.new.link) others (get nat_cmp c.args.self.now.parked.requests q)

pub returns-in-Some-next_number-clause-waiting : goal.returns-in-Some-next_number-clause-waiting
returns-in-Some-next_number-clause-waiting g c q =
    let others : (q : ℕ) → (c.args.connection == q) ≡ false → get nat_cmp (c.get_mut.follows.lender c.serve_until_ask.new.link) q ≡ get nat_cmp c.args.self.now.links q = λ q n. grind (arith, common_steps) in
    links-others c.args.connection c.args.self.now.links (c.get_mut.follows.lender c.serve_until_ask.new.link) others (get nat_cmp c.args.self.now.parked.requests q)

pub returns-in_default-next_number-clause-waiting : goal.returns-in_default-next_number-clause-waiting
returns-in_default-next_number-clause-waiting g c q =
    let others : (q : ℕ) → (c.args.connection == q) ≡ false → get nat_cmp c.end_link.new.links q ≡ get nat_cmp c.args.self.now.links q = λ q n. grind (arith, common_steps) in
    links-others c.args.connection c.args.self.now.links c.end_link.new.links others (get nat_cmp c.args.self.now.parked.requests q)

pub returns-in-Err-clause-waiting : goal.returns-in-Err-clause-waiting
returns-in-Err-clause-waiting g c q =
    let others : (q : ℕ) → (c.args.connection == q) ≡ false → get nat_cmp c.end_link-in-Err.new.links q ≡ get nat_cmp c.args.self.now.links q = λ q n. grind (arith, common_steps) in
    links-others c.args.connection c.args.self.now.links c.end_link-in-Err.new.links others (get nat_cmp c.args.self.now.parked.requests q)

pub returns-in-Ok-clause-waiting : goal.returns-in-Ok-clause-waiting
returns-in-Ok-clause-waiting g c q =
    let others : (q : ℕ) → (c.args.connection == q) ≡ false → get nat_cmp (c.get_mut.follows.lender c.serve_until_ask.new.link) q ≡ get nat_cmp c.args.self.now.links q = λ q n. grind (arith, common_steps) in
    joined-others c.args.connection c.args.self.now.places.joined (going_in (c.get_mut.follows.lender c.serve_until_ask.new.link)) c.in-Ok-Repeats.repeat (get nat_cmp c.args.self.now.parked.requests) (get nat_cmp c.answer_repeat-step.new.parked.requests) c.answer_repeat-step.result c.serve_until_ask.new.out.items c.answer_repeat-step.new.out.items c.answer_repeat-step.ensures.joins c.answer_repeat-step.ensures.others q
    ∙ links-others c.args.connection c.args.self.now.links (c.get_mut.follows.lender c.serve_until_ask.new.link) others (get nat_cmp c.args.self.now.parked.requests q)

pub returns-in-Err-counted-clause-waiting : goal.returns-in-Err-counted-clause-waiting
returns-in-Err-counted-clause-waiting g c q =
    let others : (q : ℕ) → (c.args.connection == q) ≡ false → get nat_cmp (c.get_mut.follows.lender c.serve_until_ask.new.link) q ≡ get nat_cmp c.args.self.now.links q = λ q n. grind (arith, common_steps) in
    let gone : (q : ℕ) → (c.args.connection == q) ≡ false → get nat_cmp c.end_link-in-Err-counted.new.links q ≡ get nat_cmp c.args.self.now.links q = λ q n. grind (arith, common_steps) in
    links-others c.args.connection (c.get_mut.follows.lender c.serve_until_ask.new.link) c.end_link-in-Err-counted.new.links (λ q n. gone q n ∙ sym (others q n)) (get nat_cmp c.answer_repeat-step.new.parked.requests q)
    ∙ joined-others c.args.connection c.args.self.now.places.joined (going_in (c.get_mut.follows.lender c.serve_until_ask.new.link)) c.in-Ok-Repeats.repeat (get nat_cmp c.args.self.now.parked.requests) (get nat_cmp c.answer_repeat-step.new.parked.requests) c.answer_repeat-step.result c.serve_until_ask.new.out.items c.answer_repeat-step.new.out.items c.answer_repeat-step.ensures.joins c.answer_repeat-step.ensures.others q
    ∙ links-others c.args.connection c.args.self.now.links (c.get_mut.follows.lender c.serve_until_ask.new.link) others (get nat_cmp c.args.self.now.parked.requests q)

-- Why connections ended.

pub returns-then-is_closed-clause-heard : goal.returns-then-is_closed-clause-heard
returns-then-is_closed-clause-heard g c terms view calls past waiting all =
    let last = c.args.self.now.keeper.ended in
    heard-closed last last terms.limits c.args.connection c.args.piece.now fed.Whole (line past c.args.connection) c.in-Some.link.now _ (sym c.in-Some.ensures.value) (all.rests.stands.lines c.args.connection) (sym c.is_closed.ensures ∙ c.if-is_closed.true) refl

pub returns-in-Ok-Whole-clause-heard : goal.returns-in-Ok-Whole-clause-heard
returns-in-Ok-Whole-clause-heard g c terms view calls past waiting all =
    heard-fed c.args.self.now.keeper.ended c.serve_until_ask.new.keeper.ended terms.limits c.args.connection c.args.piece.now fed.Whole (line past c.args.connection) c.in-Some.link.now _ (sym c.in-Some.ensures.value) (all.rests.stands.lines c.args.connection) (sym c.is_closed.ensures ∙ c.if-is_closed.false)
    (pause_by c.serve_until_ask.new.keeper.slot c.in-Ok-Whole.field-0) pause.Whole (ap (pause_by c.serve_until_ask.new.keeper.slot) c.in-Ok-Whole.field-0-is) refl (c.in-Ok-Whole.ensures.heard terms.limits)

pub returns-in-Some-next_number-clause-heard : goal.returns-in-Some-next_number-clause-heard
returns-in-Some-next_number-clause-heard g c terms view calls past waiting all =
    heard-fed c.args.self.now.keeper.ended c.serve_until_ask.new.keeper.ended terms.limits c.args.connection c.args.piece.now (fed.Asks c.in-Ok-Asks.place.taken) (line past c.args.connection) c.in-Some.link.now _ (sym c.in-Some.ensures.value) (all.rests.stands.lines c.args.connection) (sym c.is_closed.ensures ∙ c.if-is_closed.false)
    (pause_by c.serve_until_ask.new.keeper.slot c.in-Ok-Asks.field-0) (pause.Asks c.serve_until_ask.new.keeper.slot c.in-Ok-Asks.place) (ap (pause_by c.serve_until_ask.new.keeper.slot) c.in-Ok-Asks.field-0-is) refl (c.in-Ok-Asks.ensures.heard terms.limits)

pub returns-in-Ok-clause-heard : goal.returns-in-Ok-clause-heard
returns-in-Ok-clause-heard g c terms view calls past waiting all =
    heard-fed c.args.self.now.keeper.ended c.serve_until_ask.new.keeper.ended terms.limits c.args.connection c.args.piece.now (fed.Repeats c.in-Ok-Repeats.place.taken) (line past c.args.connection) c.in-Some.link.now _ (sym c.in-Some.ensures.value) (all.rests.stands.lines c.args.connection) (sym c.is_closed.ensures ∙ c.if-is_closed.false)
    (pause_by c.serve_until_ask.new.keeper.slot c.in-Ok-Repeats.field-0) (pause.Repeats c.in-Ok-Repeats.repeat c.in-Ok-Repeats.place) (ap (pause_by c.serve_until_ask.new.keeper.slot) c.in-Ok-Repeats.field-0-is) refl (c.in-Ok-Repeats.ensures.heard terms.limits)

-- Enough is due: what was taken is a piece that was served.

pub returns-in-Ok-Due-clause-table : goal.returns-in-Ok-Due-clause-table
returns-in-Ok-Due-clause-table g c owner calls past h =
    let others : (q : ℕ) → (c.args.connection == q) ≡ false → get nat_cmp (c.get_mut.follows.lender c.serve_until_ask.new.link) q ≡ get nat_cmp c.args.self.now.links q = λ q n. grind (arith, common_steps) in
    let held : get nat_cmp (c.get_mut.follows.lender c.serve_until_ask.new.link) c.args.connection ≡ Some c.serve_until_ask.new.link = grind (arith, common_steps) in
    rests-ends g.C.Catalogue.offers (owning owner) calls past (Piece c.args.connection c.args.moment (take c.in-Ok-Due.place.taken c.args.piece.now)) Done _ c.args.out.now.items c.serve_until_ask.new.out.items h.offer_is (still-idle c.args.self.now.asking c.args.self.now.keeper.slot _ c.requires.idle)
    (fed-ok (book_by (owning owner)) (as_server c.args.self.now calls) _ past c.args.connection c.args.moment (take c.in-Ok-Due.place.taken c.args.piece.now) c.max-self.result c.args.out.now.items c.serve_until_ask.new.out.items c.in-Some.link.now c.serve_until_ask.new.link h.stands (record { limits = refl; capacity = c.serve_until_ask.ensures.capacity; share = c.serve_until_ask.ensures.share; greatest = refl; others = others }) c.max-self.ensures c.serve_until_ask.ensures.clock (sym c.in-Some.ensures.value) held (sym c.is_closed.ensures ∙ c.if-is_closed.false)
    (λ s t st al. enough-is (owning owner).terms (voice_of (owning owner)) (logged c.args.self.now.keeper.log).capacity (logged c.args.self.now.keeper.log).share owner.limits (origin past c.args.connection) c.max-self.result t s c.args.out.now.items c.args.piece.now calls (pause_by c.serve_until_ask.new.keeper.slot c.in-Ok-Due.field-0) c.in-Ok-Due.place c.serve_until_ask.new.link (logged c.serve_until_ask.new.keeper.log).entries c.serve_until_ask.new.out.items (ap (pause_by c.serve_until_ask.new.keeper.slot) c.in-Ok-Due.field-0-is)
    (c.in-Ok-Due.ensures.ok (owning owner).terms (voice_of (owning owner)) owner.limits (origin past c.args.connection) t s c.args.out.now.items calls (sym h.offer_is) (start-at (owning owner).terms (voice_of (owning owner)) (logged c.args.self.now.keeper.log).capacity (logged c.args.self.now.keeper.log).share owner.limits (origin past c.args.connection) c.max-self.result t s c.args.piece.now c.in-Some.link.now calls (logged c.args.self.now.keeper.log).entries c.args.out.now.items st al))))

pub returns-in-Ok-Due-clause-once : goal.returns-in-Ok-Due-clause-once
returns-in-Ok-Due-clause-once g c owner calls past h =
    ends-once g.C.Catalogue.offers (owning owner) (owning-folded owner) calls past (Piece c.args.connection c.args.moment (take c.in-Ok-Due.place.taken c.args.piece.now)) Done _ c.args.out.now.items c.serve_until_ask.new.out.items (returns-in-Ok-Due-clause-table g c owner calls past h)

pub returns-in-Ok-Due-clause-now : goal.returns-in-Ok-Due-clause-now
returns-in-Ok-Due-clause-now g c owner calls past h =
    ends-now g.C.Catalogue.offers (owning owner) (owning-folded owner) calls past (Piece c.args.connection c.args.moment (take c.in-Ok-Due.place.taken c.args.piece.now)) Done _ c.args.out.now.items c.serve_until_ask.new.out.items (returns-in-Ok-Due-clause-table g c owner calls past h)

pub returns-in-Ok-Due-clause-late : goal.returns-in-Ok-Due-clause-late
returns-in-Ok-Due-clause-late g c terms view calls past waiting all =
    ends-late g.C.Catalogue.offers terms c.streams_are_heard.ensures.stays view calls c.args.self.now _ past waiting (Piece c.args.connection c.args.moment (take c.in-Ok-Due.place.taken c.args.piece.now)) Done c.args.out.now.items c.serve_until_ask.new.out.items all (λ late h.
    let others : (q : ℕ) → (c.args.connection == q) ≡ false → get nat_cmp (c.get_mut.follows.lender c.serve_until_ask.new.link) q ≡ get nat_cmp c.args.self.now.links q = λ q n. grind (arith, common_steps) in
    let held : get nat_cmp (c.get_mut.follows.lender c.serve_until_ask.new.link) c.args.connection ≡ Some c.serve_until_ask.new.link = grind (arith, common_steps) in
    rests-ends g.C.Catalogue.offers (numbering terms late view) calls past (Piece c.args.connection c.args.moment (take c.in-Ok-Due.place.taken c.args.piece.now)) Done _ c.args.out.now.items c.serve_until_ask.new.out.items h.offer_is (still-idle c.args.self.now.asking c.args.self.now.keeper.slot _ c.requires.idle)
    (fed-ok (book_by (numbering terms late view)) (as_server c.args.self.now calls) _ past c.args.connection c.args.moment (take c.in-Ok-Due.place.taken c.args.piece.now) c.max-self.result c.args.out.now.items c.serve_until_ask.new.out.items c.in-Some.link.now c.serve_until_ask.new.link h.stands (record { limits = refl; capacity = c.serve_until_ask.ensures.capacity; share = c.serve_until_ask.ensures.share; greatest = refl; others = others }) c.max-self.ensures c.serve_until_ask.ensures.clock (sym c.in-Some.ensures.value) held (sym c.is_closed.ensures ∙ c.if-is_closed.false)
    (λ s t st al. enough-is terms.terms (voice_of (numbering terms late view)) (logged c.args.self.now.keeper.log).capacity (logged c.args.self.now.keeper.log).share terms.limits (origin past c.args.connection) c.max-self.result t s c.args.out.now.items c.args.piece.now calls (pause_by c.serve_until_ask.new.keeper.slot c.in-Ok-Due.field-0) c.in-Ok-Due.place c.serve_until_ask.new.link (logged c.serve_until_ask.new.keeper.log).entries c.serve_until_ask.new.out.items (ap (pause_by c.serve_until_ask.new.keeper.slot) c.in-Ok-Due.field-0-is)
    (c.in-Ok-Due.ensures.ok terms.terms (voice_of (numbering terms late view)) terms.limits (origin past c.args.connection) t s c.args.out.now.items calls (sym h.offer_is) (start-at terms.terms (voice_of (numbering terms late view)) (logged c.args.self.now.keeper.log).capacity (logged c.args.self.now.keeper.log).share terms.limits (origin past c.args.connection) c.max-self.result t s c.args.piece.now c.in-Some.link.now calls (logged c.args.self.now.keeper.log).entries c.args.out.now.items st al)))))
    refl refl (omega arith)

pub returns-in-Ok-Due-clause-counted : goal.returns-in-Ok-Due-clause-counted
returns-in-Ok-Due-clause-counted g c terms view calls past waiting all =
    let h = all.rests in
    counts-fed terms view (as_server c.args.self.now calls) past c.args.connection c.args.moment c.max-self.result c.in-Some.link.now h.stands c.max-self.ensures (sym c.in-Some.ensures.value) (take c.in-Ok-Due.place.taken c.args.piece.now) c.args.self.now.keeper.counts c.serve_until_ask.new.keeper.counts (sym c.is_closed.ensures ∙ c.if-is_closed.false) (λ x ls al.
    (subst (λ (p : Pause). AreCountsOf terms.terms (kept_of (by_number terms view)) (logged c.args.self.now.keeper.log).capacity (logged c.args.self.now.keeper.log).share terms.limits (origin past c.args.connection) c.max-self.result (seen_table view (owned_table (by_number terms view) past)) x (octets_to c.args.piece.now p) c.args.self.now.keeper.counts c.serve_until_ask.new.keeper.counts) (ap (pause_by c.serve_until_ask.new.keeper.slot) c.in-Ok-Due.field-0-is)
    (c.in-Ok-Due.ensures.counted terms.terms (voice_of (by_number terms view)) terms.limits (origin past c.args.connection) (seen_table view (owned_table (by_number terms view) past)) x c.args.out.now.items calls c.args.self.now.keeper.counts
    (sym h.offer_is) (start-at terms.terms (voice_of (by_number terms view)) (logged c.args.self.now.keeper.log).capacity (logged c.args.self.now.keeper.log).share terms.limits (origin past c.args.connection) c.max-self.result (seen_table view (owned_table (by_number terms view) past)) x c.args.piece.now c.in-Some.link.now calls (logged c.args.self.now.keeper.log).entries c.args.out.now.items ls al)
    (sums-nothing terms.terms (voice_of (by_number terms view)) (logged c.args.self.now.keeper.log).capacity (logged c.args.self.now.keeper.log).share terms.limits (origin past c.args.connection) c.max-self.result (seen_table view (owned_table (by_number terms view) past)) x c.args.self.now.keeper.counts))))

pub returns-in-Ok-Due-clause-waiting : goal.returns-in-Ok-Due-clause-waiting
returns-in-Ok-Due-clause-waiting g c q =
    let others : (q : ℕ) → (c.args.connection == q) ≡ false → get nat_cmp (c.get_mut.follows.lender c.serve_until_ask.new.link) q ≡ get nat_cmp c.args.self.now.links q = λ q n. grind (arith, common_steps) in
    links-others c.args.connection c.args.self.now.links (c.get_mut.follows.lender c.serve_until_ask.new.link) others (get nat_cmp c.args.self.now.parked.requests q)

pub returns-in-Ok-Due-clause-heard : goal.returns-in-Ok-Due-clause-heard
returns-in-Ok-Due-clause-heard g c terms view calls past waiting all =
    heard-fed c.args.self.now.keeper.ended c.serve_until_ask.new.keeper.ended terms.limits c.args.connection c.args.piece.now (fed.Asks c.in-Ok-Due.place.taken) (line past c.args.connection) c.in-Some.link.now _ (sym c.in-Some.ensures.value) (all.rests.stands.lines c.args.connection) (sym c.is_closed.ensures ∙ c.if-is_closed.false)
    (pause_by c.serve_until_ask.new.keeper.slot c.in-Ok-Due.field-0) (pause.Due c.in-Ok-Due.place) (ap (pause_by c.serve_until_ask.new.keeper.slot) c.in-Ok-Due.field-0-is) refl (c.in-Ok-Due.ensures.heard terms.limits)

-- With whose answers fewer than so many are due.

pub returns-then-is_closed-clause-below : goal.returns-then-is_closed-clause-below
returns-then-is_closed-clause-below g c terms view calls past waiting all =
    let h = all.rests in
    due-closed terms view (as_server c.args.self.now calls) past c.args.connection c.args.moment c.max-self.result c.in-Some.link.now h.stands c.max-self.ensures (sym c.in-Some.ensures.value) c.args.most (length c.args.out.now.items) c.streams_are_heard.ensures.silent c.args.piece.now (sym c.is_closed.ensures ∙ c.if-is_closed.true)

pub returns-in-Ok-Whole-clause-below : goal.returns-in-Ok-Whole-clause-below
returns-in-Ok-Whole-clause-below g c terms view calls past waiting all =
    let h = all.rests in
    due-whole terms view (as_server c.args.self.now calls) past c.args.connection c.args.moment c.max-self.result c.in-Some.link.now h.stands c.max-self.ensures (sym c.in-Some.ensures.value) c.args.most (length c.args.out.now.items) c.args.piece.now (sym c.is_closed.ensures ∙ c.if-is_closed.false) (λ x ls al. (subst (λ (p : Pause). StopsBelow terms.terms (voice_of (by_number terms view)) (logged c.args.self.now.keeper.log).capacity (logged c.args.self.now.keeper.log).share terms.limits (origin past c.args.connection) c.max-self.result (seen_table view (owned_table (by_number terms view) past)) x c.args.out.now.items c.args.piece.now c.args.most p) (ap (pause_by c.serve_until_ask.new.keeper.slot) c.in-Ok-Whole.field-0-is)
    (c.in-Ok-Whole.ensures.below terms.terms (voice_of (by_number terms view)) terms.limits (origin past c.args.connection) (seen_table view (owned_table (by_number terms view) past)) x c.args.out.now.items calls (sym h.offer_is) (start-at terms.terms (voice_of (by_number terms view)) (logged c.args.self.now.keeper.log).capacity (logged c.args.self.now.keeper.log).share terms.limits (origin past c.args.connection) c.max-self.result (seen_table view (owned_table (by_number terms view) past)) x c.args.piece.now c.in-Some.link.now calls (logged c.args.self.now.keeper.log).entries c.args.out.now.items ls al) (below-start (owner_rules (asked_at terms.terms) (kept_of (by_number terms view)) (logged c.args.self.now.keeper.log).capacity (logged c.args.self.now.keeper.log).share) (told_at nothing_yet terms.terms) terms.limits (origin past c.args.connection) c.max-self.result (seen_table view (owned_table (by_number terms view) past)) x c.args.out.now.items c.args.most (arrivals_in terms.limits (origin past c.args.connection) c.max-self.result x [])))))

pub returns-in-Ok-Due-clause-below : goal.returns-in-Ok-Due-clause-below
returns-in-Ok-Due-clause-below g c terms view calls past waiting all =
    let h = all.rests in
    due-first terms view (as_server c.args.self.now calls) past c.args.connection c.args.moment c.max-self.result c.in-Some.link.now h.stands c.max-self.ensures (sym c.in-Some.ensures.value) c.args.most (length c.args.out.now.items) c.args.piece.now c.in-Ok-Due.place.taken c.in-Ok-Due.place.handled (sym c.is_closed.ensures ∙ c.if-is_closed.false) (λ x ls al.
    let r = enough-all terms.terms (voice_of (by_number terms view)) (logged c.args.self.now.keeper.log).capacity (logged c.args.self.now.keeper.log).share terms.limits (origin past c.args.connection) c.max-self.result (seen_table view (owned_table (by_number terms view) past)) x c.args.out.now.items c.args.piece.now calls (pause_by c.serve_until_ask.new.keeper.slot c.in-Ok-Due.field-0) c.in-Ok-Due.place c.serve_until_ask.new.link (logged c.serve_until_ask.new.keeper.log).entries c.serve_until_ask.new.out.items (ap (pause_by c.serve_until_ask.new.keeper.slot) c.in-Ok-Due.field-0-is)
    (c.in-Ok-Due.ensures.ok terms.terms (voice_of (by_number terms view)) terms.limits (origin past c.args.connection) (seen_table view (owned_table (by_number terms view) past)) x c.args.out.now.items calls (sym h.offer_is) (start-at terms.terms (voice_of (by_number terms view)) (logged c.args.self.now.keeper.log).capacity (logged c.args.self.now.keeper.log).share terms.limits (origin past c.args.connection) c.max-self.result (seen_table view (owned_table (by_number terms view) past)) x c.args.piece.now c.in-Some.link.now calls (logged c.args.self.now.keeper.log).entries c.args.out.now.items ls al)) in (
      r.3,
      (subst (λ (p : Pause). StopsBelow terms.terms (voice_of (by_number terms view)) (logged c.args.self.now.keeper.log).capacity (logged c.args.self.now.keeper.log).share terms.limits (origin past c.args.connection) c.max-self.result (seen_table view (owned_table (by_number terms view) past)) x c.args.out.now.items c.args.piece.now c.args.most p) (ap (pause_by c.serve_until_ask.new.keeper.slot) c.in-Ok-Due.field-0-is)
          (c.in-Ok-Due.ensures.below terms.terms (voice_of (by_number terms view)) terms.limits (origin past c.args.connection) (seen_table view (owned_table (by_number terms view) past)) x c.args.out.now.items calls (sym h.offer_is) (start-at terms.terms (voice_of (by_number terms view)) (logged c.args.self.now.keeper.log).capacity (logged c.args.self.now.keeper.log).share terms.limits (origin past c.args.connection) c.max-self.result (seen_table view (owned_table (by_number terms view) past)) x c.args.piece.now c.in-Some.link.now calls (logged c.args.self.now.keeper.log).entries c.args.out.now.items ls al) (below-start (owner_rules (asked_at terms.terms) (kept_of (by_number terms view)) (logged c.args.self.now.keeper.log).capacity (logged c.args.self.now.keeper.log).share) (told_at nothing_yet terms.terms) terms.limits (origin past c.args.connection) c.max-self.result (seen_table view (owned_table (by_number terms view) past)) x c.args.out.now.items c.args.most (arrivals_in terms.limits (origin past c.args.connection) c.max-self.result x [])))),
    ))

pub returns-in-Some-next_number-clause-below : goal.returns-in-Some-next_number-clause-below
returns-in-Some-next_number-clause-below g c terms view calls past waiting all =
    let h = all.rests in
    due-before terms view (as_server c.args.self.now calls) past c.args.connection c.args.moment c.max-self.result c.in-Some.link.now h.stands c.max-self.ensures (sym c.in-Some.ensures.value) c.args.most (length c.args.out.now.items) (take c.in-Ok-Asks.place.taken c.args.piece.now) (sym c.is_closed.ensures ∙ c.if-is_closed.false) (λ x ls al k some few.
    let r = asks-is terms.terms (voice_of (by_number terms view)) (logged c.args.self.now.keeper.log).capacity (logged c.args.self.now.keeper.log).share terms.limits (origin past c.args.connection) c.max-self.result (seen_table view (owned_table (by_number terms view) past)) x c.args.out.now.items c.args.piece.now calls (pause_by c.serve_until_ask.new.keeper.slot c.in-Ok-Asks.field-0) c.serve_until_ask.new.keeper.slot c.in-Ok-Asks.place c.serve_until_ask.new.link (logged c.serve_until_ask.new.keeper.log).entries c.serve_until_ask.new.out.items (ap (pause_by c.serve_until_ask.new.keeper.slot) c.in-Ok-Asks.field-0-is)
    (c.in-Ok-Asks.ensures.ok terms.terms (voice_of (by_number terms view)) terms.limits (origin past c.args.connection) (seen_table view (owned_table (by_number terms view) past)) x c.args.out.now.items calls (sym h.offer_is) (start-at terms.terms (voice_of (by_number terms view)) (logged c.args.self.now.keeper.log).capacity (logged c.args.self.now.keeper.log).share terms.limits (origin past c.args.connection) c.max-self.result (seen_table view (owned_table (by_number terms view) past)) x c.args.piece.now c.in-Some.link.now calls (logged c.args.self.now.keeper.log).entries c.args.out.now.items ls al)) in
    let all_few = stopped-few _ r.2.before r.2.a c.in-Ok-Asks.place.handled r.2.arrivals r.2.count in
    (subst (λ (p : Pause). StopsBelow terms.terms (voice_of (by_number terms view)) (logged c.args.self.now.keeper.log).capacity (logged c.args.self.now.keeper.log).share terms.limits (origin past c.args.connection) c.max-self.result (seen_table view (owned_table (by_number terms view) past)) x c.args.out.now.items c.args.piece.now c.args.most p) (ap (pause_by c.serve_until_ask.new.keeper.slot) c.in-Ok-Asks.field-0-is)
    (c.in-Ok-Asks.ensures.below terms.terms (voice_of (by_number terms view)) terms.limits (origin past c.args.connection) (seen_table view (owned_table (by_number terms view) past)) x c.args.out.now.items calls (sym h.offer_is) (start-at terms.terms (voice_of (by_number terms view)) (logged c.args.self.now.keeper.log).capacity (logged c.args.self.now.keeper.log).share terms.limits (origin past c.args.connection) c.max-self.result (seen_table view (owned_table (by_number terms view) past)) x c.args.piece.now c.in-Some.link.now calls (logged c.args.self.now.keeper.log).entries c.args.out.now.items ls al) (below-start (owner_rules (asked_at terms.terms) (kept_of (by_number terms view)) (logged c.args.self.now.keeper.log).capacity (logged c.args.self.now.keeper.log).share) (told_at nothing_yet terms.terms) terms.limits (origin past c.args.connection) c.max-self.result (seen_table view (owned_table (by_number terms view) past)) x c.args.out.now.items c.args.most (arrivals_in terms.limits (origin past c.args.connection) c.max-self.result x [])))) k some (omega (arith, few, all_few)))

pub returns-in-Ok-clause-below : goal.returns-in-Ok-clause-below
returns-in-Ok-clause-below g c terms view calls past waiting all =
    let h = all.rests in
    due-before terms view (as_server c.args.self.now calls) past c.args.connection c.args.moment c.max-self.result c.in-Some.link.now h.stands c.max-self.ensures (sym c.in-Some.ensures.value) c.args.most (length c.args.out.now.items) (take c.in-Ok-Repeats.place.taken c.args.piece.now) (sym c.is_closed.ensures ∙ c.if-is_closed.false) (λ x ls al k some few.
    let r = repeats-is terms.terms (voice_of (by_number terms view)) (logged c.args.self.now.keeper.log).capacity (logged c.args.self.now.keeper.log).share terms.limits (origin past c.args.connection) c.max-self.result (seen_table view (owned_table (by_number terms view) past)) x c.args.out.now.items c.args.piece.now calls (pause_by c.serve_until_ask.new.keeper.slot c.in-Ok-Repeats.field-0) c.in-Ok-Repeats.repeat c.in-Ok-Repeats.place c.serve_until_ask.new.link (logged c.serve_until_ask.new.keeper.log).entries c.serve_until_ask.new.out.items (ap (pause_by c.serve_until_ask.new.keeper.slot) c.in-Ok-Repeats.field-0-is)
    (c.in-Ok-Repeats.ensures.ok terms.terms (voice_of (by_number terms view)) terms.limits (origin past c.args.connection) (seen_table view (owned_table (by_number terms view) past)) x c.args.out.now.items calls (sym h.offer_is) (start-at terms.terms (voice_of (by_number terms view)) (logged c.args.self.now.keeper.log).capacity (logged c.args.self.now.keeper.log).share terms.limits (origin past c.args.connection) c.max-self.result (seen_table view (owned_table (by_number terms view) past)) x c.args.piece.now c.in-Some.link.now calls (logged c.args.self.now.keeper.log).entries c.args.out.now.items ls al)) in
    let all_few = stopped-few _ r.2.before r.2.a c.in-Ok-Repeats.place.handled r.2.arrivals r.2.count in
    (subst (λ (p : Pause). StopsBelow terms.terms (voice_of (by_number terms view)) (logged c.args.self.now.keeper.log).capacity (logged c.args.self.now.keeper.log).share terms.limits (origin past c.args.connection) c.max-self.result (seen_table view (owned_table (by_number terms view) past)) x c.args.out.now.items c.args.piece.now c.args.most p) (ap (pause_by c.serve_until_ask.new.keeper.slot) c.in-Ok-Repeats.field-0-is)
    (c.in-Ok-Repeats.ensures.below terms.terms (voice_of (by_number terms view)) terms.limits (origin past c.args.connection) (seen_table view (owned_table (by_number terms view) past)) x c.args.out.now.items calls (sym h.offer_is) (start-at terms.terms (voice_of (by_number terms view)) (logged c.args.self.now.keeper.log).capacity (logged c.args.self.now.keeper.log).share terms.limits (origin past c.args.connection) c.max-self.result (seen_table view (owned_table (by_number terms view) past)) x c.args.piece.now c.in-Some.link.now calls (logged c.args.self.now.keeper.log).entries c.args.out.now.items ls al) (below-start (owner_rules (asked_at terms.terms) (kept_of (by_number terms view)) (logged c.args.self.now.keeper.log).capacity (logged c.args.self.now.keeper.log).share) (told_at nothing_yet terms.terms) terms.limits (origin past c.args.connection) c.max-self.result (seen_table view (owned_table (by_number terms view) past)) x c.args.out.now.items c.args.most (arrivals_in terms.limits (origin past c.args.connection) c.max-self.result x [])))) k some (omega (arith, few, all_few)))

pub returns-in_default-next_number-clause-below : goal.returns-in_default-next_number-clause-below
returns-in_default-next_number-clause-below g c terms view calls past waiting all =
    let h = all.rests in
    due-cut terms view (as_server c.args.self.now calls) past c.args.connection c.args.moment c.max-self.result c.in-Some.link.now h.stands c.max-self.ensures (sym c.in-Some.ensures.value) c.args.most (length c.args.out.now.items) c.args.piece.now (c.in-Ok-Asks.place.handled + 1) (sym c.is_closed.ensures ∙ c.if-is_closed.false) (λ x ls al.
    let r = asks-is terms.terms (voice_of (by_number terms view)) (logged c.args.self.now.keeper.log).capacity (logged c.args.self.now.keeper.log).share terms.limits (origin past c.args.connection) c.max-self.result (seen_table view (owned_table (by_number terms view) past)) x c.args.out.now.items c.args.piece.now calls (pause_by c.serve_until_ask.new.keeper.slot c.in-Ok-Asks.field-0) c.serve_until_ask.new.keeper.slot c.in-Ok-Asks.place c.serve_until_ask.new.link (logged c.serve_until_ask.new.keeper.log).entries c.serve_until_ask.new.out.items (ap (pause_by c.serve_until_ask.new.keeper.slot) c.in-Ok-Asks.field-0-is)
    (c.in-Ok-Asks.ensures.ok terms.terms (voice_of (by_number terms view)) terms.limits (origin past c.args.connection) (seen_table view (owned_table (by_number terms view) past)) x c.args.out.now.items calls (sym h.offer_is) (start-at terms.terms (voice_of (by_number terms view)) (logged c.args.self.now.keeper.log).capacity (logged c.args.self.now.keeper.log).share terms.limits (origin past c.args.connection) c.max-self.result (seen_table view (owned_table (by_number terms view) past)) x c.args.piece.now c.in-Some.link.now calls (logged c.args.self.now.keeper.log).entries c.args.out.now.items ls al)) in
    let all_few = stopped-few _ r.2.before r.2.a c.in-Ok-Asks.place.handled r.2.arrivals r.2.count in
    below-left (owner_rules (asked_at terms.terms) (kept_of (by_number terms view)) (logged c.args.self.now.keeper.log).capacity (logged c.args.self.now.keeper.log).share) (told_at nothing_yet terms.terms) terms.limits (origin past c.args.connection) c.max-self.result (seen_table view (owned_table (by_number terms view) past)) x c.args.out.now.items c.args.most c.streams_are_heard.ensures.grows c.args.piece.now c.in-Ok-Asks.place.taken c.in-Ok-Asks.place.handled (omega (arith, all_few)) (subst (λ (p : Pause). StopsBelow terms.terms (voice_of (by_number terms view)) (logged c.args.self.now.keeper.log).capacity (logged c.args.self.now.keeper.log).share terms.limits (origin past c.args.connection) c.max-self.result (seen_table view (owned_table (by_number terms view) past)) x c.args.out.now.items c.args.piece.now c.args.most p) (ap (pause_by c.serve_until_ask.new.keeper.slot) c.in-Ok-Asks.field-0-is)
    (c.in-Ok-Asks.ensures.below terms.terms (voice_of (by_number terms view)) terms.limits (origin past c.args.connection) (seen_table view (owned_table (by_number terms view) past)) x c.args.out.now.items calls (sym h.offer_is) (start-at terms.terms (voice_of (by_number terms view)) (logged c.args.self.now.keeper.log).capacity (logged c.args.self.now.keeper.log).share terms.limits (origin past c.args.connection) c.max-self.result (seen_table view (owned_table (by_number terms view) past)) x c.args.piece.now c.in-Some.link.now calls (logged c.args.self.now.keeper.log).entries c.args.out.now.items ls al) (below-start (owner_rules (asked_at terms.terms) (kept_of (by_number terms view)) (logged c.args.self.now.keeper.log).capacity (logged c.args.self.now.keeper.log).share) (told_at nothing_yet terms.terms) terms.limits (origin past c.args.connection) c.max-self.result (seen_table view (owned_table (by_number terms view) past)) x c.args.out.now.items c.args.most (arrivals_in terms.limits (origin past c.args.connection) c.max-self.result x [])))))

pub returns-in-Err-counted-clause-below : goal.returns-in-Err-counted-clause-below
returns-in-Err-counted-clause-below g c terms view calls past waiting all =
    let h = all.rests in
    subst (λ (n : ℕ). IsBelow terms view past c.args.most (length c.args.out.now.items) (Piece c.args.connection c.args.moment c.args.piece.now) (n + 1)) (sym (cut-answered c.in-Ok-Repeats.place.handled c.answer_repeat-step.result c.in-Err-counted.cut (sym c.counted.ensures ∙ c.in-Err-counted.is)))
    (due-cut terms view (as_server c.args.self.now calls) past c.args.connection c.args.moment c.max-self.result c.in-Some.link.now h.stands c.max-self.ensures (sym c.in-Some.ensures.value) c.args.most (length c.args.out.now.items) c.args.piece.now (c.in-Ok-Repeats.place.handled + 1) (sym c.is_closed.ensures ∙ c.if-is_closed.false) (λ x ls al.
    let r = repeats-is terms.terms (voice_of (by_number terms view)) (logged c.args.self.now.keeper.log).capacity (logged c.args.self.now.keeper.log).share terms.limits (origin past c.args.connection) c.max-self.result (seen_table view (owned_table (by_number terms view) past)) x c.args.out.now.items c.args.piece.now calls (pause_by c.serve_until_ask.new.keeper.slot c.in-Ok-Repeats.field-0) c.in-Ok-Repeats.repeat c.in-Ok-Repeats.place c.serve_until_ask.new.link (logged c.serve_until_ask.new.keeper.log).entries c.serve_until_ask.new.out.items (ap (pause_by c.serve_until_ask.new.keeper.slot) c.in-Ok-Repeats.field-0-is)
    (c.in-Ok-Repeats.ensures.ok terms.terms (voice_of (by_number terms view)) terms.limits (origin past c.args.connection) (seen_table view (owned_table (by_number terms view) past)) x c.args.out.now.items calls (sym h.offer_is) (start-at terms.terms (voice_of (by_number terms view)) (logged c.args.self.now.keeper.log).capacity (logged c.args.self.now.keeper.log).share terms.limits (origin past c.args.connection) c.max-self.result (seen_table view (owned_table (by_number terms view) past)) x c.args.piece.now c.in-Some.link.now calls (logged c.args.self.now.keeper.log).entries c.args.out.now.items ls al)) in
    let all_few = stopped-few _ r.2.before r.2.a c.in-Ok-Repeats.place.handled r.2.arrivals r.2.count in
    below-left (owner_rules (asked_at terms.terms) (kept_of (by_number terms view)) (logged c.args.self.now.keeper.log).capacity (logged c.args.self.now.keeper.log).share) (told_at nothing_yet terms.terms) terms.limits (origin past c.args.connection) c.max-self.result (seen_table view (owned_table (by_number terms view) past)) x c.args.out.now.items c.args.most c.streams_are_heard.ensures.grows c.args.piece.now c.in-Ok-Repeats.place.taken c.in-Ok-Repeats.place.handled (omega (arith, all_few)) (subst (λ (p : Pause). StopsBelow terms.terms (voice_of (by_number terms view)) (logged c.args.self.now.keeper.log).capacity (logged c.args.self.now.keeper.log).share terms.limits (origin past c.args.connection) c.max-self.result (seen_table view (owned_table (by_number terms view) past)) x c.args.out.now.items c.args.piece.now c.args.most p) (ap (pause_by c.serve_until_ask.new.keeper.slot) c.in-Ok-Repeats.field-0-is)
    (c.in-Ok-Repeats.ensures.below terms.terms (voice_of (by_number terms view)) terms.limits (origin past c.args.connection) (seen_table view (owned_table (by_number terms view) past)) x c.args.out.now.items calls (sym h.offer_is) (start-at terms.terms (voice_of (by_number terms view)) (logged c.args.self.now.keeper.log).capacity (logged c.args.self.now.keeper.log).share terms.limits (origin past c.args.connection) c.max-self.result (seen_table view (owned_table (by_number terms view) past)) x c.args.piece.now c.in-Some.link.now calls (logged c.args.self.now.keeper.log).entries c.args.out.now.items ls al) (below-start (owner_rules (asked_at terms.terms) (kept_of (by_number terms view)) (logged c.args.self.now.keeper.log).capacity (logged c.args.self.now.keeper.log).share) (told_at nothing_yet terms.terms) terms.limits (origin past c.args.connection) c.max-self.result (seen_table view (owned_table (by_number terms view) past)) x c.args.out.now.items c.args.most (arrivals_in terms.limits (origin past c.args.connection) c.max-self.result x []))))))

pub returns-in-Err-clause-below : goal.returns-in-Err-clause-below
returns-in-Err-clause-below g c terms view calls past waiting all =
    let h = all.rests in
    due-cut terms view (as_server c.args.self.now calls) past c.args.connection c.args.moment c.max-self.result c.in-Some.link.now h.stands c.max-self.ensures (sym c.in-Some.ensures.value) c.args.most (length c.args.out.now.items) c.args.piece.now (c.in-Err.cut.answered + 1) (sym c.is_closed.ensures ∙ c.if-is_closed.false) (λ x ls al. c.in-Err.ensures.below_cut terms.terms (voice_of (by_number terms view)) terms.limits (origin past c.args.connection) (seen_table view (owned_table (by_number terms view) past)) x c.args.out.now.items calls (sym h.offer_is) (start-at terms.terms (voice_of (by_number terms view)) (logged c.args.self.now.keeper.log).capacity (logged c.args.self.now.keeper.log).share terms.limits (origin past c.args.connection) c.max-self.result (seen_table view (owned_table (by_number terms view) past)) x c.args.piece.now c.in-Some.link.now calls (logged c.args.self.now.keeper.log).entries c.args.out.now.items ls al) (below-start (owner_rules (asked_at terms.terms) (kept_of (by_number terms view)) (logged c.args.self.now.keeper.log).capacity (logged c.args.self.now.keeper.log).share) (told_at nothing_yet terms.terms) terms.limits (origin past c.args.connection) c.max-self.result (seen_table view (owned_table (by_number terms view) past)) x c.args.out.now.items c.args.most (arrivals_in terms.limits (origin past c.args.connection) c.max-self.result x [])))
