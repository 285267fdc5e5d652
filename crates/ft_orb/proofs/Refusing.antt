-- What is declined: as if it were answered, but that nothing is kept for it.
use Rattle.std.proofs.Common.{◌≡◌, ◌==◌, ℕ, ◌+◌, ◌<◌, max, Bool, true, false, not, cond, nat_le, nat_lt, List, [], ◌∷◌, ◌++◌, filter, length, map, Option, Some, None, Result, Ok, Err, refl, sym, ap, subst, ◌∙◌, arith}
use Rattle.std.specs.BTreeMap.{get}
use Rattle.std.specs.Ordering.{nat_cmp}
use Rattle.std.proofs.lemmas.Bool.{eqb-true, eq-eqb}
use Rattle.std.proofs.lemmas.List.{append-nil, map-append, take_all}
use Rattle.std.proofs.lemmas.List.Elements.{filter-append}
use Rattle.giop_link.specs.Hearing.{meaning_in}
use Rattle.giop_link.specs.Laws.{EndingsStay, HearingGrows}
use Rattle.ft_log.specs.Holding.{Holding, known}
use Rattle.ft_log.specs.Kept.{KeptOutcome, kept_for, keys_of, unexpired}
use Rattle.ft_log.specs.Keys.{RequestKey}
use Rattle.ft_log.specs.Logged as log
use Rattle.ft_log.specs.Logged.{logged}
use Rattle.ft_log.specs.Performed.{Performed}
use Rattle.ft_log.specs.View.{entry_in, performed_in}
use Rattle.ft_log.specs.declared.held.Held.TheVariants.{Known}
use Rattle.ft_log.specs.declared.outcome.Outcome.{Outcome}
use Rattle.ft_log.specs.declared.system_exception.SystemName.{SystemName}
use Rattle.ft_log.specs.declared.system_exception.SystemName.TheVariants.{BadContext}
use Rattle.ft_objects.specs.Catalogues.{Offer}
use Rattle.ft_objects.specs.Interfaces.{Interface}
use Rattle.ft_orb.specs.Offerings.{terms_by}
use Rattle.ft_orb.specs.declared.desk.Step.{Step}
use Rattle.ft_orb.specs.declared.desk.Step.TheVariants.{Answered, Quiet, Unanswered, Unhandled}
use Rattle.ft_orb.specs.declared.engine.Engine.{Engine}
use Rattle.ft_orb.specs.declared.events.Note.TheVariants.{Done, Memory}
use Rattle.ft_orb.specs.declared.keeper.Retained.{Retained}
use Rattle.ft_orb.specs.declared.parked.Waiter.{Waiter}
use Rattle.ft_orb.specs.declared.pausing.Pending.{Pending}
use Rattle.ft_orb.specs.Engines.{Awaited, KeepsOf, StandsOf, as_server, asks_in, awaited_of, pending_in, waits_in}
use Rattle.ft_orb.specs.ExactlyOnce.{Absent, Arrival, Bad, Field, Present, Rules}
use Rattle.ft_orb.specs.History.{Event, Piece, Withdrew, clock, origin}
use Rattle.ft_orb.specs.Outputs.{WritesBy}
use Rattle.ft_orb.specs.Owners.{OwnerOf, answered_so_far, kept_of, owned_says, owned_table, owner_rules, voice_of}
use Rattle.ft_orb.specs.Parking.{AsksLate, DeclinesLate, Parks, ResumesLate, Settings, by_number, key_kept, numbering, put_at, still}
use Rattle.ft_orb.specs.Pauses.{Paused}
use Rattle.ft_orb.specs.Private.{IsPut}
use Rattle.ft_orb.specs.Requests.{Call, Wanted, asked_at}
use Rattle.ft_orb.specs.Seen.{seen_entry, seen_table}
use Rattle.ft_orb.specs.Standing.{Shown, StandsBy, capacity_of, share_of}
use Rattle.ft_orb.specs.Table.{Table, forgotten, keyed_step, performing_step, step_by_field, table_after, table_step}
use Rattle.ft_orb.specs.Tellings.{nothing_yet, reply_by, told_at}
use Rattle.ft_orb.specs.Waits.{call_of, kept_with}
use Rattle.ft_orb.proofs.Books.{book_by, seen-unexpired}
use Rattle.ft_orb.proofs.Folded.{table_after-append}
use Rattle.ft_orb.proofs.Late.{Numbered, Tally, below-past, parks-more, put-here}
use Rattle.ft_orb.proofs.Law.{unexpired_twice}
use Rattle.ft_orb.proofs.Meanwhile.{answers-as}
use Rattle.ft_orb.proofs.Numbers.{AreBelow, after-below, all-but}
use Rattle.ft_orb.proofs.Owning.{Brings, brings-kept, brings-of, kept-as}
use Rattle.ft_orb.proofs.Pieces.{fed-ok}
use Rattle.ft_orb.proofs.Stopping.{reach-goes}
use Rattle.ft_orb.proofs.Going.{stood-whole}

-- What a call has kept is let go at once.

pub none-of : (n : ℕ) (es : List (KeptOutcome ℕ)) → AreBelow n es → filter (λ e. not (e.outcome == n)) es ≡ es
none-of n [] low = refl
none-of n (e ∷ es) low =
    let apart : (e.outcome == n) ≡ false = by (e.outcome == n) refl in
    (λ i. cond (not (apart i)) (e ∷ filter (λ x. not (x.outcome == n)) es) (filter (λ x. not (x.outcome == n)) es)) ∙ ap (λ (xs : List (KeptOutcome ℕ)). e ∷ xs) (none-of n es low.1)
  where
    by : (b : Bool) → (e.outcome == n) ≡ b → b ≡ false
    by false is = refl
    by true is = let same = eqb-true e.outcome n is in let less = low.0 in absurd (omega (arith, same, less))

all-live : (clock n : ℕ) (es : List (KeptOutcome ℕ)) → AreBelow n es → AreBelow n (unexpired clock es)
all-live clock n es low = all-but (λ e. e.outcome < n) (λ e. nat_le clock e.expiration) es low

module _ (ask : Wanted → Result Call SystemName) (capacity share : ℕ) where
  abbrev Numbers : Rules (List Call) Wanted Call ℕ
  Numbers = owner_rules ask (λ calls call. length calls) capacity share

  abbrev Others : ℕ → List (KeptOutcome ℕ) → List (KeptOutcome ℕ)
  Others n es = filter (λ e. not (e.outcome == n)) es

  performing-others : (t : Table (List Call) ℕ) (key : RequestKey) (x : ℕ) (call : Call) (room : Bool) → AreBelow (length t.state) t.entries → Others (length t.state) (performing_step Numbers t key x call room).0.entries ≡ t.entries
  performing-others t key x call false low = none-of (length t.state) t.entries low
  performing-others t key x call true low =
      let own : KeptOutcome ℕ = record { key = key; expiration = x; outcome = length t.state } in
      filter-append (λ (e : KeptOutcome ℕ). not (e.outcome == length t.state)) t.entries (own ∷ [])
      ∙ (λ i. none-of (length t.state) t.entries low i ++ cond (not (eq-eqb (length t.state) (length t.state) refl i)) (own ∷ []) [])
      ∙ append-nil t.entries

  keyed-others : (t : Table (List Call) ℕ) (key : RequestKey) (x : ℕ) (asked : Result Call SystemName) (kept : Option ℕ) → AreBelow (length t.state) t.entries → Others (length t.state) (keyed_step Numbers t key x asked kept).0.entries ≡ t.entries
  keyed-others t key x asked (Some outcome) low = none-of (length t.state) t.entries low
  keyed-others t key x (Err refusal) None low = none-of (length t.state) t.entries low
  keyed-others t key x (Ok call) None low = performing-others t key x call (Numbers.has_room key (keys_of t.entries)) low

  field-others : (t : Table (List Call) ℕ) (clock : ℕ) (asked : Result Call SystemName) (f : Field) → AreBelow (length t.state) t.entries
      → unexpired clock (Others (length t.state) (step_by_field Numbers t clock asked f).0.entries) ≡ unexpired clock t.entries
  field-others t clock asked Bad low = ap (unexpired clock) (none-of (length t.state) t.entries low)
  field-others t clock (Err refusal) Absent low = ap (unexpired clock) (none-of (length t.state) t.entries low)
  field-others t clock (Ok call) Absent low = ap (unexpired clock) (none-of (length t.state) t.entries low)
  field-others t clock asked (Present key x) low =
      elim (nat_lt x clock) as (λ (b : Bool). unexpired clock (Others (length t.state) (cond b (t, Err BadContext) (keyed_step Numbers (forgotten clock t) key x asked (kept_for key (unexpired clock t.entries)))).0.entries) ≡ unexpired clock t.entries) [
        | true ↦ ap (unexpired clock) (none-of (length t.state) t.entries low)
        | false ↦ ap (unexpired clock) (keyed-others (forgotten clock t) key x asked (kept_for key (unexpired clock t.entries)) (all-live clock (length t.state) t.entries low)) ∙ unexpired_twice clock clock t.entries (omega arith)
      ]

  -- what the next call has kept is let go
  pub step-others : (t : Table (List Call) ℕ) (a : Arrival Wanted) → AreBelow (length t.state) t.entries → unexpired a.clock (Others (length t.state) (table_step Numbers t a).0.entries) ≡ unexpired a.clock t.entries
  step-others t a low = field-others t a.clock (Numbers.asked a.content) a.field low

-- a log with this outcome kept too, where one is to be
log-with : (l : log.Shown) (o : Option Retained) (outcome : Outcome)
    → (more : log.Shown) × ((logged more).entries ≡ kept_with o (known (performed_in outcome)) (logged l).entries) × ((logged more).capacity ≡ (logged l).capacity) × ((logged more).share ≡ (logged l).share)
unfolding logged
log-with l None outcome = (l, refl, refl, refl)
log-with l (Some r) outcome = (
  record l { entries = l.entries ++ (record { key = r.key; expiration = r.expiration; outcome = Known outcome }) ∷ [] },
  map-append entry_in l.entries ((record { key = r.key; expiration = r.expiration; outcome = Known outcome }) ∷ []),
  refl,
  refl,
)

-- what is parked, once another call is withdrawn
pub parks-withdrawn : {C : Type 0} (s : Settings) (held : ℕ → Holding) (calls : List Call) (engine : Engine C) (past : List Event) (bound : ℕ) (waiting : ℕ → List Waiter) (i : ℕ) → Parks s held calls engine past bound waiting → Parks s held calls engine (Withdrew i ∷ past) bound waiting
parks-withdrawn s held calls engine past bound waiting i h = record {
  places = h.places;
  there = h.there;
  call = λ n p at. let y = h.call n p at in (y.0, y.1, y.2, all-but (λ e. e.outcome ≡ y.0 → key_kept p.pending.waiting.retained ≡ Some e.key) (λ e. not (e.outcome == i)) (owned_table (by_number s held) past).entries y.3);
  once = h.once;
  below = h.below;
  lists = h.lists;
  opened = h.opened;
}

-- what was not put has octets
pub unput : (octets : List ℕ) (step : Step) (before out : List ℕ) → (step ≡ Answered → ⊥) → IsPut octets step before out → 0 < length octets
unput octets Answered before out apart put = absurd (apart refl)
unput octets Unanswered before out apart put = put.1
unput octets Quiet before out apart put = absurd put
unput octets Unhandled before out apart put = absurd put

-- it is given up after so many
pub cut-as : {C : Type 0} (offers : C → Offer) (s : Settings) (held : ℕ → Holding) (calls : List Call) (past : List Event) (waiting : ℕ → List Waiter) (c moment : ℕ) (octets written : List ℕ) (n m : ℕ) (e : Engine C) → n ≡ m
    → ResumesLate offers s held calls past waiting c moment octets written (Memory m m) e [] [] → ResumesLate offers s held calls past waiting c moment octets written (Memory n n) e [] []
cut-as offers s held calls past waiting c moment octets written n m e same h = subst (λ (k : ℕ). ResumesLate offers s held calls past waiting c moment octets written (Memory k k) e [] []) (sym same) h

-- What waits is declined.
module _ {C : Type 0} (offers : C → Offer) (s : Settings) (grow : HearingGrows meaning_in) (stay : EndingsStay meaning_in) (held : ℕ → Holding) (calls : List Call) (old new : Engine C) (past : List Event) (waiting : ℕ → List Waiter) (moment : ℕ) (octets written : List ℕ) (w : Awaited) (x : Pending)
    (was : pending_in old ≡ Some x) (a : AsksLate offers s held calls old past waiting moment octets written w) (outcome : Outcome)
    (catalogue : new.offering ≡ old.offering) (idle : waits_in new ≡ None) (limits : new.limits ≡ old.limits) (greatest : new.greatest ≡ old.greatest) (links : new.links ≡ old.links) (clocks : new.keeper.clock ≡ old.keeper.clock) (logs : new.keeper.log ≡ old.keeper.log)
    (parks : new.parked ≡ old.parked) (places : new.places ≡ old.places) (asks : asks_in new ≡ asks_in old) where
  abbrev Refusal : Performed
  Refusal = performed_in outcome

  abbrev Learnt : ℕ → Holding
  Learnt = put_at (length calls) (known Refusal) held

  abbrev Own : OwnerOf ℕ
  Own = numbering s nothing_yet Learnt

  kept : KeepsOf offers Own calls old past moment octets written x × (awaited_of x ≡ w)
  kept = kept-as offers Own calls old past moment octets written x w was (answers-as offers s stay held calls old old past waiting moment octets written w Done [] [] a refl refl refl Refusal)

  abbrev K : KeepsOf offers Own calls old past moment octets written x
  K = kept.0

  abbrev Later : List Call
  Later = calls ++ call_of x.waiting ∷ []

  abbrev Here : Event
  Here = Piece x.connection moment octets

  brought : Brings offers Own calls past x.connection moment octets written x.place.handled x.waiting K.link
  brought = brings-of offers Own calls old past moment octets written x K

  -- as if it were kept
  more-log : (more : log.Shown) × ((logged more).entries ≡ kept_with x.waiting.retained (known Refusal) (logged old.keeper.log).entries) × ((logged more).capacity ≡ (logged old.keeper.log).capacity) × ((logged more).share ≡ (logged old.keeper.log).share)
  more-log = log-with old.keeper.log x.waiting.retained outcome

  abbrev Kept : Shown (List Call)
  Kept = record { servant = Later; clock = new.keeper.clock; limits = new.limits; greatest = new.greatest; links = new.links.entries; log = more-log.0 }

  abbrev Reply : List ℕ
  Reply = reply_by x.waiting.asker.wish x.waiting.asker.version x.waiting.asker.request_id Refusal

  fed : (l : List ℕ) × (written ++ Reply ≡ [] ++ l) × WritesBy s.limits Own.tell (owned_says Own) past Here l Done × StandsBy s.limits s.capacity s.share (λ p. seen_table Learnt (owned_table Own p)) Kept (Here ∷ past)
  fed =
      let size = K.whole in
      fed-ok (book_by Own) K.server Kept past x.connection moment octets old.keeper.clock [] (written ++ Reply) K.was K.link K.stands
      (record {
        limits = limits ∙ K.same.limits;
        capacity = more-log.2 ∙ K.same.capacity;
        share = more-log.3 ∙ K.same.share;
        greatest = greatest ∙ K.same.greatest;
        others = λ q is. ap (λ e. get nat_cmp e q) links ∙ K.same.others q is;
      })
      K.clock clocks K.stood (ap (λ e. get nat_cmp e x.connection) links ∙ K.held) K.live
      (λ y t st al.
      stood-whole (owner_rules (asked_at s.terms) (kept_of Own) (capacity_of K.server) (share_of K.server)) (told_at Own.late s.terms) s.limits (origin past x.connection) old.keeper.clock t y [] octets x.place.taken K.link (answered_so_far Later (logged more-log.0).entries) (written ++ Reply) (x.place.handled + 1)
      (omega (arith, size))
      (reach-goes s.terms (voice_of Own) (capacity_of K.server) (share_of K.server) s.limits (origin past x.connection) old.keeper.clock t y [] octets x.place (x.place.handled + 1) K.link calls (logged old.keeper.log).entries (logged more-log.0).entries written (written ++ Reply) x.waiting Answered (Ok (x.place.handled + 1)) Refusal (
        written,
        refl,
        subst (λ (l : List ℕ). Paused s.terms (voice_of Own) (capacity_of K.server) (share_of K.server) s.limits (origin past x.connection) old.keeper.clock t y l K.link calls (logged old.keeper.log).entries written x.place.handled x.waiting)
            (sym (take_all x.place.taken octets (omega (arith, size)))) (K.paused (voice_of Own) y t st al),
      ) (put-here (length calls) (known Refusal) held) (more-log.1, refl) refl refl))

  -- .. and as it is
  table-is : unexpired new.keeper.clock (logged new.keeper.log).entries ≡ unexpired new.keeper.clock (map (seen_entry Learnt) (owned_table Own (Withdrew (length calls) ∷ Here ∷ past)).entries)
  unfolding brought
  table-is =
      let mid : Table (List Call) ℕ = table_after (Numbered s) (Tally s past) brought.front in
      let now = max (clock past) moment in
      let at : new.keeper.clock ≡ now = clocks ∙ K.clock ∙ ap (λ (n : ℕ). max n moment) K.stands.moment in
      let state : mid.state ≡ calls = brought.before in
      let low : AreBelow (length mid.state) mid.entries = after-below (asked_at s.terms) s.capacity s.share (Tally s past) brought.front (below-past s past) in
      let last : brought.last.clock ≡ now = brought.clock_is in
      let all : owned_table Own (Here ∷ past) ≡ (table_step (Numbered s) mid brought.last).0 =
      ap (λ (xs : List (Arrival Wanted)). table_after (Numbered s) (Tally s past) xs) brought.completes ∙ table_after-append (Numbered s) (Tally s past) brought.front (brought.last ∷ []) in
      let gone : unexpired now (filter (λ e. not (e.outcome == length calls)) (owned_table Own (Here ∷ past)).entries) ≡ unexpired now mid.entries =
      ap (λ (t : Table (List Call) ℕ). unexpired now (filter (λ e. not (e.outcome == length calls)) t.entries)) all
      ∙ ap (λ (l : List Call). unexpired now (filter (λ e. not (e.outcome == length l)) (table_step (Numbered s) mid brought.last).0.entries)) (sym state)
      ∙ subst (λ (k : ℕ). unexpired k (filter (λ e. not (e.outcome == length mid.state)) (table_step (Numbered s) mid brought.last).0.entries) ≡ unexpired k mid.entries) last (step-others (asked_at s.terms) s.capacity s.share mid brought.last low) in
      ap (λ (l : log.Shown). unexpired new.keeper.clock (logged l).entries) logs
      ∙ ap (λ (k : ℕ). unexpired k (logged old.keeper.log).entries) at
      ∙ brings-kept offers Own calls old past moment octets written x K
      ∙ seen-unexpired Learnt now mid.entries
      ∙ ap (map (seen_entry Learnt)) (sym gone)
      ∙ sym (seen-unexpired Learnt now (filter (λ e. not (e.outcome == length calls)) (owned_table Own (Here ∷ past)).entries))
      ∙ ap (λ (k : ℕ). unexpired k (map (seen_entry Learnt) (filter (λ e. not (e.outcome == length calls)) (owned_table Own (Here ∷ past)).entries))) (sym at)

  stands : StandsOf Own (as_server new Later) (Withdrew (length calls) ∷ Here ∷ past)
  stands = record {
    limits_are = fed.3.limits_are;
    capacity_is = ap (λ (l : log.Shown). (logged l).capacity) logs ∙ sym more-log.2 ∙ fed.3.capacity_is;
    share_is = ap (λ (l : log.Shown). (logged l).share) logs ∙ sym more-log.3 ∙ fed.3.share_is;
    moment = fed.3.moment;
    greatest = fed.3.greatest;
    lines = fed.3.lines;
    table = record { state = fed.3.table.state; entries = table-is };
  }

  -- it is told the refusal, and nothing is kept
  pub declines : (before grown : List ℕ) → grown ≡ before ++ Reply → DeclinesLate offers s held calls past waiting moment octets written w Refusal new before grown
  declines before grown put =
      let low = a.below in
      subst (λ (v : Awaited). DeclinesLate offers s held calls past waiting moment octets written v Refusal new before grown) kept.1
      (record {
        more = Reply;
        appended = put;
        writes = subst (λ (l : List ℕ). WritesBy s.limits Own.tell (owned_says Own) past Here l Done) (sym fed.1) fed.2;
        stays = record {
          rests = record { offer_is = ap (terms_by offers) catalogue ∙ K.offer_is; idle = idle; stands = stands };
          parks = parks-withdrawn s Learnt Later new (Here ∷ past) (asks_in new) (still s.limits (Here ∷ past) waiting) (length calls)
              (parks-more s stay held calls old new past Here Done w.number (asks_in new) waiting (sym a.asks.keeps.stands.table.state ∙ a.asks.keeps.answered) a.parks places (omega (arith, low, asks)) (known Refusal) (call_of x.waiting) parks (λ m is. cc));
        };
      })
