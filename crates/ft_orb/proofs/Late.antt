-- What is known of calls while requests are parked, and who waits for these, from one event to the next.
use Rattle.std.proofs.Common.{◌≡◌, ◌==◌, ℕ, ◌+◌, ◌≤◌, ◌<◌, max, Bool, true, false, not, cond, nat_lt, ◌&&◌, List, [], ◌∷◌, ◌++◌, length, take, if◌then◌else◌, Option, Some, None, Result, Ok, Err, IsSome, refl, sym, ap, subst, ◌∙◌, arith, length-append}
use Rattle.std.specs.List.{AllByRecursion, list_all}
use Rattle.std.specs.Option.{option_map, option_map_or}
use Rattle.std.specs.Ordering.{nat_cmp}
use Rattle.std.specs.BTreeMap.{BTreeMap, get}
use Rattle.std.proofs.lemmas.Bool.{and_from, and_parts, eq-eqb, eqb-false, eqb-true, le-ltb, lt-ltb}
use Rattle.std.proofs.lemmas.List.{append-nil, append_cancel_left}
use Rattle.giop_core.specs.declared.header.Version.{Version}
use Rattle.giop_core.specs.declared.request.ReplyWish.{ReplyWish}
use Rattle.giop_core.specs.declared.request.ReplyWish.TheVariants as wish
use Rattle.giop_frames.specs.declared.limits.Limits.{Limits}
use Rattle.giop_link.specs.Hearing.{Question, meaning_in}
use Rattle.giop_link.specs.Laws.{EndingsStay, HearingGrows}
use Rattle.giop_link.specs.Linking.{LinkStands, Linked}
use Rattle.ft_log.specs.Holding.{Holding, parked}
use Rattle.ft_log.specs.Keys.{RequestKey, same_key}
use Rattle.ft_log.specs.Kept.{KeptOutcome, kept_for, keys_of, unexpired}
use Rattle.ft_log.specs.Logged.{logged}
use Rattle.ft_log.specs.Performed.{Performed, system}
use Rattle.ft_log.specs.declared.system_exception.Completion.TheVariants.{Maybe}
use Rattle.ft_log.specs.declared.system_exception.SystemName.{SystemName}
use Rattle.ft_log.specs.declared.system_exception.SystemName.TheVariants.{BadContext, Transient}
use Rattle.ft_objects.specs.Catalogues.{Offer}
use Rattle.ft_orb.specs.declared.answering.Asker.{Asker}
use Rattle.ft_orb.specs.declared.desk.Step.{Step}
use Rattle.ft_orb.specs.declared.desk.Step.TheVariants.{Answered, Quiet, Unanswered, Unhandled}
use Rattle.ft_orb.specs.declared.engine.Engine.{Engine}
use Rattle.ft_orb.specs.declared.events.Note.{Note}
use Rattle.ft_orb.specs.declared.events.Note.TheVariants.{Done, Memory, Refused}
use Rattle.ft_orb.specs.declared.keeper.Repeat.{Repeat}
use Rattle.ft_orb.specs.declared.lot.Lot.{Lot}
use Rattle.ft_orb.specs.declared.parked.Parked.{Parked}
use Rattle.ft_orb.specs.declared.parked.Waiter.{Waiter}
use Rattle.ft_orb.specs.Pause as pause
use Rattle.ft_orb.specs.declared.pausing.Pending.{Pending}
use Rattle.ft_orb.specs.declared.pausing.Place.{Place}
use Rattle.ft_orb.specs.declared.serving.Cut.{Cut}
use Rattle.ft_orb.specs.declared.waiters.Join.{Join}
use Rattle.ft_orb.specs.declared.waiters.Join.TheVariants as join
use Rattle.ft_orb.specs.Engines.{AsksOf, Awaited, EndsOf, KeepsOf, RestsOf, StandsOf, StopsOf, as_server, asks_in, awaited_of, waits_in, pending_in, terms_in}
use Rattle.ft_orb.specs.ExactlyOnce.{Absent, Arrival, Bad, Field, Present, Rules}
use Rattle.ft_orb.specs.History.{Close, Event, Gone, Line, Lost, Opened, Piece, Shut, Up, Withdrew, completed, does_count, line, shortened, Changed, origin, changes}
use Rattle.ft_orb.specs.Outputs.{after, is_gone, output_cut}
use Rattle.ft_orb.specs.Owners.{Voice, answered_so_far, owned_says, owned_table, owner_rules, table_over}
use Rattle.ft_orb.specs.Parked.{AreOf, IsSaid, IsStepOf, JoinsAs, JoinsBy, going_in, is_wished, on_going}
use Rattle.ft_orb.specs.Parking.{AreKeyed, by_number, EndsLate, Parks, RepeatsLate, Settings, Stays, StopsLate, goes_on, key_kept, numbering, parked_at, put_at, still, unless_placed, waiter_of, was_opened}
use Rattle.ft_orb.specs.Pauses.{Reaches}
use Rattle.ft_orb.specs.Private.{IsPut, all_answered, counted_by}
use Rattle.ft_orb.specs.Requests.{Call, Wanted, asking, Origin, asked_at}
use Rattle.ft_orb.specs.Seen.{seen_answer, seen_table}
use Rattle.ft_orb.specs.Standing.{IsFor, IsSameBut, Shown, table_of}
use Rattle.ft_orb.specs.Table.{AreAlike, Table, forgotten, keyed_step, keyless_step, new_step, performing_step, step_by_field, table_after, table_step}
use Rattle.ft_orb.specs.Tellings.{Later, Telling, nothing_yet, octets_if, reply_by, reply_told}
use Rattle.ft_orb.specs.Waits.{asker_of}
use Rattle.ft_orb.proofs.Clearing.{all-push, going-append}
use Rattle.ft_orb.proofs.Numbers.{AreBelow, after-below, after-keyed, all-filter, below-less, keyed-less, seen-agree}
use Rattle.ft_orb.proofs.Owning.{Turns, asks-of, turns, turns-end, turns-left, turns-short}
use Rattle.ft_orb.proofs.GoesOn.{Same, counts-after, counts-later, going-is, on-going-twice, was-counted, went-after}

-- What is known of calls.

pub put-here : {X : Type 0} (n : ℕ) (x : X) (f : ℕ → X) → put_at n x f n ≡ x
put-here n x f = ap (λ (b : Bool). cond b x (f n)) (eq-eqb n n refl)

pub put-else : {X : Type 0} (n : ℕ) (x : X) (f : ℕ → X) (m : ℕ) → (m ≡ n → ⊥) → put_at n x f m ≡ f m
put-else n x f m apart = by (m == n) refl
  where
    by : (b : Bool) → (m == n) ≡ b → cond b x (f m) ≡ f m
    by true is = absurd (apart (eqb-true m n is))
    by false is = refl

module _ (s : Settings) where
  abbrev pub Numbered : Rules (List Call) Wanted Call ℕ
  Numbered = owner_rules (asked_at s.terms) (λ calls call. length calls) s.capacity s.share

  -- the table of the numbers of calls
  abbrev pub Tally : List Event → Table (List Call) ℕ
  Tally past = table_over Numbered s.limits (λ n i. n == i) past

  pub below-past : (past : List Event) → AreBelow (length (Tally past).state) (Tally past).entries
  below-past [] = tt
  below-past (e ∷ past) = below-less e (table_after Numbered (Tally past) (completed s.limits past e)) (after-below (asked_at s.terms) s.capacity s.share (Tally past) (completed s.limits past e) (below-past past))

  table-known : (held other : ℕ → Holding) (past : List Event) → ((i : ℕ) → i < length (Tally past).state → held i ≡ other i) → seen_table held (Tally past) ≡ seen_table other (Tally past)
  table-known held other past same = ap (λ (es : List (KeptOutcome Holding)). record { state = (Tally past).state; entries = es }) (seen-agree held other (length (Tally past).state) (Tally past).entries same (below-past past))

  -- what is known of later calls doesn't matter
  stands-known : (late after : Later) (held other : ℕ → Holding) (server : Shown (List Call)) (past : List Event) → ((i : ℕ) → i < length server.servant → held i ≡ other i) → StandsOf (numbering s late held) server past → StandsOf (numbering s after other) server past
  stands-known late after held other server past same st = record {
    limits_are = st.limits_are;
    capacity_is = st.capacity_is;
    share_is = st.share_is;
    moment = st.moment;
    greatest = st.greatest;
    lines = st.lines;
    table = subst (λ (t : Table (List Call) Holding). AreAlike server.clock (table_of server) t) (table-known held other past (λ i less. same i (subst (λ (calls : List Call). i < length calls) (sym st.table.state) less))) st.table;
  }

  module _ {C : Type 0} (offers : C → Offer) where
    pub rests-known : (late after : Later) (held other : ℕ → Holding) (calls : List Call) (engine : Engine C) (past : List Event) → ((i : ℕ) → i < length calls → held i ≡ other i) → RestsOf offers (numbering s late held) calls engine past
        → RestsOf offers (numbering s after other) calls engine past
    rests-known late after held other calls engine past same r = record { offer_is = r.offer_is; idle = r.idle; stands = stands-known late after held other (as_server engine calls) past same r.stands }

    keeps-known : (late after : Later) (held other : ℕ → Holding) (calls : List Call) (engine : Engine C) (past : List Event) (moment : ℕ) (octets written : List ℕ) (p : Pending) → ((i : ℕ) → i < length calls → held i ≡ other i)
        → KeepsOf offers (numbering s late held) calls engine past moment octets written p → KeepsOf offers (numbering s after other) calls engine past moment octets written p
    keeps-known late after held other calls engine past moment octets written p same k = record {
      offer_is = k.offer_is;
      waits = k.waits;
      server = k.server;
      answered = k.answered;
      was = k.was;
      link = k.link;
      stands = stands-known late after held other k.server past (λ i less. same i (subst (λ (l : List Call). i < length l) k.answered less)) k.stands;
      same = k.same;
      clock = k.clock;
      stood = k.stood;
      live = k.live;
      held = k.held;
      whole = k.whole;
      some = k.some;
      paused = k.paused;
    }

    pub asks-known : (late after : Later) (held other : ℕ → Holding) (calls : List Call) (engine : Engine C) (past : List Event) (moment : ℕ) (octets written : List ℕ) (w : Awaited) → ((i : ℕ) → i < length calls → held i ≡ other i)
        → AsksOf offers (numbering s late held) calls engine past moment octets written w → AsksOf offers (numbering s after other) calls engine past moment octets written w
    asks-known late after held other calls engine past moment octets written w same a =
        subst (λ (v : Awaited). AsksOf offers (numbering s after other) calls engine past moment octets written v) a.is
        (asks-of offers (numbering s after other) calls engine past moment octets written a.pending (keeps-known late after held other calls engine past moment octets written a.pending same a.keeps))

  -- What is parked, after more.

  keyed-next : (i : ℕ) (key : Option RequestKey) (past : List Event) (e : Event) → i < length (Tally past).state → AreKeyed i key (Tally past).entries → (i < length (Tally (e ∷ past)).state) × AreKeyed i key (Tally (e ∷ past)).entries
  keyed-next i key past e less h =
      let next = after-keyed (asked_at s.terms) s.capacity s.share i key (Tally past) (completed s.limits past e) less h in
      keyed-less i key e (table_after Numbered (Tally past) (completed s.limits past e)) next

  keyed-later : (i : ℕ) (key : Option RequestKey) (past : List Event) (e : Event) (note : Note) → i < length (Tally past).state → AreKeyed i key (Tally past).entries → AreKeyed i key (Tally (after s.limits past e note)).entries
  keyed-later i key past e Done less h = (keyed-next i key past e less h).1
  keyed-later i key past e Refused less h = (keyed-next i key past e less h).1
  keyed-later i key past (Opened c) (Memory handled answered) less h = h
  keyed-later i key past (Piece c moment octets) (Memory handled answered) less h =
      let short = shortened s.limits past (Piece c moment octets) handled in (keyed-next i key past short less h).1
  keyed-later i key past (Close c) (Memory handled answered) less h = h
  keyed-later i key past (Lost c) (Memory handled answered) less h = h
  keyed-later i key past (Withdrew j) (Memory handled answered) less h = h
  keyed-later i key past Changed (Memory handled answered) less h = h

  -- who still waits
  pub still-later : (stay : EndingsStay meaning_in) (past : List Event) (e : Event) (note : Note) (ws now : List Waiter) → on_going (goes_on s.limits past) ws ≡ now → list_all (was_opened past) ws ≡ true
      → (on_going (goes_on s.limits (after s.limits past e note)) ws ≡ on_going (goes_on s.limits (after s.limits past e note)) now) × (list_all (was_opened (after s.limits past e note)) ws ≡ true)
  still-later stay past e note ws now is opened = (
    sym (on-going-twice (goes_on s.limits past) (goes_on s.limits (after s.limits past e note)) ws (each ws opened)) ∙ ap (on_going (goes_on s.limits (after s.limits past e note))) is,
    all-later ws opened,
  )
    where
      not-is : (b : Bool) → not b ≡ true → b ≡ false
      not-is true h = absurd cc
      not-is false h = refl

      each : (ws : List Waiter) → list_all (was_opened past) ws ≡ true → AllByRecursion (Same (goes_on s.limits past) (goes_on s.limits (after s.limits past e note))) ws
      each [] h = tt
      each (w ∷ ws) h =
          let both = and_parts (was_opened past w) (list_all (was_opened past) ws) h in
          (λ g. went-after s.limits stay past e note w.connection (not-is (does_count past w.connection) both.0) g, each ws both.1)

      all-later : (ws : List Waiter) → list_all (was_opened past) ws ≡ true → list_all (was_opened (after s.limits past e note)) ws ≡ true
      all-later [] h = refl
      all-later (w ∷ ws) h =
          let both = and_parts (was_opened past w) (list_all (was_opened past) ws) h in
          and_from (was_opened (after s.limits past e note) w) (list_all (was_opened (after s.limits past e note)) ws) (ap not (counts-after s.limits past e note w.connection (not-is (does_count past w.connection) both.0))) (all-later ws both.1)

  module _ {C : Type 0} (stay : EndingsStay meaning_in) (held : ℕ → Holding) (calls : List Call) (old new : Engine C) (past : List Event) (e : Event) (note : Note) (bound more : ℕ) (waiting : ℕ → List Waiter)
      (tally : (Tally past).state ≡ calls) (k : Parks s held calls old past bound waiting) (places : new.places ≡ old.places) (fewer : bound ≤ more) where
    abbrev Then : List Event
    Then = after s.limits past e note

    -- nothing was parked
    pub parks-later : new.parked ≡ old.parked → Parks s held calls new Then more (still s.limits Then waiting)
    parks-later parks = record {
      places = places ∙ k.places;
      there = λ i n less is. subst (λ (m : Lot). IsSome (get nat_cmp m.requests n)) (sym parks) (k.there i n less is);
      call = λ n p at.
          let x = k.call n p (ap (λ (m : Lot). get nat_cmp m.requests n) (sym parks) ∙ at) in
          (x.0, x.1, x.2, keyed-later x.0 (key_kept p.pending.waiting.retained) past e note (subst (λ (l : List Call). x.0 < length l) (sym tally) x.1) x.3);
      once = k.once;
      below = λ i n less is. let low = k.below i n less is in omega (arith, low, fewer);
      lists = λ n p at. let was = ap (λ (m : Lot). get nat_cmp m.requests n) (sym parks) ∙ at in (still-later stay past e note p.waiters.items (waiting n) (k.lists n p was) (k.opened n p was)).0;
      opened = λ n p at. let was = ap (λ (m : Lot). get nat_cmp m.requests n) (sym parks) ∙ at in (still-later stay past e note p.waiters.items (waiting n) (k.lists n p was) (k.opened n p was)).1;
    }

    -- .. but a call was taken, of which this is known
    taken-apart : (x : Holding) (call : Call) (i : ℕ) → i < length calls → (put_at (length calls) x held i ≡ held i) × (i < length (calls ++ call ∷ []))
    taken-apart x call i less = (put-else (length calls) x held i (λ is. absurd (omega (arith, is, less))), let size = length-append calls (call ∷ []) in omega (arith, size, less))

    taken-old : (x : Holding) (call : Call) (i n : ℕ) → ((m : ℕ) → x ≡ parked m → ⊥) → i < length (calls ++ call ∷ []) → put_at (length calls) x held i ≡ parked n → (i < length calls) × (held i ≡ parked n)
    taken-old x call i n apart less is = by (i == length calls) refl is
      where
        by : (b : Bool) → (i == length calls) ≡ b → cond b x (held i) ≡ parked n → (i < length calls) × (held i ≡ parked n)
        by true at is = absurd (apart n is)
        by false at is = (let size = length-append calls (call ∷ []) in let other = eqb-false i (length calls) at in omega (arith, size, less, other), is)

    pub parks-more : (x : Holding) (call : Call) → new.parked ≡ old.parked → ((m : ℕ) → x ≡ parked m → ⊥) → Parks s (put_at (length calls) x held) (calls ++ call ∷ []) new Then more (still s.limits Then waiting)
    parks-more x call parks apart =
        let later = parks-later parks in
        record {
          places = later.places;
          there = λ i n less is. let was = taken-old x call i n apart less is in later.there i n was.0 was.1;
          call = λ n p at. let y = later.call n p at in let kept = taken-apart x call y.0 y.1 in (y.0, kept.1, kept.0 ∙ y.2, y.3);
          once = λ i j n less lessj is isj. let a = taken-old x call i n apart less is in let b = taken-old x call j n apart lessj isj in k.once i j n a.0 b.0 a.1 b.1;
          below = λ i n less is. let was = taken-old x call i n apart less is in later.below i n was.0 was.1;
          lists = later.lists;
          opened = later.opened;
        }

    -- nothing happened, but more was asked
    pub parks-here : new.parked ≡ old.parked → Parks s held calls new past more waiting
    parks-here parks = record {
      places = places ∙ k.places;
      there = λ i n less is. subst (λ (m : Lot). IsSome (get nat_cmp m.requests n)) (sym parks) (k.there i n less is);
      call = λ n p at. k.call n p (ap (λ (m : Lot). get nat_cmp m.requests n) (sym parks) ∙ at);
      once = k.once;
      below = λ i n less is. let low = k.below i n less is in omega (arith, low, fewer);
      lists = λ n p at. k.lists n p (ap (λ (m : Lot). get nat_cmp m.requests n) (sym parks) ∙ at);
      opened = λ n p at. k.opened n p (ap (λ (m : Lot). get nat_cmp m.requests n) (sym parks) ∙ at);
    }

module _ {C : Type 0} (offers : C → Offer) (s : Settings) where
  pub tally-is : (late : Later) (held : ℕ → Holding) (calls : List Call) (engine : Engine C) (past : List Event) → RestsOf offers (numbering s late held) calls engine past → (Tally s past).state ≡ calls
  tally-is late held calls engine past r = sym r.stands.table.state

  -- an event in which nothing was parked
  pub ends-late : EndingsStay meaning_in → (held : ℕ → Holding) (calls : List Call) (old new : Engine C) (past : List Event) (waiting : ℕ → List Waiter) (e : Event) (note : Note) (before out : List ℕ) → Stays offers s held calls old past waiting
      → ((late : Later) → RestsOf offers (numbering s late held) calls old past → EndsOf offers (numbering s late held) calls past e note new before out) → new.parked ≡ old.parked → new.places ≡ old.places → asks_in old ≤ asks_in new
      → EndsLate offers s held calls past waiting e note new before out
  ends-late stay held calls old new past waiting e note before out h ends parks places asks =
      let each : (late : Later) → EndsOf offers (numbering s late held) calls past e note new before out = λ late. ends late (rests-known s offers nothing_yet late held held calls old past (λ i less. refl) h.rests) in
      record {
        ends = each;
        stays = record { rests = (each nothing_yet).rests; parks = parks-later s stay held calls old new past e note (asks_in old) (asks_in new) waiting (tally-is nothing_yet held calls old past h.rests) h.parks places asks parks };
      }

  pub stops-late : EndingsStay meaning_in → (held : ℕ → Holding) (calls : List Call) (old new : Engine C) (past : List Event) (waiting : ℕ → List Waiter) (c moment : ℕ) (piece : List ℕ) (taken : ℕ) (before out : List ℕ) (p : Pending) → Stays offers s held calls old past waiting
      → ((late : Later) → RestsOf offers (numbering s late held) calls old past → StopsOf offers (numbering s late held) calls past c moment piece taken new before out) → pending_in new ≡ Some p → p.number ≡ asks_in old → asks_in new ≡ asks_in old + 1
      → new.parked ≡ old.parked → new.places ≡ old.places → StopsLate offers s held calls past waiting c moment piece taken new before out
  stops-late stay held calls old new past waiting c moment piece taken before out p h stops waits number asks parks places =
      let each : (late : Later) → StopsOf offers (numbering s late held) calls past c moment piece taken new before out = λ late. stops late (rests-known s offers nothing_yet late held held calls old past (λ i less. refl) h.rests) in
      let x = each nothing_yet in
      let w : Awaited = record { number = x.number; connection = c; call = x.call; field = x.field; refused = x.refused } in
      let same : Some w ≡ Some (awaited_of p) = sym x.asks.waits ∙ ap (λ (o : Option Pending). option_map awaited_of o) waits in
      let is : x.number ≡ p.number = let both : w ≡ awaited_of p = cc in ap (λ (v : Awaited). v.number) both in
      record {
        stops = each;
        asks = (x.written, x.number, x.call, w, refl, record { asks = x.asks; below = omega (arith, is, number, asks); parks = parks-here s stay held calls old new past (Piece c moment piece) Done (asks_in old) x.number waiting (tally-is nothing_yet held calls old past h.rests) h.parks places (omega (arith, is, number)) parks });
      }

  -- links that stand for lines go on where these do
  pub links-go : (late : Later) (held : ℕ → Holding) (calls : List Call) (engine : Engine C) (past : List Event) → RestsOf offers (numbering s late held) calls engine past → going_in engine.links ≡ goes_on s.limits past
  links-go late held calls engine past r = λ i c. going-is s.limits (get nat_cmp engine.links c) (line past c) (r.stands.lines c) i

  -- A repeat of a request that is parked.

  parked-of : (held : ℕ → Holding) (n : ℕ) (answer : Result ℕ SystemName) → seen_answer held answer ≡ Ok (parked n) → (i : ℕ) × (answer ≡ Ok i) × (held i ≡ parked n)
  parked-of held n (Ok i) same = (i, refl, let p : held i ≡ parked n = cc in p)
  parked-of held n (Err refusal) same = absurd cc

  wish-is : (w : ReplyWish) → is_wished w ≡ false → (version : Version) (id : ℕ) (p : Performed) → reply_told w version id p ≡ None
  wish-is wish.None h version id p = refl
  wish-is wish.Empty h version id p = absurd cc
  wish-is wish.Full h version id p = absurd cc

  -- what is said to it ..
  pub said-put : (most c : ℕ) (knows : List ℕ → Bool) (from : Origin) (goes : ℕ → Bool) (r : Repeat) (old new : Parked) (j : Join) (step : Step) (mid grown : List ℕ) → JoinsBy goes most (record { connection = c; asker = r.asker }) old j new → IsStepOf j r.asker step mid grown → (step ≡ Unhandled → ⊥)
      → (q : Question) → r.asker ≡ asker_of q → IsPut (octets_if (unless_placed (not (nat_lt most (length (on_going goes old.waiters.items)))) knows (asking from q) r.number)) step mid grown
  said-put most c knows from goes r old new join.Silent step mid grown h is some q same =
      let silent : is_wished q.wish ≡ false = ap (λ (a : Asker). is_wished a.wish) (sym same) ∙ h.0 in
      let none : octets_if (unless_placed (not (nat_lt most (length (on_going goes old.waiters.items)))) knows (asking from q) r.number) ≡ [] =
      (elim (not (nat_lt most (length (on_going goes old.waiters.items)))) as (λ (b : Bool). octets_if (unless_placed b knows (asking from q) r.number) ≡ []) [ true ↦ refl | false ↦ ap (λ (o : Option Telling). octets_if o) (wish-is q.wish silent q.version q.id (system Transient 0 Maybe)) ]) in
      subst (λ (l : List ℕ). IsPut l step mid grown) (sym none) (subst (λ (x : Step). IsPut [] x mid grown) (sym is.0) (is.1 ∙ sym (append-nil mid)))
  said-put most c knows from goes r old new join.Waits step mid grown h is some q same =
      let room : not (nat_lt most (length (on_going goes old.waiters.items))) ≡ true = ap not (le-ltb most (length (on_going goes old.waiters.items)) h.1) in
      subst (λ (b : Bool). IsPut (octets_if (unless_placed b knows (asking from q) r.number)) step mid grown) (sym room) (subst (λ (x : Step). IsPut [] x mid grown) (sym is.0) (is.1 ∙ sym (append-nil mid)))
  said-put most c knows from goes r old new join.Full step mid grown h is some q same =
      let full : not (nat_lt most (length (on_going goes old.waiters.items))) ≡ false = ap not (lt-ltb most (length (on_going goes old.waiters.items)) h.1) in
      subst (λ (b : Bool). IsPut (octets_if (unless_placed b knows (asking from q) r.number)) step mid grown) (sym full) (subst (λ (a : Asker). IsPut (reply_by a.wish a.version a.request_id (system Transient 0 Maybe)) step mid grown) same (said-is step is some))
    where
      said-is : (x : Step) → IsSaid (reply_by r.asker.wish r.asker.version r.asker.request_id (system Transient 0 Maybe)) x mid grown → (x ≡ Unhandled → ⊥) → IsPut (reply_by r.asker.wish r.asker.version r.asker.request_id (system Transient 0 Maybe)) x mid grown
      said-is Answered h apart = h
      said-is Unhandled h apart = absurd (apart refl)
      said-is Unanswered h apart = absurd h
      said-is Quiet h apart = absurd h
  said-put most c knows from goes r old new join.Memory step mid grown h is some q same = absurd (some is.0)

  -- .. and who waits then
  pub joined-list : (most c : ℕ) (goes : ℕ → Bool) (r : Repeat) (old new : Parked) (j : Join) (step : Step) (mid grown : List ℕ) → JoinsBy goes most (record { connection = c; asker = r.asker }) old j new → IsStepOf j r.asker step mid grown → (step ≡ Unhandled → ⊥)
      → (q : Question) → r.asker ≡ asker_of q
      → on_going goes new.waiters.items ≡ on_going goes (old.waiters.items ++ (if is_wished q.wish && not (nat_lt most (length (on_going goes old.waiters.items))) then waiter_of c q ∷ [] else []))
  joined-list most c goes r old new join.Silent step mid grown h is some q same =
      let silent : is_wished q.wish ≡ false = ap (λ (a : Asker). is_wished a.wish) (sym same) ∙ h.0 in
      ap (λ (p : Parked). on_going goes p.waiters.items) h.1 ∙ ap (on_going goes) (sym (append-nil old.waiters.items))
      ∙ sym (ap (λ (b : Bool). on_going goes (old.waiters.items ++ (if b && not (nat_lt most (length (on_going goes old.waiters.items))) then waiter_of c q ∷ [] else []))) silent)
  joined-list most c goes r old new join.Waits step mid grown h is some q same =
      let room : not (nat_lt most (length (on_going goes old.waiters.items))) ≡ true = ap not (le-ltb most (length (on_going goes old.waiters.items)) h.1) in
      let wished : is_wished q.wish ≡ true = ap (λ (a : Asker). is_wished a.wish) (sym same) ∙ h.0 in
      h.3 ∙ ap (λ (a : Asker). on_going goes (old.waiters.items ++ record { connection = c; asker = a } ∷ [])) same
      ∙ sym (λ i. on_going goes (old.waiters.items ++ (if wished i && room i then waiter_of c q ∷ [] else [])))
  joined-list most c goes r old new join.Full step mid grown h is some q same =
      let full : not (nat_lt most (length (on_going goes old.waiters.items))) ≡ false = ap not (lt-ltb most (length (on_going goes old.waiters.items)) h.1) in
      let wished : is_wished q.wish ≡ true = ap (λ (a : Asker). is_wished a.wish) (sym same) ∙ h.0 in
      h.3 ∙ ap (on_going goes) (sym (append-nil old.waiters.items)) ∙ sym (λ i. on_going goes (old.waiters.items ++ (if wished i && full i then waiter_of c q ∷ [] else [])))
  joined-list most c goes r old new join.Memory step mid grown h is some q same = absurd (some is.0)

  -- nobody else waits
  joined-opened : (most c : ℕ) (goes : ℕ → Bool) (r : Repeat) (old new : Parked) (j : Join) → JoinsBy goes most (record { connection = c; asker = r.asker }) old j new → (test : Waiter → Bool) → list_all test old.waiters.items ≡ true
      → test (record { connection = c; asker = r.asker }) ≡ true → list_all test new.waiters.items ≡ true
  joined-opened most c goes r old new join.Silent h test all own = ap (λ (p : Parked). list_all test p.waiters.items) h.1 ∙ all
  joined-opened most c goes r old new join.Waits h test all own = h.4 test (all-push test old.waiters.items (record { connection = c; asker = r.asker }) all own)
  joined-opened most c goes r old new join.Full h test all own = h.4 test all
  joined-opened most c goes r old new join.Memory h test all own = h.4 test all

  joined-same : (most c : ℕ) (goes : ℕ → Bool) (r : Repeat) (old new : Parked) (j : Join) → JoinsBy goes most (record { connection = c; asker = r.asker }) old j new → new.pending ≡ old.pending
  joined-same most c goes r old new join.Silent h = ap (λ (p : Parked). p.pending) h.1
  joined-same most c goes r old new join.Waits h = h.2.0
  joined-same most c goes r old new join.Full h = h.2.0
  joined-same most c goes r old new join.Memory h = h.2.0

  -- Of one that is parked others wait.
  pub parks-put : (held : ℕ → Holding) (calls : List Call) (mid new : Engine C) (past : List Event) (bound : ℕ) (waiting : ℕ → List Waiter) → Parks s held calls mid past bound waiting → new.places ≡ mid.places → (n0 : ℕ) (p q : Parked) (list : List Waiter)
      → parked_at mid n0 ≡ Some p → parked_at new n0 ≡ Some q → ((m : ℕ) → (m == n0) ≡ false → parked_at new m ≡ parked_at mid m) → q.pending ≡ p.pending → on_going (goes_on s.limits past) q.waiters.items ≡ list → list_all (was_opened past) q.waiters.items ≡ true
      → Parks s held calls new past bound (put_at n0 list waiting)
  parks-put held calls mid new past bound waiting k places n0 p q list was is others same lists opened = record {
    places = places ∙ k.places;
    there = λ i n less h. by-there n (n == n0) refl (k.there i n less h);
    call = λ n x at. by-call n x (n == n0) refl at;
    once = k.once;
    below = k.below;
    lists = λ n x at. by-lists n x (n == n0) refl at;
    opened = λ n x at. by-opened n x (n == n0) refl at;
  }
    where
      one : (x : Parked) (n : ℕ) → (n == n0) ≡ true → parked_at new n ≡ Some x → q ≡ x
      one x n at there = let both : Some q ≡ Some x = sym is ∙ ap (λ (m : ℕ). parked_at new m) (sym (eqb-true n n0 at)) ∙ there in cc

      by-there : (n : ℕ) (b : Bool) → (n == n0) ≡ b → IsSome (parked_at mid n) → IsSome (parked_at new n)
      by-there n true at h = subst (λ (o : Option Parked). IsSome o) (sym (ap (λ (m : ℕ). parked_at new m) (eqb-true n n0 at) ∙ is)) refl
      by-there n false at h = subst (λ (o : Option Parked). IsSome o) (sym (others n at)) h

      by-call : (n : ℕ) (x : Parked) (b : Bool) → (n == n0) ≡ b → parked_at new n ≡ Some x → (i : ℕ) × (i < length calls) × (held i ≡ parked n) × AreKeyed i (key_kept x.pending.waiting.retained) (owned_table (numbering s nothing_yet held) past).entries
      by-call n x true at there =
          let y = k.call n0 p was in
          let key : key_kept p.pending.waiting.retained ≡ key_kept x.pending.waiting.retained = ap (λ (w : Pending). key_kept w.waiting.retained) (sym same) ∙ ap (λ (w : Parked). key_kept w.pending.waiting.retained) (one x n at there) in
          (y.0, y.1, y.2 ∙ ap parked (sym (eqb-true n n0 at)), subst (λ (o : Option RequestKey). AreKeyed y.0 o (owned_table (numbering s nothing_yet held) past).entries) key y.3)
      by-call n x false at there = k.call n x (sym (others n at) ∙ there)

      by-lists : (n : ℕ) (x : Parked) (b : Bool) → (n == n0) ≡ b → parked_at new n ≡ Some x → on_going (goes_on s.limits past) x.waiters.items ≡ cond b list (waiting n)
      by-lists n x true at there = ap (λ (w : Parked). on_going (goes_on s.limits past) w.waiters.items) (sym (one x n at there)) ∙ lists
      by-lists n x false at there = k.lists n x (sym (others n at) ∙ there)

      by-opened : (n : ℕ) (x : Parked) (b : Bool) → (n == n0) ≡ b → parked_at new n ≡ Some x → list_all (was_opened past) x.waiters.items ≡ true
      by-opened n x true at there = ap (λ (w : Parked). list_all (was_opened past) w.waiters.items) (sym (one x n at there)) ∙ opened
      by-opened n x false at there = k.opened n x (sym (others n at) ∙ there)

  pub still-put : (past : List Event) (n0 : ℕ) (list : List Waiter) (waiting : ℕ → List Waiter) → put_at n0 (on_going (goes_on s.limits past) list) (still s.limits past waiting) ≡ still s.limits past (put_at n0 list waiting)
  still-put past n0 list waiting = λ i n. each n (n == n0) i
    where
      each : (n : ℕ) (b : Bool) → cond b (on_going (goes_on s.limits past) list) (on_going (goes_on s.limits past) (waiting n)) ≡ on_going (goes_on s.limits past) (cond b list (waiting n))
      each n true = refl
      each n false = refl

  -- what is answered by what is kept was taken before
  answered-below : (t : Table (List Call) ℕ) (a : Arrival Wanted) (i : ℕ) → AreBelow (length t.state) t.entries → (table_step (Numbered s) t a).0.state ≡ t.state → (table_step (Numbered s) t a).1 ≡ Ok i → i < length t.state
  answered-below t a i below same is = by-field a.field same is
    where
      grown : (calls : List Call) (call : Call) → calls ++ call ∷ [] ≡ calls → ⊥
      grown calls call h = let size = length-append calls (call ∷ []) in let long = ap (λ (l : List Call). length l) h in omega (arith, size, long)

      kept-below : (key : RequestKey) (es : List (KeptOutcome ℕ)) (m : ℕ) → AreBelow m es → kept_for key es ≡ Some i → i < m
      kept-below key [] m h k = absurd cc
      kept-below key (e ∷ es) m h k = by (same_key key e.key) k (kept-below key es m h.1)
        where
          by : (b : Bool) → cond b (Some e.outcome) (kept_for key es) ≡ Some i → (kept_for key es ≡ Some i → i < m) → i < m
          by true k rest = let at : e.outcome ≡ i = cc in let low = h.0 in omega (arith, at, low)
          by false k rest = rest k

      by-new : (key : RequestKey) (x : ℕ) (u : Table (List Call) ℕ) (asked : Result Call SystemName) → u.state ≡ t.state → (new_step (Numbered s) u key x asked).0.state ≡ t.state → (new_step (Numbered s) u key x asked).1 ≡ Ok i → i < length t.state
      by-new key x u (Err refusal) at same is = absurd cc
      by-new key x u (Ok call) at same is = by-room ((Numbered s).has_room key (keys_of u.entries)) same is
        where
          by-room : (room : Bool) → (performing_step (Numbered s) u key x call room).0.state ≡ t.state → (performing_step (Numbered s) u key x call room).1 ≡ Ok i → i < length t.state
          by-room true same is = absurd (grown u.state call (same ∙ sym at))
          by-room false same is = absurd cc

      by-field : (f : Field) → (step_by_field (Numbered s) t a.clock ((Numbered s).asked a.content) f).0.state ≡ t.state → (step_by_field (Numbered s) t a.clock ((Numbered s).asked a.content) f).1 ≡ Ok i → i < length t.state
      by-field Bad same is = absurd cc
      by-field Absent same is = by-asked ((Numbered s).asked a.content) same is
        where
          by-asked : (asked : Result Call SystemName) → (keyless_step (Numbered s) t asked).0.state ≡ t.state → (keyless_step (Numbered s) t asked).1 ≡ Ok i → i < length t.state
          by-asked (Ok call) same is = absurd (grown t.state call same)
          by-asked (Err refusal) same is = absurd cc
      by-field (Present key x) same is = by-late (nat_lt x a.clock) same is
        where
          by-kept : (o : Option ℕ) → kept_for key (unexpired a.clock t.entries) ≡ o → (keyed_step (Numbered s) (forgotten a.clock t) key x ((Numbered s).asked a.content) o).0.state ≡ t.state → (keyed_step (Numbered s) (forgotten a.clock t) key x ((Numbered s).asked a.content) o).1 ≡ Ok i → i < length t.state
          by-kept (Some n) found same is = kept-below key (unexpired a.clock t.entries) (length t.state) (all-filter (λ e. e.outcome < length t.state) a.clock t.entries below) (found ∙ (let at : n ≡ i = cc in ap (λ (m : ℕ). Some m) at))
          by-kept None found same is = by-new key x (forgotten a.clock t) ((Numbered s).asked a.content) refl same is

          by-late : (b : Bool) → (cond b (t, Err BadContext) (keyed_step (Numbered s) (forgotten a.clock t) key x ((Numbered s).asked a.content) (kept_for key (unexpired a.clock t.entries)))).0.state ≡ t.state
              → (cond b (t, Err BadContext) (keyed_step (Numbered s) (forgotten a.clock t) key x ((Numbered s).asked a.content) (kept_for key (unexpired a.clock t.entries)))).1 ≡ Ok i → i < length t.state
          by-late true same is = absurd cc
          by-late false same is = by-kept (kept_for key (unexpired a.clock t.entries)) refl same is

  there-is : (o : Option Parked) → IsSome o → (p : Parked) × (o ≡ Some p)
  there-is (Some p) h = (p, refl)
  there-is None h = absurd cc

  pub there-by : (limits : Limits) (link : Linked) (l : Line) → IsFor limits (Some link) l → is_gone l ≡ false
  there-by limits link Gone h = absurd h
  there-by limits link Shut h = refl
  there-by limits link (Up x) h = refl

  all-down : (one two : ℕ → Bool) → ((d : ℕ) → two d ≡ true → one d ≡ true) → (ws : List Waiter) → AllByRecursion (Same one two) ws
  all-down one two h [] = tt
  all-down one two h (w ∷ ws) = (λ up. h w.connection up, all-down one two h ws)

  pub put-same : (n : ℕ) (f : ℕ → List Waiter) → put_at n (f n) f ≡ f
  put-same n f = λ i m. each m (m == n) refl i
    where
      each : (m : ℕ) (b : Bool) → (m == n) ≡ b → cond b (f n) (f m) ≡ f m
      each m true is = ap f (sym (eqb-true m n is))
      each m false is = refl

  -- how a repeat joined
  record Joins (most c : ℕ) (goes : ℕ → Bool) (r : Repeat) (p : Parked) (o : Option Parked) (step : Step) (mid grown : List ℕ) : Type 0 where
    next : Parked
    is : o ≡ Some next
    join : Join
    by : JoinsBy goes most (record { connection = c; asker = r.asker }) p join next
    said : IsStepOf join r.asker step mid grown

  joins-as : (most c : ℕ) (goes : ℕ → Bool) (r : Repeat) (p : Parked) (o o2 : Option Parked) (step : Step) (mid grown : List ℕ) → o ≡ Some p → JoinsAs goes most c r o step o2 mid grown → Joins most c goes r p o2 step mid grown
  joins-as most c goes r p o o2 step mid grown is h = by o2 (subst (λ (x : Option Parked). JoinsAs goes most c r x step o2 mid grown) is h)
    where
      by : (o2 : Option Parked) → JoinsAs goes most c r (Some p) step o2 mid grown → Joins most c goes r p o2 step mid grown
      by None h = absurd h
      by (Some q) h = record { next = q; is = refl; join = h.0; by = h.1; said = h.2 }

  -- where it was handled nothing failed, and else nothing was written
  handled-step : (n m : ℕ) (step : Step) → counted_by n step ≡ Ok m → step ≡ Unhandled → ⊥
  handled-step n m step by is = let no : counted_by n Unhandled ≡ Ok m = ap (counted_by n) (sym is) ∙ by in cc

  cut-step : (j : Join) (a : Asker) (n : ℕ) (step : Step) (cut : Cut) (mid grown : List ℕ) → IsStepOf j a step mid grown → counted_by n step ≡ Err cut → (step ≡ Unhandled) × (grown ≡ mid) × (cut ≡ all_answered n)
  cut-step join.Silent a n step cut mid grown is by = absurd (let no : counted_by n Answered ≡ Err cut = ap (counted_by n) (sym is.0) ∙ by in cc)
  cut-step join.Waits a n step cut mid grown is by = absurd (let no : counted_by n Answered ≡ Err cut = ap (counted_by n) (sym is.0) ∙ by in cc)
  cut-step join.Full a n Answered cut mid grown is by = absurd (let no : counted_by n Answered ≡ Err cut = by in cc)
  cut-step join.Full a n Unhandled cut mid grown is by = (refl, is, let same : Err (all_answered n) ≡ Err cut = by in let at : cut ≡ all_answered n = cc in at)
  cut-step join.Full a n Unanswered cut mid grown is by = absurd is
  cut-step join.Full a n Quiet cut mid grown is by = absurd is
  cut-step join.Memory a n step cut mid grown is by = (is.0, is.1, let same : Err (all_answered n) ≡ Err cut = ap (counted_by n) (sym is.0) ∙ by in let at : cut ≡ all_answered n = cc in at)

  -- who waited goes on waiting, where it was not handled
  cut-list : (most c : ℕ) (goes : ℕ → Bool) (r : Repeat) (old new : Parked) (j : Join) (n : ℕ) (step : Step) (cut : Cut) (mid grown : List ℕ) → JoinsBy goes most (record { connection = c; asker = r.asker }) old j new → IsStepOf j r.asker step mid grown → counted_by n step ≡ Err cut
      → (on_going goes new.waiters.items ≡ on_going goes old.waiters.items) × AreOf old.waiters.items new.waiters.items
  cut-list most c goes r old new join.Silent n step cut mid grown h is by = absurd (let no : counted_by n Answered ≡ Err cut = ap (counted_by n) (sym is.0) ∙ by in cc)
  cut-list most c goes r old new join.Waits n step cut mid grown h is by = absurd (let no : counted_by n Answered ≡ Err cut = ap (counted_by n) (sym is.0) ∙ by in cc)
  cut-list most c goes r old new join.Full n step cut mid grown h is by = (h.3, h.4)
  cut-list most c goes r old new join.Memory n step cut mid grown h is by = (h.3, h.4)

  module _ (stay : EndingsStay meaning_in) (grow : HearingGrows meaning_in) (held : ℕ → Holding) (calls : List Call) (old new : Engine C) (past : List Event) (c moment : ℕ) (piece : List ℕ) (now : ℕ) (out mid : List ℕ) (was link : Linked) (r : Repeat) (place : Place) (waiting : ℕ → List Waiter)
      (h : Stays offers s held calls old past waiting) (are : terms_in offers new ≡ s.terms (changes past)) (idle : waits_in new ≡ None) (same : IsSameBut c (as_server old calls) (as_server new calls)) (at : now ≡ max old.keeper.clock moment) (then-at : new.keeper.clock ≡ now) (stood : get nat_cmp old.links c ≡ Some was)
      (live : was.is_closed ≡ false) (some : 0 < place.taken) (within : place.taken ≤ length piece)
      (reaches : (voice : Voice) (x : List ℕ) (t : Table (List Call) Holding) → LinkStands s.limits was x → AreAlike now (answered_so_far calls (logged old.keeper.log).entries) t
      → Reaches s.terms voice (logged old.keeper.log).capacity (logged old.keeper.log).share s.limits (origin past c) now t x out piece calls (pause.Repeats r place) link (logged new.keeper.log).entries mid)
      (places : new.places ≡ old.places) (asks : asks_in new ≡ asks_in old) (goes : ℕ → Bool) (step : Step) (grown : List ℕ) (joins : JoinsAs goes old.places.joined c r (parked_at old r.number) step (parked_at new r.number) mid grown)
      (others : (q : ℕ) → (q == r.number) ≡ false → parked_at new q ≡ parked_at old q) where
    turned : (written : List ℕ) × (mid ≡ out ++ written) × Turns offers (numbering s nothing_yet held) calls past c moment (take place.taken piece) written place.handled r
    turned = turns offers (numbering s nothing_yet held) grow calls old new past c moment piece now out mid was link r place h.rests are idle same at then-at stood live some within reaches

    -- whatever would be said of what is parked, what comes before it says the same
    quiet : (late : Later) → output_cut s.limits (numbering s late held).tell (owned_says (by_number s held)) past (Piece c moment (take place.taken piece)) (length turned.2.front)
        ≡ output_cut s.limits (by_number s held).tell (owned_says (by_number s held)) past (Piece c moment (take place.taken piece)) (length turned.2.front)
    quiet late =
        let other = turns offers (numbering s late held) grow calls old new past c moment piece now out mid was link r place (rests-known s offers nothing_yet late held held calls old past (λ i less. refl) h.rests) are idle same at then-at stood live some within reaches in
        let written : other.0 ≡ turned.0 = append_cancel_left out other.0 turned.0 (sym other.1 ∙ turned.1) in
        let ours = ap (λ (xs : List (Arrival Wanted)). length xs) turned.2.completes in
        let theirs = ap (λ (xs : List (Arrival Wanted)). length xs) other.2.completes in
        let a = length-append turned.2.front (turned.2.last ∷ []) in
        let b = length-append other.2.front (other.2.last ∷ []) in
        let many : length turned.2.front ≡ length other.2.front = omega (arith, ours, theirs, a, b) in
        ap (λ (n : ℕ). output_cut s.limits (numbering s late held).tell (owned_says (by_number s held)) past (Piece c moment (take place.taken piece)) n) many ∙ sym other.2.out ∙ written ∙ turned.2.out

    whose : (i : ℕ) × ((table_step (Numbered s) (table_after (Numbered s) (Tally s past) turned.2.front) turned.2.last).1 ≡ Ok i) × (held i ≡ parked r.number)
    whose = parked-of held r.number (table_step (Numbered s) (table_after (Numbered s) (Tally s past) turned.2.front) turned.2.last).1 turned.2.says

    whose-taken : whose.0 < length calls
    whose-taken =
        let t = turned.2 in
        let u = table_after (Numbered s) (Tally s past) t.front in
        let below : AreBelow (length u.state) u.entries = after-below (asked_at s.terms) s.capacity s.share (Tally s past) t.front (below-past s past) in
        let less = answered-below u t.last whose.0 below (t.then ∙ sym t.before) whose.1 in
        subst (λ (l : List Call). whose.0 < length l) t.before less

    parked-then : (p : Parked) × (parked_at old r.number ≡ Some p)
    parked-then = there-is (parked_at old r.number) (h.parks.there whose.0 r.number whose-taken whose.2)

    joined-so : Joins old.places.joined c goes r parked-then.0 (parked_at new r.number) step mid grown
    joined-so = joins-as old.places.joined c goes r parked-then.0 (parked_at old r.number) (parked_at new r.number) step mid grown parked-then.1 joins

    abbrev Fed : Event
    Fed = Piece c moment (take place.taken piece)

    -- it waits, or is told that it can't
    pub repeats-late : goes ≡ going_in new.links → get nat_cmp new.links c ≡ Some link → (n : ℕ) → counted_by place.handled step ≡ Ok n → RepeatsLate offers s held calls past waiting c moment piece place.taken new out grown
    unfolding turned
    repeats-late goes-are link-is n by =
        let t = turned.2 in
        let p = parked-then.0 in
        let j = joined-so in
        let apart = handled-step place.handled n step by in
        let past2 = Fed ∷ past in
        let g2 = goes_on s.limits past2 in
        let placed = not (nat_lt old.places.joined (length (on_going goes p.waiters.items))) in
        let put = said-put old.places.joined c (s.terms (changes past)).knows (origin past c) goes r p j.next j.join step mid grown j.by j.said apart in
        let ends = turns-end offers (numbering s (unless_placed placed (s.terms (changes past)).knows) held) grow calls old new past c moment piece now out mid was link r place (rests-known s offers nothing_yet (unless_placed placed (s.terms (changes past)).knows) held held calls old past (λ i less. refl) h.rests) are idle same at then-at stood live some within reaches grown step n link-is put by in
        let rests = rests-known s offers (unless_placed placed (s.terms (changes past)).knows) nothing_yet held held calls new past2 (λ i less. refl) ends.rests in
        let go : goes ≡ g2 = goes-are ∙ links-go nothing_yet held calls new past2 rests in
        let old-tally = tally-is nothing_yet held calls old past h.rests in
        let between : Engine C = record new { parked = old.parked } in
        let later = parks-later s stay held calls old between past Fed Done (asks_in old) (asks_in new) waiting old-tally h.parks places (omega (arith, asks)) refl in
        let listed = still-later s stay past Fed Done p.waiters.items (waiting r.number) (h.parks.lists r.number p parked-then.1) (h.parks.opened r.number p parked-then.1) in
        let own : List Waiter = if is_wished t.question.wish && placed then waiter_of c t.question ∷ [] else [] in
        let joined : on_going goes j.next.waiters.items ≡ on_going goes (p.waiters.items ++ own) = joined-list old.places.joined c goes r p j.next j.join step mid grown j.by j.said apart t.question t.asker in
        let list : on_going g2 j.next.waiters.items ≡ on_going g2 (waiting r.number ++ own) =
        subst (λ (g : ℕ → Bool). on_going g j.next.waiters.items ≡ on_going g (p.waiters.items ++ own)) go joined
        ∙ going-append g2 p.waiters.items own ∙ ap (λ (l : List Waiter). l ++ on_going g2 own) listed.0 ∙ sym (going-append g2 (waiting r.number) own) in
        let there : is_gone (line past c) ≡ false = there-by s.limits was (line past c) (subst (λ (o : Option Linked). IsFor s.limits o (line past c)) stood (h.rests.stands.lines c)) in
        let opened = joined-opened old.places.joined c goes r p j.next j.join j.by (was_opened past2) listed.1 (ap not (counts-later past Fed c (was-counted past c there))) in
        let parks = parks-put held calls between new past2 (asks_in new) (still s.limits past2 waiting) later refl r.number p j.next (on_going g2 (waiting r.number ++ own)) parked-then.1 j.is others (joined-same old.places.joined c goes r p j.next j.join j.by) list opened in
        record {
          front = t.front;
          last = t.last;
          completes = t.completes;
          short = turns-short offers (numbering s nothing_yet held) grow calls old new past c moment piece now out mid was link r place h.rests are idle same at then-at stood live some within reaches;
          question = t.question;
          content = t.content;
          i = whose.0;
          number = r.number;
          is_parked = whose.2;
          says = whose.1;
          quiet = quiet;
          placed = placed;
          place_is = (let same-list : on_going goes p.waiters.items ≡ still s.limits past2 waiting r.number = ap (λ (g : ℕ → Bool). on_going g p.waiters.items) go ∙ listed.0 in λ i. not (nat_lt ((h.parks.places i).joined) (length (same-list i))));
          ends = ends;
          stays = record { rests = rests; parks = subst (λ (f : ℕ → List Waiter). Parks s held calls new past2 (asks_in new) f) (still-put past2 r.number (waiting r.number ++ own) waiting) parks };
        }

    -- nothing came of it, and its connection is lost
    pub repeats-cut : get nat_cmp new.links c ≡ None → (cut : Cut) → counted_by place.handled step ≡ Err cut → ((d : ℕ) → going_in new.links d ≡ true → goes d ≡ true) → EndsLate offers s held calls past waiting (Piece c moment piece) (Memory cut.handled cut.answered) new out grown
    repeats-cut gone cut by fewer =
        let p = parked-then.0 in
        let j = joined-so in
        let k = cut-step j.join r.asker place.handled step cut mid grown j.said by in
        let note = Memory cut.handled cut.answered in
        let past2 = after s.limits past (Piece c moment piece) note in
        let g2 = goes_on s.limits past2 in
        let each : (late : Later) → EndsOf offers (numbering s late held) calls past (Piece c moment piece) note new out grown = λ late.
        subst (λ (x : Cut). EndsOf offers (numbering s late held) calls past (Piece c moment piece) (Memory x.handled x.answered) new out grown) (sym k.2)
        (subst (λ (l : List ℕ). EndsOf offers (numbering s late held) calls past (Piece c moment piece) (Memory place.handled place.handled) new out l) (sym k.1)
        (turns-left offers (numbering s late held) grow calls old new past c moment piece now out mid was link r place (rests-known s offers nothing_yet late held held calls old past (λ i less. refl) h.rests) are idle same at then-at stood live some within reaches gone)) in
        let rests = (each nothing_yet).rests in
        let go = links-go nothing_yet held calls new past2 rests in
        let between : Engine C = record new { parked = old.parked } in
        let later = parks-later s stay held calls old between past (Piece c moment piece) note (asks_in old) (asks_in new) waiting (tally-is nothing_yet held calls old past h.rests) h.parks places (omega (arith, asks)) refl in
        let listed = still-later s stay past (Piece c moment piece) note p.waiters.items (waiting r.number) (h.parks.lists r.number p parked-then.1) (h.parks.opened r.number p parked-then.1) in
        let kept = cut-list old.places.joined c goes r p j.next j.join place.handled step cut mid grown j.by j.said by in
        let down : (d : ℕ) → g2 d ≡ true → goes d ≡ true = λ d up. fewer d (ap (λ (g : ℕ → Bool). g d) go ∙ up) in
        let list : on_going g2 j.next.waiters.items ≡ still s.limits past2 waiting r.number =
        sym (on-going-twice goes g2 j.next.waiters.items (all-down goes g2 down j.next.waiters.items)) ∙ ap (on_going g2) kept.0 ∙ on-going-twice goes g2 p.waiters.items (all-down goes g2 down p.waiters.items) ∙ listed.0 in
        let parks = parks-put held calls between new past2 (asks_in new) (still s.limits past2 waiting) later refl r.number p j.next (still s.limits past2 waiting r.number) parked-then.1 j.is others (joined-same old.places.joined c goes r p j.next j.join j.by) list (kept.1 (was_opened past2) listed.1) in
        record {
          ends = each;
          stays = record { rests = rests; parks = subst (λ (f : ℕ → List Waiter). Parks s held calls new past2 (asks_in new) f) (put-same r.number (still s.limits past2 waiting)) parks };
        }

-- where one link is gone no other goes on
pub fewer-go : (old new : BTreeMap ℕ Linked) (c : ℕ) → ((q : ℕ) → (c == q) ≡ false → get nat_cmp new q ≡ get nat_cmp old q) → get nat_cmp new c ≡ None → (d : ℕ) → going_in new d ≡ true → going_in old d ≡ true
fewer-go old new c others gone d up = by (c == d) refl
  where
    by : (b : Bool) → (c == d) ≡ b → going_in old d ≡ true
    by true is = absurd (let no : false ≡ true = sym (ap (λ (o : Option Linked). option_map_or (λ (x : Linked). not x.is_closed) o false) (ap (get nat_cmp new) (sym (eqb-true c d is)) ∙ gone)) ∙ up in cc)
    by false is = sym (ap (λ (o : Option Linked). option_map_or (λ (x : Linked). not x.is_closed) o false) (others d is)) ∙ up
