-- What an engine does is a deed: each call takes it from a ledger to the next.
use Rattle.std.proofs.Common.{◌≡◌, ◌==◌, ℕ, ◌+◌, ◌<◌, ◌≤◌, nat_lt, Bool, true, false, cond, ◌&&◌, List, [], ◌∷◌, ◌++◌, flat_map, length, map, take, if◌then◌else◌, Option, Some, None, IsSome, Result, Ok, Err, IfErr, OnErr, OnOk, refl, sym, ap, subst, ◌∙◌, arith, append_assoc, length-append}
use Rattle.std.specs.List.{list_any}
use Rattle.std.specs.Option.{option_map}
use Rattle.std.proofs.lemmas.Bool.{eqb-true, ne_eqb}
use Rattle.std.proofs.lemmas.Grind.{flat_map-append}
use Rattle.std.proofs.lemmas.List.{append-nil, map-append}
use Rattle.giop_link.specs.Hearing.{Question, meaning_in}
use Rattle.giop_link.specs.Laws.{EndingsStay}
use Rattle.ft_log.specs.Holding.{Holding, known, parked}
use Rattle.ft_log.specs.Keys.{RequestKey, same_key}
use Rattle.ft_log.specs.Kept.{KeptOutcome, kept_for, keys_of, unexpired}
use Rattle.ft_log.specs.Performed.{Performed}
use Rattle.ft_log.specs.declared.system_exception.SystemName.{SystemName}
use Rattle.ft_log.specs.declared.system_exception.SystemName.TheVariants.{BadContext}
use Rattle.ft_objects.specs.Catalogues.{Offer}
use Rattle.ft_objects.specs.Interfaces.{IsAnswerOf}
use Rattle.ft_objects.specs.Replies.{IsRenderable}
use Rattle.ft_orb.specs.declared.deeds.Deed.{Deed as CodeDeed}
use Rattle.ft_orb.specs.declared.deeds.Deed.TheVariants as code
use Rattle.ft_orb.specs.declared.engine.Engine.{Engine}
use Rattle.ft_orb.specs.declared.engine.Fed.{Fed}
use Rattle.ft_orb.specs.declared.engine.Fed.TheVariants as fed
use Rattle.ft_orb.specs.declared.error.ServeError.{ServeError}
use Rattle.ft_orb.specs.declared.error.ServeError.TheVariants as serving
use Rattle.ft_orb.specs.declared.events.Event.{Event as CodeEvent}
use Rattle.ft_orb.specs.declared.events.Note.{Note}
use Rattle.ft_orb.specs.declared.events.Note.TheVariants.{Done, Memory}
use Rattle.ft_orb.specs.declared.events.Written.{Written}
use Rattle.ft_orb.specs.declared.parked.Parked.{Parked as CodeParked}
use Rattle.ft_orb.specs.declared.parked.Places.{Places}
use Rattle.ft_orb.specs.declared.parked.Waiter.{Waiter}
use Rattle.ft_orb.specs.Deeds.{Answered, AnsweredUnkept, AreTaken, AreTold, Asking, Deed, GivenUp, Happened, HasPlace, IsDeed, IsFor, IsFree, IsUnawaited, Joined, Ledger, Missed, Parked, Reached, Runs, Settled, SettledUnkept, Stopped, Told, Wrote, after_deed, after_deeds, changing, note_told, notes_of, opening, piece_of, reply_to, rest_of, told_all, told_one, without_call}
use Rattle.ft_orb.specs.DeedsPlayed.{AreOf, Holds, LeaveAtLast, RunsAreAnsweredLate, IsDone, IsOf, IsTold, Shows, StandsAt, left_after, left_fed, left_of}
use Rattle.ft_orb.specs.Counts.{waiters_on}
use Rattle.ft_orb.specs.Engines.{Awaited, CanAnswer, IsNumbered, asks_in, awaited_of, waits_in}
use Rattle.ft_orb.specs.ExactlyOnce.{Absent, Arrival, Bad, Field, OneExpiration, Present, Rules, state_after, state_of}
use Rattle.ft_orb.specs.History.{Changed, Close, Event, KeepsAll, Lost, Piece, Withdrew, arrivals, completed, connection_of, event_of, changes}
use Rattle.ft_orb.specs.Now.{performed_now}
use Rattle.ft_orb.specs.Outputs.{Noted, after, noted, output_cut}
use Rattle.ft_orb.specs.Owners.{owned_rules, owned_says, owned_table, owner_rules}
use Rattle.ft_orb.specs.Parked.{is_wished, on_going}
use Rattle.ft_orb.specs.Parking.{AreParked, AsksLate, CanSettle, DeclinesLate, EndsLate, FeedsLate, IsDueLate, IsSettled, Parks, RepeatsLate, RepliesLate, ResumesLate, Settings, Stays, StopsLate, WithdrawsLate, by_number, goes_on, numbering, parked_at, parked_in, parked_count, parked_of, places_of, places_of_one, put_at, still, told_in, told_of as outcome_of, waiter_of, waits_on, own_of}
use Rattle.ft_orb.specs.Requests.{Call, Wanted, Terms, asked_at}
use Rattle.ft_orb.specs.Standing.{note_of}
use Rattle.ft_orb.specs.Table.{Table, forgotten, keyed_step, performing_step, step_by_field, table_after, table_step}
use Rattle.ft_orb.specs.Tellings.{Later, nothing_yet}
use Rattle.ft_orb.proofs.Books.{book_by, kept-folded}
use Rattle.ft_orb.proofs.Declined.{pasts-stand}
use Rattle.ft_orb.proofs.Folded.{table_after-append}
use Rattle.ft_orb.proofs.Headline.{past_stands_by}
use Rattle.ft_orb.proofs.Late.{below-past, links-go, tally-is}
use Rattle.ft_orb.proofs.Ledgers.{answered-are-known, calls-are-taken, settled-unkept-are-known, answered-unkept-are-known, runs-join, theirs-later, told-are-known, told-once, twice, unkept-later}
use Rattle.ft_orb.proofs.Acts.{asks-acts, one-question, same-front}
use Rattle.ft_orb.proofs.Placed.{all-within, came-within, count-same, nobody-under}
use Rattle.ft_orb.proofs.Numbers.{AreBelow, after-below, all-filter}
use Rattle.ft_orb.proofs.Said.{past_now_by}

-- The number that a table answers is that of a call that was taken.
module _ (ask : Wanted → Result Call SystemName) (capacity share : ℕ) where
  abbrev Numbered : Rules (List Call) Wanted Call ℕ
  Numbered = owner_rules ask (λ calls call. length calls) capacity share

  kept-below : (m : ℕ) (key : RequestKey) (es : List (KeptOutcome ℕ)) (i : ℕ) → AreBelow m es → kept_for key es ≡ Some i → i < m
  kept-below m key [] i h is = absurd cc
  kept-below m key (e ∷ es) i h is = by (same_key key e.key) (λ more. kept-below m key es i h.1 more) is
    where
      by : (b : Bool) → (kept_for key es ≡ Some i → i < m) → cond b (Some e.outcome) (kept_for key es) ≡ Some i → i < m
      by true more is = let same : e.outcome ≡ i = cc in subst (λ (k : ℕ). k < m) same h.0
      by false more is = more is

  performing-below : (t : Table (List Call) ℕ) (key : RequestKey) (x : ℕ) (call : Call) (room : Bool) (i : ℕ) → (performing_step Numbered t key x call room).1 ≡ Ok i → i < length (performing_step Numbered t key x call room).0.state
  performing-below t key x call false i is = absurd cc
  performing-below t key x call true i is = let same : length t.state ≡ i = cc in let size = length-append t.state (call ∷ []) in omega (arith, same, size)

  keyed-below : (t : Table (List Call) ℕ) (key : RequestKey) (x : ℕ) (asked : Result Call SystemName) (kept : Option ℕ) (i : ℕ) → ((k : ℕ) → kept ≡ Some k → k < length t.state) → (keyed_step Numbered t key x asked kept).1 ≡ Ok i
      → i < length (keyed_step Numbered t key x asked kept).0.state
  keyed-below t key x asked (Some outcome) i h is = let same : outcome ≡ i = cc in subst (λ (k : ℕ). k < length t.state) same (h outcome refl)
  keyed-below t key x (Err refusal) None i h is = absurd cc
  keyed-below t key x (Ok call) None i h is = performing-below t key x call (Numbered.has_room key (keys_of t.entries)) i is

  field-below : (t : Table (List Call) ℕ) (clock : ℕ) (asked : Result Call SystemName) (f : Field) (i : ℕ) → AreBelow (length t.state) t.entries → (step_by_field Numbered t clock asked f).1 ≡ Ok i → i < length (step_by_field Numbered t clock asked f).0.state
  field-below t clock asked Bad i h is = absurd cc
  field-below t clock (Err refusal) Absent i h is = absurd cc
  field-below t clock (Ok call) Absent i h is = let same : length t.state ≡ i = cc in let size = length-append t.state (call ∷ []) in omega (arith, same, size)
  field-below t clock asked (Present key x) i h is = by (nat_lt x clock) is
    where
      by : (b : Bool) → (cond b (t, Err BadContext) (keyed_step Numbered (forgotten clock t) key x asked (kept_for key (unexpired clock t.entries)))).1 ≡ Ok i
          → i < length (cond b (t, Err BadContext) (keyed_step Numbered (forgotten clock t) key x asked (kept_for key (unexpired clock t.entries)))).0.state
      by true is = absurd cc
      by false is = keyed-below (forgotten clock t) key x asked (kept_for key (unexpired clock t.entries)) i (λ k found. kept-below (length t.state) key (unexpired clock t.entries) k (all-filter (λ e. e.outcome < length t.state) clock t.entries h) found) is

  step-below : (t : Table (List Call) ℕ) (a : Arrival Wanted) (i : ℕ) → AreBelow (length t.state) t.entries → (table_step Numbered t a).1 ≡ Ok i → i < length (table_step Numbered t a).0.state
  step-below t a i h is = field-below t a.clock (Numbered.asked a.content) a.field i h is

module _ {C : Type 0} (offers : C → Offer) (s : Settings) where
  -- so it is after what changes none of it
  shows-on : (asked : ℕ) (there : ℕ → Option Awaited) (old new : Engine C) → Shows offers s asked there old → AreParked old new → asks_in new ≡ asks_in old → Shows offers s asked there new
  shows-on asked there old new x are same = record { asked = same ∙ x.asked; there = λ n. (are n).0 ∙ x.there n; told = λ n. (are n).1 ∙ x.told n }

  untold : (e : Engine C) (n : ℕ) → parked_in e n ≡ None → told_in e n ≡ None
  untold e n = by (parked_at e n)
    where
      by : (o : Option CodeParked) → option_map (λ (p : CodeParked). awaited_of p.pending) o ≡ None → outcome_of o ≡ None
      by None is = refl
      by (Some p) is = absurd cc

  -- no request waits
  pub record Resting (g : Ledger) (e : Engine C) : Type 0 where
    pub shows : Shows offers s g.asked g.there e
    pub none : g.asking ≡ None
    pub stays : Stays offers s g.held g.calls e g.past g.waiting
    pub nobody : (n : ℕ) → g.there n ≡ None → g.waiting n ≡ []

  pub resting : (g : Ledger) (e : Engine C) → Holds offers s g e → waits_in e ≡ None → Resting g e
  resting g e h idle = by g.asking refl h.stands
    where
      by : (o : Option Asking) → g.asking ≡ o → StandsAt offers s g o e → Resting g e
      by None is st = record { shows = h.shows; none = is; stays = st; nobody = h.nobody }
      by (Some a) is st = absurd (let both : Some a.request ≡ None = sym st.0.asks.waits ∙ idle in cc)

  -- a request waits
  pub record Awaiting (g : Ledger) (e : Engine C) : Type 0 where
    pub shows : Shows offers s g.asked g.there e
    pub a : Asking
    pub is : g.asking ≡ Some a
    pub asks : AsksLate offers s g.held g.calls e g.past g.waiting a.moment a.octets a.written a.request
    pub question : asks.asks.question ≡ a.question
    pub nobody : (n : ℕ) → g.there n ≡ None → g.waiting n ≡ []

  pub awaiting : (g : Ledger) (e : Engine C) (w : Awaited) → Holds offers s g e → waits_in e ≡ Some w → (x : Awaiting g e) × (x.a.request ≡ w)
  awaiting g e w h waits = by g.asking refl h.stands
    where
      by : (o : Option Asking) → g.asking ≡ o → StandsAt offers s g o e → (x : Awaiting g e) × (x.a.request ≡ w)
      by None is st = absurd (let both : Some w ≡ None = sym waits ∙ st.rests.idle in cc)
      by (Some a) is st = (record { shows = h.shows; a = a; is = is; asks = st.0; question = st.1; nobody = h.nobody }, let both : Some a.request ≡ Some w = sym st.0.asks.waits ∙ waits in cc)

  still-none : (past : List Event) (waiting : ℕ → List Waiter) (n : ℕ) → waiting n ≡ [] → still s.limits past waiting n ≡ []
  still-none past waiting n is = ap (on_going (goes_on s.limits past)) is

  put-none : (m : ℕ) (list : List Waiter) (waiting : ℕ → List Waiter) (n : ℕ) → (n == m) ≡ false → waiting n ≡ [] → put_at m list waiting n ≡ []
  put-none m list waiting n apart is = ap (λ (b : Bool). cond b list (waiting n)) apart ∙ is

  -- nobody waits under a number that no request had before
  under-later : (g : Ledger) (e : Engine C) (bound : ℕ) → Shows offers s g.asked g.there e → Parks s g.held g.calls e g.past bound g.waiting → ((n : ℕ) → g.there n ≡ None → g.waiting n ≡ []) → (n : ℕ) → bound ≤ n → g.waiting n ≡ []
  under-later g e bound shows parks nobody n late = by (parked_at e n) refl
    where
      by : (o : Option CodeParked) → parked_at e n ≡ o → g.waiting n ≡ []
      by None is = nobody n (sym (shows.there n) ∙ ap (λ (o : Option CodeParked). option_map (λ (p : CodeParked). awaited_of p.pending) o) is)
      by (Some p) is = absurd (let x = parks.call n p is in let low = parks.below x.0 n x.1 x.2 in omega (arith, low, late))

  -- what is parked lies under its number
  there-is : (g : Ledger) (e : Engine C) → Resting g e → (i n : ℕ) → i < length g.calls → g.held i ≡ parked n → g.there n ≡ None → ⊥
  there-is g e r i n less is none = by (parked_at e n) (r.stays.parks.there i n less is) (r.shows.there n ∙ none)
    where
      by : (o : Option CodeParked) → IsSome o → option_map (λ (p : CodeParked). awaited_of p.pending) o ≡ None → ⊥
      by None some none = absurd (let no : false ≡ true = some in cc)
      by (Some p) some none = absurd cc

  apart-from : (g : Ledger) (m n : ℕ) → (g.there m ≡ None → ⊥) → g.there n ≡ None → (n == m) ≡ false
  apart-from g m n some none = ne_eqb n m (λ same. some (subst (λ (k : ℕ). g.there k ≡ None) same none))

  -- nobody waits on a connection where none is counted
  pub unawaited : (g : Ledger) (e : Engine C) → Resting g e → (c : ℕ) → waits_on e c ≡ 0 → IsUnawaited (Close c) g.waiting
  unawaited g e r c none n = by (parked_at e n) refl
    where
      by : (o : Option CodeParked) → parked_at e n ≡ o → list_any (λ (w : Waiter). w.connection == c) (g.waiting n) ≡ false
      by None is = ap (λ (l : List Waiter). list_any (λ (w : Waiter). w.connection == c) l) (r.nobody n (sym (r.shows.there n) ∙ ap (λ (o : Option CodeParked). option_map (λ (p : CodeParked). awaited_of p.pending) o) is))
      by (Some p) is = subst (λ (l : List Waiter). list_any (λ (w : Waiter). w.connection == c) l ≡ false) (r.stays.parks.lists n p is)
          (nobody-under c e.parked.requests (goes_on s.limits g.past) (ap (λ (f : ℕ → Bool). cond (f c) (waiters_on e.parked.requests c) 0) (sym (links-go offers s nothing_yet g.held g.calls e g.past r.stays.rests)) ∙ none) n p is)

  -- there is a place for a request where the engine counts so
  placed : (g : Ledger) (e : Engine C) (x : Awaiting g e) → parked_count e < places_of e → parked_of e x.a.request.connection < places_of_one e → HasPlace s g x.a.request
  placed g e x few fair =
      let all = count-same (λ w. true) g.there (λ q. parked_in e q) g.asked (λ q less. sym (x.shows.there q)) in
      let ours = count-same (λ (w : Awaited). w.connection == x.a.request.connection) g.there (λ q. parked_in e q) g.asked (λ q less. sym (x.shows.there q)) in
      let in_all = all-within e.parked.requests.entries g.asked in
      let of_one = came-within e.parked.requests x.a.request.connection g.asked in
      let most : places_of e ≡ s.places.parked = ap (λ (p : Places). p.parked) x.asks.parks.places in
      let most_of_one : places_of_one e ≡ s.places.of_one = ap (λ (p : Places). p.of_one) x.asks.parks.places in
      (omega (arith, all, in_all, most, few), omega (arith, ours, of_one, most_of_one, fair))

  -- An event, to its end.
  pub ends-deed : (g : Ledger) (old new : Engine C) → Resting g old → (e : Event) (note : Note) (before out : List ℕ) → before ≡ [] → EndsLate offers s g.held g.calls g.past g.waiting e note new before out → AreParked old new → asks_in new ≡ asks_in old → IsUnawaited e g.waiting
      → notes_of (Happened e out note) ≡ record { connection = connection_of e; octets = out; note = note } ∷ [] → (told : CodeDeed) → IsOf told (Happened e out note) → IsDone offers s g told None (record { connection = connection_of e; octets = out; note = note } ∷ []) new
  ends-deed g old new r e note before out none x are asks free on told of = (
    Happened e out note,
    of,
    (r.none, λ late. let y = x.ends late in subst (λ (l : List ℕ). Wrote s late g.held g.past e l note) (sym (y.appended ∙ ap (λ (l : List ℕ). l ++ y.written) none)) y.writes, x.stays.rests.stands.table.state, free),
    on,
    refl,
    record { stands = x.stays; nobody = λ n is. still-none (after s.limits g.past e note) g.waiting n (r.nobody n is); shows = shows-on g.asked g.there old new r.shows are asks },
  )

  pub lost-deed : (g : Ledger) (old new : Engine C) → Resting g old → (c : ℕ) → Stays offers s g.held g.calls new (Lost c ∷ g.past) (still s.limits (Lost c ∷ g.past) g.waiting) → AreParked old new → asks_in new ≡ asks_in old
      → (told : CodeDeed) → IsOf told (Happened (Lost c) [] Done) → IsDone offers s g told None (record { connection = c; octets = []; note = Done } ∷ []) new
  lost-deed g old new r c x are asks told of = (
    Happened (Lost c) [] Done,
    of,
    (r.none, λ late. (refl, refl), x.rests.stands.table.state, tt),
    refl,
    refl,
    record { stands = x; nobody = λ n is. still-none (Lost c ∷ g.past) g.waiting n (r.nobody n is); shows = shows-on g.asked g.there old new r.shows are asks },
  )

  -- what is served has changed
  pub changed-deed : (g : Ledger) (old new : Engine C) → Resting g old → Stays offers s g.held g.calls new (Changed ∷ g.past) g.waiting → AreParked old new → asks_in new ≡ asks_in old
      → IsDeed s g changing × ((n : ℕ) → (after_deed s g changing).waiting n ≡ g.waiting n) × Holds offers s (after_deed s g changing) new
  changed-deed g old new r x are asks = (
    (r.none, λ late. (refl, refl), x.rests.stands.table.state, tt),
    on,
    record {
      stands = subst (λ (f : ℕ → List Waiter). Stays offers s g.held g.calls new (Changed ∷ g.past) f) (sym same) x;
      nobody = λ n is. still-none (Changed ∷ g.past) g.waiting n (r.nobody n is);
      shows = shows-on g.asked g.there old new r.shows are asks;
    },
  )
    where
      by : (n : ℕ) (o : Option CodeParked) → parked_at old n ≡ o → on_going (goes_on s.limits g.past) (g.waiting n) ≡ g.waiting n
      by n None is =
          let none = r.nobody n (sym (r.shows.there n) ∙ ap (λ (o : Option CodeParked). option_map (λ (p : CodeParked). awaited_of p.pending) o) is) in
          ap (on_going (goes_on s.limits g.past)) none ∙ sym none
      by n (Some p) is =
          let lists = r.stays.parks.lists n p is in
          ap (on_going (goes_on s.limits g.past)) (sym lists) ∙ twice (goes_on s.limits g.past) p.waiters.items ∙ lists

      on : (n : ℕ) → still s.limits (Changed ∷ g.past) g.waiting n ≡ g.waiting n
      on n = by n (parked_at old n) refl

      same : still s.limits (Changed ∷ g.past) g.waiting ≡ g.waiting
      same i n = on n i

  -- A part of a piece, up to a request that waits now, ..
  stops-deed : (g : Ledger) (old new : Engine C) → Resting g old → (c moment : ℕ) (piece : List ℕ) (taken : ℕ) (before out : List ℕ) → before ≡ [] → StopsLate offers s g.held g.calls g.past g.waiting c moment piece taken new before out
      → AreParked old new → (asks_in new ≡ asks_in old + 1) × (option_map (λ (w : Awaited). w.number) (waits_in new) ≡ Some (asks_in old)) → (e : CodeEvent) → event_of e ≡ Piece c moment piece
      → IsDone offers s g (code.Event e) (left_after taken (length piece)) (record { connection = c; octets = out; note = Done } ∷ []) new
  stops-deed g old new r c moment piece taken before out none x are numbered e of =
      let number = numbered.1 in
      let y = x.stops nothing_yet in
      let z = x.asks in
      let w : Awaited = record { number = y.number; connection = c; call = y.call; field = y.field; refused = y.refused } in
      let same : z.3.number ≡ y.number = (let both : Some z.3 ≡ Some w = sym z.5.asks.waits ∙ y.asks.waits in let eq : z.3 ≡ w = cc in ap (λ (v : Awaited). v.number) eq) in
      let first : y.number ≡ asks_in old = (let both : Some y.number ≡ Some (asks_in old) = ap (λ (o : Option Awaited). option_map (λ (w : Awaited). w.number) o) (sym y.asks.waits) ∙ number in cc) in
      let wrote : y.written ≡ out = sym (y.appended ∙ ap (λ (l : List ℕ). l ++ y.written) none) in
      let acts = asks-acts offers (by_number s g.held) g.calls new g.past moment (take taken piece) y.written w y.asks in
      let octets-of : (late : Later) → y.written ≡ output_cut s.limits (numbering s late g.held).tell (owned_says (numbering s late g.held)) g.past (Piece c moment (take taken piece)) (length y.asks.front) = λ late.
      (let z = x.stops late in
      let same : z.written ≡ out = sym (z.appended ∙ ap (λ (l : List ℕ). l ++ z.written) none) in
      let fronts = same-front z.asks.front y.asks.front z.asks.last y.asks.last (sym z.asks.completes ∙ y.asks.completes) in
      wrote ∙ sym same ∙ z.asks.out ∙ ap (λ (l : List (Arrival Wanted)). output_cut s.limits (numbering s late g.held).tell (owned_says (numbering s late g.held)) g.past (Piece c moment (take taken piece)) (length l)) fronts) in (
        Stopped (record { connection = c; moment = moment; piece = piece; taken = taken }) y.written w y.asks.question,
        of,
        (r.none, record { connection = refl; number = first ∙ r.shows.asked; front = y.asks.front; last = y.asks.last; completes = y.asks.completes; short = y.short; content = y.asks.content; asks = y.asks.asks; field = y.asks.field; refused = y.asks.refused; out = octets-of; before = acts.0; acts = acts.1 }),
        ap (λ (l : List ℕ). record { connection = c; octets = l; note = Done } ∷ []) wrote,
        refl,
        record {
          stands = (
            record {
              asks = y.asks;
              below = subst (λ (k : ℕ). k < asks_in new) same z.5.below;
              parks = subst (λ (k : ℕ). Parks s g.held g.calls new g.past k g.waiting) same z.5.parks;
            },
            refl,
          );
          nobody = r.nobody;
          shows = record { asked = numbered.0 ∙ ap (λ (k : ℕ). k + 1) r.shows.asked; there = λ n. (are n).0 ∙ r.shows.there n; told = λ n. (are n).1 ∙ r.shows.told n };
        },
      )

  -- .. or to a repeat of one that is parked.
  repeats-deed : (g : Ledger) (old new : Engine C) → Resting g old → (c moment : ℕ) (piece : List ℕ) (taken : ℕ) (before out : List ℕ) → before ≡ [] → RepeatsLate offers s g.held g.calls g.past g.waiting c moment piece taken new before out
      → AreParked old new → asks_in new ≡ asks_in old → (e : CodeEvent) → event_of e ≡ Piece c moment piece
      → IsDone offers s g (code.Event e) (left_after taken (length piece)) (record { connection = c; octets = out; note = Done } ∷ []) new
  repeats-deed g old new r c moment piece taken before out none x are asks e of =
      let joined = if is_wished x.question.wish && x.placed then waiter_of c x.question ∷ [] else [] in
      let now : List Event = Piece c moment (take taken piece) ∷ g.past in
      let wrote : x.ends.written ≡ out = sym (x.ends.appended ∙ ap (λ (l : List ℕ). l ++ x.ends.written) none) in
      let rules = owned_rules (by_number s g.held) in
      let mid = table_after rules (owned_table (by_number s g.held) g.past) x.front in
      let all : owned_table (by_number s g.held) now ≡ (table_step rules mid x.last).0 =
      ap (λ (xs : List (Arrival Wanted)). table_after rules (owned_table (by_number s g.held) g.past) xs) x.completes
      ∙ table_after-append rules (owned_table (by_number s g.held) g.past) x.front (x.last ∷ []) in
      let low : x.i < length (table_step rules mid x.last).0.state = step-below (asked_at s.terms) s.capacity s.share mid x.last x.i (after-below (asked_at s.terms) s.capacity s.share (owned_table (by_number s g.held) g.past) x.front (below-past s g.past)) x.says in
      let count : length (table_step rules mid x.last).0.state ≡ length g.calls = ap (λ (t : Table (List Call) ℕ). length t.state) (sym all) ∙ ap (λ (l : List Call). length l) (tally-is offers s nothing_yet g.held g.calls new now x.stays.rests) in
      let there = there-is g old r x.i x.number (omega (arith, low, count)) x.is_parked in (
        Joined (record { connection = c; moment = moment; piece = piece; taken = taken }) x.ends.written x.number joined,
        of,
        (
          r.none,
          record {
            front = x.front;
            last = x.last;
            completes = x.completes;
            short = x.short;
            question = x.question;
            content = x.content;
            i = x.i;
            taken = omega (arith, low, count);
            is_parked = x.is_parked;
            says = x.says;
            quiet = x.quiet;
            placed = x.placed;
            place_is = x.place_is;
            joined_are = refl;
            wrote = x.ends.writes;
          },
          x.stays.rests.stands.table.state,
        ),
        ap (λ (l : List ℕ). record { connection = c; octets = l; note = Done } ∷ []) wrote,
        refl,
        record {
          stands = x.stays;
          nobody = λ n is. still-none now (put_at x.number (g.waiting x.number ++ joined) g.waiting) n (put-none x.number (g.waiting x.number ++ joined) g.waiting n (apart-from g x.number n there is) (r.nobody n is));
          shows = shows-on g.asked g.there old new r.shows are asks;
        },
      )

  pub feeds-deed : (g : Ledger) (old new : Engine C) → Resting g old → (c moment : ℕ) (piece : List ℕ) (result : Result Fed ServeError) (before out : List ℕ) → before ≡ []
      → FeedsLate offers s g.held g.calls g.past g.waiting c moment piece result new before out → AreParked old new → IsNumbered (asks_in old) (asks_in new) result (waits_in new) → (e : CodeEvent) → event_of e ≡ Piece c moment piece
      → IsDone offers s g (code.Event e) (left_fed (length piece) result) (record { connection = c; octets = out; note = note_of result } ∷ []) new
  feeds-deed g old new r c moment piece (Ok fed.Whole) before out none x are number e of = ends-deed g old new r (Piece c moment piece) Done before out none x are number tt refl (code.Event e) (sym of)
  feeds-deed g old new r c moment piece (Ok (fed.Asks taken)) before out none x are number e of = stops-deed g old new r c moment piece taken before out none x are number e of
  feeds-deed g old new r c moment piece (Ok (fed.Repeats taken)) before out none x are number e of = repeats-deed g old new r c moment piece taken before out none x are number e of
  feeds-deed g old new r c moment piece (Err error) before out none x are number e of = ends-deed g old new r (Piece c moment piece) (note_of {A = Fed} (Err error)) before out none x are number tt refl (code.Event e) (sym of)

  fits-here : (g : Ledger) (old : Engine C) (x : Awaiting g old) (o : Performed) → CanAnswer (offers old.offering.catalogue) (waits_in old) x.a.request.number o → IsFor s (s.terms (changes g.past)).interface (Some x.a.request) o
  fits-here g old x o can =
      let y = subst (λ (w : Option Awaited). CanAnswer (offers old.offering.catalogue) w x.a.request.number o) x.asks.asks.waits can in
      (y.1, subst (λ (f : Terms). IsAnswerOf (f.interface x.a.request.call.object_key x.a.request.call.operation) o) x.asks.asks.keeps.offer_is y.2)

  -- The request that waits is answered, parked or given up.
  pub answers-deed : (g : Ledger) (old new : Engine C) (x : Awaiting g old) (o : Performed) (note : Note) (before out : List ℕ) → before ≡ []
      → ResumesLate offers s (put_at (length g.calls) (known o) g.held) (g.calls ++ x.a.request.call ∷ []) g.past g.waiting x.a.request.connection x.a.moment x.a.octets x.a.written note new before out → AreParked old new → asks_in new ≡ asks_in old → CanAnswer (offers old.offering.catalogue) (waits_in old) x.a.request.number o
      → (c : ℕ) → c ≡ x.a.request.connection → (told : CodeDeed) → IsOf told (Answered x.a o out note) → IsDone offers s g told None (record { connection = c; octets = out; note = note } ∷ []) new
  answers-deed g old new x o note before out none y are asks can c at told of =
      let wrote : out ≡ y.resumes.more = y.resumes.appended ∙ ap (λ (l : List ℕ). l ++ y.resumes.more) none in (
        Answered x.a o out note,
        of,
        (x.is, subst (λ (l : List ℕ). Wrote s nothing_yet (put_at (length g.calls) (known o) g.held) g.past (piece_of x.a) (x.a.written ++ l) note) (sym wrote) y.resumes.writes, y.stays.rests.stands.table.state, fits-here g old x o can),
        ap (λ (k : ℕ). record { connection = k; octets = out; note = note } ∷ []) (sym at),
        refl,
        record { stands = y.stays; nobody = λ n is. still-none (after s.limits g.past (piece_of x.a) note) g.waiting n (x.nobody n is); shows = shows-on g.asked g.there old new x.shows are asks },
      )

  pub gives-up-deed : (g : Ledger) (old new : Engine C) (x : Awaiting g old) (handled : ℕ) → ResumesLate offers s g.held g.calls g.past g.waiting x.a.request.connection x.a.moment x.a.octets x.a.written (Memory handled handled) new [] [] → AreParked old new → asks_in new ≡ asks_in old
      → handled + 1 ≡ length (completed s.limits g.past (piece_of x.a))
      → (c : ℕ) → c ≡ x.a.request.connection → (told : CodeDeed) → IsOf told (GivenUp x.a handled) → IsDone offers s g told None (record { connection = c; octets = []; note = Memory handled handled } ∷ []) new
  gives-up-deed g old new x handled y are asks counts c at told of =
      let wrote : x.a.written ++ y.resumes.more ≡ x.a.written = ap (λ (l : List ℕ). x.a.written ++ l) (sym y.resumes.appended) ∙ append-nil x.a.written in (
        GivenUp x.a handled,
        of,
        (x.is, subst (λ (l : List ℕ). Wrote s nothing_yet g.held g.past (piece_of x.a) l (Memory handled handled)) wrote y.resumes.writes, y.stays.rests.stands.table.state, counts),
        ap (λ (k : ℕ). record { connection = k; octets = []; note = Memory handled handled } ∷ []) (sym at),
        refl,
        record { stands = y.stays; nobody = λ n is. still-none (after s.limits g.past (piece_of x.a) (Memory handled handled)) g.waiting n (x.nobody n is); shows = shows-on g.asked g.there old new x.shows are asks },
      )

  pub parks-deed : (g : Ledger) (old new : Engine C) (x : Awaiting g old)
      → ResumesLate offers s (put_at (length g.calls) (parked x.a.request.number) g.held) (g.calls ++ x.a.request.call ∷ []) g.past (put_at x.a.request.number (own_of x.a.request.connection x.asks.asks.question) g.waiting) x.a.request.connection x.a.moment x.a.octets x.a.written Done new [] [] → asks_in new ≡ asks_in old
      → (parked_in new x.a.request.number ≡ waits_in old) × (told_in new x.a.request.number ≡ None)
      → ((q : ℕ) → (q == x.a.request.number) ≡ false → (parked_in new q ≡ parked_in old q) × (told_in new q ≡ told_in old q))
      → parked_count old < places_of old → parked_of old x.a.request.connection < places_of_one old
      → IsDone offers s g code.Park None [] new
  parks-deed g old new x y asks here others few fair =
      let own = own_of x.a.request.connection x.asks.asks.question in
      let n0 = x.a.request.number in
      let now : List Event = piece_of x.a ∷ g.past in
      let goes = goes_on s.limits now in
      let those = on_going goes own in
      let wrote : x.a.written ++ y.resumes.more ≡ x.a.written = ap (λ (l : List ℕ). x.a.written ++ l) (sym y.resumes.appended) ∙ append-nil x.a.written in
      let each : (m : ℕ) → still s.limits now (put_at n0 own g.waiting) m ≡ still s.limits now (put_at n0 those g.waiting) m = λ m.
      (elim (m == n0) as (λ (b : Bool). on_going goes (cond b own (g.waiting m)) ≡ on_going goes (cond b those (g.waiting m))) [ true ↦ sym (twice goes own) | false ↦ refl ]) in
      let free : IsFree s g n0 = record { call = λ i less is. let other = x.asks.parks.below i n0 less is in absurd (omega (arith, other)); nobody = under-later g old n0 x.shows x.asks.parks x.nobody n0 (omega arith) } in
      let same : still s.limits now (put_at n0 own g.waiting) ≡ still s.limits now (put_at n0 those g.waiting) = λ i m. each m i in (
        Parked x.a those,
        tt,
        (x.is, free, ap (λ (q : Question). on_going goes (own_of x.a.request.connection q)) x.question, subst (λ (l : List ℕ). Wrote s nothing_yet (put_at (length g.calls) (parked n0) g.held) g.past (piece_of x.a) l Done) wrote y.resumes.writes, y.stays.rests.stands.table.state, placed g old x few fair),
        refl,
        refl,
        record {
          stands = subst (λ (f : ℕ → List Waiter). Stays offers s (put_at (length g.calls) (parked n0) g.held) (g.calls ++ x.a.request.call ∷ []) new now f) same y.stays;
          nobody = λ n.
              (elim (n == n0) as (λ (b : Bool). (n == n0) ≡ b → cond b (Some x.a.request) (g.there n) ≡ None → still s.limits now (put_at n0 those g.waiting) n ≡ []) [
                | true ↦ λ is none. absurd cc
                | false ↦ λ is none. still-none now (put_at n0 those g.waiting) n (put-none n0 those g.waiting n is (x.nobody n none))
              ]) refl;
          shows = record {
            asked = asks ∙ x.shows.asked;
            there = λ q.
                (elim (q == n0) as (λ (b : Bool). (q == n0) ≡ b → parked_in new q ≡ cond b (Some x.a.request) (g.there q)) [
                  | true ↦ λ is. subst (λ (k : ℕ). parked_in new k ≡ Some x.a.request) (sym (eqb-true q n0 is)) (here.0 ∙ x.asks.asks.waits)
                  | false ↦ λ is. (others q is).0 ∙ x.shows.there q
                ]) refl;
            told = λ q.
                (elim (q == n0) as (λ (b : Bool). (q == n0) ≡ b → told_in new q ≡ None) [
                  | true ↦ λ is. subst (λ (k : ℕ). told_in new k ≡ None) (sym (eqb-true q n0 is)) here.1
                  | false ↦ λ is. (others q is).1 ∙ x.shows.told q
                ]) refl;
          };
        },
      )

  -- it was not parked, and waits on
  pub waits-on : (g : Ledger) (old new : Engine C) (x : Awaiting g old) → AsksLate offers s g.held g.calls new g.past g.waiting x.a.moment x.a.octets x.a.written x.a.request → AreParked old new → asks_in new ≡ asks_in old → Holds offers s g new
  waits-on g old new x y are asks = record {
    stands = subst (λ (o : Option Asking). StandsAt offers s g o new) (sym x.is)
        (y, one-question offers (by_number s g.held) g.calls old new g.past x.a.moment x.a.octets x.a.written x.a.request x.asks.asks y.asks ∙ x.question);
    nobody = x.nobody;
    shows = shows-on g.asked g.there old new x.shows are asks;
  }

  -- The outcome of one that is parked is told.

  told-none : (n m : ℕ) (g : Ledger) (told : List Told) → g.waiting n ≡ [] → (told_all s m g told).waiting n ≡ []
  told-none n m g [] h = h
  told-none n m g (t ∷ told) h = told-none n m (told_one s m g t) told (one t)
    where
      here : put_at m (rest_of (g.waiting m)) g.waiting n ≡ []
      here =
          (elim (n == m) as (λ (b : Bool). (n == m) ≡ b → cond b (rest_of (g.waiting m)) (g.waiting n) ≡ []) [
            | true ↦ λ is. ap (λ (k : ℕ). rest_of (g.waiting k)) (sym (eqb-true n m is)) ∙ ap rest_of h
            | false ↦ λ is. h
          ]) refl

      one : (t : Told) → (told_one s m g t).waiting n ≡ []
      one (Reached w) = here
      one (Missed w) = ap (on_going (goes_on s.limits (Lost w.connection ∷ g.past))) here

  fits-there : (g : Ledger) (old : Engine C) (r : Resting g old) (n : ℕ) (o : Performed) → CanSettle (offers old.offering.catalogue) (parked_at old n) o → IsFor s (s.terms (changes g.past)).interface (g.there n) o
  fits-there g old r n o can = subst (λ (w : Option Awaited). IsFor s (s.terms (changes g.past)).interface w o) (r.shows.there n) (by (parked_at old n) can)
    where
      by : (p : Option CodeParked) → CanSettle (offers old.offering.catalogue) p o → IsFor s (s.terms (changes g.past)).interface (option_map (λ (p : CodeParked). awaited_of p.pending) p) o
      by None can = absurd can
      by (Some p) can = (can.1, subst (λ (f : Terms). IsAnswerOf (f.interface (awaited_of p.pending).call.object_key (awaited_of p.pending).call.operation) o) r.stays.rests.offer_is can.2)

  shows-without : (g : Ledger) (old new : Engine C) → Shows offers s g.asked g.there old → (n : ℕ) → asks_in new ≡ asks_in old → parked_in new n ≡ None
      → ((q : ℕ) → (q == n) ≡ false → (parked_in new q ≡ parked_in old q) × (told_in new q ≡ told_in old q)) → Shows offers s g.asked (put_at n None g.there) new
  shows-without g old new x n asks gone others = record {
    asked = asks ∙ x.asked;
    there = λ q.
        (elim (q == n) as (λ (b : Bool). (q == n) ≡ b → parked_in new q ≡ cond b None (g.there q)) [
          | true ↦ λ is. subst (λ (k : ℕ). parked_in new k ≡ None) (sym (eqb-true q n is)) gone
          | false ↦ λ is. (others q is).0 ∙ x.there q
        ]) refl;
    told = λ q.
        (elim (q == n) as (λ (b : Bool). (q == n) ≡ b → told_in new q ≡ None) [
          | true ↦ λ is. untold new q (subst (λ (k : ℕ). parked_in new k ≡ None) (sym (eqb-true q n is)) gone)
          | false ↦ λ is. (others q is).1 ∙ x.told q
        ]) refl;
  }

  pub settles-deed : (g : Ledger) (old new : Engine C) → Resting g old → (n : ℕ) (outcome : Performed) (before out : List Written) (t : IsTold offers s g n outcome new before out) → asks_in new ≡ asks_in old
      → CanSettle (offers old.offering.catalogue) (parked_at old n) outcome → parked_in new n ≡ None → ((q : ℕ) → (q == n) ≡ false → (parked_in new q ≡ parked_in old q) × (told_in new q ≡ told_in old q)) → (told : CodeDeed) → IsOf told (Settled t.i n outcome t.told)
      → IsDone offers s g told None (map noted t.written) new
  settles-deed g old new r n outcome before out t asks can gone others told of = (
    Settled t.i n outcome t.told,
    of,
    (r.none, t.taken, t.was, t.are_told, t.none, t.stays.rests.stands.table.state, fits-there g old r n outcome can),
    t.notes,
    refl,
    record {
      stands = t.stays;
      nobody = λ m.
          (elim (m == n) as (λ (b : Bool). (m == n) ≡ b → cond b None (g.there m) ≡ None → (told_all s n g t.told).waiting m ≡ []) [
            | true ↦ λ is none. subst (λ (k : ℕ). (told_all s n g t.told).waiting k ≡ []) (sym (eqb-true m n is)) t.none
            | false ↦ λ is none. told-none m n g t.told (r.nobody m none)
          ]) refl;
      shows = shows-without g old new r.shows n asks gone others;
    },
  )

  -- An outcome is told, and nothing is kept.
  pub tells-deed : (g : Ledger) (old new : Engine C) (x : Awaiting g old) (outcome : Performed) → IsRenderable outcome → (before out : List ℕ) → before ≡ []
      → DeclinesLate offers s g.held g.calls g.past g.waiting x.a.moment x.a.octets x.a.written x.a.request outcome new before out → AreParked old new → asks_in new ≡ asks_in old
      → (c : ℕ) → c ≡ x.a.request.connection → (told : CodeDeed) → IsOf told (AnsweredUnkept x.a outcome out) → IsDone offers s g told None (record { connection = c; octets = out; note = Done } ∷ []) new
  tells-deed g old new x outcome fine before out none y are asks c at told of =
      let wrote : out ≡ y.more = y.appended ∙ ap (λ (l : List ℕ). l ++ y.more) none in (
        AnsweredUnkept x.a outcome out,
        of,
        (x.is, subst (λ (l : List ℕ). Wrote s nothing_yet (put_at (length g.calls) (known outcome) g.held) g.past (piece_of x.a) (x.a.written ++ l) Done) (sym wrote) y.writes, y.stays.rests.stands.table.state, fine),
        ap (λ (k : ℕ). record { connection = k; octets = out; note = Done } ∷ []) (sym at),
        refl,
        record { stands = y.stays; nobody = λ n is. still-none (Withdrew (length g.calls) ∷ piece_of x.a ∷ g.past) g.waiting n (x.nobody n is); shows = shows-on g.asked g.there old new x.shows are asks },
      )

  -- .. or given up, where memory is short
  pub tells-as : (g : Ledger) (old new : Engine C) (x : Awaiting g old) (outcome : Performed) → IsRenderable outcome → (handled : ℕ) (before out : List ℕ) → before ≡ [] → {A P Q D N : Type 0} (r : Result A ServeError)
      → OnOk r P → (P → DeclinesLate offers s g.held g.calls g.past g.waiting x.a.moment x.a.octets x.a.written x.a.request outcome new before out)
      → OnErr r Q → (Q → ResumesLate offers s g.held g.calls g.past g.waiting x.a.request.connection x.a.moment x.a.octets x.a.written (Memory handled handled) new [] [])
      → OnErr r D → (D → 0 < length (reply_to outcome (waiter_of x.a.request.connection x.asks.asks.question))) → OnErr r N → (N → handled + 1 ≡ length (completed s.limits g.past (piece_of x.a)))
      → IfErr r (λ e. e ≡ serving.Memory handled handled) → OnErr r (out ≡ before) → AreParked old new → asks_in new ≡ asks_in old
      → (c : ℕ) → c ≡ x.a.request.connection → (told : CodeDeed) → IsOf told (AnsweredUnkept x.a outcome out) → (0 < length (reply_to outcome (waiter_of x.a.request.connection x.a.question)) → IsOf told (GivenUp x.a handled))
      → IsDone offers s g told None (record { connection = c; octets = out; note = note_of r } ∷ []) new
  tells-as g old new x outcome fine handled before out none (Ok u) late tells given up due some counts count is kept are asks c at told of gives = tells-deed g old new x outcome fine before out none (tells late) are asks c at told of
  tells-as g old new x outcome fine handled before out none {A} (Err e) late tells given up due some counts count is kept are asks c at told of gives =
      let some_due = subst (λ (q : Question). 0 < length (reply_to outcome (waiter_of x.a.request.connection q))) x.question (some due) in
      let d = gives-up-deed g old new x handled (up given) are asks (count counts) c at told (gives some_due) in
      subst (λ (n : Note). IsDone offers s g told None (record { connection = c; octets = out; note = n } ∷ []) new) (ap (λ (y : ServeError). note_of {A = A} (Err y)) (sym is))
      (subst (λ (l : List ℕ). IsDone offers s g told None (record { connection = c; octets = l; note = Memory handled handled } ∷ []) new) (sym (kept ∙ none)) d)

  pub tells-parked : (g : Ledger) (old mid new : Engine C) → Resting g old → (n : ℕ) (outcome : Performed) (before out : List Written) (y : WithdrawsLate offers s g.held g.calls g.past g.waiting n mid)
      → (t : IsTold offers s (without_call y.i g) n outcome new before out) → asks_in new ≡ asks_in old → CanSettle (offers old.offering.catalogue) (parked_at old n) outcome
      → parked_in new n ≡ None → ((q : ℕ) → (q == n) ≡ false → (parked_in new q ≡ parked_in old q) × (told_in new q ≡ told_in old q)) → (told : CodeDeed) → IsOf told (SettledUnkept y.i n outcome t.told)
      → IsDone offers s g told None (map noted t.written) new
  tells-parked g old mid new r n outcome before out y t asks can gone others told of =
      let one : t.i ≡ y.i = y.stays.parks.once t.i y.i n t.taken y.taken t.was y.was in
      let stays : Stays offers s (put_at y.i (known outcome) g.held) g.calls new (told_all s n (without_call y.i g) t.told).past (told_all s n (without_call y.i g) t.told).waiting =
      subst (λ (k : ℕ). Stays offers s (put_at k (known outcome) g.held) g.calls new (told_all s n (without_call y.i g) t.told).past (told_all s n (without_call y.i g) t.told).waiting) one t.stays in (
        SettledUnkept y.i n outcome t.told,
        of,
        (r.none, y.taken, y.was, t.are_told, t.none, stays.rests.stands.table.state, fits-there g old r n outcome can),
        t.notes,
        refl,
        record {
          stands = stays;
          nobody = λ m.
              (elim (m == n) as (λ (b : Bool). (m == n) ≡ b → cond b None (g.there m) ≡ None → (told_all s n (without_call y.i g) t.told).waiting m ≡ []) [
                | true ↦ λ is none. subst (λ (k : ℕ). (told_all s n (without_call y.i g) t.told).waiting k ≡ []) (sym (eqb-true m n is)) t.none
                | false ↦ λ is none. told-none m n (without_call y.i g) t.told (r.nobody m none)
              ]) refl;
          shows = shows-without g old new r.shows n asks gone others;
        },
      )

  -- so far
  pub record IsTelling (g : Ledger) (n : ℕ) (outcome : Performed) (new : Engine C) (before out : List Written) : Type 0 where
    pub written : List Written
    pub appended : out ≡ before ++ written
    pub told : List Told
    pub are_told : AreTold s n outcome g told
    pub notes : map (note_told outcome) told ≡ map noted written
    pub stays : Stays offers s g.held g.calls new (told_all s n g told).past (told_all s n g told).waiting
    pub telling : told_in new n ≡ Some outcome

  pub tells-none : (g : Ledger) (n : ℕ) (outcome : Performed) (e : Engine C) (before : List Written) → Stays offers s g.held g.calls e g.past g.waiting → told_in e n ≡ Some outcome → IsTelling g n outcome e before before
  tells-none g n outcome e before st telling = record { written = []; appended = sym (append-nil before); told = []; are_told = tt; notes = refl; stays = st; telling = telling }

  told-push : (n : ℕ) (g : Ledger) (told : List Told) (t : Told) → told_all s n g (told ++ t ∷ []) ≡ told_one s n (told_all s n g told) t
  told-push n g [] t = refl
  told-push n g (x ∷ told) t = told-push n (told_one s n g x) told t

  reached-push : (n : ℕ) (outcome : Performed) (g : Ledger) (told : List Told) (w : Waiter) (rest : List Waiter) → AreTold s n outcome g told → (told_all s n g told).waiting n ≡ w ∷ rest → AreTold s n outcome g (told ++ Reached w ∷ [])
  reached-push n outcome g [] w rest h is = ((rest, is), tt)
  reached-push n outcome g (Reached x ∷ told) w rest h is = (h.0, reached-push n outcome (told_one s n g (Reached x)) told w rest h.1 is)
  reached-push n outcome g (Missed x ∷ told) w rest h is = (h.0, h.1, reached-push n outcome (told_one s n g (Missed x)) told w rest h.2 is)

  missed-push : (n : ℕ) (outcome : Performed) (g : Ledger) (told : List Told) (w : Waiter) (rest : List Waiter) → AreTold s n outcome g told → (told_all s n g told).waiting n ≡ w ∷ rest → 0 < length (reply_to outcome w) → AreTold s n outcome g (told ++ Missed w ∷ [])
  missed-push n outcome g [] w rest h is some = ((rest, is), some, tt)
  missed-push n outcome g (Reached x ∷ told) w rest h is some = (h.0, missed-push n outcome (told_one s n g (Reached x)) told w rest h.1 is some)
  missed-push n outcome g (Missed x ∷ told) w rest h is some = (h.0, h.1, missed-push n outcome (told_one s n g (Missed x)) told w rest h.2 is some)

  -- one is told more
  more-told : (g : Ledger) (n : ℕ) (outcome : Performed) (e new : Engine C) (before mid : List Written) (x : IsTelling g n outcome e before mid) (w : Waiter) (rest : List Waiter) → (told_all s n g x.told).waiting n ≡ w ∷ rest
      → (result : Result (Unit {0}) ServeError) (was octets : List ℕ) → was ≡ [] → RepliesLate offers s g.held g.calls (told_all s n g x.told).past (told_all s n g x.told).waiting n outcome w rest result new was octets → told_in new n ≡ Some outcome
      → (entry : Written) → noted entry ≡ record { connection = w.connection; octets = octets; note = note_of result } → (out : List Written) → out ≡ mid ++ entry ∷ [] → IsTelling g n outcome new before out
  more-told g n outcome e new before mid x w rest is (Ok u) was octets none reply telling entry entry-is out grown =
      let now = told_all s n g x.told in
      let wrote : octets ≡ reply_to outcome w = reply.0 ∙ ap (λ (l : List ℕ). l ++ reply_to outcome w) none in
      let all = told-push n g x.told (Reached w) in
      record {
        written = x.written ++ entry ∷ [];
        appended = grown ∙ ap (λ (l : List Written). l ++ entry ∷ []) x.appended ∙ append_assoc before x.written (entry ∷ []);
        told = x.told ++ Reached w ∷ [];
        are_told = reached-push n outcome g x.told w rest x.are_told is;
        notes = map-append (note_told outcome) x.told (Reached w ∷ []) ∙ ap (λ (l : List Noted). l ++ note_told outcome (Reached w) ∷ []) x.notes
            ∙ ap (λ (v : Noted). map noted x.written ++ v ∷ []) (ap (λ (l : List ℕ). record { connection = w.connection; octets = l; note = Done }) (sym wrote) ∙ sym entry-is)
            ∙ sym (map-append noted x.written (entry ∷ []));
        stays = subst (λ (h : Ledger). Stays offers s g.held g.calls new h.past h.waiting) (sym all) (subst (λ (l : List Waiter). Stays offers s g.held g.calls new now.past (put_at n l now.waiting)) (sym (ap rest_of is)) reply.1);
        telling = telling;
      }
  more-told g n outcome e new before mid x w rest is (Err serving.NoConnection) was octets none reply telling entry entry-is out grown = absurd reply
  more-told g n outcome e new before mid x w rest is (Err (serving.Memory handled answered)) was octets none reply telling entry entry-is out grown =
      let now = told_all s n g x.told in
      let wrote : octets ≡ [] = reply.2 ∙ none in
      let all = told-push n g x.told (Missed w) in
      let same : record { connection = w.connection; octets = []; note = Memory 0 0 } ≡ record { connection = w.connection; octets = octets; note = Memory handled answered } = λ i. record { connection = w.connection; octets = sym wrote i; note = Memory (sym reply.0 i) (sym reply.1 i) } in
      record {
        written = x.written ++ entry ∷ [];
        appended = grown ∙ ap (λ (l : List Written). l ++ entry ∷ []) x.appended ∙ append_assoc before x.written (entry ∷ []);
        told = x.told ++ Missed w ∷ [];
        are_told = missed-push n outcome g x.told w rest x.are_told is reply.3;
        notes = map-append (note_told outcome) x.told (Missed w ∷ []) ∙ ap (λ (l : List Noted). l ++ note_told outcome (Missed w) ∷ []) x.notes
            ∙ ap (λ (v : Noted). map noted x.written ++ v ∷ []) (same ∙ sym entry-is)
            ∙ sym (map-append noted x.written (entry ∷ []));
        stays = subst (λ (h : Ledger). Stays offers s g.held g.calls new h.past h.waiting) (sym all)
            (subst (λ (l : List Waiter). Stays offers s g.held g.calls new (Lost w.connection ∷ now.past) (still s.limits (Lost w.connection ∷ now.past) (put_at n l now.waiting))) (sym (ap rest_of is)) reply.4);
        telling = telling;
      }

  -- a call of `due` and one of `reply`
  pub tells-more : (g : Ledger) (n : ℕ) (outcome : Performed) (e due new : Engine C) (before mid : List Written) (x : IsTelling g n outcome e before mid) (c : ℕ)
      → ((held : ℕ → Holding) (calls : List Call) (past : List Event) (waiting : ℕ → List Waiter) → Stays offers s held calls e past waiting → IsDueLate offers s held calls past waiting n (told_in e n) (Some c) due) → told_in due n ≡ told_in e n
      → (result : Result (Unit {0}) ServeError) (was octets : List ℕ) → was ≡ []
      → ((held : ℕ → Holding) (calls : List Call) (past : List Event) (waiting : ℕ → List Waiter) (o : Performed) (w : Waiter) (rest : List Waiter) → Stays offers s held calls due past waiting → told_in due n ≡ Some o → waiting n ≡ w ∷ rest → RepliesLate offers s held calls past waiting n o w rest result new was octets)
      → told_in new n ≡ told_in due n → (entry : Written) → noted entry ≡ record { connection = c; octets = octets; note = note_of result } → (out : List Written) → out ≡ mid ++ entry ∷ [] → IsTelling g n outcome new before out
  tells-more g n outcome e due new before mid x c dues same result was octets none replies after entry entry-is out grown =
      let now = told_all s n g x.told in
      let d = subst (λ (o : Option Performed). IsDueLate offers s g.held g.calls now.past now.waiting n o (Some c) due) x.telling (dues g.held g.calls now.past now.waiting x.stays) in
      let reply = replies g.held g.calls now.past now.waiting outcome d.1 d.2 d.0 (same ∙ x.telling) d.3 in
      more-told g n outcome e new before mid x d.1 d.2 d.3 result was octets none reply (after ∙ same ∙ x.telling) entry (entry-is ∙ ap (λ (k : ℕ). record { connection = k; octets = octets; note = note_of result }) (sym d.4)) out grown

  -- .. and the last of `due`
  pub tells-all : (g : Ledger) (n : ℕ) (outcome : Performed) (e new : Engine C) (before out : List Written) (x : IsTelling g n outcome e before out)
      → ((held : ℕ → Holding) (calls : List Call) (past : List Event) (waiting : ℕ → List Waiter) → Stays offers s held calls e past waiting → IsDueLate offers s held calls past waiting n (told_in e n) None new) → IsTold offers s g n outcome new before out
  tells-all g n outcome e new before out x dues =
      let now = told_all s n g x.told in
      let d : IsSettled offers s g.held g.calls now.past now.waiting n outcome new = subst (λ (o : Option Performed). IsDueLate offers s g.held g.calls now.past now.waiting n o None new) x.telling (dues g.held g.calls now.past now.waiting x.stays) in
      record {
        written = x.written;
        appended = x.appended;
        told = x.told;
        are_told = x.are_told;
        notes = x.notes;
        none = d.told;
        i = d.i;
        taken = d.taken;
        was = d.was;
        stays = d.stays;
      }

  -- Deeds one after another.

  -- so far, and of the piece of the last so many octets were taken, where some are left
  pub record AreDone (g : Ledger) (told : List CodeDeed) (part : Option ℕ) (new : Engine C) (before out : List Written) : Type 0 where
    pub ds : List Deed
    pub written : List Written
    pub appended : out ≡ before ++ written
    pub are : AreOf told ds
    pub runs : Runs s g ds
    pub notes : flat_map notes_of ds ≡ map noted written
    pub left : LeaveAtLast ds part
    pub holds : Holds offers s (after_deeds s g ds) new

  are-push : (told : List CodeDeed) (ds : List Deed) (c : CodeDeed) (d : Deed) → AreOf told ds → IsOf c d → AreOf (told ++ c ∷ []) (ds ++ d ∷ [])
  are-push [] [] c d h is = (is, tt)
  are-push (x ∷ told) (y ∷ ds) c d h is = (h.0, are-push told ds c d h.1 is)
  are-push [] (y ∷ ds) c d h is = absurd h
  are-push (x ∷ told) [] c d h is = absurd h

  -- none yet ..
  pub done-none : (g : Ledger) (e : Engine C) (before : List Written) → Holds offers s g e → AreDone g [] None e before before
  done-none g e before h = record { ds = []; written = []; appended = sym (append-nil before); are = tt; runs = tt; notes = refl; left = refl; holds = h }

  leave-push : (ds : List Deed) (d : Deed) (part : Option ℕ) → LeaveAtLast ds None → left_of d ≡ part → LeaveAtLast (ds ++ d ∷ []) part
  leave-push [] d part h is = is
  leave-push (x ∷ []) d part h is = (h, is)
  leave-push (x ∷ y ∷ ds) d part h is = (h.0, leave-push (y ∷ ds) d part h.1 is)

  -- .. and one more
  pub done-more : (g : Ledger) (told grown : List CodeDeed) (e new : Engine C) (before mid out : List Written) → AreDone g told None e before mid → (c : CodeDeed) → grown ≡ told ++ c ∷ [] → (part : Option ℕ)
      → ((h : Ledger) → Holds offers s h e → (written : List Written) × (out ≡ mid ++ written) × IsDone offers s h c part (map noted written) new) → AreDone g grown part new before out
  done-more g told grown e new before mid out x c all part step =
      let y = step (after_deeds s g x.ds) x.holds in
      let d = y.2.0 in
      let r = runs-join s g x.ds (d ∷ []) x.runs (y.2.2, tt) in
      record {
        ds = x.ds ++ d ∷ [];
        written = x.written ++ y.0;
        appended = y.1 ∙ ap (λ (l : List Written). l ++ y.0) x.appended ∙ append_assoc before x.written y.0;
        are = subst (λ (l : List CodeDeed). AreOf l (x.ds ++ d ∷ [])) (sym all) (are-push told x.ds c d x.are y.2.1);
        runs = r.0;
        notes = flat_map-append notes_of x.ds (d ∷ []) ∙ ap (λ (l : List Noted). l ++ (notes_of d ++ [])) x.notes ∙ ap (λ (l : List Noted). map noted x.written ++ l) (append-nil (notes_of d) ∙ y.2.3) ∙ sym (map-append noted x.written y.0);
        left = leave-push x.ds d part x.left y.2.4;
        holds = subst (λ (h : Ledger). Holds offers s h new) (sym r.1) y.2.5;
      }

module _ (s : Settings) where
  -- The calls that were taken, by all that came.

  pub calls-now : (g : Ledger) → AreTaken s g → KeepsAll g.past → g.calls ≡ state_after (owned_rules (by_number s g.held)) [] (performed_now (owned_rules (by_number s g.held)) (arrivals s.limits g.past))
  calls-now g taken kept = taken ∙ (past_now_by (book_by (by_number s g.held)) g.past (kept-folded (by_number s g.held) g.past kept)).state

  pub calls-once : (g : Ledger) → AreTaken s g → KeepsAll g.past → OneExpiration (arrivals s.limits g.past) → g.calls ≡ state_of (owned_rules (by_number s g.held)) [] (arrivals s.limits g.past)
  calls-once g taken kept one = taken ∙ (past_stands_by (book_by (by_number s g.held)) g.past (kept-folded (by_number s g.held) g.past kept) one).state

  pub answered-late : EndingsStay meaning_in → RunsAreAnsweredLate s
  answered-late stay held ds runs = record {
    runs = runs;
    known = λ xs ys i n outcome told is.
        subst (λ (l : List Deed). (after_deeds s (opening held) l).held i ≡ known outcome) (sym is) (told-are-known s (opening held) xs ys i n outcome told (subst (λ (l : List Deed). Runs s (opening held) l) is runs));
    answered = λ xs ys a outcome written note is.
        subst (λ (l : List Deed). (after_deeds s (opening held) l).held (length (after_deeds s (opening held) xs).calls) ≡ known outcome) (sym is) (answered-are-known s (opening held) xs ys a outcome written note (subst (λ (l : List Deed). Runs s (opening held) l) is runs));
    answered_unkept = λ xs ys a outcome written is.
        subst (λ (l : List Deed). (after_deeds s (opening held) l).held (length (after_deeds s (opening held) xs).calls) ≡ known outcome) (sym is) (answered-unkept-are-known s (opening held) xs ys a outcome written (subst (λ (l : List Deed). Runs s (opening held) l) is runs));
    settled_unkept = λ xs ys i n outcome told is.
        subst (λ (l : List Deed). (after_deeds s (opening held) l).held i ≡ known outcome) (sym is) (settled-unkept-are-known s (opening held) xs ys i n outcome told (subst (λ (l : List Deed). Runs s (opening held) l) is runs));
    once = calls-once (after_deeds s (opening held) ds) (calls-are-taken s (opening held) ds runs refl);
    now = calls-now (after_deeds s (opening held) ds) (calls-are-taken s (opening held) ds runs refl);
    stand = let g = after_deeds s (opening held) ds in calls-are-taken s (opening held) ds runs refl ∙ ((pasts-stand s).table g.held g.past).1.state;
    told = λ n. told-once s stay (opening held) ds n runs (λ m. refl);
    theirs = λ xs ms ys i j n outcome told is low held-there none.
        theirs-later s (opening held) xs ms ys i j n outcome told (λ i j n less. absurd (omega (arith, less))) (subst (λ (l : List Deed). Runs s (opening held) l) is runs) low held-there none;
    theirs_unkept = λ xs ms ys i j n outcome told is low held-there none.
        unkept-later s (opening held) xs ms ys i j n outcome told (λ i j n less. absurd (omega (arith, less))) (subst (λ (l : List Deed). Runs s (opening held) l) is runs) low held-there none;
  }
