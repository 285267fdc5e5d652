-- A server is an engine whose servant performs.
use Rattle.std.proofs.Common.{◌≡◌, ℕ, ◌<◌, ◌≤◌, ◌+◌, max, cond, if◌then◌else◌, is_none, nat_lt, Bool, true, false, List, [], ◌∷◌, ◌++◌, drop, length, take, inl, inr, Option, Some, None, IfSome, Result, Ok, Err, refl, sym, ap, subst, ◌∙◌, arith, append_assoc, length-append}
use Rattle.std.specs.Option.{option_map, option_map_or}
use Rattle.std.specs.BTreeMap.{get}
use Rattle.std.specs.Ordering.{nat_cmp}
use Rattle.std.proofs.lemmas.Bool.{le-leb, ltb-true}
use Rattle.std.proofs.lemmas.List.{append-nil, take-append-drop, take_all}
use Rattle.std.proofs.Math.Seq.{take-add}
use Rattle.cdr_core.specs.View.{values_of}
use Rattle.giop_frames.specs.declared.limits.Limits.{Limits}
use Rattle.giop_link.specs.Hearing.{Ending, ending, meaning_in}
use Rattle.giop_link.specs.Laws.{EndingsStay, EndsAreSilent, HearingGrows}
use Rattle.giop_link.specs.Linking.{Linked}
use Rattle.ft_log.specs.Holding.{Holding}
use Rattle.ft_log.specs.Kept.{KeptOutcome, unexpired}
use Rattle.ft_log.specs.Logged.{logged}
use Rattle.ft_log.specs.Performed.{Performed}
use Rattle.ft_objects.specs.Servants.{Meaning}
use Rattle.ft_orb.specs.declared.engine.Engine.{Engine}
use Rattle.ft_orb.specs.declared.error.CloseError.{CloseError}
use Rattle.ft_orb.specs.declared.error.CloseError.TheVariants as closing
use Rattle.ft_orb.specs.declared.error.ServeError.{ServeError}
use Rattle.ft_orb.specs.declared.error.ServeError.TheVariants as serving
use Rattle.ft_orb.specs.declared.keeper.Keeper.{Keeper}
use Rattle.ft_orb.specs.declared.pausing.Pending.{Pending}
use Rattle.ft_orb.specs.declared.pausing.Place.{Place}
use Rattle.ft_orb.specs.declared.events.Note.{Note}
use Rattle.ft_orb.specs.declared.events.Note.TheVariants.{Done, Memory, Refused}
use Rattle.ft_orb.specs.Engines.{Asks, Awaited, Ends, IsThen, Resumes, Stops, as_server, awaited_of, shown_in, waits_in, pending_in}
use Rattle.ft_orb.specs.ExactlyOnce.{Arrival}
use Rattle.ft_orb.specs.History.{Event, Gone, Line, Piece, Shut, Up, clock, completed, line, longer, origin}
use Rattle.ft_orb.specs.Outputs.{Made, Writes, after, is_going, is_gone, table_says}
use Rattle.ft_orb.specs.Pauses.{Paused}
use Rattle.ft_orb.specs.Performing.{EndsBy, IsDoneTo, Performs, Resumed, TakesFront}
use Rattle.cdr_core.specs.Value.{Values}
use Rattle.ft_log.specs.declared.system_exception.SystemName.{SystemName}
use Rattle.ft_objects.specs.Interfaces.{AreArgumentsOf, Interface}
use Rattle.ft_orb.specs.Requests.{AreAsked, Call, Wanted, terms_of}
use Rattle.ft_orb.specs.Runs.{answers_by, offer_by, owner_by, run}
use Rattle.ft_orb.specs.Standing.{IsFor, IsNew, IsSameBut, Shown, Stands, capacity_of, note_of, note_of_closing, share_of, table_of}
use Rattle.ft_orb.specs.Table.{AreAlike}
use Rattle.ft_orb.specs.Visits.{IsShortest, count_to}
use Rattle.ft_orb.specs.Waits.{call_of}
use Rattle.ft_orb.proofs.Cutting.{line-here}
use Rattle.ft_orb.proofs.Handing.{asked-same, err-not-done, part-left, refused-there, resumed-ends, resumed-memory, there-still}
use Rattle.ft_orb.proofs.Images.{gave-is, rests-shown, writes-shown}
use Rattle.ft_orb.proofs.Joining.{count-more, cut-joined, cut-stands, needs-going, shortest-by, shortest-more, stands-joined, up-brings, writes-joined}

-- nothing is asked that would be refused, so the arguments are of the types of the operation
pub asked-plainly : (refused : Option SystemName) (i : Interface) (arguments : Values) → AreAsked false refused i arguments → AreArgumentsOf i arguments
asked-plainly None i arguments h = h
asked-plainly (Some name) i arguments h = absurd h

-- a close ended, but for somebody who waits
pub closing-noted : (r : Result Unit CloseError) → (r ≡ Err closing.Waits → ⊥) → (note : Note) × (note_of_closing r ≡ Some note)
closing-noted (Ok x) apart = (Done, refl)
closing-noted (Err closing.NoConnection) apart = (_, refl)
closing-noted (Err closing.Waits) apart = absurd (apart refl)
closing-noted (Err closing.Memory) apart = (_, refl)

pub noted-as : (P : Note → Type 0) (o : Option Note) (note : Note) → o ≡ Some note → IfSome o P → P note
noted-as P o note is h = subst (λ (o : Option Note). IfSome o P) is h

-- nothing is expired at first
all-unexpired : (xs : List (KeptOutcome Holding)) → unexpired 0 xs ≡ xs
all-unexpired [] = refl
all-unexpired (x ∷ xs) = ap (λ (b : Bool). cond b (x ∷ unexpired 0 xs) (unexpired 0 xs)) (le-leb 0 x.expiration (omega arith)) ∙ ap (λ (l : List (KeptOutcome Holding)). x ∷ l) (all-unexpired xs)

none-held : (limits : Limits) (o : Option Linked) → IsFor limits o Gone → o ≡ None
none-held limits None h = refl
none-held limits (Some link) h = absurd h

none-opened : (o : Option ℕ) → ((c : ℕ) → true ≡ option_map_or (λ g. nat_lt g c) o true) → o ≡ None
none-opened None h = refl
none-opened (Some g) h = absurd (let less = ltb-true g g (sym (h g)) in omega (arith, less))

module _ {S : Type 0} (meaning : Meaning S) (made : Made S) where
  pub new-is : (server : Shown S) → server.servant ≡ made.opening → Stands meaning made server [] → IsNew made server
  new-is server servant st = record {
    limits_are = st.limits_are;
    capacity_is = st.capacity_is;
    share_is = st.share_is;
    servant_is = servant;
    moment = st.moment;
    opened = none-opened server.greatest st.greatest;
    held = λ c. none-held made.limits _ (st.lines c);
    kept = sym (all-unexpired (logged server.log).entries) ∙ subst (λ (clock : ℕ). unexpired clock (logged server.log).entries ≡ []) st.moment st.table.entries;
  }

  -- what happened in an engine
  pub then-shown : (calls : List Call) (past : List Event) (e : Event) (note : Note) (old new : Engine S) (written : List ℕ) → new.offering ≡ old.offering → old.offering.catalogue ≡ run meaning made.opening calls
      → IsThen (offer_by meaning) (owner_by meaning made) calls past e note new written
      → Writes made.limits meaning.knows (table_says meaning made) past e written note × Stands meaning made (shown_in new) (after made.limits past e note)
  then-shown calls past e note old new written same state t =
      (writes-shown meaning made past e written note t.0, rests-shown meaning made calls new (after made.limits past e note) (ap (λ o. o.catalogue) same ∙ state) t.1)

  pub ends-shown : (calls : List Call) (past : List Event) (e : Event) (note : Note) (engine : Engine S) (before out : List ℕ) → engine.offering.catalogue ≡ run meaning made.opening calls
      → Ends (offer_by meaning) (owner_by meaning made) calls past e note engine before out → EndsBy meaning made past e note (shown_in engine) before out
  ends-shown calls past e note engine before out state x =
      (x.written, x.appended, writes-shown meaning made past e x.written note x.writes, rests-shown meaning made calls engine (after made.limits past e note) state x.rests)

  -- What waits waits still where the catalogue is another state of the servant.
  pub asked-by : (calls : List Call) (old new : Engine S) (past : List Event) (moment : ℕ) (octets written : List ℕ) (w : Awaited) → (new.offering.longest ≡ old.offering.longest) × (new.offering.first ≡ old.offering.first) → new.keeper ≡ old.keeper → pending_in new ≡ pending_in old → new.links ≡ old.links → new.limits ≡ old.limits → new.greatest ≡ old.greatest
      → Asks (offer_by meaning) (owner_by meaning made) calls old past moment octets written w → Asks (offer_by meaning) (owner_by meaning made) calls new past moment octets written w
  asked-by calls old new past moment octets written w free keeper pending links limits greatest x =
      let shown : as_server new calls ≡ as_server old calls = λ i. record { servant = calls; clock = (keeper i).clock; limits = limits i; greatest = greatest i; links = (links i).entries; log = (keeper i).log } in
      record {
        waits = ap (λ (p : Option Pending). option_map awaited_of p) pending ∙ x.waits;
        front = x.front;
        last = x.last;
        completes = x.completes;
        asks = x.asks;
        field = x.field;
        refused = x.refused;
        fit = x.fit;
        question = x.question;
        content = x.content;
        link = x.link;
        held = ap (λ l. get nat_cmp l w.connection) links ∙ x.held;
        heard = x.heard;
        out = x.out;
        pending = x.pending;
        is = x.is;
        asker = x.asker;
        keeps = record {
          offer_is = (λ i. record { interface = (offer_by meaning made.opening).interface; knows = (offer_by meaning made.opening).knows; longest = free.0 i; first = free.1 i }) ∙ x.keeps.offer_is;
          waits = pending ∙ x.keeps.waits;
          server = x.keeps.server;
          answered = x.keeps.answered;
          was = x.keeps.was;
          link = x.keeps.link;
          stands = x.keeps.stands;
          same = subst (λ (s : Shown (List Call)). IsSameBut x.pending.connection x.keeps.server s) (sym shown) x.keeps.same;
          clock = ap (λ (k : Keeper). k.clock) keeper ∙ x.keeps.clock;
          stood = x.keeps.stood;
          live = x.keeps.live;
          held = ap (λ l. get nat_cmp l x.pending.connection) links ∙ x.keeps.held;
          whole = x.keeps.whole;
          some = x.keeps.some;
          paused = λ voice s t stands alike.
              let of : Keeper → Type 0 = λ k. Paused (λ n. terms_of None (offer_by meaning made.opening)) voice (capacity_of x.keeps.server) (share_of x.keeps.server) made.limits (origin past x.pending.connection) k.clock t s octets x.keeps.link calls (logged k.log).entries written x.pending.place.handled x.pending.waiting in
              subst of (sym keeper) (x.keeps.paused voice s t stands (subst (λ (k : Keeper). AreAlike k.clock (table_of x.keeps.server) t) keeper alike));
        };
      }

  -- The servant performed what waited: that is what its owner is to have answered.
  pub performed-is : (calls : List Call) (old : Engine S) (p : Pending) (w : Awaited) (next : S) (outcome : Performed) → pending_in old ≡ Some p → waits_in old ≡ Some w → old.offering.catalogue ≡ run meaning made.opening calls
      → meaning.apply old.offering.catalogue p.waiting.object_key.items p.waiting.operation.items (values_of p.waiting.arguments.items) ≡ (next, outcome)
      → (answers_by meaning made.opening calls w.call ≡ outcome) × (next ≡ run meaning made.opening (calls ++ w.call ∷ []))
  performed-is calls old p w next outcome is waits state did =
      let same = asked-same (awaited_of p) w (waits_in old) (sym (ap (λ (o : Option Pending). option_map awaited_of o) is)) waits in
      subst (λ (v : Awaited). (answers_by meaning made.opening calls v.call ≡ outcome) × (next ≡ run meaning made.opening (calls ++ v.call ∷ []))) same
      (gave-is meaning made.opening made.capacity made.share old.offering.catalogue next calls (call_of p.waiting) outcome state did)

  -- an answer that failed, or a request that was given up
  pub resumed-by : (calls : List Call) (past : List Event) (c moment : ℕ) (octets written : List ℕ) (note : Note) (engine : Engine S) (before out : List ℕ) → engine.offering.catalogue ≡ run meaning made.opening calls
      → Resumes (offer_by meaning) (owner_by meaning made) calls past c moment octets written note engine before out → Resumed meaning made past c moment octets written note engine before out
  resumed-by calls past c moment octets written note engine before out state r = (calls, r, state)

  pub given-by : (calls : List Call) (past : List Event) (c moment : ℕ) (octets written : List ℕ) (note : Note) (engine : Engine S) (before : List ℕ) → Resumes (offer_by meaning) (owner_by meaning made) calls past c moment octets written note engine [] []
      → Resumes (offer_by meaning) (owner_by meaning made) calls past c moment octets written note engine before before
  given-by calls past c moment octets written note engine before r = record {
    more = r.more;
    appended = sym (append-nil before) ∙ ap (λ (l : List ℕ). before ++ l) r.appended;
    writes = r.writes;
    rests = r.rests;
  }

  module _ (grow : HearingGrows meaning_in) (stays : EndingsStay meaning_in) (silent : EndsAreSilent meaning_in) (past : List Event) (c moment : ℕ) where
    -- A piece was fed up to a request, which was performed ..
    pub part-performed : (calls : List Call) (piece : List ℕ) (taken handled : ℕ) (asking engine : Engine S) (before mid out : List ℕ) → taken ≤ length piece → (s : Stops (offer_by meaning) (owner_by meaning made) calls past c moment piece taken asking before mid)
        → Performs meaning made past c moment (take taken piece) s.written (Ok handled) engine mid out
        → TakesFront meaning made past c moment piece (Ok (Some (record { taken = taken; handled = handled }))) (shown_in engine) before out
    part-performed calls piece taken handled asking engine before mid out within s r =
        let all = ap (λ (l : List (Arrival Wanted)). length l) s.asks.completes in
        let size = length-append s.asks.front (s.asks.last ∷ []) in (
          ends-shown r.1.0 past (Piece c moment (take taken piece)) Done engine before out r.1.2
              (resumed-ends (offer_by meaning) (owner_by meaning made) r.1.0 past c moment (take taken piece) s.written Done engine before mid out s.appended r.1.1),
          r.0,
          shortest-by made.limits past c moment piece grow meaning made taken (length s.asks.front + 1) within (omega arith) (omega (arith, all, size)) s.short,
        )

    -- .. or not answered, or given up
    pub part-unperformed : (calls : List Call) (piece : List ℕ) (taken : ℕ) (e : ServeError) (asking engine : Engine S) (before mid out : List ℕ) → taken ≤ length piece → (s : Stops (offer_by meaning) (owner_by meaning made) calls past c moment piece taken asking before mid)
        → Performs meaning made past c moment (take taken piece) s.written (Err e) engine mid out
        → TakesFront meaning made past c moment piece (Err e) (shown_in engine) before out
    part-unperformed calls piece taken e asking engine before mid out within s r =
        let note = note_of {A = Unit {0}} (Err e) in
        let all = ap (λ (l : List (Arrival Wanted)). length l) s.asks.completes in
        let size = length-append s.asks.front (s.asks.last ∷ []) in
        let up = up-brings made.limits past c moment piece grow (max (clock past) moment) (line past c) (take taken piece) (omega (arith, all, size)) in
        let there : is_gone (line past c) ≡ false = ap is_gone up.1 in
        let is = resumed-memory (offer_by meaning) (owner_by meaning made) r.0 past c moment (take taken piece) s.written note engine mid out there r.1 (err-not-done (Unit {0}) e) in
        ends-shown r.0 past (Piece c moment piece) note engine before out r.2
        (part-left (offer_by meaning) (owner_by meaning made) grow stays silent past c moment calls r.0 piece taken asking engine before mid out note within s is r.1)

-- a line that goes on with more octets went on before
going-back : (limits : Limits) (x : List ℕ) (l : Line) → EndingsStay meaning_in → is_going limits (longer x l) ≡ true → is_going limits l ≡ true
going-back limits x Gone stays h = h
going-back limits x Shut stays h = h
going-back limits x (Up s) stays h = by (ending limits s) refl
  where
    by : (o : Option Ending) → ending limits s ≡ o → is_none (ending limits s) ≡ true
    by None is = ap is_none is
    by (Some e) is = absurd (let gone : is_none (ending limits (s ++ x)) ≡ false = ap is_none (stays limits s x e is) in let both : false ≡ true = sym gone ∙ h in cc)

-- what was not refused is there
done-there : (b : Bool) → Done ≡ (if b then Refused else Done) → b ≡ false
done-there true h = absurd cc
done-there false h = refl

-- Of a piece, of which some octets were served, more were, or the rest.
module _ {S : Type 0} (meaning : Meaning S) (made : Made S) (grow : HearingGrows meaning_in) (stays : EndingsStay meaning_in) (silent : EndsAreSilent meaning_in) (past : List Event) (c moment : ℕ) (piece : List ℕ)
    (done : Place) (old new : Shown S) (before mid out : List ℕ) (so : IsDoneTo meaning made past c moment piece done old before mid) where
  abbrev Left : List ℕ
  Left = drop done.taken piece

  abbrev Mid : List Event
  Mid = Piece c moment (take done.taken piece) ∷ past

  left-all : done.taken ≡ 0 → Left ≡ piece
  left-all z = ap (λ (i : ℕ). drop i piece) z

  pub done-more : (part : Place) → 0 < part.taken → ((q : List Event) → Stands meaning made old q → TakesFront meaning made q c moment Left (Ok (Some part)) new mid out)
      → IsDoneTo meaning made past c moment piece (record { taken = done.taken + part.taken; handled = done.handled + part.handled }) new before out
  done-more part some takes =
      elim so [
        | inl z ↦
            let t = takes past z.2 in
            let nothing = z.0 in
            let all = left-all nothing in
            let sum : part.taken ≡ done.taken + part.taken = omega (arith, nothing) in
            let same : take part.taken Left ≡ take (done.taken + part.taken) piece = (λ i. take (sum i) (all i)) in
            let handled = z.1 in
            let counted = t.1 in
            let counts : count_to made.limits past c moment Left part.taken ≡ count_to made.limits past c moment piece (done.taken + part.taken) = ap (λ (l : List ℕ). length (completed made.limits past (Piece c moment l))) same in
            inr (record {
              some = omega (arith, some);
              ends = subst (λ (b : List ℕ). EndsBy meaning made past (Piece c moment (take (done.taken + part.taken) piece)) Done new b out) z.3 (subst (λ (l : List ℕ). EndsBy meaning made past (Piece c moment l) Done new mid out) same t.0);
              count = omega (arith, handled, counted, counts);
              shortest = subst (λ (n : ℕ). IsShortest made.limits past c moment piece n) sum (subst (λ (l : List ℕ). IsShortest made.limits past c moment l part.taken) all t.2);
            })
        | inr e ↦
            let t = takes Mid e.ends.3 in
            let add = take-add done.taken part.taken piece in
            let counts = count-more made.limits past c moment piece grow done.taken part.taken in
            let first = e.count in
            let second = t.1 in
            inr (record {
              some = omega (arith, some);
              ends = subst (λ (l : List ℕ). EndsBy meaning made past (Piece c moment l) Done new before out) (sym add) (
                e.ends.0 ++ t.0.0,
                t.0.1 ∙ ap (λ (l : List ℕ). l ++ t.0.0) e.ends.1 ∙ append_assoc before e.ends.0 t.0.0,
                writes-joined meaning made past c moment (take done.taken piece) (take part.taken Left) grow stays silent e.ends.0 t.0.0 e.ends.2 t.0.2,
                stands-joined meaning made past c moment (take done.taken piece) (take part.taken Left) grow stays silent new t.0.3,
              );
              count = omega (arith, first, second, counts);
              shortest = shortest-more made.limits past c moment piece grow done.taken part.taken e.shortest t.2;
            })
      ]

  pub done-whole : ((q : List Event) → Stands meaning made old q → TakesFront meaning made q c moment Left (Ok None) new mid out) → EndsBy meaning made past (Piece c moment piece) Done new before out
  done-whole takes =
      elim so [
        | inl z ↦ subst (λ (b : List ℕ). EndsBy meaning made past (Piece c moment piece) Done new b out) z.3 (subst (λ (l : List ℕ). EndsBy meaning made past (Piece c moment l) Done new mid out) (left-all z.0) (takes past z.2))
        | inr e ↦
            let t = takes Mid e.ends.3 in
            subst (λ (l : List ℕ). EndsBy meaning made past (Piece c moment l) Done new before out) (take-append-drop done.taken piece) (
              e.ends.0 ++ t.0,
              t.1 ∙ ap (λ (l : List ℕ). l ++ t.0) e.ends.1 ∙ append_assoc before e.ends.0 t.0,
              writes-joined meaning made past c moment (take done.taken piece) Left grow stays silent e.ends.0 t.0 e.ends.2 t.2,
              stands-joined meaning made past c moment (take done.taken piece) Left grow stays silent new t.3,
            )
      ]

  -- .. or it was refused, since its connection is not there
  pub done-refused : ((q : List Event) → Stands meaning made old q → TakesFront meaning made q c moment Left (Err serving.NoConnection) new mid out) → EndsBy meaning made past (Piece c moment piece) Refused new before out
  done-refused takes =
      elim so [
        | inl z ↦ subst (λ (b : List ℕ). EndsBy meaning made past (Piece c moment piece) Refused new b out) z.3 (subst (λ (l : List ℕ). EndsBy meaning made past (Piece c moment l) Refused new mid out) (left-all z.0) (takes past z.2))
        | inr e ↦
            let t = takes Mid e.ends.3 in
            let there = done-there (is_gone (line past c)) e.ends.2.1 in
            absurd (refused-there Mid c (there-still past c moment (take done.taken piece) there) t.2.1)
      ]

  -- .. or an allocation failed in it
  pub done-cut : done.taken ≤ length piece → (handled answered : ℕ) → ((q : List Event) → Stands meaning made old q → TakesFront meaning made q c moment Left (Err (serving.Memory handled answered)) new mid out)
      → EndsBy meaning made past (Piece c moment piece) (Memory (done.handled + handled) (done.handled + answered)) new before out
  done-cut within handled answered takes =
      elim so [
        | inl z ↦
            let nothing = z.1 in
            let first : handled ≡ done.handled + handled = omega (arith, nothing) in
            let second : answered ≡ done.handled + answered = omega (arith, nothing) in
            let same : Memory handled answered ≡ Memory (done.handled + handled) (done.handled + answered) = (λ i. Memory (first i) (second i)) in
            subst (λ (note : Note). EndsBy meaning made past (Piece c moment piece) note new before out) same
            (subst (λ (b : List ℕ). EndsBy meaning made past (Piece c moment piece) (Memory handled answered) new b out) z.3 (subst (λ (l : List ℕ). EndsBy meaning made past (Piece c moment l) (Memory handled answered) new mid out) (left-all z.0) (takes past z.2)))
        | inr e ↦
            let t = takes Mid e.ends.3 in
            let goes = (needs-going made.limits Mid c moment Left t.2.needs).1 in
            let going = going-back made.limits (take done.taken piece) (line past c) stays (subst (λ (l : Line). is_going made.limits l ≡ true) (line-here made.limits past c moment (take done.taken piece) Left) goes) in
            subst (λ (n : ℕ). EndsBy meaning made past (Piece c moment piece) (Memory (n + handled) (n + answered)) new before out) (sym e.count) (
              e.ends.0 ++ t.0,
              t.1 ∙ ap (λ (l : List ℕ). l ++ t.0) e.ends.1 ∙ append_assoc before e.ends.0 t.0,
              cut-joined meaning made past c moment piece done.taken grow stays silent within e.shortest going e.ends.0 t.0 handled answered e.ends.2 t.2,
              cut-stands meaning made past c moment piece done.taken grow stays silent within e.shortest going e.ends.0 t.0 handled answered e.ends.2 t.2 new t.3,
            )
      ]

-- all octets of a piece were served
pub done-all : {S : Type 0} (meaning : Meaning S) (made : Made S) (past : List Event) (c moment : ℕ) (piece : List ℕ) (done : Place) (server : Shown S) (before out : List ℕ) → 0 < done.taken → done.taken ≡ length piece
    → IsDoneTo meaning made past c moment piece done server before out → EndsBy meaning made past (Piece c moment piece) Done server before out
done-all meaning made past c moment piece done server before out some all so = elim so [
  | inl z ↦ absurd (let nothing = z.0 in omega (arith, some, nothing))
  | inr e ↦ subst (λ (l : List ℕ). EndsBy meaning made past (Piece c moment l) Done server before out) (take_all done.taken piece (omega (arith, all))) e.ends
]
