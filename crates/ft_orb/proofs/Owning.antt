-- An engine after a piece, and after an answer.
use Rattle.std.proofs.Common.{◌≡◌, ◌==◌, ℕ, ◌+◌, ◌≤◌, ◌<◌, max, Bool, true, false, List, [], ◌∷◌, ◌++◌, length, map, take, Option, Some, None, Result, Ok, Err, refl, sym, ap, subst, ◌∙◌, arith, append_assoc, length-append}
use Rattle.std.specs.BTreeMap.{get}
use Rattle.std.specs.Option.{option_map}
use Rattle.std.specs.Ordering.{nat_cmp}
use Rattle.std.proofs.Math.Seq.{take-append_seam}
use Rattle.std.proofs.lemmas.Bool.{eqb-true}
use Rattle.std.proofs.lemmas.List.{append-nil, append_cancel_left, length-take, take-take, take_all}
use Rattle.cdr_core.specs.View.{values_of}
use Rattle.giop_frames.specs.declared.limits.Limits.{Limits}
use Rattle.giop_link.specs.Hearing as hearing
use Rattle.giop_link.specs.Hearing.{Question, meaning_in, says}
use Rattle.giop_link.specs.Laws.{HearingGrows}
use Rattle.giop_link.specs.Linking.{LinkStands, Linked}
use Rattle.ft_log.specs.Kept.{KeptOutcome, unexpired}
use Rattle.ft_log.specs.Logged.{logged}
use Rattle.ft_log.specs.Performed.{Performed}
use Rattle.ft_log.specs.declared.system_exception.SystemName.{SystemName}
use Rattle.ft_orb.specs.declared.desk.Step.{Step}
use Rattle.ft_orb.specs.declared.desk.Step.TheVariants.{Answered, Quiet, Unanswered, Unhandled}
use Rattle.ft_orb.specs.declared.engine.Engine.{Engine}
use Rattle.ft_orb.specs.declared.events.Note.{Note}
use Rattle.ft_orb.specs.declared.events.Note.TheVariants.{Done, Memory}
use Rattle.ft_orb.specs.declared.keeper.Repeat.{Repeat}
use Rattle.ft_orb.specs.declared.keeper.Waiting.{Waiting}
use Rattle.ft_orb.specs.Pause.{Pause}
use Rattle.ft_orb.specs.Pause as pause
use Rattle.ft_orb.specs.declared.pausing.Ask.{Ask}
use Rattle.ft_orb.specs.declared.pausing.Pending.{Pending}
use Rattle.ft_orb.specs.Pause.{pending_of}
use Rattle.ft_orb.specs.declared.pausing.Place.{Place}
use Rattle.ft_orb.specs.declared.serving.Cut.{Cut}
use Rattle.ft_objects.specs.Catalogues.{Offer}
use Rattle.ft_orb.specs.Offerings.{terms_by}
use Rattle.ft_orb.specs.Engines.{AsksOf, AsksOnceOf, Awaited, EndsOf, EndsOnceOf, IsDueOf, IsOnceOf, KeepsOf, RestsOf, ResumesOf, ResumesOnceOf, StandsOf, StopsOf, as_server, awaited_of, waits_in, pending_in, terms_in}
use Rattle.ft_orb.specs.ExactlyOnce.{Absent, Arrival, Bad, ClocksGrow, Field, OneExpiration, Present, Rules, state_of}
use Rattle.ft_orb.specs.History.{Event, Gone, Line, Piece, Shut, Up, arrivals, arrivals_in, arrivals_on, changes, clock, completed, front_on, line, longer, origin, shortened}
use Rattle.cdr_core.specs.Value.{Values}
use Rattle.ft_objects.specs.Interfaces.{Interface}
use Rattle.ft_orb.specs.Outputs.{WritesBy, after, output_cut}
use Rattle.ft_orb.specs.Owners.{OwnerOf, Voice, answered_so_far, kept_of, owned_rules, owned_says, owned_table, owner_rules, voice_of}
use Rattle.ft_orb.specs.Pauses.{Breaks, IsServedTo, Joined, Paused, Reaches}
use Rattle.ft_orb.specs.Private.{IsPut, Served, counted_by, all_answered}
use Rattle.ft_orb.specs.Tellings.{octets_if, rendered, reply_by, told_at}
use Rattle.ft_orb.specs.Requests.{AreAsked, Call, Origin, Terms, Wanted, asked_at, asking, first_with, refusal_at}
use Rattle.ft_orb.specs.Standing.{IsFor, IsSameBut, Shown, capacity_of, share_of, table_of}
use Rattle.ft_orb.specs.Table.{AreAlike, Table, table_after, table_answers, table_step}
use Rattle.ft_orb.specs.Waits.{Finishes, asker_of, call_of, field_with, kept_with}
use Rattle.ft_orb.proofs.Due.{last-acts, none-acted}
use Rattle.ft_orb.proofs.Folded.{ClocksGrow-front, folded_step, table_after-push}
use Rattle.ft_orb.proofs.Going.{front-exact, goes-start, rendered-more, stood-whole}
use Rattle.ft_orb.proofs.Headline.{event-clocks, event_once_by, one-front, past_stands_by, says_agree_by}
use Rattle.ft_orb.proofs.Images.{at-first}
use Rattle.ft_orb.proofs.Law.{run_stands}
use Rattle.ft_orb.proofs.Pieces.{alike-then, apart-by, fed-err, fed-ok, same-by}
use Rattle.ft_orb.proofs.Stopping.{reach-breaks, reach-goes, reach-left, reach-parks, repeat-goes, repeat-left}
use Rattle.ft_log.specs.Holding.{Holding, known, parked}
use Rattle.ft_orb.specs.Seen.{seen_answer, seen_entry, seen_rules, seen_table}
use Rattle.ft_orb.proofs.Changes.{changes-piece}
use Rattle.ft_orb.proofs.Books.{IsFolded, book_by, rendered-seen, step-seen, tables-are-seen}

-- where a piece comes, nothing of it is served
pub start-at : (terms : ℕ → Terms) (voice : Voice) (capacity share : ℕ) (limits : Limits) (c : Origin) (now : ℕ) (t : Table (List Call) Holding) (s piece : List ℕ) (link : Linked) (calls : List Call) (entries : List (KeptOutcome Holding)) (out : List ℕ)
    → LinkStands limits link s → AreAlike now (answered_so_far calls entries) t → IsServedTo terms voice capacity share limits c now t s out piece (record { taken = 0; handled = 0 }) calls link entries out
start-at terms voice capacity share limits c now t s piece link calls entries out st al =
    ([], sym (append-nil out), goes-start (owner_rules (asked_at terms) voice.answers capacity share) (told_at voice.late terms) limits c now t s link (answered_so_far calls entries) st al)

-- .. and it is served whole, or up to what waits
pub whole-is : (terms : ℕ → Terms) (voice : Voice) (capacity share : ℕ) (limits : Limits) (c : Origin) (now : ℕ) (t : Table (List Call) Holding) (s start piece : List ℕ) (calls : List Call) (p : Pause) (link : Linked) (entries : List (KeptOutcome Holding)) (out : List ℕ)
    → p ≡ pause.Whole → Reaches terms voice capacity share limits c now t s start piece calls p link entries out
    → (written : List ℕ) × (out ≡ start ++ written) × Served (owner_rules (asked_at terms) voice.answers capacity share) (told_at voice.late terms) limits c now t s piece link (answered_so_far calls entries) written
whole-is terms voice capacity share limits c now t s start piece calls p link entries out is h =
    subst (λ (x : Pause). Reaches terms voice capacity share limits c now t s start piece calls x link entries out) is h

pub asks-is : (terms : ℕ → Terms) (voice : Voice) (capacity share : ℕ) (limits : Limits) (c : Origin) (now : ℕ) (t : Table (List Call) Holding) (s start piece : List ℕ) (calls : List Call) (p : Pause) (w : Waiting) (place : Place) (link : Linked) (entries : List (KeptOutcome Holding)) (out : List ℕ)
    → p ≡ pause.Asks w place → Reaches terms voice capacity share limits c now t s start piece calls p link entries out
    → Reaches terms voice capacity share limits c now t s start piece calls (pause.Asks w place) link entries out
asks-is terms voice capacity share limits c now t s start piece calls p w place link entries out is h =
    subst (λ (x : Pause). Reaches terms voice capacity share limits c now t s start piece calls x link entries out) is h

pub repeats-is : (terms : ℕ → Terms) (voice : Voice) (capacity share : ℕ) (limits : Limits) (c : Origin) (now : ℕ) (t : Table (List Call) Holding) (s start piece : List ℕ) (calls : List Call) (p : Pause) (r : Repeat) (place : Place) (link : Linked) (entries : List (KeptOutcome Holding)) (out : List ℕ)
    → p ≡ pause.Repeats r place → Reaches terms voice capacity share limits c now t s start piece calls p link entries out
    → Reaches terms voice capacity share limits c now t s start piece calls (pause.Repeats r place) link entries out
repeats-is terms voice capacity share limits c now t s start piece calls p r place link entries out is h =
    subst (λ (x : Pause). Reaches terms voice capacity share limits c now t s start piece calls x link entries out) is h

pub breaks-is : (terms : ℕ → Terms) (voice : Voice) (capacity share : ℕ) (limits : Limits) (c : Origin) (now : ℕ) (t : Table (List Call) Holding) (s start piece : List ℕ) (calls : List Call) (at : Cut) (entries : List (KeptOutcome Holding)) (out : List ℕ)
    → Breaks terms voice capacity share limits c now t s start piece calls at entries out → Breaks terms voice capacity share limits c now t s start piece calls at entries out
breaks-is terms voice capacity share limits c now t s start piece calls at entries out h = h

-- what is asked of a field is asked where its owner is asked first
asked-with : (first : Bool) (f : Field) (refused : Option SystemName) (i : Interface) (arguments : Values) → AreAsked (first_with first f) refused i arguments → AreAsked first refused i arguments
asked-with first f None i arguments h = h
asked-with false Absent (Some name) i arguments h = h
asked-with false Bad (Some name) i arguments h = h
asked-with true Absent (Some name) i arguments h = absurd h
asked-with true Bad (Some name) i arguments h = absurd h
asked-with first (Present key e) (Some name) i arguments h = h

-- nothing is pending, so nothing waits
-- .. whatever is in the slot
pub still-idle : (o : Option Ask) (w v : Waiting) → option_map awaited_of (pending_of w o) ≡ None → option_map awaited_of (pending_of v o) ≡ None
still-idle None w v h = refl
still-idle (Some a) w v h = absurd cc

pub idle-by : {o : Option Pending} → o ≡ None → option_map awaited_of o ≡ None
idle-by is = ap (λ (p : Option Pending). option_map awaited_of p) is

-- a live link stands for a stream
up-by : (limits : Limits) (l : Line) (link : Linked) → IsFor limits (Some link) l → link.is_closed ≡ false → (s : List ℕ) × (l ≡ Up s) × LinkStands limits link s
up-by limits Gone link held live = absurd held
up-by limits Shut link held live = absurd (let k : true ≡ false = sym held.1 ∙ live in cc)
up-by limits (Up s) link held live = (s, refl, held)

module _ {C Outcome : Type 0} (offers : C → Offer) (owner : OwnerOf Outcome) where
  abbrev Theirs : Rules (List Call) Wanted Call Outcome
  Theirs = owned_rules owner

  abbrev Says : List Event → Event → List (Result Outcome SystemName)
  Says = owned_says owner

  abbrev Folded : List Event → Table (List Call) Outcome
  Folded past = owned_table owner past

  -- .. as the log has it
  abbrev Seen : List Event → Table (List Call) Holding
  Seen past = seen_table owner.hold (Folded past)

  pub rests-ends : (calls : List Call) (past : List Event) (e : Event) (note : Note) (new : Engine C) (out grown : List ℕ) → terms_in offers new ≡ owner.terms (changes (after owner.limits past e note)) → waits_in new ≡ None
      → ((written : List ℕ) × (grown ≡ out ++ written) × WritesBy owner.limits owner.tell Says past e written note × StandsOf owner (as_server new calls) (after owner.limits past e note))
      → EndsOf offers owner calls past e note new out grown
  rests-ends calls past e note new out grown are idle x = record { written = x.0; appended = x.1; writes = x.2; rests = record { offer_is = are; idle = idle; stands = x.3 } }

  -- What octets on connection c bring after a past, up to the request that waits.
  pub record Brings (calls : List Call) (past : List Event) (c moment : ℕ) (octets written : List ℕ) (handled : ℕ) (w : Waiting) (link : Linked) : Type 0 where
    pub front : List (Arrival Wanted)
    pub last : Arrival Wanted
    pub completes : completed owner.limits past (Piece c moment octets) ≡ front ++ last ∷ []
    pub asks : asked_at owner.terms last.content ≡ Ok (call_of w)
    pub field : last.field ≡ field_with w.retained
    pub refused : w.refused ≡ refusal_at owner.terms last.content
    pub fit : AreAsked (owner.terms (changes past)).first w.refused ((owner.terms (changes past)).interface w.object_key.items w.operation.items) (values_of w.arguments.items)
    pub out : written ≡ output_cut owner.limits owner.tell Says past (Piece c moment octets) (length front)
    pub count : handled ≡ length front
    pub first : (n : ℕ) → n < length octets → length (completed owner.limits past (Piece c moment (take n octets))) ≤ length front
    pub before : (table_after Theirs (Folded past) front).state ≡ calls
    pub then : (table_after Theirs (Folded past) (front ++ last ∷ [])).state ≡ calls ++ call_of w ∷ []
    pub question : Question
    pub content : last.content ≡ asking (origin past c) question
    pub heard : link.inbound ≡ Some (says (hearing.asks question))
    pub asker : w.asker ≡ asker_of question
    pub clock_is : last.clock ≡ max (clock past) moment
    -- what is kept then
    pub entries : List (KeptOutcome Holding)
    pub kept : unexpired (max (clock past) moment) entries ≡ unexpired (max (clock past) moment) (map (seen_entry owner.hold) (table_after Theirs (Folded past) front).entries)

  brings-at : (past : List Event) (c moment : ℕ) (octets written : List ℕ) (s : List ℕ) (link : Linked) (calls : List Call) (entries : List (KeptOutcome Holding)) (handled : ℕ) (w : Waiting) → line past c ≡ Up s
      → Paused owner.terms (voice_of owner) owner.capacity owner.share owner.limits (origin past c) (max (clock past) moment) (Seen past) s octets link calls entries written handled w
      → Brings calls past c moment octets written handled w link
  brings-at past c moment octets written s link calls entries handled w up p =
      let now = max (clock past) moment in
      let on : (xs : List ℕ) → completed owner.limits past (Piece c moment xs) ≡ arrivals_in owner.limits (origin past c) now s xs = λ xs. ap (λ (l : Line). arrivals_on owner.limits (origin past c) now l xs) up in
      let all : completed owner.limits past (Piece c moment octets) ≡ p.before ++ p.a ∷ [] = on octets ∙ p.arrivals in
      let one = tables-are-seen owner.hold Theirs (Folded past) p.before in
      let two = tables-are-seen owner.hold Theirs (Folded past) (p.before ++ p.a ∷ []) in
      let both = folded_step (seen_rules owner.hold Theirs) now (answered_so_far calls p.old) (Seen past) p.before p.a (subst (λ (i : ℕ). now ≤ i) (sym p.clock) (omega arith)) p.alike in
      let here : asking (origin past c) p.question ≡ asking p.waits.c p.waits.q = sym p.content ∙ p.waits.content in
      let same : p.waits.q ≡ p.question = cc in
      let from : p.waits.c ≡ origin past c = cc in
      record {
        front = p.before;
        last = p.a;
        completes = all;
        asks = p.waits.asks;
        field = p.waits.field;
        refused = p.waits.refused;
        fit = subst (λ (o : Origin). AreAsked (owner.terms o.changes).first w.refused ((owner.terms o.changes).interface w.object_key.items w.operation.items) (values_of w.arguments.items)) from (asked-with (owner.terms p.waits.c.changes).first p.a.field w.refused _ _ p.waits.spells.fit);
        out = p.out ∙ ap (rendered (told_at owner.late owner.terms) p.before) one.1 ∙ rendered-seen (book_by owner) p.before (table_answers Theirs (Folded past) p.before) ∙ sym (rendered-more Theirs owner.tell (Folded past) p.before (p.a ∷ []))
            ∙ sym (ap (λ (xs : List (Arrival Wanted)). rendered owner.tell (take (length p.before) xs) (table_answers Theirs (Folded past) xs)) all
            ∙ ap (λ (xs : List (Arrival Wanted)). rendered owner.tell xs (table_answers Theirs (Folded past) (p.before ++ p.a ∷ []))) (take-append_seam p.before (p.a ∷ [])));
        count = p.count;
        first = λ n less. let few = p.first n less in let size = ap (λ (xs : List (Arrival Wanted)). length xs) (on (take n octets)) in omega (arith, few, size);
        before = sym (p.alike.state ∙ ap (λ (u : Table (List Call) Holding). u.state) one.0);
        then = ap (λ (u : Table (List Call) Holding). u.state) (sym two.0) ∙ sym both.1.state ∙ ap (λ (x : Table (List Call) Holding × Result Holding SystemName). x.0.state) p.waits.steps;
        question = p.question;
        content = p.content;
        heard = p.heard;
        asker = (λ i. record { version = p.waits.spells.version i; request_id = p.waits.spells.id i; wish = p.waits.spells.wish i }) ∙ ap asker_of same;
        clock_is = p.clock;
        entries = entries;
        kept = p.waits.still ∙ p.alike.entries ∙ ap (λ (u : Table (List Call) Holding). unexpired now u.entries) one.0;
      }

  -- .. as an engine keeps them
  pub brings-of : (calls : List Call) (engine : Engine C) (past : List Event) (moment : ℕ) (octets written : List ℕ) (p : Pending) → (k : KeepsOf offers owner calls engine past moment octets written p)
      → Brings calls past p.connection moment octets written p.place.handled p.waiting k.link
  brings-of calls engine past moment octets written p k =
      let c = p.connection in
      let now = engine.keeper.clock in
      let held : IsFor owner.limits (Some k.was) (line past c) = subst (λ (o : Option Linked). IsFor owner.limits o (line past c)) k.stood (k.stands.lines c) in
      let up = up-by owner.limits (line past c) k.was held k.live in
      let paused = k.paused (voice_of owner) up.0 (Seen past) up.2 (alike-then (book_by owner) k.server k.server past c moment octets k.stands now k.clock) in
      let at : now ≡ max (clock past) moment = k.clock ∙ ap (λ (n : ℕ). max n moment) k.stands.moment in
      brings-at past c moment octets written up.0 k.link calls (logged engine.keeper.log).entries p.place.handled p.waiting up.1
      (at-first (λ a b n. Paused owner.terms (voice_of owner) a b owner.limits (origin past c) n (Seen past) up.0 octets k.link calls (logged engine.keeper.log).entries written p.place.handled p.waiting) _ _ _ _ _ _ k.stands.capacity_is k.stands.share_is at paused)

  pub brings-kept : (calls : List Call) (engine : Engine C) (past : List Event) (moment : ℕ) (octets written : List ℕ) (p : Pending) → (k : KeepsOf offers owner calls engine past moment octets written p)
      → unexpired (max (clock past) moment) (logged engine.keeper.log).entries ≡ unexpired (max (clock past) moment) (map (seen_entry owner.hold) (table_after Theirs (Folded past) (brings-of calls engine past moment octets written p k).front).entries)
  unfolding brings-of brings-at
  brings-kept calls engine past moment octets written p k = (brings-of calls engine past moment octets written p k).kept

  pub asks-of : (calls : List Call) (engine : Engine C) (past : List Event) (moment : ℕ) (octets written : List ℕ) (p : Pending) → KeepsOf offers owner calls engine past moment octets written p
      → AsksOf offers owner calls engine past moment octets written (awaited_of p)
  asks-of calls engine past moment octets written p k =
      let b = brings-of calls engine past moment octets written p k in
      record {
        waits = ap (λ (o : Option Pending). option_map awaited_of o) k.waits;
        front = b.front;
        last = b.last;
        completes = b.completes;
        asks = b.asks;
        field = b.field;
        refused = b.refused;
        fit = b.fit;
        out = b.out;
        question = b.question;
        content = b.content;
        link = k.link;
        held = k.held;
        heard = b.heard;
        pending = p;
        is = refl;
        asker = b.asker;
        keeps = k;
      }

  -- the octets taken are the shortest front of the piece that completes so many arrivals
  short-by : (past : List Event) (c moment : ℕ) (piece : List ℕ) (taken : ℕ) (s : List ℕ) (k : ℕ) (front : List (Arrival Wanted)) (last : Arrival Wanted) → line past c ≡ Up s → taken ≤ length piece → completed owner.limits past (Piece c moment (take taken piece)) ≡ front ++ last ∷ []
      → ((n : ℕ) → n < length (take taken piece) → length (completed owner.limits past (Piece c moment (take n (take taken piece)))) ≤ length front)
      → k ≡ length (completed owner.limits past (Piece c moment (take taken piece))) → shortened owner.limits past (Piece c moment piece) k ≡ Piece c moment (take taken piece)
  short-by past c moment piece taken s k front last up within completes first count =
      let now = max (clock past) moment in
      let on : (xs : List ℕ) → completed owner.limits past (Piece c moment xs) ≡ arrivals_in owner.limits (origin past c) now s xs = λ xs. ap (λ (l : Line). arrivals_on owner.limits (origin past c) now l xs) up in
      let size = length-take taken piece in
      let here = ap (λ (xs : List (Arrival Wanted)). length xs) (on (take taken piece)) in
      let all = ap (λ (xs : List (Arrival Wanted)). length xs) completes in
      let both = length-append front (last ∷ []) in
      let exact = front-exact Theirs owner.tell owner.limits (origin past c) now (Folded past) s piece taken k within (omega (arith, count, here))
      (λ m less.
      let few = first m (omega (arith, size, within, less)) in
      let there = ap (λ (xs : List (Arrival Wanted)). length xs) (on (take m (take taken piece))) in
      let same = ap (λ (l : List ℕ). length (arrivals_in owner.limits (origin past c) now s l)) (take-take m taken piece (omega (arith, less))) in
      omega (arith, few, there, same, all, both, count)) in
      ap (λ (l : Line). Piece c moment (front_on owner.limits (origin past c) now l piece k)) up ∙ ap (λ (l : List ℕ). Piece c moment l) exact

  -- a request waits
  pub stops-now : (calls : List Call) (old new : Engine C) (past : List Event) (c moment : ℕ) (piece : List ℕ) (now : ℕ) (out grown : List ℕ) (was link : Linked) (w : Waiting) (place : Place) (number : ℕ) (p : Pending) → RestsOf offers owner calls old past → terms_in offers new ≡ owner.terms (changes past) → pending_in new ≡ Some p
      → p ≡ record { number = number; connection = c; waiting = w; place = place } → IsSameBut c (as_server old calls) (as_server new calls) → now ≡ max old.keeper.clock moment → new.keeper.clock ≡ now → get nat_cmp old.links c ≡ Some was → get nat_cmp new.links c ≡ Some link → was.is_closed ≡ false
      → 0 < place.taken → place.taken ≤ length piece
      → ((voice : Voice) (s : List ℕ) (t : Table (List Call) Holding) → LinkStands owner.limits was s → AreAlike now (answered_so_far calls (logged old.keeper.log).entries) t
      → Reaches owner.terms voice (logged old.keeper.log).capacity (logged old.keeper.log).share owner.limits (origin past c) now t s out piece calls (pause.Asks w place) link (logged new.keeper.log).entries grown)
      → StopsOf offers owner calls past c moment piece place.taken new out grown
  stops-now calls old new past c moment piece now out grown was link w place number p h are waits is same at then-at stood held live some within reaches =
      let server : Shown (List Call) = as_server old calls in
      let line-for : IsFor owner.limits (Some was) (line past c) = subst (λ (o : Option Linked). IsFor owner.limits o (line past c)) stood (h.stands.lines c) in
      let up = up-by owner.limits (line past c) was line-for live in
      let first = reaches (voice_of owner) up.0 (Seen past) up.2 (alike-then (book_by owner) server server past c moment piece h.stands now at) in
      let x : Pending = record { number = number; connection = c; waiting = w; place = place } in
      let size = length-take place.taken piece in
      let keeps : KeepsOf offers owner calls new past moment (take place.taken piece) first.0 x = record {
        offer_is = are;
        waits = waits ∙ ap (λ (y : Pending). Some y) is;
        server = server;
        answered = refl;
        was = was;
        link = link;
        stands = h.stands;
        same = same;
        clock = then-at ∙ at;
        stood = stood;
        live = live;
        held = held;
        whole = omega (arith, size, within);
        some = omega (arith, size, within, some);
        paused = λ voice s t st al.
            let al0 : AreAlike now (table_of server) t = subst (λ (n : ℕ). AreAlike n (table_of server) t) then-at al in
            let r = reaches voice s t st al0 in
            let eq : r.0 ≡ first.0 = append_cancel_left out r.0 first.0 (sym r.1 ∙ first.1) in
            subst (λ (n : ℕ). Paused owner.terms voice (capacity_of server) (share_of server) owner.limits (origin past c) n t s (take place.taken piece) link calls (logged new.keeper.log).entries first.0 place.handled w) (sym then-at)
            (subst (λ (l : List ℕ). Paused owner.terms voice (capacity_of server) (share_of server) owner.limits (origin past c) now t s (take place.taken piece) link calls (logged new.keeper.log).entries l place.handled w) eq r.2);
      } in
      stops-by calls new past c moment piece out grown w place number up.0 first.0 up.1 within first.1 keeps
    where
      stops-by : (calls : List Call) (new : Engine C) (past : List Event) (c moment : ℕ) (piece out grown : List ℕ) (w : Waiting) (place : Place) (number : ℕ) (s written : List ℕ) → line past c ≡ Up s → place.taken ≤ length piece → grown ≡ out ++ written
          → KeepsOf offers owner calls new past moment (take place.taken piece) written (record { number = number; connection = c; waiting = w; place = place })
          → StopsOf offers owner calls past c moment piece place.taken new out grown
      stops-by calls new past c moment piece out grown w place number s written up within appended keeps =
          let x : Pending = record { number = number; connection = c; waiting = w; place = place } in
          let a = asks-of calls new past moment (take place.taken piece) written x keeps in
          let b = brings-of calls new past moment (take place.taken piece) written x keeps in
          let size = length-append a.front (a.last ∷ []) in
          let all = ap (λ (xs : List (Arrival Wanted)). length xs) a.completes in
          record {
            written = written;
            appended = appended;
            number = number;
            call = call_of w;
            field = field_with w.retained;
            refused = w.refused;
            asks = a;
            short = short-by past c moment piece place.taken s (length a.front + 1) b.front b.last up within b.completes b.first (omega (arith, size, all));
          }

  -- What octets on connection c bring after a past, up to a repeat of a request that is parked.
  pub record Turns (calls : List Call) (past : List Event) (c moment : ℕ) (octets written : List ℕ) (handled : ℕ) (r : Repeat) : Type 0 where
    pub front : List (Arrival Wanted)
    pub last : Arrival Wanted
    pub completes : completed owner.limits past (Piece c moment octets) ≡ front ++ last ∷ []
    pub out : written ≡ output_cut owner.limits owner.tell Says past (Piece c moment octets) (length front)
    pub first : (n : ℕ) → n < length octets → length (completed owner.limits past (Piece c moment (take n octets))) ≤ length front
    pub question : Question
    pub content : last.content ≡ asking (origin past c) question
    pub asker : r.asker ≡ asker_of question
    pub says : seen_answer owner.hold (table_step Theirs (table_after Theirs (Folded past) front) last).1 ≡ Ok (parked r.number)
    pub before : (table_after Theirs (Folded past) front).state ≡ calls
    pub then : (table_step Theirs (table_after Theirs (Folded past) front) last).0.state ≡ calls

  turns-at : (past : List Event) (c moment : ℕ) (octets written : List ℕ) (s : List ℕ) (link : Linked) (calls : List Call) (entries : List (KeptOutcome Holding)) (handled : ℕ) (r : Repeat) → line past c ≡ Up s
      → Joined owner.terms (voice_of owner) owner.capacity owner.share owner.limits (origin past c) (max (clock past) moment) (Seen past) s octets link calls entries written handled r
      → Turns calls past c moment octets written handled r
  turns-at past c moment octets written s link calls entries handled r up p =
      let now = max (clock past) moment in
      let on : (xs : List ℕ) → completed owner.limits past (Piece c moment xs) ≡ arrivals_in owner.limits (origin past c) now s xs = λ xs. ap (λ (l : Line). arrivals_on owner.limits (origin past c) now l xs) up in
      let all : completed owner.limits past (Piece c moment octets) ≡ p.before ++ p.a ∷ [] = on octets ∙ p.arrivals in
      let one = tables-are-seen owner.hold Theirs (Folded past) p.before in
      let two = tables-are-seen owner.hold Theirs (Folded past) (p.before ++ p.a ∷ []) in
      let both = folded_step (seen_rules owner.hold Theirs) now (answered_so_far calls p.old) (Seen past) p.before p.a (subst (λ (i : ℕ). now ≤ i) (sym p.clock) (omega arith)) p.alike in
      let here : asking (origin past c) p.question ≡ asking p.waits.c p.waits.q = sym p.content ∙ p.waits.content in
      let same : p.waits.q ≡ p.question = cc in
      record {
        front = p.before;
        last = p.a;
        completes = all;
        out = p.out ∙ ap (rendered (told_at owner.late owner.terms) p.before) one.1 ∙ rendered-seen (book_by owner) p.before (table_answers Theirs (Folded past) p.before) ∙ sym (rendered-more Theirs owner.tell (Folded past) p.before (p.a ∷ []))
            ∙ sym (ap (λ (xs : List (Arrival Wanted)). rendered owner.tell (take (length p.before) xs) (table_answers Theirs (Folded past) xs)) all
            ∙ ap (λ (xs : List (Arrival Wanted)). rendered owner.tell xs (table_answers Theirs (Folded past) (p.before ++ p.a ∷ []))) (take-append_seam p.before (p.a ∷ [])));
        first = λ n less. let few = p.first n less in let size = ap (λ (xs : List (Arrival Wanted)). length xs) (on (take n octets)) in omega (arith, few, size);
        question = p.question;
        content = p.content;
        asker = p.waits.asker ∙ ap asker_of same;
        says = sym (ap (λ (x : Table (List Call) Holding × Result Holding SystemName). x.1) (step-seen owner.hold Theirs (table_after Theirs (Folded past) p.before) p.a))
            ∙ sym (ap (λ (u : Table (List Call) Holding). (table_step (seen_rules owner.hold Theirs) u p.a).1) one.0)
            ∙ sym both.0 ∙ ap (λ (x : Table (List Call) Holding × Result Holding SystemName). x.1) p.waits.steps;
        before = sym (p.alike.state ∙ ap (λ (u : Table (List Call) Holding). u.state) one.0);
        then = ap (λ (u : Table (List Call) Outcome). u.state) (sym (table_after-push Theirs (Folded past) p.before p.a)) ∙ ap (λ (u : Table (List Call) Holding). u.state) (sym two.0) ∙ sym both.1.state
            ∙ ap (λ (x : Table (List Call) Holding × Result Holding SystemName). x.0.state) p.waits.steps;
      }

  -- .. as a piece is served
  pub turns-of : (calls : List Call) (old : Engine C) (past : List Event) (c moment : ℕ) (piece : List ℕ) (now : ℕ) (out mid : List ℕ) (was link : Linked) (r : Repeat) (place : Place) (entries : List (KeptOutcome Holding)) (h : RestsOf offers owner calls old past) → now ≡ max old.keeper.clock moment
      → get nat_cmp old.links c ≡ Some was → was.is_closed ≡ false
      → ((voice : Voice) (s : List ℕ) (t : Table (List Call) Holding) → LinkStands owner.limits was s → AreAlike now (answered_so_far calls (logged old.keeper.log).entries) t
      → Reaches owner.terms voice (logged old.keeper.log).capacity (logged old.keeper.log).share owner.limits (origin past c) now t s out piece calls (pause.Repeats r place) link entries mid)
      → (written : List ℕ) × (mid ≡ out ++ written) × Turns calls past c moment (take place.taken piece) written place.handled r
  turns-of calls old past c moment piece now out mid was link r place entries h at stood live reaches =
      let up = up-by owner.limits (line past c) was (subst (λ (o : Option Linked). IsFor owner.limits o (line past c)) stood (h.stands.lines c)) live in
      let x = reaches (voice_of owner) up.0 (Seen past) up.2 (alike-then (book_by owner) (as_server old calls) (as_server old calls) past c moment piece h.stands now at) in
      let is : now ≡ max (clock past) moment = at ∙ ap (λ (n : ℕ). max n moment) h.stands.moment in (
        x.0,
        x.1,
        turns-at past c moment (take place.taken piece) x.0 up.0 link calls entries place.handled r up.1
            (at-first (λ a b n. Joined owner.terms (voice_of owner) a b owner.limits (origin past c) n (Seen past) up.0 (take place.taken piece) link calls entries x.0 place.handled r) _ _ _ _ _ _ h.stands.capacity_is h.stands.share_is is x.2),
      )

  -- Of a piece so many octets were served, up to a repeat.
  module _ (grow : HearingGrows meaning_in) (calls : List Call) (old new : Engine C) (past : List Event) (c moment : ℕ) (piece : List ℕ) (now : ℕ) (out mid : List ℕ) (was link : Linked) (r : Repeat) (place : Place) (h : RestsOf offers owner calls old past)
      (are : terms_in offers new ≡ owner.terms (changes past)) (idle : waits_in new ≡ None) (same : IsSameBut c (as_server old calls) (as_server new calls)) (at : now ≡ max old.keeper.clock moment) (then-at : new.keeper.clock ≡ now) (stood : get nat_cmp old.links c ≡ Some was) (live : was.is_closed ≡ false)
      (some : 0 < place.taken) (within : place.taken ≤ length piece)
      (reaches : (voice : Voice) (s : List ℕ) (t : Table (List Call) Holding) → LinkStands owner.limits was s → AreAlike now (answered_so_far calls (logged old.keeper.log).entries) t
      → Reaches owner.terms voice (logged old.keeper.log).capacity (logged old.keeper.log).share owner.limits (origin past c) now t s out piece calls (pause.Repeats r place) link (logged new.keeper.log).entries mid) where
    abbrev Taken : List ℕ
    Taken = take place.taken piece

    line-was : IsFor owner.limits (Some was) (line past c)
    line-was = subst (λ (o : Option Linked). IsFor owner.limits o (line past c)) stood (h.stands.lines c)

    up : (s : List ℕ) × (line past c ≡ Up s) × LinkStands owner.limits was s
    up = up-by owner.limits (line past c) was line-was live

    -- what it brings
    pub turns : (written : List ℕ) × (mid ≡ out ++ written) × Turns calls past c moment Taken written place.handled r
    turns = turns-of calls old past c moment piece now out mid was link r place (logged new.keeper.log).entries h at stood live reaches

    pub turns-short : shortened owner.limits past (Piece c moment piece) (length turns.2.front + 1) ≡ Piece c moment Taken
    turns-short =
        let b = turns.2 in
        let size = length-append b.front (b.last ∷ []) in
        let all = ap (λ (xs : List (Arrival Wanted)). length xs) b.completes in
        short-by past c moment piece place.taken up.0 (length b.front + 1) b.front b.last up.1 within b.completes b.first (omega (arith, size, all))

    -- what is said to the repeat is appended ..
    pub turns-end : (grown : List ℕ) (step : Step) (n : ℕ) → get nat_cmp new.links c ≡ Some link
        → ((q : Question) → r.asker ≡ asker_of q → IsPut (octets_if (owner.late (asking (origin past c) q) r.number)) step mid grown) → counted_by place.handled step ≡ Ok n
        → EndsOf offers owner calls past (Piece c moment Taken) Done new out grown
    turns-end grown step n held put by =
        let size = length-take place.taken piece in
        rests-ends calls past (Piece c moment Taken) Done new out grown are idle
        (fed-ok (book_by owner) (as_server old calls) (as_server new calls) past c moment Taken now out grown was link h.stands same at then-at stood held live
        (λ s t st al.
        let x = reaches (voice_of owner) s t st al in
        stood-whole (owner_rules (asked_at owner.terms) (kept_of owner) (logged old.keeper.log).capacity (logged old.keeper.log).share) (told_at owner.late owner.terms) owner.limits (origin past c) now t s out Taken place.taken link (answered_so_far calls (logged new.keeper.log).entries) grown n
        (omega (arith, size))
        (repeat-goes owner.terms (voice_of owner) (logged old.keeper.log).capacity (logged old.keeper.log).share owner.limits (origin past c) now t s out Taken place n link calls (logged new.keeper.log).entries mid grown r step
        (x.0, x.1, subst (λ (l : List ℕ). Joined owner.terms (voice_of owner) (logged old.keeper.log).capacity (logged old.keeper.log).share owner.limits (origin past c) now t s l link calls (logged new.keeper.log).entries x.0 place.handled r) (sym (take_all place.taken Taken (omega (arith, size)))) x.2)
        put by)))

    -- or nothing was done for it
    pub turns-left : get nat_cmp new.links c ≡ None → EndsOf offers owner calls past (Piece c moment piece) (Memory place.handled place.handled) new out mid
    turns-left gone =
        rests-ends calls past (Piece c moment piece) (Memory place.handled place.handled) new out mid are idle
        (fed-err (book_by owner) (as_server old calls) (as_server new calls) past c moment piece now out mid was (all_answered place.handled) h.stands same at then-at stood gone live (omega (arith, some, within))
        (λ s t st al.
        repeat-left owner.terms (voice_of owner) (logged old.keeper.log).capacity (logged old.keeper.log).share owner.limits (origin past c) now t s out piece grow place link calls (logged new.keeper.log).entries mid r within (reaches (voice_of owner) s t st al)))

  -- what `finish` appended, behind what was written before
  finishes-more : (w : Waiting) (outcome : Performed) (mid new : List (KeptOutcome Holding)) (step : Step) (out grown written : List ℕ) → Finishes w outcome mid step new out grown
      → (more : List ℕ) × (grown ≡ out ++ more) × Finishes w outcome mid step new written (written ++ more)
  finishes-more w outcome mid new Quiet out grown written d = absurd d.1
  finishes-more w outcome mid new Answered out grown written d = (reply_by w.asker.wish w.asker.version w.asker.request_id outcome, d.1, (d.0, refl))
  finishes-more w outcome mid new Unanswered out grown written d = ([], d.1.0 ∙ sym (append-nil out), (d.0, (append-nil written, d.1.1)))
  finishes-more w outcome mid new Unhandled out grown written d = absurd d.1

  module _ (grow : HearingGrows meaning_in) (calls : List Call) (old new : Engine C) (past : List Event) (moment : ℕ) (octets written : List ℕ) (p : Pending) (a : KeepsOf offers owner calls old past moment octets written p) (outcome : Performed)
      (gave : kept_of owner calls (call_of p.waiting) ≡ known outcome) (step : Step) (out grown : List ℕ) (r : Result ℕ Cut)
      (done : Finishes p.waiting outcome (logged old.keeper.log).entries step (logged new.keeper.log).entries out grown) (by : r ≡ counted_by p.place.handled step)
      (are : new.offering ≡ old.offering) (idle : waits_in new ≡ None) (same : IsSameBut p.connection (as_server old calls) (as_server new (calls ++ call_of p.waiting ∷ []))) (clock : new.keeper.clock ≡ old.keeper.clock) where
    abbrev Later : List Call
    Later = calls ++ call_of p.waiting ∷ []

    here : take p.place.taken octets ≡ octets
    here = let size = a.whole in take_all p.place.taken octets (omega (arith, size))

    more-written : (more : List ℕ) × (grown ≡ out ++ more) × Finishes p.waiting outcome (logged old.keeper.log).entries step (logged new.keeper.log).entries written (written ++ more)
    more-written = finishes-more p.waiting outcome (logged old.keeper.log).entries (logged new.keeper.log).entries step out grown written done

    both-same : IsSameBut p.connection a.server (as_server new Later)
    both-same = record {
      limits = same.limits ∙ a.same.limits;
      capacity = same.capacity ∙ a.same.capacity;
      share = same.share ∙ a.same.share;
      greatest = same.greatest ∙ a.same.greatest;
      others = λ q is. same.others q is ∙ a.same.others q is;
    }

    -- what waited, as it was reached
    reached : (s : List ℕ) (t : Table (List Call) Holding) → LinkStands owner.limits a.was s → AreAlike old.keeper.clock (table_of a.server) t
        → Reaches owner.terms (voice_of owner) (capacity_of a.server) (share_of a.server) owner.limits (origin past p.connection) old.keeper.clock t s [] octets calls (pause.Asks p.waiting p.place) a.link (logged old.keeper.log).entries written
    reached s t st al = (
      written,
      refl,
      subst (λ (l : List ℕ). Paused owner.terms (voice_of owner) (capacity_of a.server) (share_of a.server) owner.limits (origin past p.connection) old.keeper.clock t s l a.link calls (logged old.keeper.log).entries written p.place.handled p.waiting) (sym here) (a.paused (voice_of owner) s t st al),
    )

    resumes-by : (note : Note)
        → ((w : List ℕ) × (written ++ more-written.0 ≡ [] ++ w) × WritesBy owner.limits owner.tell (owned_says owner) past (Piece p.connection moment octets) w note × StandsOf owner (as_server new Later) (after owner.limits past (Piece p.connection moment octets) note))
        → ResumesOf offers owner Later past p.connection moment octets written note new out grown
    resumes-by note x = record {
      more = more-written.0;
      appended = more-written.1;
      writes = subst (λ (l : List ℕ). WritesBy owner.limits owner.tell (owned_says owner) past (Piece p.connection moment octets) l note) (sym x.1) x.2;
      rests = record { offer_is = ap (terms_by offers) are ∙ a.offer_is ∙ ap owner.terms (sym (changes-piece owner.limits past p.connection moment octets note)); idle = idle; stands = x.3 };
    }

    -- it is answered ..
    pub resumes-done : (h : ℕ) → r ≡ Ok h → get nat_cmp new.links p.connection ≡ Some a.link → ResumesOf offers owner Later past p.connection moment octets written Done new out grown
    resumes-done h is held =
        let size = a.whole in
        resumes-by Done
        (fed-ok (book_by owner) a.server (as_server new Later) past p.connection moment octets old.keeper.clock [] (written ++ more-written.0) a.was a.link a.stands both-same a.clock clock a.stood held a.live
        (λ s t st al.
        stood-whole (owner_rules (asked_at owner.terms) (kept_of owner) (capacity_of a.server) (share_of a.server)) (told_at owner.late owner.terms) owner.limits (origin past p.connection) old.keeper.clock t s [] octets p.place.taken a.link (answered_so_far Later (logged new.keeper.log).entries) (written ++ more-written.0) h
        (omega (arith, size))
        (reach-goes owner.terms (voice_of owner) (capacity_of a.server) (share_of a.server) owner.limits (origin past p.connection) old.keeper.clock t s [] octets p.place h a.link calls (logged old.keeper.log).entries (logged new.keeper.log).entries written (written ++ more-written.0) p.waiting step r outcome
        (reached s t st al) gave more-written.2 by is)))

    -- .. or its answer is not appended, and the connection is lost
    pub resumes-cut : (at : Cut) → r ≡ Err at → get nat_cmp new.links p.connection ≡ None → ResumesOf offers owner Later past p.connection moment octets written (Memory at.handled at.answered) new out grown
    resumes-cut at is gone =
        let size = a.whole in
        resumes-by (Memory at.handled at.answered)
        (fed-err (book_by owner) a.server (as_server new Later) past p.connection moment octets old.keeper.clock [] (written ++ more-written.0) a.was at a.stands both-same a.clock clock a.stood gone a.live a.some
        (λ s t st al.
        reach-breaks owner.terms (voice_of owner) (capacity_of a.server) (share_of a.server) owner.limits (origin past p.connection) old.keeper.clock t s [] octets grow p.place at a.link calls (logged old.keeper.log).entries (logged new.keeper.log).entries written (written ++ more-written.0) p.waiting step r outcome
        (omega (arith, size)) (reached s t st al) gave more-written.2 by is))

  -- what waits is what the engine keeps
  kept-is : (calls : List Call) (old : Engine C) (past : List Event) (moment : ℕ) (octets written : List ℕ) (x : Pending) (w : Awaited) → pending_in old ≡ Some x → (a : AsksOf offers owner calls old past moment octets written w) → a.pending ≡ x
  kept-is calls old past moment octets written x w is a = let both : Some a.pending ≡ Some x = sym a.keeps.waits ∙ is in cc

  pub kept-as : (calls : List Call) (old : Engine C) (past : List Event) (moment : ℕ) (octets written : List ℕ) (x : Pending) (w : Awaited) → pending_in old ≡ Some x → AsksOf offers owner calls old past moment octets written w
      → KeepsOf offers owner calls old past moment octets written x × (awaited_of x ≡ w)
  kept-as calls old past moment octets written x w is a =
      let one = kept-is calls old past moment octets written x w is a in
      (subst (λ (y : Pending). KeepsOf offers owner calls old past moment octets written y) one a.keeps, ap awaited_of (sym one) ∙ a.is)

  pub answered-done : HearingGrows meaning_in → (calls : List Call) (old new : Engine C) (past : List Event) (moment : ℕ) (octets written : List ℕ) (x : Pending) (w : Awaited) → pending_in old ≡ Some x → AsksOf offers owner calls old past moment octets written w
      → (outcome : Performed) → kept_of owner calls w.call ≡ known outcome → (step : Step) (out grown : List ℕ) (r : Result ℕ Cut)
      → Finishes x.waiting outcome (logged old.keeper.log).entries step (logged new.keeper.log).entries out grown → r ≡ counted_by x.place.handled step
      → new.offering ≡ old.offering → waits_in new ≡ None → IsSameBut x.connection (as_server old calls) (as_server new (calls ++ call_of x.waiting ∷ [])) → new.keeper.clock ≡ old.keeper.clock
      → (h : ℕ) → r ≡ Ok h → new.links ≡ old.links → ResumesOf offers owner (calls ++ w.call ∷ []) past w.connection moment octets written Done new out grown
  answered-done grow calls old new past moment octets written x w is a outcome gave step out grown r done by are idle same clock h ok held =
      let k = kept-as calls old past moment octets written x w is a in
      let gives : kept_of owner calls (call_of x.waiting) ≡ known outcome = ap (λ (v : Awaited). kept_of owner calls v.call) k.1 ∙ gave in
      subst (λ (v : Awaited). ResumesOf offers owner (calls ++ v.call ∷ []) past v.connection moment octets written Done new out grown) k.1
      (resumes-done grow calls old new past moment octets written x k.0 outcome gives step out grown r done by are idle same clock h ok (ap (λ e. get nat_cmp e x.connection) held ∙ k.0.held))

  pub answered-cut : HearingGrows meaning_in → (calls : List Call) (old new : Engine C) (past : List Event) (moment : ℕ) (octets written : List ℕ) (x : Pending) (w : Awaited) → pending_in old ≡ Some x → AsksOf offers owner calls old past moment octets written w
      → (outcome : Performed) → kept_of owner calls w.call ≡ known outcome → (step : Step) (out grown : List ℕ) (r : Result ℕ Cut)
      → Finishes x.waiting outcome (logged old.keeper.log).entries step (logged new.keeper.log).entries out grown → r ≡ counted_by x.place.handled step
      → new.offering ≡ old.offering → waits_in new ≡ None → IsSameBut x.connection (as_server old calls) (as_server new (calls ++ call_of x.waiting ∷ [])) → new.keeper.clock ≡ old.keeper.clock
      → (at : Cut) → r ≡ Err at → get nat_cmp new.links x.connection ≡ None → ResumesOf offers owner (calls ++ w.call ∷ []) past w.connection moment octets written (Memory at.handled at.answered) new out grown
  answered-cut grow calls old new past moment octets written x w is a outcome gave step out grown r done by are idle same clock at err gone =
      let k = kept-as calls old past moment octets written x w is a in
      let gives : kept_of owner calls (call_of x.waiting) ≡ known outcome = ap (λ (v : Awaited). kept_of owner calls v.call) k.1 ∙ gave in
      subst (λ (v : Awaited). ResumesOf offers owner (calls ++ v.call ∷ []) past v.connection moment octets written (Memory at.handled at.answered) new out grown) k.1
      (resumes-cut grow calls old new past moment octets written x k.0 outcome gives step out grown r done by are idle same clock at err gone)

  -- each distinct admissible request is answered once
  pub ends-once : ((past : List Event) → IsFolded (book_by owner) past) → (calls : List Call) (past : List Event) (e : Event) (note : Note) (new : Engine C) (out grown : List ℕ) → EndsOf offers owner calls past e note new out grown → EndsOnceOf offers owner calls past e note out grown
  ends-once folded calls past e note new out grown x =
      event_once_by (book_by owner) folded (as_server new calls) past e note out grown (x.written, x.appended, x.writes, x.rests.stands)

  pub resumes-once : ((past : List Event) → IsFolded (book_by owner) past) → (calls : List Call) (past : List Event) (c moment : ℕ) (octets written : List ℕ) (note : Note) (new : Engine C) (out grown : List ℕ) → ResumesOf offers owner calls past c moment octets written note new out grown
      → ResumesOnceOf offers owner calls past c moment octets written note out grown
  resumes-once folded calls past c moment octets written note new out grown x =
      let all = event_once_by (book_by owner) folded (as_server new calls) past (Piece c moment octets) note [] (written ++ x.more) (written ++ x.more, refl, x.writes, x.rests.stands) in
      (x.more, x.appended, subst (λ (l : List ℕ). IsOnceOf offers owner calls past (Piece c moment octets) note l) (sym all.1) all.2)

  -- and one that waits is the first that acts
  due-at : ((past : List Event) → IsFolded (book_by owner) past) → (calls : List Call) (past : List Event) (c moment : ℕ) (octets written : List ℕ) (handled : ℕ) (w : Waiting) {link : Linked} (b : Brings calls past c moment octets written handled w link) → (Folded past).state ≡ calls
      → OneExpiration (arrivals owner.limits (Piece c moment octets ∷ past)) → IsDueOf offers owner calls past (Piece c moment octets) b.front b.last written
  due-at folded calls past c moment octets written handled w b now one =
      let e = Piece c moment octets in
      let xs = arrivals owner.limits past in
      let all : OneExpiration (xs ++ (b.front ++ b.last ∷ [])) = subst (λ (l : List (Arrival Wanted)). OneExpiration (xs ++ l)) b.completes one in
      let grow : ClocksGrow (clock past) (b.front ++ b.last ∷ []) = subst (λ (l : List (Arrival Wanted)). ClocksGrow (clock past) l) b.completes (event-clocks owner.limits past e (clock past) (omega arith)).0 in
      let split = sym (append_assoc xs b.front (b.last ∷ [])) in
      let one-front-too : OneExpiration (xs ++ b.front) = one-front (xs ++ b.front) (b.last ∷ []) (subst (λ (l : List (Arrival Wanted)). OneExpiration l) split all) in
      let stands = past_stands_by (book_by owner) past (folded past) (one-front xs (b.front ++ b.last ∷ []) all) in
      let first = (run_stands Theirs [] (clock past) xs b.front (Folded past) one-front-too (ClocksGrow-front (clock past) b.front (b.last ∷ []) grow) stands).1 in
      let last = (run_stands Theirs [] (clock past) xs (b.front ++ b.last ∷ []) (Folded past) all grow stands).1 in
      let was : state_of Theirs [] xs ≡ calls = sym stands.state ∙ now in
      let mid : state_of Theirs [] (xs ++ b.front) ≡ calls = sym first.state ∙ b.before in
      let then : state_of Theirs [] ((xs ++ b.front) ++ b.last ∷ []) ≡ calls ++ call_of w ∷ [] = ap (λ (l : List (Arrival Wanted)). state_of Theirs [] l) (sym split) ∙ sym last.state ∙ b.then in
      record {
        acts_now = last-acts owner (xs ++ b.front) b.last calls (call_of w) mid then;
        is_first = none-acted owner xs b.front (mid ∙ sym was);
        calls_are = sym was;
        out = b.out ∙ ap (λ (answers : List (Result Outcome SystemName)). rendered owner.tell (take (length b.front) (completed owner.limits past e)) answers) (says_agree_by (book_by owner) past e (folded past) one);
      }

  keeps-once : ((past : List Event) → IsFolded (book_by owner) past) → (calls : List Call) (engine : Engine C) (past : List Event) (moment : ℕ) (octets written : List ℕ) (p : Pending) (out grown : List ℕ) → KeepsOf offers owner calls engine past moment octets written p → grown ≡ out ++ written
      → AsksOnceOf offers owner calls past p.connection moment octets (waits_in engine) out grown
  keeps-once folded calls engine past moment octets written p out grown k appended =
      let b = brings-of calls engine past moment octets written p k in
      record {
        written = written;
        appended = appended;
        number = p.number;
        call = call_of p.waiting;
        field = field_with p.waiting.retained;
        refused = p.waiting.refused;
        is_awaited = ap (λ (o : Option Pending). option_map awaited_of o) k.waits;
        front = b.front;
        last = b.last;
        completes = b.completes;
        asks = b.asks;
        carries = b.field;
        would = b.refused;
        once = due-at folded calls past p.connection moment octets written p.place.handled p.waiting b (sym k.stands.table.state ∙ k.answered);
      }

  pub stops-once : ((past : List Event) → IsFolded (book_by owner) past) → (calls : List Call) (past : List Event) (c moment : ℕ) (piece : List ℕ) (taken : ℕ) (engine : Engine C) (out grown : List ℕ) → StopsOf offers owner calls past c moment piece taken engine out grown
      → AsksOnceOf offers owner calls past c moment (take taken piece) (waits_in engine) out grown
  stops-once folded calls past c moment piece taken engine out grown x =
      subst (λ (v : Awaited). AsksOnceOf offers owner calls past v.connection moment (take taken piece) (waits_in engine) out grown) x.asks.is
      (keeps-once folded calls engine past moment (take taken piece) x.written x.asks.pending out grown x.asks.keeps x.appended)

  -- What is held for each connection while a request waits stands for its line, with the octets that came.
  keeps-lines : (calls : List Call) (engine : Engine C) (past : List Event) (moment : ℕ) (octets written : List ℕ) (p : Pending) → KeepsOf offers owner calls engine past moment octets written p
      → (d : ℕ) → IsFor owner.limits (get nat_cmp engine.links d) (line (Piece p.connection moment octets ∷ past) d)
  keeps-lines calls engine past moment octets written p k d = go (p.connection == d) refl
    where
      here : IsFor owner.limits (get nat_cmp engine.links p.connection) (line (Piece p.connection moment octets ∷ past) p.connection)
      here =
          let c = p.connection in
          let held : IsFor owner.limits (Some k.was) (line past c) = subst (λ (o : Option Linked). IsFor owner.limits o (line past c)) k.stood (k.stands.lines c) in
          let up = up-by owner.limits (line past c) k.was held k.live in
          let paused = k.paused (voice_of owner) up.0 (Seen past) up.2 (alike-then (book_by owner) k.server k.server past c moment octets k.stands engine.keeper.clock k.clock) in
          subst (λ (o : Option Linked). IsFor owner.limits o (line (Piece c moment octets ∷ past) c)) (sym k.held)
          (subst (λ (l : Line). IsFor owner.limits (Some k.link) l) (sym (same-by c (longer octets (line past c)) (line past c) ∙ ap (longer octets) up.1)) paused.stands)

      go : (b : Bool) → (p.connection == d) ≡ b → IsFor owner.limits (get nat_cmp engine.links d) (line (Piece p.connection moment octets ∷ past) d)
      go true is = subst (λ (q : ℕ). IsFor owner.limits (get nat_cmp engine.links q) (line (Piece p.connection moment octets ∷ past) q)) (eqb-true p.connection d is) here
      go false is =
          subst (λ (l : Line). IsFor owner.limits (get nat_cmp engine.links d) l) (sym (apart-by (p.connection == d) (longer octets (line past d)) (line past d) is))
          (subst (λ (o : Option Linked). IsFor owner.limits o (line past d)) (sym (k.same.others d is)) (k.stands.lines d))

  pub asks-lines : (calls : List Call) (engine : Engine C) (past : List Event) (moment : ℕ) (octets written : List ℕ) (w : Awaited) → AsksOf offers owner calls engine past moment octets written w
      → (d : ℕ) → IsFor owner.limits (get nat_cmp engine.links d) (line (Piece w.connection moment octets ∷ past) d)
  asks-lines calls engine past moment octets written w a d =
      subst (λ (v : Awaited). IsFor owner.limits (get nat_cmp engine.links d) (line (Piece v.connection moment octets ∷ past) d)) a.is (keeps-lines calls engine past moment octets written a.pending a.keeps d)

  -- what waited is given up: it counts as not handled, and the connection is lost
  give-up-cut : HearingGrows meaning_in → (calls : List Call) (old new : Engine C) (past : List Event) (moment : ℕ) (octets written : List ℕ) (x : Pending) (b : KeepsOf offers owner calls old past moment octets written x)
      → IsSameBut x.connection b.server (as_server new calls) → new.keeper.clock ≡ old.keeper.clock → (logged new.keeper.log).entries ≡ (logged old.keeper.log).entries → get nat_cmp new.links x.connection ≡ None
      → (w : List ℕ) × (written ≡ [] ++ w) × WritesBy owner.limits owner.tell (owned_says owner) past (Piece x.connection moment octets) w (Memory x.place.handled x.place.handled)
      × StandsOf owner (as_server new calls) (after owner.limits past (Piece x.connection moment octets) (Memory x.place.handled x.place.handled))
  give-up-cut grow calls old new past moment octets written x b same at kept gone =
      let size = b.whole in
      fed-err (book_by owner) b.server (as_server new calls) past x.connection moment octets old.keeper.clock [] written b.was (all_answered x.place.handled) b.stands same
      b.clock at b.stood gone b.live b.some
      (λ s t st al.
      reach-left owner.terms (voice_of owner) (capacity_of b.server) (share_of b.server) owner.limits (origin past x.connection) old.keeper.clock t s [] octets grow x.place b.link calls (logged old.keeper.log).entries (logged new.keeper.log).entries written x.waiting
      (omega (arith, size)) (
        written,
        refl,
        subst (λ (l : List ℕ). Paused owner.terms (voice_of owner) (capacity_of b.server) (share_of b.server) owner.limits (origin past x.connection) old.keeper.clock t s l b.link calls (logged old.keeper.log).entries written x.place.handled x.waiting)
            (sym (take_all x.place.taken octets (omega (arith, size)))) (b.paused (voice_of owner) s t st al),
      )
      kept)

  gave-up : (calls : List Call) (new : Engine C) (past : List Event) (moment : ℕ) (octets written : List ℕ) (x : Pending) (note : Note) → terms_in offers new ≡ owner.terms (changes past) → waits_in new ≡ None
      → ((w : List ℕ) × (written ≡ [] ++ w) × WritesBy owner.limits owner.tell (owned_says owner) past (Piece x.connection moment octets) w note
      × StandsOf owner (as_server new calls) (after owner.limits past (Piece x.connection moment octets) note))
      → ResumesOf offers owner calls past x.connection moment octets written note new [] []
  gave-up calls new past moment octets written x note are idle r = record {
    more = [];
    appended = refl;
    writes = subst (λ (l : List ℕ). WritesBy owner.limits owner.tell (owned_says owner) past (Piece x.connection moment octets) l note) (sym (append-nil written ∙ r.1)) r.2;
    rests = record { offer_is = are ∙ ap owner.terms (sym (changes-piece owner.limits past x.connection moment octets note)); idle = idle; stands = r.3 };
  }

  give-up-here : HearingGrows meaning_in → (calls : List Call) (old new : Engine C) (past : List Event) (moment : ℕ) (octets written : List ℕ) (x : Pending) → KeepsOf offers owner calls old past moment octets written x
      → new.offering ≡ old.offering → waits_in new ≡ None → IsSameBut x.connection (as_server old calls) (as_server new calls) → new.keeper.clock ≡ old.keeper.clock → (logged new.keeper.log).entries ≡ (logged old.keeper.log).entries → get nat_cmp new.links x.connection ≡ None
      → ResumesOf offers owner calls past x.connection moment octets written (Memory x.place.handled x.place.handled) new [] []
  give-up-here grow calls old new past moment octets written x b are idle same at kept gone =
      gave-up calls new past moment octets written x (Memory x.place.handled x.place.handled) (ap (terms_by offers) are ∙ b.offer_is) idle
      (give-up-cut grow calls old new past moment octets written x b
      (record { limits = same.limits ∙ b.same.limits; capacity = same.capacity ∙ b.same.capacity; share = same.share ∙ b.same.share; greatest = same.greatest ∙ b.same.greatest; others = λ q n. same.others q n ∙ b.same.others q n })
      at kept gone)

  pub given-up : HearingGrows meaning_in → (calls : List Call) (old new : Engine C) (past : List Event) (moment : ℕ) (octets written : List ℕ) (x : Pending) (w : Awaited) → pending_in old ≡ Some x → AsksOf offers owner calls old past moment octets written w
      → new.offering ≡ old.offering → waits_in new ≡ None → IsSameBut x.connection (as_server old calls) (as_server new calls) → new.keeper.clock ≡ old.keeper.clock → (logged new.keeper.log).entries ≡ (logged old.keeper.log).entries → get nat_cmp new.links x.connection ≡ None
      → ResumesOf offers owner calls past w.connection moment octets written (Memory x.place.handled x.place.handled) new [] []
  given-up grow calls old new past moment octets written x w is a are idle same at kept gone =
      let k = kept-as calls old past moment octets written x w is a in
      subst (λ (v : Awaited). ResumesOf offers owner calls past v.connection moment octets written (Memory x.place.handled x.place.handled) new [] []) k.1
      (give-up-here grow calls old new past moment octets written x k.0 are idle same at kept gone)

  -- what waited is parked: its call is taken, and nothing is said of it yet
  pub parked-done : (calls : List Call) (old new : Engine C) (past : List Event) (moment : ℕ) (octets written : List ℕ) (p : Pending) (a : KeepsOf offers owner calls old past moment octets written p) (number : ℕ) → kept_of owner calls (call_of p.waiting) ≡ parked number → ((x : Wanted) → owner.late x number ≡ None)
      → (logged new.keeper.log).entries ≡ kept_with p.waiting.retained (parked number) (logged old.keeper.log).entries → new.offering ≡ old.offering → waits_in new ≡ None → IsSameBut p.connection (as_server old calls) (as_server new (calls ++ call_of p.waiting ∷ []))
      → new.keeper.clock ≡ old.keeper.clock → new.links ≡ old.links → ResumesOf offers owner (calls ++ call_of p.waiting ∷ []) past p.connection moment octets written Done new [] []
  parked-done calls old new past moment octets written p a number gave silent kept are idle same clock links =
      let size = a.whole in
      let later = calls ++ call_of p.waiting ∷ [] in
      let held : get nat_cmp new.links p.connection ≡ Some a.link = ap (λ e. get nat_cmp e p.connection) links ∙ a.held in
      gave-up later new past moment octets written p Done (ap (terms_by offers) are ∙ a.offer_is) idle
      (fed-ok (book_by owner) a.server (as_server new later) past p.connection moment octets old.keeper.clock [] written a.was a.link a.stands
      (record { limits = same.limits ∙ a.same.limits; capacity = same.capacity ∙ a.same.capacity; share = same.share ∙ a.same.share; greatest = same.greatest ∙ a.same.greatest; others = λ q is. same.others q is ∙ a.same.others q is })
      a.clock clock a.stood held a.live
      (λ s t st al.
      stood-whole (owner_rules (asked_at owner.terms) (kept_of owner) (capacity_of a.server) (share_of a.server)) (told_at owner.late owner.terms) owner.limits (origin past p.connection) old.keeper.clock t s [] octets p.place.taken a.link (answered_so_far later (logged new.keeper.log).entries) written (p.place.handled + 1)
      (omega (arith, size))
      (reach-parks owner.terms (voice_of owner) (capacity_of a.server) (share_of a.server) owner.limits (origin past p.connection) old.keeper.clock t s [] octets p.place a.link calls (logged old.keeper.log).entries (logged new.keeper.log).entries written p.waiting number (
        written,
        refl,
        subst (λ (l : List ℕ). Paused owner.terms (voice_of owner) (capacity_of a.server) (share_of a.server) owner.limits (origin past p.connection) old.keeper.clock t s l a.link calls (logged old.keeper.log).entries written p.place.handled p.waiting)
            (sym (take_all p.place.taken octets (omega (arith, size)))) (a.paused (voice_of owner) s t st al),
      )
      gave silent kept)))

  -- how many came before it
  count-of : (calls : List Call) (past : List Event) (c moment : ℕ) (octets written : List ℕ) (handled : ℕ) (w : Waiting) (link : Linked) → Brings calls past c moment octets written handled w link
      → handled + 1 ≡ length (completed owner.limits past (Piece c moment octets))
  count-of calls past c moment octets written handled w link b =
      let all = ap (λ (xs : List (Arrival Wanted)). length xs) b.completes in
      let size = length-append b.front (b.last ∷ []) in
      let count = b.count in
      omega (arith, all, size, count)

  count-at : (calls : List Call) (old : Engine C) (past : List Event) (moment : ℕ) (octets written : List ℕ) (x : Pending) (k : KeepsOf offers owner calls old past moment octets written x)
      → x.place.handled + 1 ≡ length (completed owner.limits past (Piece x.connection moment octets))
  count-at calls old past moment octets written x k =
      count-of calls past x.connection moment octets written x.place.handled x.waiting k.link (brings-of calls old past moment octets written x k)

  pub given-count : (calls : List Call) (old : Engine C) (past : List Event) (moment : ℕ) (octets written : List ℕ) (x : Pending) (w : Awaited) → pending_in old ≡ Some x → AsksOf offers owner calls old past moment octets written w
      → x.place.handled + 1 ≡ length (completed owner.limits past (Piece w.connection moment octets))
  given-count calls old past moment octets written x w is a =
      let k = kept-as calls old past moment octets written x w is a in
      subst (λ (v : Awaited). x.place.handled + 1 ≡ length (completed owner.limits past (Piece v.connection moment octets))) k.1 (count-at calls old past moment octets written x k.0)

-- where each outcome is known, nothing repeats what is parked
pub known-apart : {A : Type 0} (number : ℕ) (answer : Result Performed SystemName) → seen_answer known answer ≡ Ok (parked number) → A
known-apart number (Ok outcome) same = absurd cc
known-apart number (Err refusal) same = absurd cc
