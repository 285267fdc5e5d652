-- Connections are opened, closed and lost, and requests answered, while others are parked.
use Rattle.std.proofs.Common.{◌≡◌, ◌==◌, ℕ, ◌≤◌, ◌<◌, Bool, true, false, not, cond, nat_lt, ◌&&◌, List, [], ◌∷◌, ◌++◌, length, map, if◌then◌else◌, Option, Some, None, is_some, flat_map, option_to_list, refl, sym, ap, subst, ◌∙◌, arith}
use Rattle.std.specs.List.{list_all}
use Rattle.std.specs.Option.{option_map_or}
use Rattle.std.specs.Ordering.{nat_cmp}
use Rattle.std.specs.BTreeMap.{get}
use Rattle.std.proofs.lemmas.Bool.{and_from, and_parts, eqb-true, lt-ltb, ltb-true}
use Rattle.std.proofs.lemmas.List.{append-nil}
use Rattle.giop_frames.specs.declared.limits.Limits.{Limits}
use Rattle.giop_link.specs.Hearing.{Ending, ending, meaning_in}
use Rattle.giop_link.specs.Laws.{EndingsStay}
use Rattle.giop_link.specs.Linking.{Linked, close_connection}
use Rattle.giop_link.specs.Linking.{shut as shut_link}
use Rattle.ft_log.specs.Holding.{Holding, known}
use Rattle.ft_log.specs.Kept.{unexpired}
use Rattle.ft_log.specs.Logged.{logged}
use Rattle.ft_log.specs.Performed.{Performed}
use Rattle.ft_objects.specs.Catalogues.{Offer}
use Rattle.ft_orb.specs.Offerings.{terms_by}
use Rattle.ft_orb.specs.declared.desk.Step.{Step}
use Rattle.ft_orb.specs.declared.desk.Step.TheVariants.{Answered, Quiet, Unanswered, Unhandled}
use Rattle.ft_orb.specs.declared.engine.Engine.{Engine}
use Rattle.ft_orb.specs.declared.events.Note.{Note}
use Rattle.ft_orb.specs.declared.events.Note.TheVariants.{Done, Memory, Refused}
use Rattle.ft_orb.specs.declared.parked.Waiter.{Waiter}
use Rattle.ft_orb.specs.Engines.{AsksOf, Awaited, EndsOf, IsThenOf, RestsOf, ResumesOf, as_server, asks_in, waits_in}
use Rattle.ft_orb.specs.History.{Close, Event, Gone, Line, Lost, Opened, Piece, Shut, Up, counted, does_count, line, shut}
use Rattle.ft_orb.specs.Outputs.{close_told, close_told_on, is_going, is_gone}
use Rattle.ft_orb.specs.Owners.{OwnerOf, owned_table}
use Rattle.ft_orb.specs.Parking.{AsksLate, EndsLate, ResumesLate, Settings, Stays, numbering, put_at, still}
use Rattle.ft_orb.specs.Private.{IsPut}
use Rattle.ft_orb.specs.Requests.{Call}
use Rattle.ft_orb.specs.Seen.{seen_entry}
use Rattle.ft_orb.specs.Standing.{IsFor, IsSameBut, held_in}
use Rattle.ft_orb.specs.Table.{Table}
use Rattle.ft_orb.specs.Tellings.{Later, nothing_yet, octets_told}
use Rattle.ft_orb.proofs.Streams.{closed-is}
use Rattle.ft_orb.proofs.Books.{owned-next}
use Rattle.ft_orb.proofs.GoesOn.{not-not}
use Rattle.ft_orb.proofs.Late.{Tally, asks-known, ends-late, parks-later, parks-more, put-else, tally-is}

-- A connection is lost.
pub rests-lost : {C Outcome : Type 0} (offers : C → Offer) (o : OwnerOf Outcome) (calls : List Call) (old new : Engine C) (past : List Event) (c : ℕ) → RestsOf offers o calls old past → new.offering ≡ old.offering → waits_in new ≡ waits_in old → IsSameBut c (as_server old calls) (as_server new calls)
    → new.keeper.clock ≡ old.keeper.clock → (logged new.keeper.log).entries ≡ (logged old.keeper.log).entries → get nat_cmp new.links c ≡ None → RestsOf offers o calls new (Lost c ∷ past)
rests-lost {C} {Outcome} offers o calls old new past c h are idle same clock entries gone = record {
  offer_is = ap (terms_by offers) are ∙ h.offer_is;
  idle = idle ∙ h.idle;
  stands = record {
    limits_are = same.limits ∙ h.stands.limits_are;
    capacity_is = same.capacity ∙ h.stands.capacity_is;
    share_is = same.share ∙ h.stands.share_is;
    moment = clock ∙ h.stands.moment;
    greatest = λ d. h.stands.greatest d ∙ ap (λ (g : Option ℕ). option_map_or (λ (x : ℕ). nat_lt x d) g true) (sym same.greatest);
    lines = λ d. at d (c == d) refl;
    table = record {
      state = h.stands.table.state ∙ ap (λ (t : Table (List Call) Outcome). t.state) (sym (owned-next o past (Lost c) tt));
      entries = ap (λ (k : ℕ). unexpired k (logged new.keeper.log).entries) clock ∙ ap (unexpired old.keeper.clock) entries ∙ h.stands.table.entries
          ∙ ap (λ (k : ℕ). unexpired k (map (seen_entry o.hold) (owned_table o past).entries)) (sym clock)
          ∙ ap (λ (t : Table (List Call) Outcome). unexpired new.keeper.clock (map (seen_entry o.hold) t.entries)) (sym (owned-next o past (Lost c) tt));
    };
  };
}
  where
    at : (d : ℕ) (b : Bool) → (c == d) ≡ b → IsFor o.limits (held_in new.links.entries d) (cond (c == d) Gone (line past d))
    at d true is =
        subst (λ (b : Bool). IsFor o.limits (held_in new.links.entries d) (cond b Gone (line past d))) (sym is)
        (subst (λ (x : Option Linked). IsFor o.limits x Gone) (sym (ap (get nat_cmp new.links) (sym (eqb-true c d is)) ∙ gone)) tt)
    at d false is =
        subst (λ (b : Bool). IsFor o.limits (held_in new.links.entries d) (cond b Gone (line past d))) (sym is)
        (subst (λ (x : Option Linked). IsFor o.limits x (line past d)) (sym (same.others d is)) (h.stands.lines d))

-- an answer that was not appended
pub un-put : (step : Step) (octets before out : List ℕ) → IsPut octets step before out → (step ≡ Answered → ⊥) → (out ≡ before) × (0 < length octets)
un-put Answered octets before out h apart = absurd (apart refl)
un-put Unanswered octets before out h apart = h
un-put Quiet octets before out h apart = absurd h
un-put Unhandled octets before out h apart = absurd h

-- What waited is answered, or given up.
module _ {C : Type 0} (offers : C → Offer) (s : Settings) (stay : EndingsStay meaning_in) (held : ℕ → Holding) (calls : List Call) (old new : Engine C) (past : List Event) (waiting : ℕ → List Waiter) (moment : ℕ) (octets written : List ℕ) (w : Awaited) (note : Note) (before out : List ℕ)
    (a : AsksLate offers s held calls old past waiting moment octets written w) (parks : new.parked ≡ old.parked) (places : new.places ≡ old.places) (asks : asks_in new ≡ asks_in old) where
  asked-tally : (Tally s past).state ≡ calls
  asked-tally = sym a.asks.keeps.stands.table.state ∙ a.asks.keeps.answered

  pub answers-late : (o : Performed) → ResumesOf offers (numbering s nothing_yet (put_at (length calls) (known o) held)) (calls ++ w.call ∷ []) past w.connection moment octets written note new before out
      → ResumesLate offers s (put_at (length calls) (known o) held) (calls ++ w.call ∷ []) past waiting w.connection moment octets written note new before out
  answers-late o resumes =
      let low = a.below in
      record {
        resumes = resumes;
        stays = record {
          rests = resumes.rests;
          parks = parks-more s stay held calls old new past (Piece w.connection moment octets) note w.number (asks_in new) waiting asked-tally a.parks places (omega (arith, low, asks)) (known o) w.call parks (λ m is. cc);
        };
      }

  pub leaves-late : ResumesOf offers (numbering s nothing_yet held) calls past w.connection moment octets written note new before out → ResumesLate offers s held calls past waiting w.connection moment octets written note new before out
  leaves-late resumes =
      let low = a.below in
      record { resumes = resumes; stays = record { rests = resumes.rests; parks = parks-later s stay held calls old new past (Piece w.connection moment octets) note w.number (asks_in new) waiting asked-tally a.parks places (omega (arith, low, asks)) parks } }

  -- as the owner that answers so
  pub answers-as : (o : Performed) → AsksOf offers (numbering s nothing_yet (put_at (length calls) (known o) held)) calls old past moment octets written w
  answers-as o = asks-known s offers nothing_yet nothing_yet held (put_at (length calls) (known o) held) calls old past moment octets written w (λ i less. sym (put-else (length calls) (known o) held i (λ is. absurd (omega (arith, is, less))))) a.asks

-- A connection was lost, and nothing was parked.
pub lost-late : {C : Type 0} (offers : C → Offer) (s : Settings) → EndingsStay meaning_in → (held : ℕ → Holding) (calls : List Call) (old new : Engine C) (past : List Event) (waiting : ℕ → List Waiter) (c : ℕ) → Stays offers s held calls old past waiting
    → RestsOf offers (numbering s nothing_yet held) calls new (Lost c ∷ past) → new.parked ≡ old.parked → new.places ≡ old.places → asks_in new ≡ asks_in old → Stays offers s held calls new (Lost c ∷ past) (still s.limits (Lost c ∷ past) waiting)
lost-late offers s stay held calls old new past waiting c h rests parks places asks =
    record { rests = rests; parks = parks-later s stay held calls old new past (Lost c) Done (asks_in old) (asks_in new) waiting (tally-is offers s nothing_yet held calls old past h.rests) h.parks places (omega (arith, asks)) parks }

-- An opening or a close, in which nothing was parked.
pub then-late : {C : Type 0} (offers : C → Offer) (s : Settings) → EndingsStay meaning_in → (held : ℕ → Holding) (calls : List Call) (old new : Engine C) (past : List Event) (waiting : ℕ → List Waiter) (e : Event) (note : Note) (before out : List ℕ) → Stays offers s held calls old past waiting
    → ((late : Later) → RestsOf offers (numbering s late held) calls old past → (written : List ℕ) × (out ≡ before ++ written) × IsThenOf offers (numbering s late held) calls past e note new written) → new.parked ≡ old.parked → new.places ≡ old.places → asks_in old ≤ asks_in new
    → EndsLate offers s held calls past waiting e note new before out
then-late offers s stay held calls old new past waiting e note before out h next parks places asks =
    ends-late offers s stay held calls old new past waiting e note before out h (λ late r. let x = next late r in record { written = x.0; appended = x.1; writes = x.2.0; rests = x.2.1 }) parks places asks

all-under : (c d : ℕ) (xs : List ℕ) → c < d → list_all (λ x. nat_lt x c) xs ≡ true → list_all (λ x. nat_lt x d) xs ≡ true
all-under c d [] less h = refl
all-under c d (x ∷ xs) less h =
    let both = and_parts (nat_lt x c) (list_all (λ y. nat_lt y c) xs) h in
    let low = ltb-true x c both.0 in
    and_from (nat_lt x d) (list_all (λ y. nat_lt y d) xs) (lt-ltb x d (omega (arith, low, less))) (all-under c d xs less both.1)

-- the greatest number is that of the opening that counted last
pub counts-opened : (past : List Event) (c d : ℕ) → does_count past c ≡ true → does_count (Opened c ∷ past) d ≡ nat_lt c d
counts-opened past c d h = ap (λ (b : Bool). list_all (λ x. nat_lt x d) (cond b (c ∷ counted past) (counted past))) h ∙ by (nat_lt c d) refl
  where
    by : (b : Bool) → nat_lt c d ≡ b → (b && list_all (λ x. nat_lt x d) (counted past)) ≡ b
    by true is = all-under c d (counted past) (ltb-true c d is) h
    by false is = refl

-- A connection is closed.

closed-line : (limits : Limits) (link : Linked) (l : Line) → IsFor limits (Some link) l → IsFor limits (Some (shut_link link)) (shut l)
closed-line limits link Gone h = absurd h
closed-line limits link Shut h = (h.0, refl)
closed-line limits link (Up x) h = (h.limits_are, refl)

gone-line : (limits : Limits) (l : Line) → IsFor limits None l → IsFor limits None (shut l)
gone-line limits Gone h = h
gone-line limits Shut h = absurd h
gone-line limits (Up x) h = absurd h

gone-written : (limits : Limits) (l : Line) → IsFor limits None l → ([] ≡ flat_map octets_told (option_to_list (close_told_on limits l))) × (Refused ≡ (if is_gone l then Refused else Done))
gone-written limits Gone h = (refl, refl)
gone-written limits Shut h = absurd h
gone-written limits (Up x) h = absurd h

closed-written : (limits : Limits) (link : Linked) (l : Line) → IsFor limits (Some link) l
    → ((if link.is_closed then [] else close_connection) ≡ flat_map octets_told (option_to_list (close_told_on limits l))) × (Done ≡ (if is_gone l then Refused else Done))
closed-written limits link Gone h = absurd h
closed-written limits link Shut h = (ap (λ (b : Bool). if b then [] else close_connection) h.1, refl)
closed-written limits link (Up x) h = (ap (λ (b : Bool). if b then [] else close_connection) h.is_ended ∙ by (ending limits x), refl)
  where
    by : (e : Option Ending) → (if is_some e then [] else close_connection) ≡ flat_map octets_told (option_to_list (close_told e))
    by None = sym (append-nil close_connection)
    by (Some e) = refl

module _ {C : Type 0} (offers : C → Offer) (s : Settings) (late : Later) (held : ℕ → Holding) (calls : List Call) (old new : Engine C) (past : List Event) (c : ℕ) (r : RestsOf offers (numbering s late held) calls old past) (are : new.offering ≡ old.offering) (idle : waits_in new ≡ waits_in old)
    (same : IsSameBut c (as_server old calls) (as_server new calls)) (clock : new.keeper.clock ≡ old.keeper.clock) (entries : (logged new.keeper.log).entries ≡ (logged old.keeper.log).entries) where
  abbrev Owned : OwnerOf ℕ
  Owned = numbering s late held

  rests-closed : IsFor s.limits (get nat_cmp new.links c) (shut (line past c)) → RestsOf offers Owned calls new (Close c ∷ past)
  rests-closed here = record {
    offer_is = ap (terms_by offers) are ∙ r.offer_is;
    idle = idle ∙ r.idle;
    stands = record {
      limits_are = same.limits ∙ r.stands.limits_are;
      capacity_is = same.capacity ∙ r.stands.capacity_is;
      share_is = same.share ∙ r.stands.share_is;
      moment = clock ∙ r.stands.moment;
      greatest = λ d. r.stands.greatest d ∙ ap (λ (g : Option ℕ). option_map_or (λ (x : ℕ). nat_lt x d) g true) (sym same.greatest);
      lines = λ d. at d (c == d) refl;
      table = record {
        state = r.stands.table.state;
        entries = ap (λ (k : ℕ). unexpired k (logged new.keeper.log).entries) clock ∙ ap (unexpired old.keeper.clock) entries ∙ r.stands.table.entries
            ∙ ap (λ (k : ℕ). unexpired k (map (seen_entry held) (owned_table Owned past).entries)) (sym clock);
      };
    };
  }
    where
      at : (d : ℕ) (b : Bool) → (c == d) ≡ b → IsFor s.limits (held_in new.links.entries d) (cond (c == d) (shut (line past d)) (line past d))
      at d true is =
          subst (λ (b : Bool). IsFor s.limits (held_in new.links.entries d) (cond b (shut (line past d)) (line past d))) (sym is)
          (subst (λ (q : ℕ). IsFor s.limits (get nat_cmp new.links q) (shut (line past q))) (eqb-true c d is) here)
      at d false is =
          subst (λ (b : Bool). IsFor s.limits (held_in new.links.entries d) (cond b (shut (line past d)) (line past d))) (sym is)
          (subst (λ (x : Option Linked). IsFor s.limits x (line past d)) (sym (same.others d is)) (r.stands.lines d))

  pub closed-none : (before : List ℕ) → get nat_cmp old.links c ≡ None → get nat_cmp new.links c ≡ None → EndsOf offers Owned calls past (Close c) Refused new before before
  closed-none before was gone =
      let l = subst (λ (x : Option Linked). IsFor s.limits x (line past c)) was (r.stands.lines c) in
      record { written = []; appended = sym (append-nil before); writes = gone-written s.limits (line past c) l; rests = rests-closed (subst (λ (x : Option Linked). IsFor s.limits x (shut (line past c))) (sym gone) (gone-line s.limits (line past c) l)) }

  pub closed-done : (before out : List ℕ) (link : Linked) → get nat_cmp old.links c ≡ Some link → get nat_cmp new.links c ≡ Some (shut_link link) → out ≡ before ++ (if link.is_closed then [] else close_connection) → EndsOf offers Owned calls past (Close c) Done new before out
  closed-done before out link was next put =
      let l = subst (λ (x : Option Linked). IsFor s.limits x (line past c)) was (r.stands.lines c) in
      record {
        written = if link.is_closed then [] else close_connection;
        appended = put;
        writes = closed-written s.limits link (line past c) l;
        rests = rests-closed (subst (λ (x : Option Linked). IsFor s.limits x (shut (line past c))) (sym next) (closed-line s.limits link (line past c) l));
      }

  pub closed-cut : (before out : List ℕ) (link : Linked) → get nat_cmp old.links c ≡ Some link → get nat_cmp new.links c ≡ None → link.is_closed ≡ false → out ≡ before → EndsOf offers Owned calls past (Close c) (Memory 0 0) new before out
  closed-cut before out link was gone live left =
      let l = subst (λ (x : Option Linked). IsFor s.limits x (line past c)) was (r.stands.lines c) in
      let up : is_going s.limits (line past c) ≡ true = sym (not-not (is_going s.limits (line past c))) ∙ ap not (sym (closed-is s.limits (line past c) link l) ∙ live) in
      record {
        written = [];
        appended = left ∙ sym (append-nil before);
        writes = record { out = refl; few = omega arith; within = omega arith; near = omega arith; needs = up; further = λ x. tt; due = λ some. absurd (omega (arith, some)) };
        rests = rests-lost offers Owned calls old new past c r are idle same clock entries gone;
      }
