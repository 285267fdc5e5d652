-- What waits is parked, and its outcome is told later.
use Rattle.std.proofs.Common.{◌≡◌, ◌==◌, ℕ, ◌<◌, if◌then◌else◌, Bool, true, false, not, cond, nat_le, nat_lt, ◌&&◌, ◌⊎◌, inl, inr, List, [], ◌∷◌, ◌++◌, length, map, Option, Some, None, Ok, Err, IsSome, is_some, slice_index_or, refl, sym, ap, subst, ◌∙◌, arith, length-append}
use Rattle.std.specs.List.{list_all}
use Rattle.std.specs.Option.{option_map, option_map_or}
use Rattle.std.specs.Ordering.{nat_cmp}
use Rattle.std.specs.BTreeMap.{BTreeMap, is_at}
use Rattle.std.proofs.lemmas.Grind.{common_steps}
use Rattle.std.proofs.lemmas.Bool.{and_parts, eq-eqb, eqb-false, eqb-true, ne_eqb}
use Rattle.giop_link.specs.Hearing.{meaning_in}
use Rattle.giop_link.specs.Laws.{EndingsStay}
use Rattle.giop_link.specs.Linking.{Linked}
use Rattle.ft_log.specs.Holding.{Holding, known, parked}
use Rattle.ft_log.specs.Keys.{RequestKey, same_key}
use Rattle.ft_log.specs.Kept.{KeptOutcome, filled, filled_if, is_parked, unexpired}
use Rattle.ft_log.specs.Logged.{logged}
use Rattle.ft_log.specs.Performed.{Performed}
use Rattle.ft_log.specs.View.{key_of, performed_in}
use Rattle.ft_log.specs.declared.outcome.Outcome.{Outcome}
use Rattle.ft_objects.specs.Catalogues.{Offer}
use Rattle.ft_orb.specs.Offerings.{terms_by}
use Rattle.ft_orb.specs.declared.engine.Engine.{Engine}
use Rattle.ft_orb.specs.declared.error.ServeError.TheVariants as serving
use Rattle.ft_orb.specs.declared.events.Note.TheVariants.{Done}
use Rattle.ft_orb.specs.declared.keeper.Retained.{Retained}
use Rattle.ft_orb.specs.declared.keeper.Waiting.{Waiting}
use Rattle.giop_link.specs.Hearing.{Question}
use Rattle.ft_orb.specs.Waits.{asker_of}
use Rattle.ft_orb.specs.declared.parked.Parked.{Parked}
use Rattle.ft_orb.specs.declared.parked.Waiter.{Waiter}
use Rattle.ft_orb.specs.declared.pausing.Pending.{Pending}
use Rattle.ft_orb.specs.Engines.{Awaited, KeepsOf, RestsOf, ResumesOf, as_server, asks_in, awaited_of, waits_in, pending_in}
use Rattle.ft_orb.specs.ExactlyOnce.{Arrival, Present}
use Rattle.ft_orb.specs.History.{Event, Lost, Piece, does_count, line}
use Rattle.ft_orb.specs.Outputs.{is_gone}
use Rattle.ft_orb.specs.Parked.{IsClear, IsCleared, IsCopy, going_in, is_wished, on_going, own_waiters}
use Rattle.ft_orb.specs.Parking.{AreKeyed, AsksLate, IsDueLate, IsSettled, Parks, RepliesLate, ResumesLate, Settings, Stays, goes_on, key_kept, numbering, own_of, parked_at, put_at, still, told_in, told_of, was_opened}
use Rattle.ft_orb.specs.Requests.{Call, Wanted, asked_at}
use Rattle.ft_orb.specs.Seen.{seen_entry}
use Rattle.ft_orb.specs.Standing.{IsFor, IsSameBut, held_in}
use Rattle.ft_orb.specs.Table.{Table, table_after, table_step}
use Rattle.ft_orb.specs.Tellings.{nothing_yet, reply_by}
use Rattle.ft_orb.specs.Waits.{call_of, field_with, filled_with, kept_with}
use Rattle.ft_orb.proofs.Folded.{same_key-self, table_after-push}
use Rattle.ft_orb.proofs.Numbers.{AreBelow, after-below, later-keyed, step-keyed}
use Rattle.ft_orb.proofs.Owning.{Brings, brings-of, kept-as, parked-done}
use Rattle.ft_orb.proofs.GoesOn.{and-false, counts-later, was-counted}
use Rattle.ft_orb.proofs.Late.{Numbered, Tally, asks-known, below-past, links-go, parks-later, parks-put, put-else, put-here, put-same, still-later, still-put, tally-is, there-by}

-- who waits first for the outcome of a request that is parked
own-is : (p : Pending) (c : ℕ) (q : Question) → p.connection ≡ c → p.waiting.asker ≡ asker_of q → own_waiters p.connection p.waiting.asker ≡ own_of c q
own-is p c q at is = λ i. if is_wished (is i).wish then record { connection = at i; asker = is i } ∷ [] else []

-- What is kept under a copy of a key is kept under the key.
pub copy-kept : (r copy : Option Retained) (h : Holding) (es : List (KeptOutcome Holding)) → IsCopy r copy → kept_with copy h es ≡ kept_with r h es
copy-kept None None h es is = refl
copy-kept None (Some c) h es is = absurd is
copy-kept (Some r) None h es is = absurd is
copy-kept (Some r) (Some c) h es is = λ i. es ++ record { key = is.0 i; expiration = is.1 i; outcome = h } ∷ []

key-of-field : (r : Option Retained) (key : RequestKey) (x : ℕ) → field_with r ≡ Present key x → key_kept r ≡ Some key
key-of-field None key x h = absurd cc
key-of-field (Some r) key x h = let same : key_of r.key ≡ key = cc in ap (λ (k : RequestKey). Some k) same

module _ {C : Type 0} (offers : C → Offer) (s : Settings) where
  own-opened : (past : List Event) (x : Pending) → does_count past x.connection ≡ false → list_all (was_opened past) (own_waiters x.connection x.waiting.asker) ≡ true
  own-opened past x h =
      (elim (is_wished x.waiting.asker.wish) as (λ (b : Bool). list_all (was_opened past) (cond b (record { connection = x.connection; asker = x.waiting.asker } ∷ []) []) ≡ true) [ true ↦ and-true (not (does_count past x.connection)) (ap not h) | false ↦ refl ])
    where
      and-true : (b : Bool) → b ≡ true → (b && true) ≡ true
      and-true true h = refl
      and-true false h = h

  -- the call that is parked now is kept under its own key
  own-keyed : (held : ℕ → Holding) (calls : List Call) (past : List Event) (c moment : ℕ) (octets written : List ℕ) (handled : ℕ) (w : Waiting) (link : Linked) (b : Brings offers (numbering s nothing_yet held) calls past c moment octets written handled w link)
      → AreKeyed (length calls) (key_kept w.retained) (Tally s (Piece c moment octets ∷ past)).entries
  own-keyed held calls past c moment octets written handled w link b =
      let u = table_after (Numbered s) (Tally s past) b.front in
      let below : AreBelow (length u.state) u.entries = after-below (asked_at s.terms) s.capacity s.share (Tally s past) b.front (below-past s past) in
      let first = later-keyed (length calls) (key_kept w.retained) (length u.state) u.entries (let size = ap (λ (l : List Call). length l) b.before in omega (arith, size)) below in
      let here = step-keyed (asked_at s.terms) s.capacity s.share (length calls) (key_kept w.retained) u b.last (λ key x is. key-of-field w.retained key x (sym b.field ∙ is)) first in
      let all : (Tally s (Piece c moment octets ∷ past)) ≡ (table_step (Numbered s) u b.last).0 =
      ap (λ (xs : List (Arrival Wanted)). table_after (Numbered s) (Tally s past) xs) b.completes ∙ table_after-push (Numbered s) (Tally s past) b.front b.last in
      subst (λ (t : Table (List Call) ℕ). AreKeyed (length calls) (key_kept w.retained) t.entries) (sym all) here

  module _ (stay : EndingsStay meaning_in) (held : ℕ → Holding) (calls : List Call) (old new : Engine C) (past : List Event) (waiting : ℕ → List Waiter) (moment : ℕ) (octets written : List ℕ) (w : Awaited) (x : Pending) (a : AsksLate offers s held calls old past waiting moment octets written w)
      (was : pending_in old ≡ Some x) (asks : asks_in new ≡ asks_in old) (places : new.places ≡ old.places) (p0 : Parked) (at : parked_at new w.number ≡ Some p0) (others : (q : ℕ) → (q == w.number) ≡ false → parked_at new q ≡ parked_at old q) (whose : p0.pending ≡ x) (own : p0.waiters.items ≡ own_waiters x.connection x.waiting.asker) where
    abbrev Here : Event
    Here = Piece w.connection moment octets

    abbrev Learnt : ℕ → Holding
    Learnt = put_at (length calls) (parked w.number) held

    kept : KeepsOf offers (numbering s nothing_yet held) calls old past moment octets written x × (awaited_of x ≡ w)
    kept = kept-as offers (numbering s nothing_yet held) calls old past moment octets written x w was a.asks

    brought : Brings offers (numbering s nothing_yet held) calls past w.connection moment octets written x.place.handled x.waiting kept.0.link
    brought = subst (λ (v : Awaited). Brings offers (numbering s nothing_yet held) calls past v.connection moment octets written x.place.handled x.waiting kept.0.link) kept.1 (brings-of offers (numbering s nothing_yet held) calls old past moment octets written x kept.0)

    counted-here : does_count (Here ∷ past) x.connection ≡ false
    counted-here =
        let there : is_gone (line past x.connection) ≡ false = there-by offers s s.limits kept.0.was (line past x.connection) (subst (λ (o : Option Linked). IsFor s.limits o (line past x.connection)) kept.0.stood (kept.0.stands.lines x.connection)) in
        counts-later past Here x.connection (was-counted past x.connection there)

    parked-own : (i n : ℕ) → i < length (calls ++ w.call ∷ []) → Learnt i ≡ parked n → ((i ≡ length calls) × (n ≡ w.number)) ⊎ ((i < length calls) × (held i ≡ parked n))
    parked-own i n less is = by (i == length calls) refl is
      where
        by : (b : Bool) → (i == length calls) ≡ b → cond b (parked w.number) (held i) ≡ parked n → ((i ≡ length calls) × (n ≡ w.number)) ⊎ ((i < length calls) × (held i ≡ parked n))
        by true here is = inl (eqb-true i (length calls) here, let same : w.number ≡ n = cc in sym same)
        by false here is = inr (let size = length-append calls (w.call ∷ []) in let apart = eqb-false i (length calls) here in omega (arith, size, less, apart), is)

    pub parks-own : Parks s Learnt (calls ++ w.call ∷ []) new (Here ∷ past) (asks_in new) (still s.limits (Here ∷ past) (put_at w.number (own_waiters x.connection x.waiting.asker) waiting))
    parks-own =
        let between : Engine C = record new { parked = old.parked } in
        let tally : (Tally s past).state ≡ calls = sym kept.0.stands.table.state ∙ kept.0.answered in
        let low = a.below in
        let later = parks-later s stay held calls old between past Here Done w.number (asks_in new) waiting tally a.parks places (omega (arith, low, asks)) refl in
        let size = length-append calls (w.call ∷ []) in
        let apart : (i n : ℕ) → i < length calls → held i ≡ parked n → (n == w.number) ≡ false = λ i n less is. let under = a.parks.below i n less is in ne_eqb n w.number (λ same. absurd (omega (arith, under, same))) in
        record {
          places = later.places;
          there = λ i n less is.
              elim (parked-own i n less is) [
                | inl here ↦ subst (λ (m : ℕ). IsSome (parked_at new m)) (sym here.1) (subst (λ (o : Option Parked). IsSome o) (sym at) refl)
                | inr old-one ↦ subst (λ (o : Option Parked). IsSome o) (sym (others n (apart i n old-one.0 old-one.1))) (later.there i n old-one.0 old-one.1)
              ];
          call = λ n p there. by-call n p (n == w.number) refl there;
          once = λ i j n less lessj is isj.
              elim (parked-own i n less is) [
                | inl here ↦ elim (parked-own j n lessj isj) [
                  | inl again ↦ here.0 ∙ sym again.0
                  | inr old-one ↦ absurd (let under = a.parks.below j n old-one.0 old-one.1 in let same = here.1 in omega (arith, under, same))
                ]
                | inr old-one ↦ elim (parked-own j n lessj isj) [
                  | inl again ↦ absurd (let under = a.parks.below i n old-one.0 old-one.1 in let same = again.1 in omega (arith, under, same))
                  | inr other ↦ later.once i j n old-one.0 other.0 old-one.1 other.1
                ]
              ];
          below = λ i n less is.
              elim (parked-own i n less is) [
                | inl here ↦ let same = here.1 in omega (arith, same, low, asks)
                | inr old-one ↦ later.below i n old-one.0 old-one.1
              ];
          lists = λ n p there. by-lists n p (n == w.number) refl there;
          opened = λ n p there. by-opened n p (n == w.number) refl there;
        }
      where
        tally-here : (Tally s past).state ≡ calls
        tally-here = sym kept.0.stands.table.state ∙ kept.0.answered

        before : Parks s held calls (record new { parked = old.parked }) (Here ∷ past) (asks_in new) (still s.limits (Here ∷ past) waiting)
        before = let low = a.below in parks-later s stay held calls old (record new { parked = old.parked }) past Here Done w.number (asks_in new) waiting tally-here a.parks places (omega (arith, low, asks)) refl

        one : (n : ℕ) (p : Parked) → (n == w.number) ≡ true → parked_at new n ≡ Some p → p0 ≡ p
        one n p here there = let both : Some p0 ≡ Some p = sym at ∙ ap (λ (m : ℕ). parked_at new m) (sym (eqb-true n w.number here)) ∙ there in cc

        by-call : (n : ℕ) (p : Parked) (b : Bool) → (n == w.number) ≡ b → parked_at new n ≡ Some p
            → (i : ℕ) × (i < length (calls ++ w.call ∷ [])) × (Learnt i ≡ parked n) × AreKeyed i (key_kept p.pending.waiting.retained) (Tally s (Here ∷ past)).entries
        by-call n p true here there =
            let size = length-append calls (w.call ∷ []) in
            let mine : p.pending ≡ x = ap (λ (q : Parked). q.pending) (sym (one n p here there)) ∙ whose in (
              length calls,
              omega (arith, size),
              put-here (length calls) (parked w.number) held ∙ ap parked (sym (eqb-true n w.number here)),
              subst (λ (q : Pending). AreKeyed (length calls) (key_kept q.waiting.retained) (Tally s (Here ∷ past)).entries) (sym mine) (own-keyed held calls past w.connection moment octets written x.place.handled x.waiting kept.0.link brought),
            )
        by-call n p false here there =
            let y = before.call n p (sym (others n here) ∙ there) in
            let low = y.1 in
            let size = length-append calls (w.call ∷ []) in
            (y.0, omega (arith, size, low), put-else (length calls) (parked w.number) held y.0 (λ is. absurd (omega (arith, is, low))) ∙ y.2, y.3)

        by-lists : (n : ℕ) (p : Parked) (b : Bool) → (n == w.number) ≡ b → parked_at new n ≡ Some p → on_going (goes_on s.limits (Here ∷ past)) p.waiters.items ≡ on_going (goes_on s.limits (Here ∷ past)) (cond b (own_waiters x.connection x.waiting.asker) (waiting n))
        by-lists n p true here there = ap (λ (q : Parked). on_going (goes_on s.limits (Here ∷ past)) q.waiters.items) (sym (one n p here there)) ∙ ap (on_going (goes_on s.limits (Here ∷ past))) own
        by-lists n p false here there = before.lists n p (sym (others n here) ∙ there)

        by-opened : (n : ℕ) (p : Parked) (b : Bool) → (n == w.number) ≡ b → parked_at new n ≡ Some p → list_all (was_opened (Here ∷ past)) p.waiters.items ≡ true
        by-opened n p true here there =
            ap (λ (q : Parked). list_all (was_opened (Here ∷ past)) q.waiters.items) (sym (one n p here there)) ∙ ap (list_all (was_opened (Here ∷ past))) own ∙ own-opened (Here ∷ past) x counted-here
        by-opened n p false here there = before.opened n p (sym (others n here) ∙ there)

    -- what waited is parked
    pub parks-late : new.offering ≡ old.offering → waits_in new ≡ None → IsSameBut x.connection (as_server old calls) (as_server new (calls ++ call_of x.waiting ∷ [])) → new.keeper.clock ≡ old.keeper.clock → new.links ≡ old.links
        → (logged new.keeper.log).entries ≡ kept_with x.waiting.retained (parked w.number) (logged old.keeper.log).entries
        → ResumesLate offers s Learnt (calls ++ w.call ∷ []) past (put_at w.number (own_of w.connection a.asks.question) waiting) w.connection moment octets written Done new [] []
    parks-late are idle same clock links entries =
        let agree : (i : ℕ) → i < length calls → held i ≡ Learnt i = λ i less. sym (put-else (length calls) (parked w.number) held i (λ is. absurd (omega (arith, is, less)))) in
        let k = kept-as offers (numbering s nothing_yet Learnt) calls old past moment octets written x w was (asks-known s offers nothing_yet nothing_yet held Learnt calls old past moment octets written w agree a.asks) in
        let done = parked-done offers (numbering s nothing_yet Learnt) calls old new past moment octets written x k.0 w.number (put-here (length calls) (parked w.number) held) (λ y. refl) entries are idle same clock links in
        let resumes = subst (λ (v : Awaited). ResumesOf offers (numbering s nothing_yet Learnt) (calls ++ v.call ∷ []) past v.connection moment octets written Done new [] []) k.1 done in
        let same : x ≡ a.asks.pending = (let both : Some x ≡ Some a.asks.pending = sym was ∙ a.asks.keeps.waits in cc) in
        let first : own_waiters x.connection x.waiting.asker ≡ own_of w.connection a.asks.question = own-is x w.connection a.asks.question (ap (λ (p : Pending). p.connection) same ∙ ap (λ (v : Awaited). v.connection) a.asks.is) (ap (λ (p : Pending). p.waiting.asker) same ∙ a.asks.asker) in
        subst (λ (l : List Waiter). ResumesLate offers s Learnt (calls ++ w.call ∷ []) past (put_at w.number l waiting) w.connection moment octets written Done new [] []) first (record { resumes = resumes; stays = record { rests = resumes.rests; parks = parks-own } })

-- The log once the outcome of a call is there.

not-parked : (n : ℕ) (h : Holding) → (h ≡ parked n → ⊥) → is_parked n h ≡ false
not-parked n (known p) apart = refl
not-parked n (parked m) apart = ne_eqb m n (λ is. apart (ap parked is))

is-parked : (n : ℕ) (h : Holding) → h ≡ parked n → is_parked n h ≡ true
is-parked n h is = ap (is_parked n) is ∙ eq-eqb n n refl

fill-seen : (key : RequestKey) (n i : ℕ) (o : Performed) (held : ℕ → Holding) (m : ℕ) (es : List (KeptOutcome ℕ)) → AreBelow m es → ((j : ℕ) → j < m → held j ≡ parked n → j ≡ i) → held i ≡ parked n → AreKeyed i (Some key) es
    → map (filled key n o) (map (seen_entry held) es) ≡ map (seen_entry (put_at i (known o) held)) es
fill-seen key n i o held m [] below once is keyed = refl
fill-seen key n i o held m (e ∷ es) below once is keyed =
    ap (λ (x : KeptOutcome Holding). x ∷ map (filled key n o) (map (seen_entry held) es)) (one (e.outcome == i) refl)
    ∙ ap (λ (xs : List (KeptOutcome Holding)). seen_entry (put_at i (known o) held) e ∷ xs) (fill-seen key n i o held m es below.1 once is keyed.1)
  where
    one : (b : Bool) → (e.outcome == i) ≡ b → filled key n o (seen_entry held e) ≡ seen_entry (put_at i (known o) held) e
    one true at =
        let same = eqb-true e.outcome i at in
        let keys : key ≡ e.key = (let both = keyed.0 same in cc) in
        let both : (same_key key e.key && is_parked n (held e.outcome)) ≡ true = and-both (ap (same_key key) (sym keys) ∙ same_key-self key) (is-parked n (held e.outcome) (ap held same ∙ is)) in
        ap (λ (b : Bool). filled_if b o (seen_entry held e)) both ∙ ap (λ (h : Holding). record { key = e.key; expiration = e.expiration; outcome = h }) (sym (ap (λ (b : Bool). cond b (known o) (held e.outcome)) at))
      where
        and-both : {a b : Bool} → a ≡ true → b ≡ true → (a && b) ≡ true
        and-both {a} {b} p q = ap (λ (x : Bool). x && b) p ∙ q
    one false at =
        let apart : held e.outcome ≡ parked n → ⊥ = λ h. eqb-false e.outcome i at (once e.outcome below.0 h) in
        let none : (same_key key e.key && is_parked n (held e.outcome)) ≡ false = ap (λ (b : Bool). same_key key e.key && b) (not-parked n (held e.outcome) apart) ∙ and-false (same_key key e.key) in
        ap (λ (b : Bool). filled_if b o (seen_entry held e)) none ∙ ap (λ (h : Holding). record { key = e.key; expiration = e.expiration; outcome = h }) (sym (ap (λ (b : Bool). cond b (known o) (held e.outcome)) at))

fill-none : (i : ℕ) (x : Holding) (held : ℕ → Holding) (es : List (KeptOutcome ℕ)) → AreKeyed i None es → map (seen_entry held) es ≡ map (seen_entry (put_at i x held)) es
fill-none i x held [] keyed = refl
fill-none i x held (e ∷ es) keyed =
    ap (λ (h : Holding). record { key = e.key; expiration = e.expiration; outcome = h } ∷ map (seen_entry held) es) (sym (put-else i x held e.outcome (λ is. absurd (let none = keyed.0 is in cc))))
    ∙ ap (λ (xs : List (KeptOutcome Holding)). seen_entry (put_at i x held) e ∷ xs) (fill-none i x held es keyed.1)

filled-live : (key : RequestKey) (n : ℕ) (o : Performed) (clock : ℕ) (es : List (KeptOutcome Holding)) → unexpired clock (map (filled key n o) es) ≡ map (filled key n o) (unexpired clock es)
filled-live key n o clock [] = refl
filled-live key n o clock (e ∷ es) = when (same_key key e.key && is_parked n e.outcome) (filled-live key n o clock es) ∙ shown (nat_le clock e.expiration)
  where
    when : (b : Bool) → unexpired clock (map (filled key n o) es) ≡ map (filled key n o) (unexpired clock es)
        → cond (nat_le clock (filled_if b o e).expiration) (filled_if b o e ∷ unexpired clock (map (filled key n o) es)) (unexpired clock (map (filled key n o) es)) ≡ cond (nat_le clock e.expiration) (filled_if b o e ∷ map (filled key n o) (unexpired clock es)) (map (filled key n o) (unexpired clock es))
    when true same = ap (λ (l : List (KeptOutcome Holding)). cond (nat_le clock e.expiration) (filled_if true o e ∷ l) l) same
    when false same = ap (λ (l : List (KeptOutcome Holding)). cond (nat_le clock e.expiration) (e ∷ l) l) same

    shown : (b : Bool) → cond b (filled key n o e ∷ map (filled key n o) (unexpired clock es)) (map (filled key n o) (unexpired clock es)) ≡ map (filled key n o) (cond b (e ∷ unexpired clock es) (unexpired clock es))
    shown true = refl
    shown false = refl

-- what is kept is what is known now
filled-seen : (r : Option Retained) (n i : ℕ) (o : Performed) (held : ℕ → Holding) (m clock : ℕ) (log : List (KeptOutcome Holding)) (es : List (KeptOutcome ℕ)) → AreBelow m es → ((j : ℕ) → j < m → held j ≡ parked n → j ≡ i) → held i ≡ parked n → AreKeyed i (key_kept r) es
    → unexpired clock log ≡ unexpired clock (map (seen_entry held) es) → unexpired clock (filled_with r n o log) ≡ unexpired clock (map (seen_entry (put_at i (known o) held)) es)
filled-seen None n i o held m clock log es below once is keyed same = same ∙ ap (unexpired clock) (fill-none i (known o) held es keyed)
filled-seen (Some r) n i o held m clock log es below once is keyed same =
    filled-live (key_of r.key) n o clock log ∙ ap (map (filled (key_of r.key) n o)) same ∙ sym (filled-live (key_of r.key) n o clock (map (seen_entry held) es)) ∙ ap (unexpired clock) (fill-seen (key_of r.key) n i o held m es below once is keyed)

module _ {C : Type 0} (offers : C → Offer) (s : Settings) (held : ℕ → Holding) (calls : List Call) (old new : Engine C) (past : List Event) (waiting : ℕ → List Waiter) (h : Stays offers s held calls old past waiting) (n : ℕ) (p : Parked) (was : parked_at old n ≡ Some p) where
  -- its outcome is told to all
  pub settled-late : (o : Performed) → waiting n ≡ [] → new.offering ≡ old.offering → waits_in new ≡ waits_in old → new.limits ≡ old.limits → new.greatest ≡ old.greatest → new.links ≡ old.links → new.keeper.clock ≡ old.keeper.clock → new.places ≡ old.places → asks_in new ≡ asks_in old
      → (logged new.keeper.log).capacity ≡ (logged old.keeper.log).capacity → (logged new.keeper.log).share ≡ (logged old.keeper.log).share → (logged new.keeper.log).entries ≡ filled_with p.pending.waiting.retained n o (logged old.keeper.log).entries
      → parked_at new n ≡ None → ((q : ℕ) → (q == n) ≡ false → parked_at new q ≡ parked_at old q) → IsSettled offers s held calls past waiting n o new
  settled-late o none are idle limits greatest links clock places asks capacity share entries gone others =
      let y = h.parks.call n p was in
      let i = y.0 in
      let tally = tally-is offers s nothing_yet held calls old past h.rests in
      let st = h.rests.stands in
      let once : (j : ℕ) → j < length (Tally s past).state → held j ≡ parked n → j ≡ i = λ j less is. h.parks.once j i n (subst (λ (l : List Call). j < length l) tally less) y.1 is y.2 in
      let filled-in = filled-seen p.pending.waiting.retained n i o held (length (Tally s past).state) old.keeper.clock (logged old.keeper.log).entries (Tally s past).entries (below-past s past) once y.2 y.3 st.table.entries in
      let apart : (j m : ℕ) → put_at i (known o) held j ≡ parked m → (j ≡ i → ⊥) = λ j m is same. absurd (let here = sym (ap (put_at i (known o) held) same ∙ put-here i (known o) held) ∙ is in cc) in
      let back : (j m : ℕ) → put_at i (known o) held j ≡ parked m → held j ≡ parked m = λ j m is. sym (put-else i (known o) held j (apart j m is)) ∙ is in
      let other : (j m : ℕ) → j < length calls → put_at i (known o) held j ≡ parked m → (m == n) ≡ false = λ j m less is. ne_eqb m n (λ same. absurd (apart j m is (h.parks.once j i n less y.1 (back j m is ∙ ap parked same) y.2))) in
      let elsewhere : (m : ℕ) (q : Parked) → parked_at new m ≡ Some q → (m == n) ≡ false = λ m q at. ne_eqb m n (λ same. absurd (let no : None ≡ Some q = sym gone ∙ ap (λ (k : ℕ). parked_at new k) (sym same) ∙ at in cc)) in
      record {
        i = i;
        taken = y.1;
        was = y.2;
        told = none;
        stays = record {
          rests = record {
            offer_is = ap (terms_by offers) are ∙ h.rests.offer_is;
            idle = idle ∙ h.rests.idle;
            stands = record {
              limits_are = limits ∙ st.limits_are;
              capacity_is = capacity ∙ st.capacity_is;
              share_is = share ∙ st.share_is;
              moment = clock ∙ st.moment;
              greatest = λ c. st.greatest c ∙ ap (λ (g : Option ℕ). option_map_or (λ (x : ℕ). nat_lt x c) g true) (sym greatest);
              lines = λ c. subst (λ (l : BTreeMap ℕ Linked). IsFor s.limits (held_in l.entries c) (line past c)) (sym links) (st.lines c);
              table = record {
                state = st.table.state;
                entries = ap (λ (k : ℕ). unexpired k (logged new.keeper.log).entries) clock ∙ ap (unexpired old.keeper.clock) entries ∙ filled-in ∙ ap (λ (k : ℕ). unexpired k (map (seen_entry (put_at i (known o) held)) (Tally s past).entries)) (sym clock);
              };
            };
          };
          parks = record {
            places = places ∙ h.parks.places;
            there = λ j m less is. subst (λ (x : Option Parked). IsSome x) (sym (others m (other j m less is))) (h.parks.there j m less (back j m is));
            call = λ m q at.
                let z = h.parks.call m q (sym (others m (elsewhere m q at)) ∙ at) in
                (z.0, z.1, put-else i (known o) held z.0 (λ same. absurd (let both : parked m ≡ parked n = sym z.2 ∙ ap held same ∙ y.2 in let is : m ≡ n = cc in eqb-false m n (elsewhere m q at) is)) ∙ z.2, z.3);
            once = λ j k m less lessk is isk. h.parks.once j k m less lessk (back j m is) (back k m isk);
            below = λ j m less is. let low = h.parks.below j m less (back j m is) in omega (arith, low, asks);
            lists = λ m q at. h.parks.lists m q (sym (others m (elsewhere m q at)) ∙ at);
            opened = λ m q at. h.parks.opened m q (sym (others m (elsewhere m q at)) ∙ at);
          };
        };
      }

  pub settled-due : (o : Performed) → told_in old n ≡ Some o → IsSettled offers s held calls past waiting n o new → IsDueLate offers s held calls past waiting n (told_in old n) None new
  settled-due o told settled = subst (λ (t : Option Performed). IsDueLate offers s held calls past waiting n t None new) (sym told) settled

  -- those at its front are dropped whose connections have ended, and nothing else is done
  module _ (rests : RestsOf offers (numbering s nothing_yet held) calls new past) (places : new.places ≡ old.places) (asks : asks_in new ≡ asks_in old) (others : (m : ℕ) → (m == n) ≡ false → parked_at new m ≡ parked_at old m) (q : Parked) (cleared : IsCleared (going_in old.links) p q) where
    gone-on : going_in old.links ≡ goes_on s.limits past
    gone-on = links-go offers s nothing_yet held calls old past h.rests

    pub cleared-list : on_going (goes_on s.limits past) q.waiters.items ≡ waiting n
    cleared-list = subst (λ (g : ℕ → Bool). on_going g q.waiters.items ≡ on_going g p.waiters.items) gone-on cleared.1 ∙ h.parks.lists n p was

    clear-now : IsClear (goes_on s.limits past) q.waiters.items
    clear-now = subst (λ (g : ℕ → Bool). IsClear g q.waiters.items) gone-on cleared.2

    -- one that is left in its place, with these who wait
    pub left-late : (r : Parked) (list : List Waiter) → parked_at new n ≡ Some r → r.pending ≡ p.pending → on_going (goes_on s.limits past) r.waiters.items ≡ list → list_all (was_opened past) r.waiters.items ≡ true → Stays offers s held calls new past (put_at n list waiting)
    left-late r list is same lists opened = record {
      rests = rests;
      parks = subst (λ (k : ℕ). Parks s held calls new past k (put_at n list waiting)) (sym asks) (parks-put offers s held calls old new past (asks_in old) waiting h.parks places n p r list was is others same lists opened);
    }

    pub opened-now : list_all (was_opened past) q.waiters.items ≡ true
    opened-now = cleared.3 (was_opened past) (h.parks.opened n p was)

    pub cleared-late : parked_at new n ≡ Some q → Stays offers s held calls new past waiting
    cleared-late is = subst (λ (f : ℕ → List Waiter). Stays offers s held calls new past f) (put-same offers s n waiting) (left-late q (waiting n) is cleared.0.0 cleared-list opened-now)

    -- the first of those who wait
    pub first-is : (f : Waiter) (tail : List Waiter) → q.waiters.items ≡ f ∷ tail → waiting n ≡ f ∷ on_going (goes_on s.limits past) tail
    first-is f tail items =
        let up : goes_on s.limits past f.connection ≡ true = subst (λ (l : List Waiter). IsClear (goes_on s.limits past) l) items clear-now in
        sym cleared-list ∙ ap (on_going (goes_on s.limits past)) items ∙ ap (λ (b : Bool). cond b (f ∷ on_going (goes_on s.limits past) tail) (on_going (goes_on s.limits past) tail)) up

    pub nobody-is : q.waiters.items ≡ [] → waiting n ≡ []
    nobody-is items = sym cleared-list ∙ ap (on_going (goes_on s.limits past)) items

    pub due-late : (o : Performed) → told_in old n ≡ Some o → parked_at new n ≡ Some q → (f : Waiter) → 0 < length q.waiters.items → f ≡ slice_index_or q.waiters.items 0 f → IsDueLate offers s held calls past waiting n (told_in old n) (Some f.connection) new
    due-late o told is f some first = by q.waiters.items refl
      where
        by : (l : List Waiter) → q.waiters.items ≡ l → IsDueLate offers s held calls past waiting n (told_in old n) (Some f.connection) new
        by [] items = absurd (let size = ap (λ (l : List Waiter). length l) items in omega (arith, size, some))
        by (w ∷ tail) items =
            let at : f ≡ w = first ∙ ap (λ (l : List Waiter). slice_index_or l 0 f) items in
            subst (λ (t : Option Performed). IsDueLate offers s held calls past waiting n t (Some f.connection) new) (sym told)
            (cleared-late is, w, on_going (goes_on s.limits past) tail, first-is w tail items, ap (λ (x : Waiter). x.connection) (sym at))

  pub first-by : (q : Parked) → IsCleared (going_in old.links) p q → (f : Waiter) (tail : List Waiter) → q.waiters.items ≡ f ∷ tail → waiting n ≡ f ∷ on_going (goes_on s.limits past) tail
  first-by q cleared f tail items =
      let go : going_in old.links ≡ goes_on s.limits past = links-go offers s nothing_yet held calls old past h.rests in
      let list : on_going (goes_on s.limits past) q.waiters.items ≡ waiting n = subst (λ (g : ℕ → Bool). on_going g q.waiters.items ≡ on_going g p.waiters.items) go cleared.1 ∙ h.parks.lists n p was in
      let up : goes_on s.limits past f.connection ≡ true = subst (λ (l : List Waiter). IsClear (goes_on s.limits past) l) items (subst (λ (g : ℕ → Bool). IsClear g q.waiters.items) go cleared.2) in
      sym list ∙ ap (on_going (goes_on s.limits past)) items ∙ ap (λ (b : Bool). cond b (f ∷ on_going (goes_on s.limits past) tail) (on_going (goes_on s.limits past) tail)) up

  -- a reply is made to the first of those who wait
  module _ (q : Parked) (cleared : IsCleared (going_in old.links) p q) (f : Waiter) (r : Parked) (items : q.waiters.items ≡ f ∷ r.waiters.items) (same : r.pending ≡ p.pending) (is : parked_at new n ≡ Some r) (others : (m : ℕ) → (m == n) ≡ false → parked_at new m ≡ parked_at old m) (places : new.places ≡ old.places)
      (asks : asks_in new ≡ asks_in old) (w : Waiter) (rest : List Waiter) (waits : waiting n ≡ w ∷ rest) where
    both-first : (f ≡ w) × (on_going (goes_on s.limits past) r.waiters.items ≡ rest)
    both-first =
        let one : w ∷ rest ≡ f ∷ on_going (goes_on s.limits past) r.waiters.items = sym waits ∙ first-of in
        (let at : f ≡ w = cc in at, let more : on_going (goes_on s.limits past) r.waiters.items ≡ rest = cc in more)
      where
        first-of : waiting n ≡ f ∷ on_going (goes_on s.limits past) r.waiters.items
        first-of = first-by q cleared f r.waiters.items items

    tail-opened : list_all (was_opened past) r.waiters.items ≡ true
    tail-opened = (and_parts (was_opened past f) (list_all (was_opened past) r.waiters.items) (sym (ap (list_all (was_opened past)) items) ∙ cleared.3 (was_opened past) (h.parks.opened n p was))).1

    -- it is made
    pub replied-late : (o : Performed) (out grown : List ℕ) → RestsOf offers (numbering s nothing_yet held) calls new past → grown ≡ out ++ reply_by f.asker.wish f.asker.version f.asker.request_id o → RepliesLate offers s held calls past waiting n o w rest (Ok tt) new out grown
    replied-late o out grown rests put = (
      put ∙ ap (λ (x : Waiter). out ++ reply_by x.asker.wish x.asker.version x.asker.request_id o) both-first.0,
      record { rests = rests; parks = subst (λ (k : ℕ). Parks s held calls new past k (put_at n rest waiting)) (sym asks) (parks-put offers s held calls old new past (asks_in old) waiting h.parks places n p r rest was is others same both-first.1 tail-opened) },
    )

    -- or an allocation fails for it, and its connection is lost
    pub unreplied-late : EndingsStay meaning_in → (o : Performed) (out grown : List ℕ) → RestsOf offers (numbering s nothing_yet held) calls new (Lost f.connection ∷ past) → grown ≡ out → 0 < length (reply_by f.asker.wish f.asker.version f.asker.request_id o)
        → RepliesLate offers s held calls past waiting n o w rest (Err (serving.Memory 0 0)) new out grown
    unreplied-late stay o out grown rests left some =
        let past2 = Lost f.connection ∷ past in
        let between : Engine C = record new { parked = old.parked } in
        let later = parks-later s stay held calls old between past (Lost f.connection) Done (asks_in old) (asks_in new) waiting (tally-is offers s nothing_yet held calls old past h.rests) h.parks places (omega (arith, asks)) refl in
        let listed = still-later s stay past (Lost f.connection) Done r.waiters.items rest both-first.1 tail-opened in
        let parks = subst (λ (g : ℕ → List Waiter). Parks s held calls new past2 (asks_in new) g) (still-put offers s past2 n rest waiting) (parks-put offers s held calls between new past2 (asks_in new) (still s.limits past2 waiting) later refl n p r (on_going (goes_on s.limits past2) rest) was is others same listed.0 listed.1) in (
          refl,
          refl,
          left,
          subst (λ (x : Waiter). 0 < length (reply_by x.asker.wish x.asker.version x.asker.request_id o)) both-first.0 some,
          subst (λ (c : ℕ). Stays offers s held calls new (Lost c ∷ past) (still s.limits (Lost c ∷ past) (put_at n rest waiting))) (ap (λ (x : Waiter). x.connection) both-first.0) (record { rests = rests; parks = parks }),
        )

-- a list without elements
pub none-left : {A : Type 0} (l : List A) → length l ≡ 0 → l ≡ []
none-left [] h = refl
none-left (x ∷ l) h = absurd (omega (arith, h))

pub told-is : {C : Type 0} (e : Engine C) (n : ℕ) (p : Parked) (o : Outcome) → parked_at e n ≡ Some p → p.outcome ≡ Some o → told_in e n ≡ Some (performed_in o)
told-is e n p o was is = ap (λ (x : Option Parked). told_of x) was ∙ ap (λ (x : Option Outcome). option_map performed_in x) is

pub some-of : {A : Type 0} (x : Option A) → is_some x ≡ true → (y : A) × (x ≡ Some y)
some-of None h = absurd cc
some-of (Some y) h = (y, refl)

-- another number is not at this one
pub not-at : (n m : ℕ) → (m == n) ≡ false → is_at (nat_cmp n) m ≡ false
not-at n m apart = grind (arith, common_steps)
