-- A run of an engine whose owner gives for each key only what may be given for it: so does its log.
use Rattle.std.proofs.Common.{◌≡◌, ◌==◌, ℕ, ◌<◌, ◌≤◌, ◌+◌, Bool, true, false, cond, not, ◌⊎◌, inl, inr, List, [], ◌∷◌, ◌++◌, length, length-append, take, Option, Some, None, refl, sym, ap, subst, ◌∙◌, arith}
use Rattle.std.specs.List.{AllByRecursion}
use Rattle.std.proofs.lemmas.Bool.{eq-eqb, eqb-false, eqb-true}
use Rattle.giop_link.specs.Hearing.{Question, meaning_in}
use Rattle.giop_link.specs.Laws.{HearingGrows}
use Rattle.ft_log.specs.Holding.{Holding, known, parked}
use Rattle.ft_log.specs.Keys.{RequestKey}
use Rattle.ft_log.specs.Kept.{KeptOutcome}
use Rattle.ft_log.specs.Performed.{Performed}
use Rattle.ft_orb.specs.declared.events.Note.{Note}
use Rattle.ft_orb.specs.declared.events.Note.TheVariants.{Done, Memory}
use Rattle.ft_orb.specs.declared.parked.Waiter.{Waiter}
use Rattle.ft_orb.specs.Deeds.{Answered, AnsweredUnkept, AreApart, Asking, Deed, GivenUp, Happened, IsDeed, Joined, Ledger, Parked, Part, Runs, Settled, SettledUnkept, Stopped, Told, after_deed, after_deeds, opening, part_of, piece_of, told_all, without_call}
use Rattle.ft_orb.specs.Engines.{Awaited}
use Rattle.ft_orb.specs.ExactlyOnce.{Present}
use Rattle.ft_orb.specs.History.{Event, Piece, Withdrew, completed}
use Rattle.ft_orb.specs.Outputs.{after}
use Rattle.ft_orb.specs.Parking.{Settings, put_at}
use Rattle.ft_orb.specs.Requests.{Call}
use Rattle.ft_orb.specs.Table.{Table}
use Rattle.ft_lives.proofs.Sound.{HasKey, IsSound, Waits, after-kept, answer-taken, event-kept, piece-taken, put-else, put-here, table, told-table}
use Rattle.ft_lives.proofs.Tables.{all-filter, all-map}

known-parked : (outcome : Performed) (n : ℕ) → known outcome ≡ parked n → ⊥
known-parked outcome n is = cc

pub some-is : {X : Type 0} (x y : X) → Some x ≡ Some y → x ≡ y
some-is x y is = cc

same-known : (a b : Performed) → known a ≡ known b → a ≡ b
same-known a b is = cc

pub same-parked : (a b : ℕ) → parked a ≡ parked b → a ≡ b
same-parked a b is = cc

-- the test of a number
number-test : (i n : ℕ) → ((i == n) ≡ true) ⊎ ((i == n) ≡ false)
number-test i n = by (i == n) refl
  where
    by : (b : Bool) → (i == n) ≡ b → ((i == n) ≡ true) ⊎ ((i == n) ≡ false)
    by true is = inl is
    by false is = inr is

apart-is : (i n : ℕ) → (i == n) ≡ false → i ≡ n → ⊥
apart-is i n other is = eqb-false i n other is

-- One call more is taken, of which this is known: what is known of the others stays.
module _ (calls : List Call) (call : Call) (x : Holding) (held : ℕ → Holding) where
  one-more : (i : ℕ) → i < length (calls ++ call ∷ []) → (i ≡ length calls) ⊎ (i < length calls)
  one-more i less = by (number-test i (length calls))
    where
      by : ((i == length calls) ≡ true) ⊎ ((i == length calls) ≡ false) → (i ≡ length calls) ⊎ (i < length calls)
      by (inl is) = inl (eqb-true i (length calls) is)
      by (inr other) = let n = length-append calls (call ∷ []) in let apart = apart-is i (length calls) other in inr (omega (arith, n, less, apart))

  old-held : (i : ℕ) → i < length calls → put_at (length calls) x held i ≡ held i
  old-held i less = put-else (length calls) x held i (λ is. absurd (omega (arith, is, less)))

  -- no two calls are parked under one number, where none is parked under that of the new one
  apart-more : ((i j n : ℕ) → i < length calls → j < length calls → held i ≡ parked n → held j ≡ parked n → i ≡ j)
      → ((i n : ℕ) → i < length calls → held i ≡ parked n → x ≡ parked n → ⊥)
      → (i j n : ℕ) → i < length (calls ++ call ∷ []) → j < length (calls ++ call ∷ []) → put_at (length calls) x held i ≡ parked n → put_at (length calls) x held j ≡ parked n → i ≡ j
  apart-more apart free i j n less_i less_j is_i is_j = by (one-more i less_i) (one-more j less_j)
    where
      new : (k : ℕ) → k ≡ length calls → put_at (length calls) x held k ≡ parked n → x ≡ parked n
      new k is at = sym (put-here (length calls) x held) ∙ ap (put_at (length calls) x held) (sym is) ∙ at

      by : (i ≡ length calls) ⊎ (i < length calls) → (j ≡ length calls) ⊎ (j < length calls) → i ≡ j
      by (inl a) (inl b) = a ∙ sym b
      by (inl a) (inr b) = absurd (free j n b (sym (old-held j b) ∙ is_j) (new i a is_i))
      by (inr a) (inl b) = absurd (free i n a (sym (old-held i a) ∙ is_i) (new j b is_j))
      by (inr a) (inr b) = apart i j n a b (sym (old-held i a) ∙ is_i) (sym (old-held j b) ∙ is_j)

module _ (s : Settings) (grow : HearingGrows meaning_in) (May : RequestKey → Performed → Type 0) where
  -- what the deed gives may be given
  abbrev pub IsRuled : Ledger → Deed → Type 0
  IsRuled g (Happened e written note) = Unit {0}
  IsRuled g (Stopped p written w q) = Unit {0}
  IsRuled g (Joined p written n joined) = Unit {0}
  IsRuled g (Answered a outcome written note) = (key : RequestKey) (expiration : ℕ) → a.request.field ≡ Present key expiration → May key outcome
  IsRuled g (Parked a own) = Unit {0}
  IsRuled g (GivenUp a handled) = Unit {0}
  IsRuled g (Settled i n outcome told) = (w : Awaited) (key : RequestKey) (expiration : ℕ) → g.there n ≡ Some w → w.field ≡ Present key expiration → May key outcome
  IsRuled g (AnsweredUnkept a outcome written) = Unit {0}
  IsRuled g (SettledUnkept i n outcome told) = Unit {0}

  abbrev pub AreRuled : Ledger → List Deed → Type 0
  AreRuled g [] = Unit {0}
  AreRuled g (d ∷ ds) = IsRuled g d × AreRuled (after_deed s g d) ds

  pub record Stands (g : Ledger) : Type 0 where
    pub taken : g.calls ≡ (table s grow g.past).state
    pub entries : AllByRecursion (IsSound May (length g.calls) g.held g.there) (table s grow g.past).entries
    pub apart : AreApart g
    pub waits : (a : Asking) → g.asking ≡ Some a → Waits s grow g a

  pub opening-stands : (held : ℕ → Holding) → Stands (opening held)
  opening-stands held = record { taken = refl; entries = tt; apart = λ i j n less. absurd (omega (arith, less)); waits = λ a is. absurd cc }

  -- the entries of what was taken before stay sound, where nothing is there under a number that they have not had
  sound-old : (calls : List Call) (call : Call) (x : Holding) (held : ℕ → Holding) (there now : ℕ → Option Awaited) → ((i n : ℕ) → i < length calls → held i ≡ parked n → now n ≡ there n)
      → (e : KeptOutcome ℕ) → IsSound May (length calls) held there e → IsSound May (length (calls ++ call ∷ [])) (put_at (length calls) x held) now e
  sound-old calls call x held there now stay e h =
      let less = h.taken in
      let same = old-held calls call x held e.outcome less in
      let n = length-append calls (call ∷ []) in
      record {
        taken = omega (arith, n, less);
        gives = λ outcome is. h.gives outcome (sym same ∙ is);
        waits = λ number is. subst (λ (o : Option Awaited). HasKey o e.key) (sym (stay e.outcome number less (sym same ∙ is))) (h.waits number (sym same ∙ is));
      }

  -- .. and what changes of a call that was parked changes of it alone
  sound-changed : (count i n : ℕ) (x : Holding) (held : ℕ → Holding) (there : ℕ → Option Awaited) → ((j : ℕ) → j < count → held j ≡ parked n → j ≡ i)
      → (e : KeptOutcome ℕ) → (e.outcome ≡ i → ⊥) → IsSound May count held there e → IsSound May count (put_at i x held) (put_at n None there) e
  sound-changed count i n x held there alone e else h =
      let less = h.taken in
      let same : put_at i x held e.outcome ≡ held e.outcome = put-else i x held e.outcome else in
      record {
        taken = less;
        gives = λ outcome is. h.gives outcome (sym same ∙ is);
        waits = λ number is.
            let was : held e.outcome ≡ parked number = sym same ∙ is in
            let other : number ≡ n → ⊥ = λ at. else (alone e.outcome less (was ∙ ap (λ (m : ℕ). parked m) at)) in
            subst (λ (o : Option Awaited). HasKey o e.key) (sym (put-else n None there number other)) (h.waits number was);
      }

  -- no two are parked under one number, once one of them is known
  apart-changed : (count i : ℕ) (outcome : Performed) (held : ℕ → Holding) → ((j k n : ℕ) → j < count → k < count → held j ≡ parked n → held k ≡ parked n → j ≡ k)
      → (j k n : ℕ) → j < count → k < count → put_at i (known outcome) held j ≡ parked n → put_at i (known outcome) held k ≡ parked n → j ≡ k
  apart-changed count i outcome held apart j k n less_j less_k is_j is_k = apart j k n less_j less_k (was j is_j) (was k is_k)
    where
      was : (m : ℕ) → put_at i (known outcome) held m ≡ parked n → held m ≡ parked n
      was m is = by (number-test m i)
        where
          by : ((m == i) ≡ true) ⊎ ((m == i) ≡ false) → held m ≡ parked n
          by (inl at) = absurd (known-parked outcome n (sym (put-here i (known outcome) held) ∙ ap (put_at i (known outcome) held) (sym (eqb-true m i at)) ∙ is))
          by (inr other) = sym (put-else i (known outcome) held m (apart-is m i other)) ∙ is

  no-waits : (g : Ledger) (a : Asking) → None ≡ Some a → Waits s grow g a
  no-waits g a is = absurd cc

  happened : (g : Ledger) (e : Event) (written : List ℕ) (note : Note) → Stands g → IsDeed s g (Happened e written note) → Stands (after_deed s g (Happened e written note))
  happened g e written note st d =
      let now = d.2 in
      let n = ap (λ (l : List Call). length l) (sym now ∙ st.taken) in
      record {
        taken = now;
        entries = after-kept s grow (IsSound May (length g.calls) g.held g.there) g.past e note st.entries (omega (arith, n));
        apart = st.apart;
        waits = λ a is. no-waits _ a is;
      }

  stopped : (g : Ledger) (p : Part) (written : List ℕ) (w : Awaited) (q : Question) → Stands g → IsDeed s g (Stopped p written w q) → Stands (after_deed s g (Stopped p written w q))
  stopped g p written w q st d =
      let x = d.1 in
      let asking : Asking = record { moment = p.moment; octets = take p.taken p.piece; written = written; request = w; question = q } in
      let event : piece_of asking ≡ part_of p = ap (λ (c : ℕ). Piece c p.moment (take p.taken p.piece)) x.connection in
      let own : Waits s grow (after_deed s g (Stopped p written w q)) asking =
      record { front = x.front; last = x.last; completes = ap (λ (e : Event). completed s.limits g.past e) event ∙ x.completes; field = x.field; before = x.before } in
      record {
        taken = st.taken;
        entries = st.entries;
        apart = st.apart;
        waits = λ a is. subst (λ (b : Asking). Waits s grow (after_deed s g (Stopped p written w q)) b) (some-is asking a is) own;
      }

  joined : (g : Ledger) (p : Part) (written : List ℕ) (n : ℕ) (ws : List Waiter) → Stands g → IsDeed s g (Joined p written n ws) → Stands (after_deed s g (Joined p written n ws))
  joined g p written n ws st d =
      let now = d.2 in
      let same = ap (λ (l : List Call). length l) (sym now ∙ st.taken) in
      record {
        taken = now;
        entries = event-kept s grow (IsSound May (length g.calls) g.held g.there) g.past (part_of p) st.entries (omega (arith, same));
        apart = st.apart;
        waits = λ a is. no-waits _ a is;
      }

  given-up : (g : Ledger) (a : Asking) (handled : ℕ) → Stands g → IsDeed s g (GivenUp a handled) → Stands (after_deed s g (GivenUp a handled))
  given-up g a handled st d =
      let now = d.2 in
      let same = ap (λ (l : List Call). length l) (sym now ∙ st.taken) in
      record {
        taken = now;
        entries = after-kept s grow (IsSound May (length g.calls) g.held g.there) g.past (piece_of a) (Memory handled handled) st.entries (omega (arith, same));
        apart = st.apart;
        waits = λ b is. no-waits _ b is;
      }

  answered : (g : Ledger) (a : Asking) (outcome : Performed) (written : List ℕ) (note : Note) → Stands g → IsRuled g (Answered a outcome written note) → IsDeed s g (Answered a outcome written note) → Stands (after_deed s g (Answered a outcome written note))
  answered g a outcome written note st rule d =
      let now = d.2 in
      let call = a.request.call in
      let held = put_at (length g.calls) (known outcome) g.held in
      let P = IsSound May (length (g.calls ++ call ∷ [])) held g.there in
      let n = length-append g.calls (call ∷ []) in
      let here = put-here (length g.calls) (known outcome) g.held in
      record {
        taken = now;
        entries = answer-taken s grow P g a (st.waits a d.0) note st.taken
            (all-map (IsSound May (length g.calls) g.held g.there) P (table s grow g.past).entries (sound-old g.calls call (known outcome) g.held g.there g.there (λ i m less is. refl)) st.entries) now
            (λ key expiration is. record {
              taken = omega (arith, n);
              gives = λ o at. subst (λ (x : Performed). May key x) (same-known outcome o (sym here ∙ at)) (rule key expiration is);
              waits = λ m at. absurd (known-parked outcome m (sym here ∙ at));
            });
        apart = apart-more g.calls call (known outcome) g.held st.apart (λ i m less is at. known-parked outcome m at);
        waits = λ b is. no-waits _ b is;
      }

  did-park : (g : Ledger) (a : Asking) (own : List Waiter) → Stands g → IsDeed s g (Parked a own) → Stands (after_deed s g (Parked a own))
  did-park g a own st d =
      let now = d.4 in
      let free = d.1 in
      let call = a.request.call in
      let number = a.request.number in
      let held = put_at (length g.calls) (parked number) g.held in
      let there = put_at number (Some a.request) g.there in
      let P = IsSound May (length (g.calls ++ call ∷ [])) held there in
      let n = length-append g.calls (call ∷ []) in
      let here = put-here (length g.calls) (parked number) g.held in
      let stay : (i m : ℕ) → i < length g.calls → g.held i ≡ parked m → put_at number (Some a.request) g.there m ≡ g.there m =
      λ i m less is. put-else number (Some a.request) g.there m (λ at. free.call i less (is ∙ ap (λ (k : ℕ). parked k) at)) in
      record {
        taken = now;
        entries = piece-taken s grow P g a (st.waits a d.0) st.taken
            (all-map (IsSound May (length g.calls) g.held g.there) P (table s grow g.past).entries (sound-old g.calls call (parked number) g.held g.there there stay) st.entries) now
            (λ key expiration is. record {
              taken = omega (arith, n);
              gives = λ o at. absurd (known-parked o number (sym (sym here ∙ at)));
              waits = λ m at.
                  let same : there m ≡ Some a.request = ap there (sym (same-parked number m (sym here ∙ at))) ∙ put-here number (Some a.request) g.there in
                  subst (λ (o : Option Awaited). HasKey o key) (sym same) (expiration, is);
            });
        apart = apart-more g.calls call (parked number) g.held st.apart (λ i m less is at. free.call i less (is ∙ sym at));
        waits = λ b is. no-waits _ b is;
      }

  settled : (g : Ledger) (i n : ℕ) (outcome : Performed) (told : List Told) → Stands g → IsRuled g (Settled i n outcome told) → IsDeed s g (Settled i n outcome told) → Stands (after_deed s g (Settled i n outcome told))
  settled g i n outcome told st rule d =
      let now = d.5 in
      let held = put_at i (known outcome) g.held in
      let there = put_at n None g.there in
      let Q = IsSound May (length g.calls) g.held g.there in
      let P = IsSound May (length g.calls) held there in
      let here = put-here i (known outcome) g.held in
      let alone : (j : ℕ) → j < length g.calls → g.held j ≡ parked n → j ≡ i = λ j less is. st.apart j i n less d.1 is d.2 in
      record {
        taken = now;
        entries = subst (λ (t : Table (List Call) ℕ). AllByRecursion P t.entries) (sym (told-table s grow n g told))
            (all-map Q P (table s grow g.past).entries (λ e h. by e h (number-test e.outcome i)) st.entries);
        apart = apart-changed (length g.calls) i outcome g.held st.apart;
        waits = λ b is. no-waits _ b is;
      }
    where
      from : (o : Option Awaited) (key : RequestKey) → g.there n ≡ o → HasKey o key → May key outcome
      from None key is has = absurd has
      from (Some w) key is has = rule w key has.0 is has.1

      by : (e : KeptOutcome ℕ) → IsSound May (length g.calls) g.held g.there e → ((e.outcome == i) ≡ true) ⊎ ((e.outcome == i) ≡ false)
          → IsSound May (length g.calls) (put_at i (known outcome) g.held) (put_at n None g.there) e
      by e h (inl at) =
          let is = eqb-true e.outcome i at in
          let now : put_at i (known outcome) g.held e.outcome ≡ known outcome = ap (put_at i (known outcome) g.held) is ∙ put-here i (known outcome) g.held in
          let may : May e.key outcome = from (g.there n) e.key refl (h.waits n (ap g.held is ∙ d.2)) in
          record {
            taken = h.taken;
            gives = λ o is. subst (λ (x : Performed). May e.key x) (same-known outcome o (sym now ∙ is)) may;
            waits = λ m is. absurd (known-parked outcome m (sym now ∙ is));
          }
      by e h (inr other) = sound-changed (length g.calls) i n (known outcome) g.held g.there (λ j less is. st.apart j i n less d.1 is d.2) e (apart-is e.outcome i other) h

  answered-unkept : (g : Ledger) (a : Asking) (outcome : Performed) (written : List ℕ) → Stands g → IsDeed s g (AnsweredUnkept a outcome written) → Stands (after_deed s g (AnsweredUnkept a outcome written))
  answered-unkept g a outcome written st d =
      let now = d.2 in
      let call = a.request.call in
      let held = put_at (length g.calls) (known outcome) g.held in
      let Q = IsSound May (length g.calls) g.held g.there in
      let P = IsSound May (length (g.calls ++ call ∷ [])) held g.there in
      let R : KeptOutcome ℕ → Type 0 = λ e. not (e.outcome == length g.calls) ≡ true → P e in
      let piece = piece-taken s grow R g a (st.waits a d.0) st.taken
      (all-map Q R (table s grow g.past).entries (λ e h is. sound-old g.calls call (known outcome) g.held g.there g.there (λ i m less is. refl) e h) st.entries) now
      (λ key expiration is own. absurd (let e = eq-eqb (length g.calls) (length g.calls) refl in let bad : not true ≡ true = ap not (sym e) ∙ own in cc)) in
      record {
        taken = now;
        entries = all-map (λ e. (not (e.outcome == length g.calls) ≡ true) × R e) P (table s grow (Withdrew (length g.calls) ∷ piece_of a ∷ g.past)).entries (λ e x. x.1 x.0)
            (all-filter R (λ e. not (e.outcome == length g.calls)) (table s grow (piece_of a ∷ g.past)).entries piece);
        apart = apart-more g.calls call (known outcome) g.held st.apart (λ i m less is at. known-parked outcome m at);
        waits = λ b is. no-waits _ b is;
      }

  settled-unkept : (g : Ledger) (i n : ℕ) (outcome : Performed) (told : List Told) → Stands g → IsDeed s g (SettledUnkept i n outcome told) → Stands (after_deed s g (SettledUnkept i n outcome told))
  settled-unkept g i n outcome told st d =
      let now = d.5 in
      let held = put_at i (known outcome) g.held in
      let there = put_at n None g.there in
      let Q = IsSound May (length g.calls) g.held g.there in
      let P = IsSound May (length g.calls) held there in
      let less = all-filter Q (λ e. not (e.outcome == i)) (table s grow g.past).entries st.entries in
      record {
        taken = now;
        entries = subst (λ (t : Table (List Call) ℕ). AllByRecursion P t.entries) (sym (told-table s grow n (without_call i g) told))
            (all-map (λ e. (not (e.outcome == i) ≡ true) × Q e) P (table s grow (Withdrew i ∷ g.past)).entries
            (λ e x. sound-changed (length g.calls) i n (known outcome) g.held g.there (λ j less is. st.apart j i n less d.1 is d.2) e (else e x.0) x.1) less);
        apart = apart-changed (length g.calls) i outcome g.held st.apart;
        waits = λ b is. no-waits _ b is;
      }
    where
      else : (e : KeptOutcome ℕ) → not (e.outcome == i) ≡ true → e.outcome ≡ i → ⊥
      else e is at = let t = eq-eqb e.outcome i at in let bad : not true ≡ true = ap not (sym t) ∙ is in cc

  stands-after_deed : (g : Ledger) (d : Deed) → Stands g → IsRuled g d → IsDeed s g d → Stands (after_deed s g d)
  stands-after_deed g (Happened e written note) st rule d = happened g e written note st d
  stands-after_deed g (Stopped p written w q) st rule d = stopped g p written w q st d
  stands-after_deed g (Joined p written n ws) st rule d = joined g p written n ws st d
  stands-after_deed g (Answered a outcome written note) st rule d = answered g a outcome written note st rule d
  stands-after_deed g (Parked a own) st rule d = did-park g a own st d
  stands-after_deed g (GivenUp a handled) st rule d = given-up g a handled st d
  stands-after_deed g (Settled i n outcome told) st rule d = settled g i n outcome told st rule d
  stands-after_deed g (AnsweredUnkept a outcome written) st rule d = answered-unkept g a outcome written st d
  stands-after_deed g (SettledUnkept i n outcome told) st rule d = settled-unkept g i n outcome told st d

  pub stands-after : (g : Ledger) (ds : List Deed) → Stands g → AreRuled g ds → Runs s g ds → Stands (after_deeds s g ds)
  stands-after g [] st rules runs = st
  stands-after g (d ∷ ds) st rules runs = stands-after (after_deed s g d) ds (stands-after_deed g d st rules.0 runs.0) rules.1 runs.1
