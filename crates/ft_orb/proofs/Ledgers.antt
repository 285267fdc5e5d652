-- Runs of deeds: what is known grows, and each who waits is told once.
use Rattle.std.proofs.Common.{◌≡◌, ◌==◌, ℕ, ◌+◌, ◌<◌, Bool, true, false, cond, ◌&&◌, inl, inr, List, [], ◌∷◌, ◌++◌, length, flat_map, if◌then◌else◌, refl, sym, ap, subst, ◌∙◌, arith, append_assoc, length-append}
use Rattle.std.specs.List.{AllByRecursion, list_any}
use Rattle.std.proofs.lemmas.Bool.{eq-eqb, eqb-false, eqb-true, or_parts}
use Rattle.std.proofs.lemmas.List.{append-nil}
use Rattle.giop_frames.specs.declared.limits.Limits.{Limits}
use Rattle.giop_link.specs.Hearing.{Question, meaning_in}
use Rattle.giop_link.specs.Laws.{EndingsStay}
use Rattle.ft_log.specs.Holding.{Holding, known, parked}
use Rattle.ft_log.specs.Performed.{Performed}
use Rattle.ft_orb.specs.declared.events.Note.{Note}
use Rattle.ft_orb.specs.declared.events.Note.TheVariants.{Done, Memory, Refused}
use Rattle.ft_orb.specs.declared.parked.Waiter.{Waiter}
use Rattle.ft_orb.specs.Deeds.{Answered, AnsweredAreKnown, AnsweredUnkept, AreApart, AreTaken, AreTold, CallsAreTaken, CallsGrow, SettledUnkeptAreKnown, Deed, DeedsAreRuns, GivenUp, Happened, IsDeed, IsLeftOf, IsUnawaited, Joined, JoinedAreNoCalls, KnownGrows, Ledger, Missed, Parked, Reached, AnsweredUnkeptAreKnown, Runs, RunsJoin, RunsKeepAll, Settled, SettledAreTheirs, SettledUnkept, Stopped, Told, ToldAreKnown, ToldOnce, UnkeptAreTheirs, WrittenNow, WrittenOnce, after_deed, after_deeds, came_to, is_unkept, part_of, piece_of, reached, rest_of, settles, told_all, told_of, told_one, without_call}
use Rattle.ft_orb.specs.ExactlyOnce.{Arrival}
use Rattle.ft_orb.specs.History as history
use Rattle.ft_orb.specs.History.{Close, Event, Gone, KeepsAll, Line, Lost, Piece, Shut, Up, Withdrew, arrivals_on, does_count, line, Changed, origin}
use Rattle.ft_orb.specs.Outputs.{after, is_going, is_gone}
use Rattle.ft_orb.specs.Parked.{is_wished, on_going}
use Rattle.ft_orb.specs.Parking.{Settings, goes_on, numbering, put_at, waiter_of, own_of}
use Rattle.ft_orb.specs.Requests.{Call, Wanted, Origin}
use Rattle.ft_orb.proofs.Books.{book_by, kept-folded}
use Rattle.ft_orb.proofs.Headline.{writes_agree_by}
use Rattle.ft_orb.proofs.Said.{writes_now_by}
use Rattle.ft_orb.proofs.GoesOn.{counts-after, counts-later, on-going-twice, was-counted, went-after, went-on}
use Rattle.ft_orb.proofs.Late.{put-else, put-here}

-- A list without some of it.

module _ (goes : ℕ → Bool) where
  left-self : (ws : List Waiter) → IsLeftOf goes ws ws
  left-self [] = refl
  left-self (w ∷ ws) = inr (ws, refl, left-self ws)

  left-trans : (xs ys zs : List Waiter) → IsLeftOf goes xs ys → IsLeftOf goes ys zs → IsLeftOf goes xs zs
  left-trans [] ys zs a b = subst (λ (l : List Waiter). IsLeftOf goes l zs) a b
  left-trans (x ∷ xs) ys zs a b = elim a as (λ h. IsLeftOf goes (x ∷ xs) zs) [
    | inl h ↦ inl (h.0, left-trans xs ys zs h.1 b)
    | inr h ↦
        let c : IsLeftOf goes (x ∷ h.0) zs = subst (λ (l : List Waiter). IsLeftOf goes l zs) h.1 b in
        (elim c as (λ k. IsLeftOf goes (x ∷ xs) zs) [
          | inl k ↦ inl (k.0, left-trans xs h.0 zs h.2 k.1)
          | inr k ↦ inr (k.0, k.1, left-trans xs h.0 k.0 h.2 k.2)
        ])
  ]

  left-append : (xs ys us vs : List Waiter) → IsLeftOf goes xs ys → IsLeftOf goes us vs → IsLeftOf goes (xs ++ us) (ys ++ vs)
  left-append [] ys us vs a b = subst (λ (l : List Waiter). IsLeftOf goes us (l ++ vs)) (sym a) b
  left-append (x ∷ xs) ys us vs a b = elim a as (λ h. IsLeftOf goes (x ∷ xs ++ us) (ys ++ vs)) [
    | inl h ↦ inl (h.0, left-append xs ys us vs h.1 b)
    | inr h ↦ inr (h.0 ++ vs, ap (λ (l : List Waiter). l ++ vs) h.1, left-append xs h.0 us vs h.2 b)
  ]

  left-going : (now : ℕ → Bool) (ws : List Waiter) → AllByRecursion (λ w. now w.connection ≡ false → goes w.connection ≡ false) ws → IsLeftOf goes ws (on_going now ws)
  left-going now [] h = refl
  left-going now (w ∷ ws) h = by (now w.connection) refl (left-going now ws h.1)
    where
      by : (b : Bool) → now w.connection ≡ b → IsLeftOf goes ws (on_going now ws) → IsLeftOf goes (w ∷ ws) (cond b (w ∷ on_going now ws) (on_going now ws))
      by true is more = inr (on_going now ws, refl, more)
      by false is more = inl (h.0 is, more)

pub twice : (goes : ℕ → Bool) (ws : List Waiter) → on_going goes (on_going goes ws) ≡ on_going goes ws
twice goes ws = on-going-twice goes goes ws (each ws)
  where
    each : (ws : List Waiter) → AllByRecursion (λ (w : Waiter). goes w.connection ≡ true → goes w.connection ≡ true) ws
    each [] = tt
    each (w ∷ ws) = (λ g. g, each ws)

-- Which connections go on later.

-- their numbers were opened
abbrev Opens : List Event → List Waiter → Type 0
Opens past ws = AllByRecursion (λ w. does_count past w.connection ≡ false) ws

abbrev Opened : Ledger → Type 0
Opened g = (n : ℕ) → Opens g.past (g.waiting n)

opens-append : (past : List Event) (xs ys : List Waiter) → Opens past xs → Opens past ys → Opens past (xs ++ ys)
opens-append past [] ys a b = b
opens-append past (x ∷ xs) ys a b = (a.0, opens-append past xs ys a.1 b)

opens-rest : (past : List Event) (ws : List Waiter) → Opens past ws → Opens past (rest_of ws)
opens-rest past [] h = tt
opens-rest past (w ∷ ws) h = h.1

false-by : (a b : Bool) → (b ≡ true → a ≡ true) → a ≡ false → b ≡ false
false-by a true h is = absurd (let t : a ≡ true = h refl in cc)
false-by a false h is = refl

module _ (limits : Limits) where
  going-there : (l : Line) → is_going limits l ≡ true → is_gone l ≡ false
  going-there Gone h = absurd cc
  going-there Shut h = refl
  going-there (Up s) h = refl

  -- what goes on was opened
  opens-going : (past : List Event) (ws : List Waiter) → Opens past (on_going (goes_on limits past) ws)
  opens-going past [] = tt
  opens-going past (w ∷ ws) = by (goes_on limits past w.connection) refl (opens-going past ws)
    where
      by : (b : Bool) → goes_on limits past w.connection ≡ b → Opens past (on_going (goes_on limits past) ws) → Opens past (cond b (w ∷ on_going (goes_on limits past) ws) (on_going (goes_on limits past) ws))
      by true is more = (was-counted past w.connection (going-there (line past w.connection) is), more)
      by false is more = more

  -- a past that comes later: what was opened stays so, and of that what goes on went on before
  record Later (past later : List Event) : Type 0 where
    counted : (c : ℕ) → does_count past c ≡ false → does_count later c ≡ false
    went : (c : ℕ) → does_count past c ≡ false → goes_on limits later c ≡ true → goes_on limits past c ≡ true

  later-self : (past : List Event) → Later past past
  later-self past = record { counted = λ c h. h; went = λ c h g. g }

  later-trans : (a b c : List Event) → Later a b → Later b c → Later a c
  later-trans a b c x y = record { counted = λ n h. y.counted n (x.counted n h); went = λ n h g. x.went n h (y.went n (x.counted n h) g) }

  opens-later : (past later : List Event) → Later past later → (ws : List Waiter) → Opens past ws → Opens later ws
  opens-later past later x [] h = tt
  opens-later past later x (w ∷ ws) h = (x.counted w.connection h.0, opens-later past later x ws h.1)

  -- those who go on then, of those who wait
  going-later : (now later : List Event) → Later now later → (ws : List Waiter) → Opens now ws → IsLeftOf (goes_on limits later) ws (on_going (goes_on limits now) ws)
  going-later now later x ws h = left-going (goes_on limits later) (goes_on limits now) ws (each ws h)
    where
      each : (ws : List Waiter) → Opens now ws → AllByRecursion (λ w. goes_on limits now w.connection ≡ false → goes_on limits later w.connection ≡ false) ws
      each [] h = tt
      each (w ∷ ws) h = (λ is. false-by (goes_on limits now w.connection) (goes_on limits later w.connection) (x.went w.connection h.0) is, each ws h.1)

module _ (s : Settings) (stay : EndingsStay meaning_in) where
  abbrev After : List Event → List Event → Type 0
  After past later = Later s.limits past later

  later-event : (past : List Event) (e : Event) → After past (e ∷ past)
  later-event past e = record { counted = λ c h. counts-later past e c h; went = λ c h g. went-on s.limits stay past e c h g }

  later-after : (past : List Event) (e : Event) (note : Note) → After past (after s.limits past e note)
  later-after past e note = record { counted = λ c h. counts-after s.limits past e note c h; went = λ c h g. went-after s.limits stay past e note c h g }

  -- Those who were told.

  later-told : (n : ℕ) (g : Ledger) (told : List Told) → After g.past (told_all s n g told).past
  later-told n g [] = later-self s.limits g.past
  later-told n g (Reached w ∷ told) = later-told n (told_one s n g (Reached w)) told
  later-told n g (Missed w ∷ told) =
      later-trans s.limits g.past (Lost w.connection ∷ g.past) (told_all s n g (Missed w ∷ told)).past (later-event g.past (Lost w.connection)) (later-told n (told_one s n g (Missed w)) told)

  one-opened : (n : ℕ) (g : Ledger) (t : Told) → Opened g → Opened (told_one s n g t)
  one-opened n g (Reached w) h m = by (m == n)
    where
      by : (b : Bool) → Opens g.past (cond b (rest_of (g.waiting n)) (g.waiting m))
      by true = opens-rest g.past (g.waiting n) (h n)
      by false = h m
  one-opened n g (Missed w) h m = opens-going s.limits (Lost w.connection ∷ g.past) (put_at n (rest_of (g.waiting n)) g.waiting m)

  told-opened : (n : ℕ) (g : Ledger) (told : List Told) → Opened g → Opened (told_all s n g told)
  told-opened n g [] h = h
  told-opened n g (Reached w ∷ told) h = told-opened n (told_one s n g (Reached w)) told (one-opened n g (Reached w) h)
  told-opened n g (Missed w ∷ told) h = told-opened n (told_one s n g (Missed w)) told (one-opened n g (Missed w) h)

  lost-gone : (past : List Event) (c : ℕ) → goes_on s.limits (Lost c ∷ past) c ≡ false
  lost-gone past c = ap (λ (b : Bool). is_going s.limits (cond b Gone (line past c))) (eq-eqb c c refl)

  rest-is : (g : Ledger) (n : ℕ) (w : Waiter) (rest : List Waiter) → g.waiting n ≡ w ∷ rest → put_at n (rest_of (g.waiting n)) g.waiting n ≡ rest
  rest-is g n w rest is = put-here n (rest_of (g.waiting n)) g.waiting ∙ ap rest_of is

  module _ (n : ℕ) (outcome : Performed) (end : List Event) where
    abbrev Ends : ℕ → Bool
    Ends = goes_on s.limits end

    -- under the number ..
    told-here : (g : Ledger) (told : List Told) → Opened g → AreTold s n outcome g told → After (told_all s n g told).past end → IsLeftOf Ends (g.waiting n) (reached told ++ (told_all s n g told).waiting n)
    told-here g [] o h x = left-self Ends (g.waiting n)
    told-here g (Reached w ∷ told) o h x =
        let g1 = told_one s n g (Reached w) in
        let X = reached told ++ (told_all s n g1 told).waiting n in
        let more : IsLeftOf Ends (g1.waiting n) X = told-here g1 told (one-opened n g (Reached w) o) h.1 x in
        let here : IsLeftOf Ends h.0.0 X = subst (λ (l : List Waiter). IsLeftOf Ends l X) (rest-is g n w h.0.0 h.0.1) more in
        subst (λ (l : List Waiter). IsLeftOf Ends l (w ∷ X)) (sym h.0.1) (inr (X, refl, here))
    told-here g (Missed w ∷ told) o h x =
        let g1 = told_one s n g (Missed w) in
        let X = reached told ++ (told_all s n g1 told).waiting n in
        let more : IsLeftOf Ends (g1.waiting n) X = told-here g1 told (one-opened n g (Missed w) o) h.2 x in
        let same : g1.waiting n ≡ on_going (goes_on s.limits g1.past) h.0.0 = ap (on_going (goes_on s.limits g1.past)) (rest-is g n w h.0.0 h.0.1) in
        let opens : Opens g.past (w ∷ h.0.0) = subst (λ (l : List Waiter). Opens g.past l) h.0.1 (o n) in
        let next = later-event g.past (Lost w.connection) in
        let on = later-trans s.limits g1.past (told_all s n g1 told).past end (later-told n g1 told) x in
        let fewer = going-later s.limits g1.past end on h.0.0 (opens-later s.limits g.past g1.past next h.0.0 opens.1) in
        let here = left-trans Ends h.0.0 (on_going (goes_on s.limits g1.past) h.0.0) X fewer (subst (λ (l : List Waiter). IsLeftOf Ends l X) same more) in
        let gone : Ends w.connection ≡ false = false-by (goes_on s.limits g1.past w.connection) (Ends w.connection) (on.went w.connection (next.counted w.connection opens.0)) (lost-gone g.past w.connection) in
        subst (λ (l : List Waiter). IsLeftOf Ends l X) (sym h.0.1) (inl (gone, here))

    -- .. and under another
    told-else : (m : ℕ) → (m == n) ≡ false → (g : Ledger) (told : List Told) → Opened g → After (told_all s n g told).past end → IsLeftOf Ends (g.waiting m) ((told_all s n g told).waiting m)
    told-else m apart g [] o x = left-self Ends (g.waiting m)
    told-else m apart g (Reached w ∷ told) o x =
        let g1 = told_one s n g (Reached w) in
        let same : g1.waiting m ≡ g.waiting m = ap (λ (b : Bool). cond b (rest_of (g.waiting n)) (g.waiting m)) apart in
        subst (λ (l : List Waiter). IsLeftOf Ends l ((told_all s n g1 told).waiting m)) same (told-else m apart g1 told (one-opened n g (Reached w) o) x)
    told-else m apart g (Missed w ∷ told) o x =
        let g1 = told_one s n g (Missed w) in
        let same : g1.waiting m ≡ on_going (goes_on s.limits g1.past) (g.waiting m) = ap (λ (b : Bool). on_going (goes_on s.limits g1.past) (cond b (rest_of (g.waiting n)) (g.waiting m))) apart in
        let on = later-trans s.limits g1.past (told_all s n g1 told).past end (later-told n g1 told) x in
        let fewer = going-later s.limits g1.past end on (g.waiting m) (opens-later s.limits g.past g1.past (later-event g.past (Lost w.connection)) (g.waiting m) (o m)) in
        left-trans Ends (g.waiting m) (on_going (goes_on s.limits g1.past) (g.waiting m)) ((told_all s n g1 told).waiting m) fewer
        (subst (λ (l : List Waiter). IsLeftOf Ends l ((told_all s n g1 told).waiting m)) same (told-else m apart g1 told (one-opened n g (Missed w) o) x))

  -- One deed.

  later-deed : (g : Ledger) (d : Deed) → After g.past (after_deed s g d).past
  later-deed g (Happened e written note) = later-after g.past e note
  later-deed g (Stopped p written w q) = later-self s.limits g.past
  later-deed g (Joined p written n joined) = later-event g.past (part_of p)
  later-deed g (Answered a outcome written note) = later-after g.past (piece_of a) note
  later-deed g (Parked a own) = later-event g.past (piece_of a)
  later-deed g (GivenUp a handled) = later-after g.past (piece_of a) (Memory handled handled)
  later-deed g (Settled i n outcome told) = later-told n g told
  later-deed g (AnsweredUnkept a outcome written) = later-trans s.limits g.past (piece_of a ∷ g.past) (Withdrew (length g.calls) ∷ piece_of a ∷ g.past) (later-event g.past (piece_of a)) (later-event (piece_of a ∷ g.past) (Withdrew (length g.calls)))
  later-deed g (SettledUnkept i n outcome told) = later-trans s.limits g.past (Withdrew i ∷ g.past) (told_all s n (without_call i g) told).past (later-event g.past (Withdrew i)) (later-told n (without_call i g) told)

  opened-deed : (g : Ledger) (d : Deed) → Opened g → Opened (after_deed s g d)
  opened-deed g (Happened e written note) h n = opens-going s.limits (after s.limits g.past e note) (g.waiting n)
  opened-deed g (Stopped p written w q) h n = h n
  opened-deed g (Joined p written m joined) h n = opens-going s.limits (part_of p ∷ g.past) (put_at m (g.waiting m ++ joined) g.waiting n)
  opened-deed g (Answered a outcome written note) h n = opens-going s.limits (after s.limits g.past (piece_of a) note) (g.waiting n)
  opened-deed g (Parked a own) h n = opens-going s.limits (piece_of a ∷ g.past) (put_at a.request.number own g.waiting n)
  opened-deed g (GivenUp a handled) h n = opens-going s.limits (after s.limits g.past (piece_of a) (Memory handled handled)) (g.waiting n)
  opened-deed g (Settled i m outcome told) h n = told-opened m g told h n
  opened-deed g (AnsweredUnkept a outcome written) h n = opens-going s.limits (Withdrew (length g.calls) ∷ piece_of a ∷ g.past) (g.waiting n)
  opened-deed g (SettledUnkept i m outcome told) h n = told-opened m (without_call i g) told h n

  -- a connection on which something arrived is there
  arrived-there : (c : Origin) (now : ℕ) (octets : List ℕ) (front : List (Arrival Wanted)) (last : Arrival Wanted) (l : Line) → arrivals_on s.limits c now l octets ≡ front ++ last ∷ [] → is_gone l ≡ false
  arrived-there c now octets front last Gone h = absurd (let size = length-append front (last ∷ []) in let none = ap (λ (xs : List (Arrival Wanted)). length xs) h in omega (arith, size, none))
  arrived-there c now octets front last Shut h = refl
  arrived-there c now octets front last (Up x) h = refl

  joined-opens : (past : List Event) (c : ℕ) (q : Question) (wished placed : Bool) → does_count past c ≡ false → Opens past (if wished && placed then waiter_of c q ∷ [] else [])
  joined-opens past c q true true h = (h, tt)
  joined-opens past c q true false h = tt
  joined-opens past c q false placed h = tt

  rested-left : (g : Ledger) (past end : List Event) (n : ℕ) → Opened g → After g.past past → After past end → IsLeftOf (goes_on s.limits end) (g.waiting n ++ []) (on_going (goes_on s.limits past) (g.waiting n))
  rested-left g past end n o x y =
      subst (λ (l : List Waiter). IsLeftOf (goes_on s.limits end) l (on_going (goes_on s.limits past) (g.waiting n))) (sym (append-nil (g.waiting n)))
      (going-later s.limits past end y (g.waiting n) (opens-later s.limits g.past past x (g.waiting n) (o n)))

  deed-left : (g : Ledger) (d : Deed) (n : ℕ) (end : List Event) → IsDeed s g d → Opened g → After (after_deed s g d).past end → IsLeftOf (goes_on s.limits end) (g.waiting n ++ came_to n d) (told_of n d ++ (after_deed s g d).waiting n)
  deed-left g (Happened e written note) n end h o x = rested-left g (after s.limits g.past e note) end n o (later-after g.past e note) x
  deed-left g (Stopped p written w q) n end h o x = subst (λ (l : List Waiter). IsLeftOf (goes_on s.limits end) l (g.waiting n)) (sym (append-nil (g.waiting n))) (left-self (goes_on s.limits end) (g.waiting n))
  deed-left g (Joined p written m joined) n end h o x = by (n == m) refl
    where
      by : (b : Bool) → (n == m) ≡ b → IsLeftOf (goes_on s.limits end) (g.waiting n ++ cond b joined []) (on_going (goes_on s.limits (part_of p ∷ g.past)) (cond b (g.waiting m ++ joined) (g.waiting n)))
      by true is =
          let there = arrived-there (origin g.past p.connection) _ _ h.1.front h.1.last (line g.past p.connection) h.1.completes in
          let opened = was-counted g.past p.connection there in
          let own : Opens g.past joined = subst (λ (l : List Waiter). Opens g.past l) (sym h.1.joined_are) (joined-opens g.past p.connection h.1.question (is_wished h.1.question.wish) h.1.placed opened) in
          let next = later-event g.past (part_of p) in
          let all = opens-later s.limits g.past (part_of p ∷ g.past) next (g.waiting m ++ joined) (opens-append g.past (g.waiting m) joined (o m) own) in
          subst (λ (k : ℕ). IsLeftOf (goes_on s.limits end) (g.waiting k ++ joined) (on_going (goes_on s.limits (part_of p ∷ g.past)) (g.waiting m ++ joined))) (sym (eqb-true n m is))
          (going-later s.limits (part_of p ∷ g.past) end x (g.waiting m ++ joined) all)
      by false is = rested-left g (part_of p ∷ g.past) end n o (later-event g.past (part_of p)) x
  deed-left g (Answered a outcome written note) n end h o x = rested-left g (after s.limits g.past (piece_of a) note) end n o (later-after g.past (piece_of a) note) x
  deed-left g (Parked a own) n end h o x = by (n == a.request.number) refl
    where
      by : (b : Bool) → (n == a.request.number) ≡ b → IsLeftOf (goes_on s.limits end) (g.waiting n ++ cond b own []) (on_going (goes_on s.limits (piece_of a ∷ g.past)) (cond b own (g.waiting n)))
      by true is =
          let none : g.waiting n ≡ [] = ap g.waiting (eqb-true n a.request.number is) ∙ h.1.nobody in
          let now = goes_on s.limits (piece_of a ∷ g.past) in
          subst (λ (l : List Waiter). IsLeftOf (goes_on s.limits end) (l ++ own) (on_going (goes_on s.limits (piece_of a ∷ g.past)) own)) (sym none)
          (subst (λ (l : List Waiter). IsLeftOf (goes_on s.limits end) own l) (sym (ap (on_going now) h.2 ∙ twice now (own_of a.request.connection a.question) ∙ sym h.2)) (left-self (goes_on s.limits end) own))
      by false is = rested-left g (piece_of a ∷ g.past) end n o (later-event g.past (piece_of a)) x
  deed-left g (GivenUp a handled) n end h o x = rested-left g (after s.limits g.past (piece_of a) (Memory handled handled)) end n o (later-after g.past (piece_of a) (Memory handled handled)) x
  deed-left g (Settled i m outcome told) n end h o x =
      subst (λ (l : List Waiter). IsLeftOf (goes_on s.limits end) l (told_of n (Settled i m outcome told) ++ (told_all s m g told).waiting n)) (sym (append-nil (g.waiting n))) (by (n == m) refl)
    where
      by : (b : Bool) → (n == m) ≡ b → IsLeftOf (goes_on s.limits end) (g.waiting n) (cond b (reached told) [] ++ (told_all s m g told).waiting n)
      by true is = subst (λ (k : ℕ). IsLeftOf (goes_on s.limits end) (g.waiting k) (reached told ++ (told_all s m g told).waiting k)) (sym (eqb-true n m is)) (told-here m outcome end g told o h.3 x)
      by false is = told-else m outcome end n is g told o x
  deed-left g (AnsweredUnkept a outcome written) n end h o x =
      rested-left g (Withdrew (length g.calls) ∷ piece_of a ∷ g.past) end n o (later-deed g (AnsweredUnkept a outcome written)) x
  deed-left g (SettledUnkept i m outcome told) n end h o x =
      subst (λ (l : List Waiter). IsLeftOf (goes_on s.limits end) l (told_of n (SettledUnkept i m outcome told) ++ (told_all s m (without_call i g) told).waiting n)) (sym (append-nil (g.waiting n))) (by (n == m) refl)
    where
      by : (b : Bool) → (n == m) ≡ b → IsLeftOf (goes_on s.limits end) (g.waiting n) (cond b (reached told) [] ++ (told_all s m (without_call i g) told).waiting n)
      by true is =
          subst (λ (k : ℕ). IsLeftOf (goes_on s.limits end) (g.waiting k) (reached told ++ (told_all s m (without_call i g) told).waiting k)) (sym (eqb-true n m is))
          (told-here m outcome end (without_call i g) told o h.3 x)
      by false is = told-else m outcome end n is (without_call i g) told o x

  -- Runs.

  later-deeds : (g : Ledger) (ds : List Deed) → After g.past (after_deeds s g ds).past
  later-deeds g [] = later-self s.limits g.past
  later-deeds g (d ∷ ds) = later-trans s.limits g.past (after_deed s g d).past (after_deeds s g (d ∷ ds)).past (later-deed g d) (later-deeds (after_deed s g d) ds)

  run-left : (g : Ledger) (ds : List Deed) (n : ℕ) → Runs s g ds → Opened g
      → IsLeftOf (goes_on s.limits (after_deeds s g ds).past) (g.waiting n ++ flat_map (came_to n) ds) (flat_map (told_of n) ds ++ (after_deeds s g ds).waiting n)
  run-left g [] n h o = subst (λ (l : List Waiter). IsLeftOf (goes_on s.limits g.past) l (g.waiting n)) (sym (append-nil (g.waiting n))) (left-self (goes_on s.limits g.past) (g.waiting n))
  run-left g (d ∷ ds) n h o =
      let g1 = after_deed s g d in
      let end = (after_deeds s g1 ds).past in
      let goes = goes_on s.limits end in
      let came = flat_map (came_to n) ds in
      let told = flat_map (told_of n) ds in
      let last = (after_deeds s g1 ds).waiting n in
      let one = deed-left g d n end h.0 o (later-deeds g1 ds) in
      let more = run-left g1 ds n h.1 (opened-deed g d o) in
      let a : IsLeftOf goes ((g.waiting n ++ came_to n d) ++ came) ((told_of n d ++ g1.waiting n) ++ came) = left-append goes (g.waiting n ++ came_to n d) (told_of n d ++ g1.waiting n) came came one (left-self goes came) in
      let b : IsLeftOf goes (told_of n d ++ (g1.waiting n ++ came)) (told_of n d ++ (told ++ last)) = left-append goes (told_of n d) (told_of n d) (g1.waiting n ++ came) (told ++ last) (left-self goes (told_of n d)) more in
      let c : IsLeftOf goes (g.waiting n ++ (came_to n d ++ came)) (told_of n d ++ (g1.waiting n ++ came)) = rw (sym (append_assoc (g.waiting n) (came_to n d) came), sym (append_assoc (told_of n d) (g1.waiting n) came)) a in
      subst (λ (l : List Waiter). IsLeftOf goes (g.waiting n ++ (came_to n d ++ came)) l) (sym (append_assoc (told_of n d) told last))
      (left-trans goes (g.waiting n ++ (came_to n d ++ came)) (told_of n d ++ (g1.waiting n ++ came)) (told_of n d ++ (told ++ last)) c b)

  pub told-once : ToldOnce s
  told-once g ds n h going = run-left g ds n h (λ m. subst (λ (l : List Waiter). Opens g.past l) (going m) (opens-going s.limits g.past (g.waiting m)))

-- What is known.

module _ (s : Settings) where
  pub deeds-are-runs : DeedsAreRuns s
  deeds-are-runs g d h = (h, tt)

  pub runs-join : RunsJoin s
  runs-join g [] ys a b = (b, refl)
  runs-join g (d ∷ xs) ys a b = let r = runs-join (after_deed s g d) xs ys a.1 b in ((a.0, r.0), r.1)

  calls-deed : (g : Ledger) (d : Deed) → (more : List Call) × ((after_deed s g d).calls ≡ g.calls ++ more)
  calls-deed g (Happened e written note) = ([], sym (append-nil g.calls))
  calls-deed g (Stopped p written w q) = ([], sym (append-nil g.calls))
  calls-deed g (Joined p written n joined) = ([], sym (append-nil g.calls))
  calls-deed g (Answered a outcome written note) = (a.request.call ∷ [], refl)
  calls-deed g (Parked a own) = (a.request.call ∷ [], refl)
  calls-deed g (GivenUp a handled) = ([], sym (append-nil g.calls))
  calls-deed g (Settled i n outcome told) = ([], sym (append-nil g.calls))
  calls-deed g (AnsweredUnkept a outcome written) = (a.request.call ∷ [], refl)
  calls-deed g (SettledUnkept i n outcome told) = ([], sym (append-nil g.calls))

  pub calls-grow : CallsGrow s
  calls-grow g [] h = ([], sym (append-nil g.calls))
  calls-grow g (d ∷ ds) h =
      let one = calls-deed g d in
      let more = calls-grow (after_deed s g d) ds h.1 in
      (one.0 ++ more.0, more.1 ∙ ap (λ (l : List Call). l ++ more.0) one.1 ∙ append_assoc g.calls one.0 more.0)

  taken-deed : (g : Ledger) (d : Deed) → IsDeed s g d → AreTaken s g → AreTaken s (after_deed s g d)
  taken-deed g (Happened e written note) h was = h.2
  taken-deed g (Stopped p written w q) h was = was
  taken-deed g (Joined p written n joined) h was = h.2
  taken-deed g (Answered a outcome written note) h was = h.2
  taken-deed g (Parked a own) h was = h.4
  taken-deed g (GivenUp a handled) h was = h.2
  taken-deed g (Settled i n outcome told) h was = h.5
  taken-deed g (AnsweredUnkept a outcome written) h was = h.2
  taken-deed g (SettledUnkept i n outcome told) h was = h.5

  pub calls-are-taken : CallsAreTaken s
  calls-are-taken g [] h was = was
  calls-are-taken g (d ∷ ds) h was = calls-are-taken (after_deed s g d) ds h.1 (taken-deed g d h.0 was)

  known-deed : (g : Ledger) (d : Deed) (i : ℕ) (outcome : Performed) → IsDeed s g d → i < length g.calls → g.held i ≡ known outcome → (after_deed s g d).held i ≡ known outcome
  known-deed g (Happened e written note) i o h less is = is
  known-deed g (Stopped p written w q) i o h less is = is
  known-deed g (Joined p written n joined) i o h less is = is
  known-deed g (Answered a outcome written note) i o h less is = put-else (length g.calls) (known outcome) g.held i (λ same. absurd (omega (arith, same, less))) ∙ is
  known-deed g (Parked a own) i o h less is = put-else (length g.calls) (parked a.request.number) g.held i (λ same. absurd (omega (arith, same, less))) ∙ is
  known-deed g (GivenUp a handled) i o h less is = is
  known-deed g (Settled j n outcome told) i o h less is =
      put-else j (known outcome) g.held i (λ same. let both : parked n ≡ known o = sym h.2 ∙ ap g.held (sym same) ∙ is in absurd cc) ∙ is
  known-deed g (AnsweredUnkept a outcome written) i o h less is = put-else (length g.calls) (known outcome) g.held i (λ same. absurd (omega (arith, same, less))) ∙ is
  known-deed g (SettledUnkept j n outcome told) i o h less is =
      put-else j (known outcome) g.held i (λ same. let both : parked n ≡ known o = sym h.2 ∙ ap g.held (sym same) ∙ is in absurd cc) ∙ is

  less-deed : (g : Ledger) (d : Deed) (i : ℕ) → i < length g.calls → i < length (after_deed s g d).calls
  less-deed g d i less =
      let one = calls-deed g d in
      let size = ap (λ (l : List Call). length l) one.1 in
      let sum = length-append g.calls one.0 in
      omega (arith, less, size, sum)

  pub known-grows : KnownGrows s
  known-grows g [] i o h less is = is
  known-grows g (d ∷ ds) i o h less is = known-grows (after_deed s g d) ds i o h.1 (less-deed g d i less) (known-deed g d i o h.0 less is)

  pub told-are-known : ToldAreKnown s
  told-are-known g [] ys i n o told h = known-grows (after_deed s g (Settled i n o told)) ys i o h.1 h.0.1 (put-here i (known o) g.held)
  told-are-known g (x ∷ xs) ys i n o told h = told-are-known (after_deed s g x) xs ys i n o told h.1

  pub settled-unkept-are-known : SettledUnkeptAreKnown s
  settled-unkept-are-known g [] ys i n outcome told h = known-grows (after_deed s g (SettledUnkept i n outcome told)) ys i outcome h.1 h.0.1 (put-here i (known outcome) g.held)
  settled-unkept-are-known g (x ∷ xs) ys i n outcome told h = settled-unkept-are-known (after_deed s g x) xs ys i n outcome told h.1

  pub answered-are-known : AnsweredAreKnown s
  answered-are-known g [] ys a o written note h =
      let size = length-append g.calls (a.request.call ∷ []) in
      known-grows (after_deed s g (Answered a o written note)) ys (length g.calls) o h.1 (omega (arith, size)) (put-here (length g.calls) (known o) g.held)
  answered-are-known g (x ∷ xs) ys a o written note h = answered-are-known (after_deed s g x) xs ys a o written note h.1

  pub answered-unkept-are-known : AnsweredUnkeptAreKnown s
  answered-unkept-are-known g [] ys a outcome written h =
      let size = length-append g.calls (a.request.call ∷ []) in
      known-grows (after_deed s g (AnsweredUnkept a outcome written)) ys (length g.calls) outcome h.1 (omega (arith, size)) (put-here (length g.calls) (known outcome) g.held)
  answered-unkept-are-known g (x ∷ xs) ys a outcome written h = answered-unkept-are-known (after_deed s g x) xs ys a outcome written h.1

  -- Where something is kept of each, none is withdrawn.

  keeps-event : (past : List Event) (e : Event) (waiting : ℕ → List Waiter) → IsUnawaited e waiting → KeepsAll past → KeepsAll (e ∷ past)
  keeps-event past (history.Opened c) waiting free kept = kept
  keeps-event past (Piece c moment octets) waiting free kept = kept
  keeps-event past (Close c) waiting free kept = kept
  keeps-event past (Lost c) waiting free kept = kept
  keeps-event past (Withdrew i) waiting free kept = absurd free
  keeps-event past Changed waiting free kept = kept

  keeps-after : (past : List Event) (e : Event) (note : Note) (waiting : ℕ → List Waiter) → IsUnawaited e waiting → KeepsAll past → KeepsAll (after s.limits past e note)
  keeps-after past e Done waiting free kept = keeps-event past e waiting free kept
  keeps-after past e Refused waiting free kept = keeps-event past e waiting free kept
  keeps-after past (history.Opened c) (Memory handled answered) waiting free kept = kept
  keeps-after past (Piece c moment octets) (Memory handled answered) waiting free kept = kept
  keeps-after past (Close c) (Memory handled answered) waiting free kept = kept
  keeps-after past (Lost c) (Memory handled answered) waiting free kept = kept
  keeps-after past (Withdrew i) (Memory handled answered) waiting free kept = kept
  keeps-after past Changed (Memory handled answered) waiting free kept = kept

  keeps-told : (n : ℕ) (g : Ledger) (told : List Told) → KeepsAll g.past → KeepsAll (told_all s n g told).past
  keeps-told n g [] kept = kept
  keeps-told n g (Reached w ∷ told) kept = keeps-told n (told_one s n g (Reached w)) told kept
  keeps-told n g (Missed w ∷ told) kept = keeps-told n (told_one s n g (Missed w)) told kept

  keeps-deed : (g : Ledger) (d : Deed) → IsDeed s g d → is_unkept d ≡ false → KeepsAll g.past → KeepsAll (after_deed s g d).past
  keeps-deed g (Happened e written note) h none kept = keeps-after g.past e note g.waiting h.3 kept
  keeps-deed g (Stopped p written w q) h none kept = kept
  keeps-deed g (Joined p written n joined) h none kept = kept
  keeps-deed g (Answered a outcome written note) h none kept = keeps-after g.past (piece_of a) note g.waiting tt kept
  keeps-deed g (Parked a own) h none kept = kept
  keeps-deed g (GivenUp a handled) h none kept = kept
  keeps-deed g (Settled i n outcome told) h none kept = keeps-told n g told kept
  keeps-deed g (AnsweredUnkept a outcome written) h none kept = absurd cc
  keeps-deed g (SettledUnkept i n outcome told) h none kept = absurd cc

  pub runs-keep-all : RunsKeepAll s
  runs-keep-all g [] h kept none = kept
  runs-keep-all g (d ∷ ds) h kept none =
      let parts = or_parts (is_unkept d) (list_any is_unkept ds) none in
      runs-keep-all (after_deed s g d) ds h.1 (keeps-deed g d h.0 parts.0 kept) parts.1

  pub written-now : WrittenNow s
  written-now late held past e written note kept h = let owner = numbering s late held in writes_now_by (book_by owner) past e written note (kept-folded owner past kept) h

  pub written-once : WrittenOnce s
  written-once late held past e written note kept one h = let owner = numbering s late held in writes_agree_by (book_by owner) past e written note (kept-folded owner past kept) one h

  -- No two calls are parked under one number.

  apart-put : (g : Ledger) (call : Call) (x : Holding) → AreApart g → ((n : ℕ) → x ≡ parked n → (i : ℕ) → i < length g.calls → g.held i ≡ parked n → ⊥)
      → (i j n : ℕ) → i < length (g.calls ++ call ∷ []) → j < length (g.calls ++ call ∷ []) → put_at (length g.calls) x g.held i ≡ parked n → put_at (length g.calls) x g.held j ≡ parked n → i ≡ j
  apart-put g call x apart fresh i j n low high one two = by (i == length g.calls) refl (j == length g.calls) refl
    where
      size : length (g.calls ++ call ∷ []) ≡ length g.calls + 1
      size = length-append g.calls (call ∷ [])

      below : (k : ℕ) → k < length (g.calls ++ call ∷ []) → (k == length g.calls) ≡ false → k < length g.calls
      below k less is = let other = eqb-false k (length g.calls) is in omega (arith, less, size, other)

      held-there : (k : ℕ) → (k == length g.calls) ≡ false → put_at (length g.calls) x g.held k ≡ parked n → g.held k ≡ parked n
      held-there k is h = sym (ap (λ (b : Bool). cond b x (g.held k)) is) ∙ h

      held-here : (k : ℕ) → (k == length g.calls) ≡ true → put_at (length g.calls) x g.held k ≡ parked n → x ≡ parked n
      held-here k is h = sym (ap (λ (b : Bool). cond b x (g.held k)) is) ∙ h

      by : (a : Bool) → (i == length g.calls) ≡ a → (b : Bool) → (j == length g.calls) ≡ b → i ≡ j
      by true a true b = eqb-true i (length g.calls) a ∙ sym (eqb-true j (length g.calls) b)
      by true a false b = absurd (fresh n (held-here i a one) j (below j high b) (held-there j b two))
      by false a true b = absurd (fresh n (held-here j b two) i (below i low a) (held-there i a one))
      by false a false b = apart i j n (below i low a) (below j high b) (held-there i a one) (held-there j b two)

  -- what is parked then was so before
  before-known : (g : Ledger) (k : ℕ) (outcome : Performed) (i n : ℕ) → put_at k (known outcome) g.held i ≡ parked n → g.held i ≡ parked n
  before-known g k outcome i n is = by (i == k) refl
    where
      by : (b : Bool) → (i == k) ≡ b → g.held i ≡ parked n
      by true at = absurd (let both : known outcome ≡ parked n = sym (ap (λ (b : Bool). cond b (known outcome) (g.held i)) at) ∙ is in cc)
      by false at = sym (ap (λ (b : Bool). cond b (known outcome) (g.held i)) at) ∙ is

  apart-deed : (g : Ledger) (d : Deed) → IsDeed s g d → AreApart g → AreApart (after_deed s g d)
  apart-deed g (Happened e written note) h apart = apart
  apart-deed g (Stopped p written w q) h apart = apart
  apart-deed g (Joined p written n joined) h apart = apart
  apart-deed g (Answered a outcome written note) h apart = apart-put g a.request.call (known outcome) apart (λ n is. absurd cc)
  apart-deed g (Parked a own) h apart =
      apart-put g a.request.call (parked a.request.number) apart (λ n is i less held. h.1.call i less (held ∙ sym is))
  apart-deed g (GivenUp a handled) h apart = apart
  apart-deed g (Settled k m outcome told) h apart = λ i j n low high one two. apart i j n low high (before-known g k outcome i n one) (before-known g k outcome j n two)
  apart-deed g (AnsweredUnkept a outcome written) h apart = apart-put g a.request.call (known outcome) apart (λ n is. absurd cc)
  apart-deed g (SettledUnkept k m outcome told) h apart = λ i j n low high one two. apart i j n low high (before-known g k outcome i n one) (before-known g k outcome j n two)

  -- a call that is parked under another number is another
  other-number : (g : Ledger) (k m i n : ℕ) → (n == m) ≡ false → g.held i ≡ parked n → g.held k ≡ parked m → i ≡ k → ⊥
  other-number g k m i n other is at same =
      let both : parked n ≡ parked m = sym is ∙ ap g.held same ∙ at in
      let number : n ≡ m = cc in
      let yes = eq-eqb n m number in
      let clash : true ≡ false = sym yes ∙ other in
      cc

  -- one that is parked stays so until it is settled
  parked-deed : (g : Ledger) (d : Deed) (i n : ℕ) → IsDeed s g d → settles n d ≡ false → i < length g.calls → g.held i ≡ parked n → (after_deed s g d).held i ≡ parked n
  parked-deed g (Happened e written note) i n h other less is = is
  parked-deed g (Stopped p written w q) i n h other less is = is
  parked-deed g (Joined p written m joined) i n h other less is = is
  parked-deed g (Answered a outcome written note) i n h other less is = put-else (length g.calls) (known outcome) g.held i (λ same. absurd (omega (arith, same, less))) ∙ is
  parked-deed g (Parked a own) i n h other less is = put-else (length g.calls) (parked a.request.number) g.held i (λ same. absurd (omega (arith, same, less))) ∙ is
  parked-deed g (GivenUp a handled) i n h other less is = is
  parked-deed g (Settled k m outcome told) i n h other less is = put-else k (known outcome) g.held i (λ same. other-number g k m i n other is h.2 same) ∙ is
  parked-deed g (AnsweredUnkept a outcome written) i n h other less is = put-else (length g.calls) (known outcome) g.held i (λ same. absurd (omega (arith, same, less))) ∙ is
  parked-deed g (SettledUnkept k m outcome told) i n h other less is = put-else k (known outcome) g.held i (λ same. other-number g k m i n other is h.2 same) ∙ is

  pub settled-are-theirs : SettledAreTheirs s
  settled-are-theirs g [] ys i j n o told apart h less is none = apart i j n less h.0.1 is h.0.2
  settled-are-theirs g (d ∷ ds) ys i j n o told apart h less is none =
      let parts = or_parts (settles n d) (list_any (settles n) ds) none in
      settled-are-theirs (after_deed s g d) ds ys i j n o told (apart-deed g d h.0 apart) h.1 (less-deed g d i less) (parked-deed g d i n h.0 parts.0 less is) parts.1

  pub unkept-are-theirs : UnkeptAreTheirs s
  unkept-are-theirs g [] ys i j n outcome told apart h less is none = apart i j n less h.0.1 is h.0.2
  unkept-are-theirs g (d ∷ ds) ys i j n outcome told apart h less is none =
      let parts = or_parts (settles n d) (list_any (settles n) ds) none in
      unkept-are-theirs (after_deed s g d) ds ys i j n outcome told (apart-deed g d h.0 apart) h.1 (less-deed g d i less) (parked-deed g d i n h.0 parts.0 less is) parts.1

  -- .. from any deed of a run on
  pub theirs-later : (g : Ledger) (xs ms ys : List Deed) (i j n : ℕ) (outcome : Performed) (told : List Told) → AreApart g → Runs s g (xs ++ (ms ++ Settled j n outcome told ∷ ys))
      → i < length (after_deeds s g xs).calls → (after_deeds s g xs).held i ≡ parked n → list_any (settles n) ms ≡ false → i ≡ j
  theirs-later g [] ms ys i j n outcome told apart runs = settled-are-theirs g ms ys i j n outcome told apart runs
  theirs-later g (x ∷ xs) ms ys i j n outcome told apart runs = theirs-later (after_deed s g x) xs ms ys i j n outcome told (apart-deed g x runs.0 apart) runs.1

  pub unkept-later : (g : Ledger) (xs ms ys : List Deed) (i j n : ℕ) (outcome : Performed) (told : List Told) → AreApart g → Runs s g (xs ++ (ms ++ SettledUnkept j n outcome told ∷ ys))
      → i < length (after_deeds s g xs).calls → (after_deeds s g xs).held i ≡ parked n → list_any (settles n) ms ≡ false → i ≡ j
  unkept-later g [] ms ys i j n outcome told apart runs = unkept-are-theirs g ms ys i j n outcome told apart runs
  unkept-later g (x ∷ xs) ms ys i j n outcome told apart runs = unkept-later (after_deed s g x) xs ms ys i j n outcome told (apart-deed g x runs.0 apart) runs.1

  pub joined-are-no-calls : JoinedAreNoCalls s
  joined-are-no-calls g p written n joined taken h = (sym h.2 ∙ taken, refl)
