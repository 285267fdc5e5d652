-- Which connections go on after an event, and which numbers count no more.
use Rattle.std.proofs.Common.{◌≡◌, ◌==◌, ℕ, Bool, true, false, not, cond, nat_lt, ◌&&◌, List, [], ◌∷◌, Option, Some, None, is_none, refl, sym, ap, subst, ◌∙◌, arith}
use Rattle.std.specs.List.{AllByRecursion, list_all}
use Rattle.std.specs.Option.{option_map_or}
use Rattle.std.proofs.lemmas.Bool.{eqb-true, le-ltb}
use Rattle.giop_frames.specs.declared.limits.Limits.{Limits}
use Rattle.giop_link.specs.Hearing.{Ending, ending, meaning_in}
use Rattle.giop_link.specs.Laws.{EndingsStay}
use Rattle.giop_link.specs.Linking.{Linked}
use Rattle.ft_orb.specs.declared.events.Note.{Note}
use Rattle.ft_orb.specs.declared.events.Note.TheVariants.{Done, Memory, Refused}
use Rattle.ft_orb.specs.declared.parked.Waiter.{Waiter}
use Rattle.ft_orb.specs.History.{Close, Event, Gone, Line, Lost, Opened, Piece, Shut, Up, Withdrew, counted, does_count, line, longer, shortened, shut, Changed}
use Rattle.ft_orb.specs.Outputs.{after, is_going, is_gone}
use Rattle.ft_orb.specs.Parked.{on_going}
use Rattle.ft_orb.specs.Parking.{goes_on}
use Rattle.ft_orb.specs.Standing.{IsFor}
use Rattle.ft_orb.proofs.Streams.{closed-is, gone-is}

abbrev pub Same : (ℕ → Bool) → (ℕ → Bool) → Waiter → Type 0
Same one two w = two w.connection ≡ true → one w.connection ≡ true

-- who waits on connections that go on later does so on some that go on now
pub on-going-twice : (one two : ℕ → Bool) (ws : List Waiter) → AllByRecursion (Same one two) ws → on_going two (on_going one ws) ≡ on_going two ws
on-going-twice one two [] h = refl
on-going-twice one two (w ∷ ws) h = by (one w.connection) h.0 (on-going-twice one two ws h.1)
  where
    not-then : (b : Bool) → (b ≡ true → false ≡ true) → b ≡ false
    not-then true h = absurd (let t : false ≡ true = h refl in cc)
    not-then false h = refl

    by : (a : Bool) → (two w.connection ≡ true → a ≡ true) → on_going two (on_going one ws) ≡ on_going two ws → on_going two (cond a (w ∷ on_going one ws) (on_going one ws)) ≡ cond (two w.connection) (w ∷ on_going two ws) (on_going two ws)
    by true h same = ap (λ (l : List Waiter). cond (two w.connection) (w ∷ l) l) same
    by false h same = same ∙ sym (ap (λ (b : Bool). cond b (w ∷ on_going two ws) (on_going two ws)) (not-then (two w.connection) h))

pub not-not : (b : Bool) → not (not b) ≡ b
not-not true = refl
not-not false = refl

-- what is held for a connection goes on where its line does
pub going-is : (limits : Limits) (o : Option Linked) (l : Line) → IsFor limits o l → option_map_or (λ (x : Linked). not x.is_closed) o false ≡ is_going limits l
going-is limits (Some link) l h = ap not (closed-is limits l link h) ∙ not-not (is_going limits l)
going-is limits None l h = let gone : true ≡ not (is_going limits l) = gone-is limits l h in ap not gone ∙ not-not (is_going limits l)

pub and-false : (b : Bool) → (b && false) ≡ false
and-false true = refl
and-false false = refl

all-counted : (c d : ℕ) (xs : List ℕ) (b : Bool) → list_all (λ x. nat_lt x c) xs ≡ false → list_all (λ x. nat_lt x c) (cond b (d ∷ xs) xs) ≡ false
all-counted c d xs true h = ap (λ (b : Bool). nat_lt d c && b) h ∙ and-false (nat_lt d c)
all-counted c d xs false h = h

-- a number that was opened never opens again
pub counts-later : (past : List Event) (e : Event) (c : ℕ) → does_count past c ≡ false → does_count (e ∷ past) c ≡ false
counts-later past (Opened d) c h = all-counted c d (counted past) (list_all (λ x. nat_lt x d) (counted past)) h
counts-later past (Piece d moment octets) c h = h
counts-later past (Close d) c h = h
counts-later past (Lost d) c h = h
counts-later past (Withdrew i) c h = h
counts-later past Changed c h = h

module _ (limits : Limits) (stay : EndingsStay meaning_in) where
  longer-goes : (octets : List ℕ) (l : Line) → is_going limits (longer octets l) ≡ true → is_going limits l ≡ true
  longer-goes octets Gone h = h
  longer-goes octets Shut h = h
  longer-goes octets (Up s) h = by (ending limits s) refl
    where
      by : (e : Option Ending) → ending limits s ≡ e → is_none e ≡ true
      by None is = refl
      by (Some e) is = absurd (let later : is_none (Some e) ≡ true = ap (λ (o : Option Ending). is_none o) (sym (stay limits s octets e is)) ∙ h in cc)

  shut-goes : (l : Line) → is_going limits (shut l) ≡ true → is_going limits l ≡ true
  shut-goes Gone h = h
  shut-goes Shut h = h
  shut-goes (Up s) h = absurd cc

  -- .. so what goes on later goes on now
  pub went-on : (past : List Event) (e : Event) (c : ℕ) → does_count past c ≡ false → goes_on limits (e ∷ past) c ≡ true → goes_on limits past c ≡ true
  went-on past (Opened d) c h g = by (d == c) refl g
    where
      by : (b : Bool) → (d == c) ≡ b → is_going limits (cond b (cond (does_count past d) (Up []) (line past c)) (line past c)) ≡ true → is_going limits (line past c) ≡ true
      by false is g = g
      by true is g = subst (λ (x : Bool). is_going limits (cond x (Up []) (line past c)) ≡ true) (ap (does_count past) (eqb-true d c is) ∙ h) g
  went-on past (Piece d moment octets) c h g = by (d == c) g
    where
      by : (b : Bool) → is_going limits (cond b (longer octets (line past c)) (line past c)) ≡ true → is_going limits (line past c) ≡ true
      by false g = g
      by true g = longer-goes octets (line past c) g
  went-on past (Close d) c h g = by (d == c) g
    where
      by : (b : Bool) → is_going limits (cond b (shut (line past c)) (line past c)) ≡ true → is_going limits (line past c) ≡ true
      by false g = g
      by true g = shut-goes (line past c) g
  went-on past (Lost d) c h g = by (d == c) g
    where
      by : (b : Bool) → is_going limits (cond b Gone (line past c)) ≡ true → is_going limits (line past c) ≡ true
      by false g = g
      by true g = absurd cc
  went-on past (Withdrew i) c h g = g
  went-on past Changed c h g = g

  -- what happened, and how it ended
  pub went-after : (past : List Event) (e : Event) (note : Note) (c : ℕ) → does_count past c ≡ false → goes_on limits (after limits past e note) c ≡ true → goes_on limits past c ≡ true
  went-after past e Done c h g = went-on past e c h g
  went-after past e Refused c h g = went-on past e c h g
  went-after past (Opened d) (Memory handled answered) c h g = g
  went-after past (Piece d moment octets) (Memory handled answered) c h g =
      let short = shortened limits past (Piece d moment octets) handled in went-on past short c h (went-on (short ∷ past) (Lost d) c (counts-later past short c h) g)
  went-after past (Close d) (Memory handled answered) c h g = went-on past (Lost d) c h g
  went-after past (Lost d) (Memory handled answered) c h g = went-on past (Lost d) c h g
  went-after past (Withdrew i) (Memory handled answered) c h g = g
  went-after past Changed (Memory handled answered) c h g = g

pub counts-after : (limits : Limits) (past : List Event) (e : Event) (note : Note) (c : ℕ) → does_count past c ≡ false → does_count (after limits past e note) c ≡ false
counts-after limits past e Done c h = counts-later past e c h
counts-after limits past e Refused c h = counts-later past e c h
counts-after limits past (Opened d) (Memory handled answered) c h = h
counts-after limits past (Piece d moment octets) (Memory handled answered) c h = counts-later past (shortened limits past (Piece d moment octets) handled) c h
counts-after limits past (Close d) (Memory handled answered) c h = h
counts-after limits past (Lost d) (Memory handled answered) c h = h
counts-after limits past (Withdrew i) (Memory handled answered) c h = h
counts-after limits past Changed (Memory handled answered) c h = h

-- a connection that is there was opened
pub was-counted : (past : List Event) (c : ℕ) → is_gone (line past c) ≡ false → does_count past c ≡ false
was-counted [] c h = absurd cc
was-counted (Opened d ∷ past) c h = by (d == c) refl (does_count past d) refl (λ g. was-counted past c g) h
  where
    by : (b : Bool) → (d == c) ≡ b → (k : Bool) → does_count past d ≡ k → (is_gone (line past c) ≡ false → does_count past c ≡ false) → is_gone (cond b (cond k (Up []) (line past c)) (line past c)) ≡ false → does_count (Opened d ∷ past) c ≡ false
    by true is true counts before h =
        ap (λ (x : Bool). list_all (λ n. nat_lt n c) (cond x (d ∷ counted past) (counted past))) counts
        ∙ ap (λ (x : Bool). x && list_all (λ n. nat_lt n c) (counted past)) (le-ltb d c (let same = eqb-true d c is in omega (arith, same)))
    by true is false counts before h = counts-later past (Opened d) c (before h)
    by false is k counts before h = counts-later past (Opened d) c (before h)
was-counted (Piece d moment octets ∷ past) c h = was-counted past c (by (d == c) h)
  where
    longer-there : (l : Line) → is_gone (longer octets l) ≡ false → is_gone l ≡ false
    longer-there Gone h = h
    longer-there Shut h = refl
    longer-there (Up s) h = refl

    by : (b : Bool) → is_gone (cond b (longer octets (line past c)) (line past c)) ≡ false → is_gone (line past c) ≡ false
    by true h = longer-there (line past c) h
    by false h = h
was-counted (Close d ∷ past) c h = was-counted past c (by (d == c) h)
  where
    shut-there : (l : Line) → is_gone (shut l) ≡ false → is_gone l ≡ false
    shut-there Gone h = h
    shut-there Shut h = refl
    shut-there (Up s) h = refl

    by : (b : Bool) → is_gone (cond b (shut (line past c)) (line past c)) ≡ false → is_gone (line past c) ≡ false
    by true h = shut-there (line past c) h
    by false h = h
was-counted (Lost d ∷ past) c h = was-counted past c (by (d == c) h)
  where
    by : (b : Bool) → is_gone (cond b Gone (line past c)) ≡ false → is_gone (line past c) ≡ false
    by true h = absurd cc
    by false h = h
was-counted (Withdrew i ∷ past) c h = was-counted past c h
was-counted (Changed ∷ past) c h = was-counted past c h
