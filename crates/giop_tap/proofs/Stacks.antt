-- The numbers at a place, as requests come and go.
use Rattle.std.proofs.Common.{◌≡◌, ℕ, ◌<◌, ◌↔◌, ◌-◌, length, slice_get, max, Bool, true, false, ◌||◌, cond, List, [], ◌∷◌, ◌++◌, Option, Some, None, refl, sym, ap, subst, ◌∙◌, true≢false, append-nil, arith}
use Rattle.std.specs.Option.{IsSome, option_to_list}
use Rattle.std.specs.List.{AllByRecursion, list_any}
use Rattle.giop_tap.specs.declared.place.Place.{Place}
use Rattle.giop_tap.specs.Pairing.{Asked, later_or, latest, number_of, without_latest}
use Rattle.giop_tap.specs.Waiting.{AreRising, is_at, last_of, last_or_this, later_of, numbers_at, with_first, without_last}

-- the numbers of those for which a test holds
pub passing : (Asked → Bool) → List Asked → List ℕ
passing test [] = []
passing test (a ∷ later) = cond (test a) (a.number ∷ passing test later) (passing test later)

pub numbers-passing : (p : Place) (ws : List Asked) → numbers_at p ws ≡ passing (is_at p) ws
unfolding passing
numbers-passing p [] = refl
numbers-passing p (a ∷ later) = ap (λ (ns : List ℕ). cond (is_at p a) (a.number ∷ ns) ns) (numbers-passing p later)

-- the last number

last-push : (ns : List ℕ) (n : ℕ) → last_of (ns ++ n ∷ []) ≡ Some n
last-push [] n = refl
last-push (m ∷ ns) n = rw (last-push ns n) refl

without-push : (ns : List ℕ) (n : ℕ) → without_last (ns ++ n ∷ []) ≡ ns
without-push [] n = refl
without-push (m ∷ []) n = refl
without-push (m ∷ k ∷ ns) n = ap (λ (ms : List ℕ). m ∷ ms) (without-push (k ∷ ns) n)

pub popped-last : (old new : List ℕ) (n : ℕ) → old ≡ new ++ n ∷ [] → last_of old ≡ Some n
popped-last old new n is = ap last_of is ∙ last-push new n

pub popped-others : (old new : List ℕ) (n : ℕ) → old ≡ new ++ n ∷ [] → without_last old ≡ new
popped-others old new n is = ap without_last is ∙ without-push new n

-- one more

pub push-here : (p : Place) (ws : List Asked) (a : Asked) → is_at p a ≡ true → numbers_at p (ws ++ a ∷ []) ≡ numbers_at p ws ++ a.number ∷ []
push-here p [] a here = rw here refl
push-here p (w ∷ ws) a here = by (is_at p w) (push-here p ws a here)
  where
    by : (b : Bool) → numbers_at p (ws ++ a ∷ []) ≡ numbers_at p ws ++ a.number ∷ []
        → cond b (w.number ∷ numbers_at p (ws ++ a ∷ [])) (numbers_at p (ws ++ a ∷ [])) ≡ cond b (w.number ∷ numbers_at p ws) (numbers_at p ws) ++ a.number ∷ []
    by true e = ap (λ (ns : List ℕ). w.number ∷ ns) e
    by false e = e

pub push-apart : (p : Place) (ws : List Asked) (a : Asked) → is_at p a ≡ false → numbers_at p (ws ++ a ∷ []) ≡ numbers_at p ws
push-apart p [] a differs = rw differs refl
push-apart p (w ∷ ws) a differs = ap (λ (ns : List ℕ). cond (is_at p w) (w.number ∷ ns) ns) (push-apart p ws a differs)

-- the latest

last-or : (o : Option Asked) (a : Asked) → last_or_this (number_of o) a.number ≡ number_of (later_or o true a)
last-or None a = refl
last-or (Some b) a = refl

not-or : (o : Option Asked) (a : Asked) → number_of o ≡ number_of (later_or o false a)
not-or None a = refl
not-or (Some b) a = refl

pub last-latest : (test : Asked → Bool) (ws : List Asked) → last_of (passing test ws) ≡ number_of (latest test ws)
unfolding passing
last-latest test [] = refl
last-latest test (a ∷ later) = by (test a) (last-latest test later)
  where
    by : (b : Bool) → last_of (passing test later) ≡ number_of (latest test later)
        → last_of (cond b (a.number ∷ passing test later) (passing test later)) ≡ number_of (later_or (latest test later) b a)
    by true e = ap (λ (o : Option ℕ). last_or_this o a.number) e ∙ last-or (latest test later) a
    by false e = e ∙ not-or (latest test later) a

-- without the latest

none-passing : (test : Asked → Bool) (ws : List Asked) → list_any test ws ≡ false → passing test ws ≡ []
unfolding passing
none-passing test [] h = refl
none-passing test (a ∷ later) h = by (test a) h (none-passing test later)
  where
    by : (b : Bool) → (b || list_any test later) ≡ false → (list_any test later ≡ false → passing test later ≡ []) → cond b (a.number ∷ passing test later) (passing test later) ≡ []
    by true g next = absurd (true≢false g)
    by false g next = next g

-- some number, where one passes
first-stays : (test : Asked → Bool) (ws : List Asked) (n : ℕ) (others : List ℕ) → list_any test ws ≡ true → with_first n (passing test ws) others ≡ n ∷ others
unfolding passing
first-stays test [] n others h = absurd (true≢false (sym h))
first-stays test (a ∷ later) n others h = by (test a) h (first-stays test later n others)
  where
    by : (b : Bool) → (b || list_any test later) ≡ true → (list_any test later ≡ true → with_first n (passing test later) others ≡ n ∷ others) → with_first n (cond b (a.number ∷ passing test later) (passing test later)) others ≡ n ∷ others
    by true g next = refl
    by false g next = next g

pub without-here : (test : Asked → Bool) (ws : List Asked) → passing test (without_latest test ws) ≡ without_last (passing test ws)
unfolding passing
without-here test [] = refl
without-here test (a ∷ later) = by (list_any test later) (test a) refl refl (without-here test later)
  where
    by : (more here : Bool) → list_any test later ≡ more → test a ≡ here → passing test (without_latest test later) ≡ without_last (passing test later)
        → passing test (cond more (a ∷ without_latest test later) (cond here later (a ∷ later))) ≡ without_last (cond here (a.number ∷ passing test later) (passing test later))
    by true true e f next = rw f (ap (λ (ns : List ℕ). a.number ∷ ns) next ∙ sym (first-stays test later a.number (without_last (passing test later)) e))
    by true false e f next = rw f next
    by false true e f next = none-passing test later e ∙ rw (none-passing test later e) refl
    by false false e f next = rw f (none-passing test later e ∙ rw (none-passing test later e) refl)

-- the others stay
pub without-apart : (test other : Asked → Bool) → ((a : Asked) → test a ≡ true → other a ≡ false) → (ws : List Asked) → passing other (without_latest test ws) ≡ passing other ws
unfolding passing
without-apart test other differ [] = refl
without-apart test other differ (a ∷ later) = by (list_any test later) (test a) refl (without-apart test other differ later)
  where
    by : (more here : Bool) → test a ≡ here → passing other (without_latest test later) ≡ passing other later
        → passing other (cond more (a ∷ without_latest test later) (cond here later (a ∷ later))) ≡ cond (other a) (a.number ∷ passing other later) (passing other later)
    by true here f next = ap (λ (ns : List ℕ). cond (other a) (a.number ∷ ns) ns) next
    by false true f next = rw (differ a f) refl
    by false false f next = refl

-- the last number by its place

last-or-twice : (o : Option ℕ) (k n : ℕ) → last_or_this o k ≡ last_or_this (last_or_this o k) n
last-or-twice None k n = refl
last-or-twice (Some j) k n = refl

got-last : (n : ℕ) (ns : List ℕ) → slice_get (n ∷ ns) (length ns) ≡ last_of (n ∷ ns)
got-last n [] = refl
got-last n (m ∷ ns) = got-last m ns ∙ last-or-twice (last_of ns) m n

pub last-got : (ns : List ℕ) → slice_get ns (length ns - 1) ≡ last_of ns
last-got [] = refl
last-got (n ∷ ns) = let less : length (n ∷ ns) - 1 ≡ length ns = omega arith in ap (slice_get (n ∷ ns)) less ∙ got-last n ns

-- what a pop leaves
pub popped : (old new : List ℕ) (o : Option ℕ) (len : ℕ) → length old ≡ len → old ≡ new ++ option_to_list o → (IsSome o ↔ (0 < len)) → (o ≡ last_of old) × (without_last old ≡ new)
popped old new (Some n) len all is some = (sym (popped-last old new n is), popped-others old new n is)
popped [] new None len all is some = (refl, is ∙ append-nil new)
popped (n ∷ old) new None len all is some = absurd (true≢false (sym (some.1 (let l : 0 < len = omega arith in l))))

-- rising numbers

pub all-latest : (P : Asked → Type 0) (test : Asked → Bool) (ws : List Asked) (b : Asked) → AllByRecursion P ws → latest test ws ≡ Some b → P b
all-latest P test [] b all is = absurd (let k : None ≡ Some b = is in cc)
all-latest P test (a ∷ later) b all is = by (latest test later) (test a) refl is (λ o. all-latest P test later b all.1 o)
  where
    by : (o : Option Asked) (here : Bool) → latest test later ≡ o → later_or o here a ≡ Some b → (latest test later ≡ Some b → P b) → P b
    by (Some c) here e g next = next (e ∙ g)
    by None true e g next = subst P (let h : a ≡ b = cc in h) all.0
    by None false e g next = absurd (let k : None ≡ Some b = g in cc)

kept : (z : Option Asked) (n : ℕ) (b : Bool) (a : Asked) → Some n ≡ number_of z → Some n ≡ number_of (later_or z b a)
kept None n b a is = absurd (let k : Some n ≡ None = is in cc)
kept (Some z) n b a is = is

-- the latest of either kind is the later of the latest of each
pub either-latest : (one other both : Asked → Bool) → ((a : Asked) → both a ≡ (one a || other a)) → ((a : Asked) → one a ≡ true → other a ≡ false) → (ws : List Asked) → AreRising ws
    → later_of (number_of (latest one ws)) (number_of (latest other ws)) ≡ number_of (latest both ws)
either-latest one other both is differ [] rising = refl
either-latest one other both is differ (a ∷ later) rising =
    by (latest one later) (latest other later) (latest both later) (one a) (other a) refl (is a) (differ a) (either-latest one other both is differ later rising.1)
    (λ b e. all-latest (λ b. a.number < b.number) one later b rising.0 e) (λ b e. all-latest (λ b. a.number < b.number) other later b rising.0 e) refl refl
  where
    by : (x y z : Option Asked) (here there : Bool) → one a ≡ here → both a ≡ (here || there) → (here ≡ true → there ≡ false)
        → later_of (number_of x) (number_of y) ≡ number_of z
        → ((b : Asked) → latest one later ≡ Some b → a.number < b.number) → ((b : Asked) → latest other later ≡ Some b → a.number < b.number)
        → latest one later ≡ x → latest other later ≡ y
        → later_of (number_of (later_or x here a)) (number_of (later_or y there a)) ≡ number_of (later_or z (both a) a)
    by (Some w) (Some v) z here there e b d next more moreover ex ey = kept z (max w.number v.number) (both a) a next
    by (Some w) None z here false e b d next more moreover ex ey = kept z w.number (both a) a next
    by (Some w) None z here true e b d next more moreover ex ey =
        let less = more w ex in let is : max w.number a.number ≡ w.number = omega arith in ap (λ (n : ℕ). Some n) is ∙ kept z w.number (both a) a next
    by None (Some v) z false there e b d next more moreover ex ey = kept z v.number (both a) a next
    by None (Some v) z true there e b d next more moreover ex ey =
        let less = moreover v ey in let is : max a.number v.number ≡ v.number = omega arith in ap (λ (n : ℕ). Some n) is ∙ kept z v.number (both a) a next
    by None None (Some z) here there e b d next more moreover ex ey = absurd (let k : None ≡ Some z.number = next in cc)
    by None None None true true e b d next more moreover ex ey = absurd (true≢false (d refl))
    by None None None true false e b d next more moreover ex ey = rw b refl
    by None None None false true e b d next more moreover ex ey = rw b refl
    by None None None false false e b d next more moreover ex ey = rw b refl

pub all-push : (P : Asked → Type 0) (ws : List Asked) (a : Asked) → AllByRecursion P ws → P a → AllByRecursion P (ws ++ a ∷ [])
all-push P [] a all here = (here, tt)
all-push P (w ∷ ws) a all here = (all.0, all-push P ws a all.1 here)

pub all-without : (P : Asked → Type 0) (test : Asked → Bool) (ws : List Asked) → AllByRecursion P ws → AllByRecursion P (without_latest test ws)
all-without P test [] all = tt
all-without P test (a ∷ later) all = by (list_any test later) (test a) (all-without P test later all.1)
  where
    by : (more here : Bool) → AllByRecursion P (without_latest test later) → AllByRecursion P (cond more (a ∷ without_latest test later) (cond here later (a ∷ later)))
    by true here next = (all.0, next)
    by false true next = all.1
    by false false next = all

pub rising-push : (ws : List Asked) (a : Asked) → AreRising ws → AllByRecursion (λ b. b.number < a.number) ws → AreRising (ws ++ a ∷ [])
rising-push [] a rising below = (tt, tt)
rising-push (w ∷ ws) a rising below = (all-push (λ b. w.number < b.number) ws a rising.0 below.0, rising-push ws a rising.1 below.1)

pub rising-without : (test : Asked → Bool) (ws : List Asked) → AreRising ws → AreRising (without_latest test ws)
rising-without test [] rising = tt
rising-without test (a ∷ later) rising = by (list_any test later) (test a) (rising-without test later rising.1)
  where
    by : (more here : Bool) → AreRising (without_latest test later) → AreRising (cond more (a ∷ without_latest test later) (cond here later (a ∷ later)))
    by true here next = (all-without (λ b. a.number < b.number) test later rising.0, next)
    by false true next = rising.1
    by false false next = rising
