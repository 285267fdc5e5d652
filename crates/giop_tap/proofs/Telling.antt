-- What is told of repeats by what is remembered, against all earlier messages.
use Rattle.std.proofs.Common.{zero-add, ◌≡◌, ◌≤◌, ◌+◌, ℕ, zero, suc, ℤ, Bool, true, false, ◌&&◌, ◌||◌, ◌==◌, cond, List, [], ◌∷◌, ◌++◌, length, take, Option, Some, None, is_some, true≢false, IsSome, IfSome, IsTrue, bytes_eq, refl, sym, ap, subst, ◌∙◌, arith}
use Rattle.std.proofs.lemmas.Bool.{and_parts, eq-eqb, eqb-true}
use Rattle.std.proofs.lemmas.List.{append-nil}
use Rattle.std.proofs.lemmas.Bool.Decides.{Decides-int_eq}
use Rattle.std.proofs.lemmas.Slice.Eq.{bytes_eq-Decides}
use Rattle.std.proofs.lemmas.List.Sums.{sum_by-append}
use Rattle.std.proofs.lemmas.List.Folds.{list_any-append}
use Rattle.std.specs.List.{find, list_any}
use Rattle.std.specs.Option.{option_map}
use Rattle.std.specs.Ordering.{int_eq}
use Rattle.giop_core.specs.Ft.{Ft, absent, bad, present}
use Rattle.giop_tap.specs.declared.pairing.Tie.{Tie}
use Rattle.giop_tap.specs.Pairing.{Named, RepeatsRecent, Said, answered, ft_of, has_key, is_repeated, may_repeat, named_by, named_in, repeated, weight_in, weight_of}
use Rattle.giop_tap.specs.Remembered.{Memory, first_in, first_with, forgot_at, number_in, number_or, pushed, remembered, remembered_after, repeat_of, roomy, this_or, tie_of, turned, with_key, with_one}
use Rattle.giop_tap.specs.Tracing.{Paired, PairsStand}
use Rattle.giop_tap.proofs.Keyed.{first-apart, first-here as push-here}

-- a request of a key
abbrev named : List ℕ → ℤ → ℕ → Named
named client retention number = record { client_id = client; retention_id = retention; number = number }

-- one more at the end leaves the first as it is
push-kept : (test : Named → Bool) (ns : List Named) (x : Named) (f : ℕ) → option_map (λ n. n.number) (find test ns) ≡ Some f → option_map (λ n. n.number) (find test (ns ++ x ∷ [])) ≡ Some f
push-kept test [] x f is = absurd (let h : None ≡ Some f = is in cc)
push-kept test (n ∷ ns) x f is = by (test n) is (λ e. push-kept test ns x f e)
  where
    by : (b : Bool) → option_map (λ n. n.number) (cond b (Some n) (find test ns)) ≡ Some f → (option_map (λ n. n.number) (find test ns) ≡ Some f → option_map (λ n. n.number) (find test (ns ++ x ∷ [])) ≡ Some f)
        → option_map (λ n. n.number) (cond b (Some n) (find test (ns ++ x ∷ []))) ≡ Some f
    by true is next = is
    by false is next = next is

-- a key that passes is that key
same-number : (c c' : List ℕ) (r r' : ℤ) (n : ℕ) (ns : List Named) → has_key c r (named c' r' n) ≡ true → number_in c r ns ≡ number_in c' r' ns
same-number c c' r r' n ns e =
    let parts = and_parts (int_eq r' r) (bytes_eq c' c) e in
    let client : c' ≡ c = (bytes_eq-Decides c' c).0 parts.1 in
    let retention : r' ≡ r = (Decides-int_eq r' r).0 parts.0 in
    λ i. number_in (sym client i) (sym retention i) ns

-- and as it is remembered, by what stands of it before
abbrev told : List ℕ → ℤ → ℕ → Memory → Named
told c r number s = named c r (number_or number (number_in c r s.before))

-- what may become of memory by a request with a key
with-key-by : (most number : ℕ) (c : List ℕ) (r : ℤ) (s : Memory) (P : Memory → Type 0)
    → ((f : ℕ) → number_in c r s.last ≡ Some f → P s)
    → (number_in c r s.last ≡ None → (s.room == 0) ≡ false → P (pushed (told c r number s) s))
    → (number_in c r s.last ≡ None → (s.room == 0) ≡ true → P (pushed (told c r number s) (turned most number s)))
    → P (with_key most c r number s)
with-key-by most number c r s P known room turn = by (number_in c r s.last) refl
  where
    more : (b : Bool) → (s.room == 0) ≡ b → number_in c r s.last ≡ None → P (pushed (told c r number s) (cond b (turned most number s) s))
    more true e is = turn is e
    more false e is = room is e

    by : (o : Option ℕ) → number_in c r s.last ≡ o → P (with_one o s (pushed (told c r number s) (roomy most number s)))
    by None is = more (s.room == 0) refl is
    by (Some f) is = known f is

-- a number is some or none
either-number : (o : Option ℕ) (P : Type 0) → ((f : ℕ) → o ≡ Some f → P) → (o ≡ None → P) → P
either-number None P some none = none refl
either-number (Some f) P some none = some f refl

either-truth : (b : Bool) (P : Type 0) → (b ≡ true → P) → (b ≡ false → P) → P
either-truth true P is not = is refl
either-truth false P is differs = differs refl

this-or-none : (o : Option ℕ) → this_or o None ≡ o
this-or-none None = refl
this-or-none (Some n) = refl

-- where nothing was forgotten before a turn
forgot-none : (number : ℕ) (has : Bool) (f : Option ℕ) → forgot_at number has f ≡ None → (has ≡ false) × (f ≡ None)
forgot-none number true None e = absurd (let h : Some number ≡ None = e in cc)
forgot-none number true (Some n) e = absurd (let h : Some n ≡ None = e in cc)
forgot-none number false f e = (refl, e)

-- 1. while nothing was forgotten

record Knows (c : List ℕ) (r : ℤ) (ns : List Named) (s : Memory) : Type 0 where
  empty : s.has_before ≡ false → number_in c r s.before ≡ None
  first : s.forgot ≡ None → this_or (number_in c r s.last) (number_in c r s.before) ≡ number_in c r ns

-- the number of a key that comes
first-here : (c : List ℕ) (r : ℤ) (number : ℕ) (ns : List Named) (y : Named) (o : Option ℕ) → has_key c r y ≡ true → y.number ≡ number → o ≡ number_in c r ns → Some (number_or number o) ≡ number_in c r (ns ++ y ∷ [])
first-here c r number ns y None here is e = ap (λ (n : ℕ). Some n) (sym is) ∙ sym (push-here (has_key c r) ns y (sym e) here)
first-here c r number ns y (Some f) here is e = sym (push-kept (has_key c r) ns y f (sym e))

knows-after : (most number : ℕ) (c c' : List ℕ) (r r' : ℤ) (ns : List Named) (s : Memory) → Knows c r ns s → Knows c r (ns ++ named c' r' number ∷ []) (with_key most c' r' number s)
knows-after most number c c' r r' ns s old =
    with-key-by most number c' r' s (Knows c r (ns ++ (named c' r' number) ∷ []))
    (λ f is. record { empty = old.empty; first = λ none. old.first none ∙ known f is none })
    (λ is e. record { empty = old.empty; first = λ none. either-truth (has_key c r (named c' r' number)) _ (here-room is none) (apart-room none) })
    (λ is e. record { empty = λ never. absurd (let h : true ≡ false = never in cc); first = λ none. either-truth (has_key c r (named c' r' number)) _ (here-turn is none) (apart-turn none) })
  where
    apart : has_key c r (named c' r' number) ≡ false → number_in c r ns ≡ number_in c r (ns ++ (named c' r' number) ∷ [])
    apart e = ap (λ (o : Option Named). option_map (λ n. n.number) o) (sym (first-apart (has_key c r) ns (named c' r' number) e))

    last-apart : (ms : List Named) → has_key c r (named c' r' number) ≡ false → number_in c r (ms ++ (told c' r' number s) ∷ []) ≡ number_in c r ms
    last-apart ms e = ap (λ (o : Option Named). option_map (λ n. n.number) o) (first-apart (has_key c r) ms (told c' r' number s) e)

    known : (f : ℕ) → number_in c' r' s.last ≡ Some f → s.forgot ≡ None → number_in c r ns ≡ number_in c r (ns ++ (named c' r' number) ∷ [])
    known f is none = either-truth (has_key c r (named c' r' number)) _
        (λ here.
        let all : number_in c r ns ≡ Some f = sym (old.first none) ∙ ap (λ (o : Option ℕ). this_or o (number_in c r s.before)) (same-number c c' r r' number s.last here ∙ is) in
        all ∙ sym (push-kept (has_key c r) ns (named c' r' number) f all))
        apart

    apart-room : s.forgot ≡ None → has_key c r (named c' r' number) ≡ false → this_or (number_in c r (s.last ++ (told c' r' number s) ∷ [])) (number_in c r s.before) ≡ number_in c r (ns ++ (named c' r' number) ∷ [])
    apart-room none e = ap (λ (o : Option ℕ). this_or o (number_in c r s.before)) (last-apart s.last e) ∙ old.first none ∙ apart e

    here-room : number_in c' r' s.last ≡ None → s.forgot ≡ None → has_key c r (named c' r' number) ≡ true → this_or (number_in c r (s.last ++ (told c' r' number s) ∷ [])) (number_in c r s.before) ≡ number_in c r (ns ++ (named c' r' number) ∷ [])
    here-room is none here =
        let last : number_in c r s.last ≡ None = same-number c c' r r' number s.last here ∙ is in
        let all : number_in c r s.before ≡ number_in c r ns = sym (ap (λ (o : Option ℕ). this_or o (number_in c r s.before)) last) ∙ old.first none in
        ap (λ (o : Option ℕ). this_or o (number_in c r s.before)) (push-here (has_key c r) s.last (told c' r' number s) last here)
        ∙ first-here c r number ns (named c' r' number) (number_in c' r' s.before) here refl (sym (same-number c c' r r' number s.before here) ∙ all)

    before-all : forgot_at number s.has_before s.forgot ≡ None → number_in c r s.last ≡ number_in c r ns
    before-all none =
        let both = forgot-none number s.has_before s.forgot none in
        sym (this-or-none (number_in c r s.last)) ∙ ap (λ (o : Option ℕ). this_or (number_in c r s.last) o) (sym (old.empty both.0)) ∙ old.first both.1

    apart-turn : forgot_at number s.has_before s.forgot ≡ None → has_key c r (named c' r' number) ≡ false → this_or (number_in c r ((told c' r' number s) ∷ [])) (number_in c r s.last) ≡ number_in c r (ns ++ (named c' r' number) ∷ [])
    apart-turn none e = ap (λ (o : Option ℕ). this_or o (number_in c r s.last)) (last-apart [] e) ∙ before-all none ∙ apart e

    here-turn : number_in c' r' s.last ≡ None → forgot_at number s.has_before s.forgot ≡ None → has_key c r (named c' r' number) ≡ true → this_or (number_in c r ((told c' r' number s) ∷ [])) (number_in c r s.last) ≡ number_in c r (ns ++ (named c' r' number) ∷ [])
    here-turn is none here =
        let both = forgot-none number s.has_before s.forgot none in
        let last : number_in c r s.last ≡ None = same-number c c' r r' number s.last here ∙ is in
        let old : number_in c' r' s.before ≡ None = sym (same-number c c' r r' number s.before here) ∙ old.empty both.0 in
        ap (λ (o : Option ℕ). this_or o (number_in c r s.last)) (push-here (has_key c r) [] (told c' r' number s) refl here)
        ∙ first-here c r number ns (named c' r' number) (number_in c' r' s.before) here refl (old ∙ sym last ∙ before-all none)

knows : (most : ℕ) (c : List ℕ) (r : ℤ) (earlier : List Said) → Knows c r (named_in earlier) (remembered most earlier)
knows most c r [] = record { empty = λ _. refl; first = λ _. refl }
knows most c r (m ∷ earlier) = by (ft_of m.content) (knows most c r earlier)
  where
    by : (f : Ft) → Knows c r (named_in earlier) (remembered most earlier) → Knows c r (named_in earlier ++ named_by (suc (length earlier)) f) (remembered_after most (suc (length earlier)) f (remembered most earlier))
    by absent old = rw append-nil old
    by bad old = rw append-nil old
    by (present client retention expiration) old = knows-after most (suc (length earlier)) c client r retention (named_in earlier) (remembered most earlier) old

-- what was forgotten stays so
forgot-stays : (most : ℕ) (m : Said) (earlier : List Said) → (remembered most (m ∷ earlier)).forgot ≡ None → (remembered most earlier).forgot ≡ None
forgot-stays most m earlier = by (ft_of m.content)
  where
    by : (f : Ft) → (remembered_after most (suc (length earlier)) f (remembered most earlier)).forgot ≡ None → (remembered most earlier).forgot ≡ None
    by absent none = none
    by bad none = none
    by (present client retention expiration) none =
        with-key-by most (suc (length earlier)) client retention (remembered most earlier) (λ s. s.forgot ≡ None → (remembered most earlier).forgot ≡ None)
        (λ f is none. none)
        (λ is e none. none)
        (λ is e none. (forgot-none (suc (length earlier)) (remembered most earlier).has_before (remembered most earlier).forgot none).1)
        none

none-passes : (test : Named → Bool) → ((n : Named) → test n ≡ false) → (ns : List Named) → find test ns ≡ None
none-passes test none [] = refl
none-passes test none (n ∷ ns) = rw (none n, none-passes test none ns) refl

-- the first of all
pub tells-first : (most : ℕ) (m : Said) (earlier : List Said) → (remembered most (m ∷ earlier)).forgot ≡ None → repeat_of most m earlier ≡ repeated (m ∷ earlier)
tells-first most m earlier none = by (ft_of m.content)
  where
    by : (f : Ft) → first_with f (remembered most earlier) ≡ option_map (λ n. n.number) (find (is_repeated f) (named_in earlier))
    by absent = ap (λ (o : Option Named). option_map (λ n. n.number) o) (sym (none-passes (is_repeated absent) (λ n. refl) (named_in earlier)))
    by bad = ap (λ (o : Option Named). option_map (λ n. n.number) o) (sym (none-passes (is_repeated bad) (λ n. refl) (named_in earlier)))
    by (present client retention expiration) = (knows most client retention earlier).first (forgot-stays most m earlier none)

-- 2. whatever was forgotten

-- whether a request has a key and a number
abbrev is_it : List ℕ → ℤ → ℕ → Named → Bool
is_it c r number n = has_key c r n && n.number == number

-- what is told of a key is a request with it
record Tells (c : List ℕ) (r : ℤ) (ns : List Named) (s : Memory) : Type 0 where
  one : (n : ℕ) → this_or (number_in c r s.last) (number_in c r s.before) ≡ Some n → list_any (is_it c r n) ns ≡ true

-- one more at the end
any-kept : (test : Named → Bool) (ns : List Named) (y : Named) → list_any test ns ≡ true → list_any test (ns ++ y ∷ []) ≡ true
any-kept test ns y is = list_any-append test ns (y ∷ []) ∙ ap (λ (b : Bool). b || list_any test (y ∷ [])) is

any-here : (test : Named → Bool) (ns : List Named) (y : Named) → test y ≡ true → list_any test (ns ++ y ∷ []) ≡ true
any-here test [] y here = ap (λ (b : Bool). b || false) here
any-here test (n ∷ ns) y here = ap (λ (b : Bool). test n || b) (any-here test ns y here) ∙ or-true (test n)
  where
    or-true : (b : Bool) → (b || true) ≡ true
    or-true true = refl
    or-true false = refl

itself : (c c' : List ℕ) (r r' : ℤ) (number n : ℕ) → has_key c r (named c' r' number) ≡ true → number ≡ n → is_it c r n (named c' r' number) ≡ true
itself c c' r r' number n here is = (λ i. here i && number == n) ∙ eq-eqb number n is

number-here : (c c' : List ℕ) (r r' : ℤ) (ns : List Named) (number n : ℕ) (o : Option ℕ) → has_key c r (named c' r' number) ≡ true
    → (o ≡ Some n → list_any (is_it c r n) ns ≡ true) → number_or number o ≡ n → list_any (is_it c r n) (ns ++ named c' r' number ∷ []) ≡ true
number-here c c' r r' ns number n None here old is = any-here (is_it c r n) ns (named c' r' number) (itself c c' r r' number n here is)
number-here c c' r r' ns number n (Some f) here old is = any-kept (is_it c r n) ns (named c' r' number) (old (ap (λ (k : ℕ). Some k) is))

some-is : (n k : ℕ) → Some n ≡ Some k → n ≡ k
some-is n k e = cc

tells-after : (most number : ℕ) (c c' : List ℕ) (r r' : ℤ) (ns : List Named) (s : Memory) → Tells c r ns s → Tells c r (ns ++ named c' r' number ∷ []) (with_key most c' r' number s)
tells-after most number c c' r r' ns s old =
    with-key-by most number c' r' s (Tells c r (ns ++ named c' r' number ∷ []))
    (λ f is. record { one = λ n told. any-kept (is_it c r n) ns (named c' r' number) (old.one n told) })
    (λ is e. record {
      one = λ n tells. either-truth (has_key c r (named c' r' number)) _
          (λ here. number-here c c' r r' ns number n (number_in c' r' s.before) here
          (λ before. old.one n (ap (λ (o : Option ℕ). this_or o (number_in c r s.before)) (same-number c c' r r' number s.last here ∙ is) ∙ same-number c c' r r' number s.before here ∙ before))
          (told-is s.last s.before n is here tells))
          (λ apart. any-kept (is_it c r n) ns (named c' r' number) (old.one n (ap (λ (o : Option ℕ). this_or o (number_in c r s.before)) (sym (last-apart s.last apart)) ∙ tells)));
    })
    (λ is e. record {
      one = λ n tells. either-truth (has_key c r (named c' r' number)) _
          (λ here. number-here c c' r r' ns number n (number_in c' r' s.before) here
          (λ before. old.one n (ap (λ (o : Option ℕ). this_or o (number_in c r s.before)) (same-number c c' r r' number s.last here ∙ is) ∙ same-number c c' r r' number s.before here ∙ before))
          (told-is [] s.last n refl here tells))
          (λ apart. any-kept (is_it c r n) ns (named c' r' number) (old.one n (last-first (number_in c r s.last) (number_in c r s.before) n (ap (λ (o : Option ℕ). this_or o (number_in c r s.last)) (sym (last-apart [] apart)) ∙ tells))));
    })
  where
    last-apart : (ms : List Named) → has_key c r (named c' r' number) ≡ false → number_in c r (ms ++ told c' r' number s ∷ []) ≡ number_in c r ms
    last-apart ms e = ap (λ (o : Option Named). option_map (λ n. n.number) o) (first-apart (has_key c r) ms (told c' r' number s) e)

    told-is : (ms others : List Named) (n : ℕ) → number_in c' r' ms ≡ None → has_key c r (named c' r' number) ≡ true → this_or (number_in c r (ms ++ told c' r' number s ∷ [])) (number_in c r others) ≡ Some n
        → number_or number (number_in c' r' s.before) ≡ n
    told-is ms others n none here tells =
        some-is (number_or number (number_in c' r' s.before)) n
        (sym (ap (λ (o : Option ℕ). this_or o (number_in c r others)) (push-here (has_key c r) ms (told c' r' number s) (same-number c c' r r' number ms here ∙ none) here)) ∙ tells)

    last-first : (a b : Option ℕ) (n : ℕ) → this_or None a ≡ Some n → this_or a b ≡ Some n
    last-first None b n e = absurd (let h : None ≡ Some n = e in cc)
    last-first (Some f) b n e = e

tells : (most : ℕ) (c : List ℕ) (r : ℤ) (earlier : List Said) → Tells c r (named_in earlier) (remembered most earlier)
tells most c r [] = record { one = λ n e. absurd (let h : None ≡ Some n = e in cc) }
tells most c r (m ∷ earlier) = by (ft_of m.content) (tells most c r earlier)
  where
    by : (f : Ft) → Tells c r (named_in earlier) (remembered most earlier) → Tells c r (named_in earlier ++ named_by (suc (length earlier)) f) (remembered_after most (suc (length earlier)) f (remembered most earlier))
    by absent old = rw append-nil old
    by bad old = rw append-nil old
    by (present client retention expiration) old = tells-after most (suc (length earlier)) c client r retention (named_in earlier) (remembered most earlier) old

if-some : (o : Option ℕ) (P : ℕ → Type 0) → ((n : ℕ) → o ≡ Some n → P n) → IfSome o P
if-some None P each = tt
if-some (Some n) P each = each n refl

-- a request with its key
pub tells-its-key : (most : ℕ) (m : Said) (earlier : List Said) → IfSome (repeat_of most m earlier) (λ n. IsTrue (may_repeat n (m ∷ earlier)))
tells-its-key most m earlier = by (ft_of m.content)
  where
    by : (f : Ft) → IfSome (first_with f (remembered most earlier)) (λ n. IsTrue (list_any (λ x. is_repeated f x && x.number == n) (named_in earlier)))
    by absent = tt
    by bad = tt
    by (present client retention expiration) = if-some (first_in client retention (remembered most earlier)) _ (tells most client retention earlier).one

-- 3. while the keys are light

weight-more : (ns : List Named) (y : Named) → weight_in (ns ++ y ∷ []) ≡ weight_in ns + weight_of y.client_id
weight-more ns y = sum_by-append (λ (n : Named). weight_of n.client_id) ns (y ∷ []) ∙ ap (λ (w : ℕ). weight_in ns + w) (zero-add (weight_of y.client_id))

record Light (most : ℕ) (ns : List Named) (s : Memory) : Type 0 where
  alone : s.has_before ≡ false
  none : s.forgot ≡ None
  room : most ≤ s.room + weight_in ns

light-after : (most number : ℕ) (c : List ℕ) (r : ℤ) (ns : List Named) (s : Memory) → weight_in (ns ++ named c r number ∷ []) ≤ most → Light most ns s
    → Light most (ns ++ named c r number ∷ []) (with_key most c r number s)
light-after most number c r ns s light old =
    let more = weight-more ns (named c r number) in
    with-key-by most number c r s (Light most (ns ++ named c r number ∷ []))
    (λ f is. record { alone = old.alone; none = old.none; room = omega (arith, old.room, more) })
    (λ is e. record { alone = old.alone; none = old.none; room = omega (arith, old.room, more) })
    (λ is e. absurd (let empty = eqb-true s.room 0 e in omega (arith, old.room, more, light, empty)))

light : (most : ℕ) (earlier : List Said) → weight_in (named_in earlier) ≤ most → Light most (named_in earlier) (remembered most earlier)
light most [] is = record { alone = refl; none = refl; room = omega arith }
light most (m ∷ earlier) is = by (ft_of m.content) is (light most earlier)
  where
    by : (f : Ft) → weight_in (named_in earlier ++ named_by (suc (length earlier)) f) ≤ most → (weight_in (named_in earlier) ≤ most → Light most (named_in earlier) (remembered most earlier))
        → Light most (named_in earlier ++ named_by (suc (length earlier)) f) (remembered_after most (suc (length earlier)) f (remembered most earlier))
    by absent is old = rw append-nil (old (rw append-nil at is))
    by bad is old = rw append-nil (old (rw append-nil at is))
    by (present client retention expiration) is old =
        let more = weight-more (named_in earlier) (named client retention (suc (length earlier))) in
        light-after most (suc (length earlier)) client retention (named_in earlier) (remembered most earlier) is (old (omega (arith, is, more)))

-- nothing is forgotten
pub forgets-none : (most : ℕ) (earlier : List Said) → weight_in (named_in earlier) ≤ most → (remembered most earlier).forgot ≡ None
forgets-none most earlier is = (light most earlier is).none

-- 4. of the last messages

-- a key is one of the last; or it came before them, and they still weigh too little
data Held (c : List ℕ) (r : ℤ) (most weight : ℕ) (s : Memory) : Type 0 where
  in_last : (f : ℕ) → number_in c r s.last ≡ Some f → Held c r most weight s
  in_before : (f : ℕ) → number_in c r s.before ≡ Some f → most ≤ s.room + weight → Held c r most weight s

held-more : (c : List ℕ) (r : ℤ) (most weight more : ℕ) (s : Memory) → weight ≤ more → Held c r most weight s → Held c r most more s
held-more c r most weight more s le (in_last f is) = in_last f is
held-more c r most weight more s le (in_before f is room) = in_before f is (omega (arith, le, room))

held-room : (c : List ℕ) (r : ℤ) (most weight more : ℕ) (s : Memory) (x : Named) → more ≡ weight + weight_of x.client_id → has_key c r x ≡ false → Held c r most weight s → Held c r most more (pushed x s)
held-room c r most weight more s x le apart (in_last f is) = in_last f (push-kept (has_key c r) s.last x f is)
held-room c r most weight more s x le apart (in_before f is room) = in_before f is (omega (arith, le, room))

held-turn : (c : List ℕ) (r : ℤ) (most weight more number : ℕ) (s : Memory) (x : Named) → more ≡ weight + weight_of x.client_id → more ≤ most → s.room ≡ 0 → has_key c r x ≡ false
    → Held c r most weight s → Held c r most more (pushed x (turned most number s))
held-turn c r most weight more number s x le light empty apart (in_last f is) = in_before f is (omega (arith, le))
held-turn c r most weight more number s x le light empty apart (in_before f is room) = absurd (omega (arith, le, light, empty, room))

-- what is kept of some last requests with keys
abbrev Holds : List ℕ → ℤ → ℕ → List Named → Memory → Type 0
Holds c r most ns s = IsSome (number_in c r ns) → Held c r most (weight_in ns) s

holds-after : (most number other : ℕ) (c c' : List ℕ) (r r' : ℤ) (ns : List Named) (s : Memory) → weight_in (ns ++ named c' r' other ∷ []) ≤ most → Holds c r most ns s
    → Holds c r most (ns ++ named c' r' other ∷ []) (with_key most c' r' number s)
holds-after most number other c c' r r' ns s light old some =
    let more = weight-more ns (named c' r' other) in
    with-key-by most number c' r' s (Held c r most (weight_in (ns ++ named c' r' other ∷ [])))
    (λ f is. either-truth (has_key c r (named c' r' other)) _
    (λ here. in_last f (same-number c c' r r' other s.last here ∙ is))
    (λ apart. held-more c r most (weight_in ns) _ s (omega (arith, more)) (old (was apart))))
    (λ is e. either-truth (has_key c r (named c' r' other)) _
    (λ here. in_last (told c' r' number s).number (push-here (has_key c r) s.last (told c' r' number s) (same-number c c' r r' other s.last here ∙ is) here))
    (λ apart. held-room c r most (weight_in ns) _ s (told c' r' number s) more apart (old (was apart))))
    (λ is e. either-truth (has_key c r (named c' r' other)) _
    (λ here. in_last (told c' r' number s).number (push-here (has_key c r) [] (told c' r' number s) refl here))
    (λ apart. held-turn c r most (weight_in ns) _ number s (told c' r' number s) more light (eqb-true s.room 0 e) apart (old (was apart))))
  where
    was : has_key c r (named c' r' other) ≡ false → IsSome (number_in c r ns)
    was apart = subst (λ (o : Option Named). IsSome (option_map (λ n. n.number) o)) (first-apart (has_key c r) ns (named c' r' other) apart) some

holds : (most k : ℕ) (c : List ℕ) (r : ℤ) (earlier : List Said) → weight_in (named_in (take k earlier)) ≤ most → Holds c r most (named_in (take k earlier)) (remembered most earlier)
holds most zero c r earlier light = λ some. absurd (let h : false ≡ true = some in cc)
holds most (suc k) c r [] light = λ some. absurd (let h : false ≡ true = some in cc)
holds most (suc k) c r (m ∷ earlier) light = by (ft_of m.content) light (holds most k c r earlier)
  where
    by : (f : Ft) → weight_in (named_in (take k earlier) ++ named_by (suc (length (take k earlier))) f) ≤ most
        → (weight_in (named_in (take k earlier)) ≤ most → Holds c r most (named_in (take k earlier)) (remembered most earlier))
        → Holds c r most (named_in (take k earlier) ++ named_by (suc (length (take k earlier))) f) (remembered_after most (suc (length earlier)) f (remembered most earlier))
    by absent is old = rw append-nil (old (rw append-nil at is))
    by bad is old = rw append-nil (old (rw append-nil at is))
    by (present client retention expiration) is old =
        let more = weight-more (named_in (take k earlier)) (named client retention (suc (length (take k earlier)))) in
        holds-after most (suc (length earlier)) (suc (length (take k earlier))) c client r retention (named_in (take k earlier)) (remembered most earlier) is (old (omega (arith, is, more)))

held-told : (c : List ℕ) (r : ℤ) (most weight : ℕ) (s : Memory) → Held c r most weight s → IsSome (first_in c r s)
held-told c r most weight s (in_last f is) = ap (λ (o : Option ℕ). is_some (this_or o (number_in c r s.before))) is
held-told c r most weight s (in_before f is room) = by (number_in c r s.last)
  where
    by : (o : Option ℕ) → IsSome (this_or o (number_in c r s.before))
    by None = ap (λ (o : Option ℕ). is_some o) is
    by (Some n) = refl

-- a key that one of the last messages has is told, where theirs are light
pub tells-recent : (most k : ℕ) (m : Said) (earlier : List Said) → weight_in (named_in (take k earlier)) ≤ most → IsSome (repeated (m ∷ take k earlier)) → IsSome (repeat_of most m earlier)
tells-recent most k m earlier light = by (ft_of m.content)
  where
    none-found : (f : Ft) → ((n : Named) → is_repeated f n ≡ false) → IsSome (option_map (λ n. n.number) (find (is_repeated f) (named_in (take k earlier)))) → ⊥
    none-found f none some =
        true≢false (sym some ∙ ap (λ (o : Option Named). is_some (option_map (λ n. n.number) o)) (none-passes (is_repeated f) none (named_in (take k earlier))))

    by : (f : Ft) → IsSome (option_map (λ n. n.number) (find (is_repeated f) (named_in (take k earlier)))) → IsSome (first_with f (remembered most earlier))
    by absent some = absurd (none-found absent (λ n. refl) some)
    by bad some = absurd (none-found bad (λ n. refl) some)
    by (present client retention expiration) some =
        held-told client retention most (weight_in (named_in (take k earlier))) (remembered most earlier) (holds most k client retention earlier light some)

-- of the latest message

one-tie : (s t : Tie) → Some s ≡ Some t → s ≡ t
one-tie s t e = cc

pub about-last : (p : Paired) (ms : List Said) (t : Tie) → PairsStand p ms → p.last ≡ Some t → t.request ≡ answered ms
about-last p [] t stands is = absurd (let h : None ≡ Some t = sym stands.last_is ∙ is in cc)
about-last p (m ∷ earlier) t stands is = ap (λ (t : Tie). t.request) (one-tie t (tie_of p.keyed.most m earlier) (sym is ∙ stands.last_is))

pub repeats-first : (p : Paired) (ms : List Said) (t : Tie) → PairsStand p ms → p.last ≡ Some t → p.keyed.forgot ≡ None → t.repeats ≡ repeated ms
repeats-first p [] t stands is none = absurd (let h : None ≡ Some t = sym stands.last_is ∙ is in cc)
repeats-first p (m ∷ earlier) t stands is none =
    ap (λ (t : Tie). t.repeats) (one-tie t (tie_of p.keyed.most m earlier) (sym is ∙ stands.last_is))
    ∙ tells-first p.keyed.most m earlier (sym stands.keyed_stand.forgot_is ∙ none)

pub repeats-its-key : (p : Paired) (ms : List Said) (t : Tie) → PairsStand p ms → p.last ≡ Some t → IfSome t.repeats (λ n. IsTrue (may_repeat n ms))
repeats-its-key p [] t stands is = absurd (let h : None ≡ Some t = sym stands.last_is ∙ is in cc)
repeats-its-key p (m ∷ earlier) t stands is =
    subst (λ (o : Option ℕ). IfSome o (λ n. IsTrue (may_repeat n (m ∷ earlier)))) (sym (ap (λ (t : Tie). t.repeats) (one-tie t (tie_of p.keyed.most m earlier) (sym is ∙ stands.last_is))))
    (tells-its-key p.keyed.most m earlier)

pub repeats-recent : (p : Paired) (ms : List Said) (t : Tie) → PairsStand p ms → p.last ≡ Some t → RepeatsRecent p.keyed.most ms → IsSome t.repeats
repeats-recent p [] t stands is recent = absurd recent
repeats-recent p (m ∷ earlier) t stands is recent =
    subst (λ (o : Option ℕ). IsSome o) (sym (ap (λ (t : Tie). t.repeats) (one-tie t (tie_of p.keyed.most m earlier) (sym is ∙ stands.last_is))))
    (tells-recent p.keyed.most recent.0 m earlier recent.1 recent.2)

pub forgot-none-yet : (p : Paired) (ms : List Said) → PairsStand p ms → weight_in (named_in ms) ≤ p.keyed.most → p.keyed.forgot ≡ None
forgot-none-yet p ms stands light = stands.keyed_stand.forgot_is ∙ forgets-none p.keyed.most ms light
