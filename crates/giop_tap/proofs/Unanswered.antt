-- The requests that wait are those that no message has answered.
use Rattle.std.proofs.Common.{◌≡◌, ℕ, suc, ◌<◌, ◌≤◌, ◌==◌, ◌||◌, Bool, true, false, not, cond, List, [], ◌∷◌, ◌++◌, length, map, Option, Some, None, is_some, refl, sym, ap, subst, ◌∙◌, true≢false, append-nil, arith}
use Rattle.std.specs.List.{AllByRecursion, filter, list_any}
use Rattle.std.proofs.lemmas.Bool.{eq-eqb}
use Rattle.std.proofs.lemmas.Bool.Decides.{nat_tests}
use Rattle.std.proofs.lemmas.List.{map-append}
use Rattle.std.proofs.lemmas.List.Elements.{filter-append, filter_agree}
use Rattle.giop_tap.specs.declared.part.Part.{Part}
use Rattle.giop_tap.specs.declared.part.Part.TheVariants.{Asks, Answers, Cancels, Apart}
use Rattle.giop_tap.specs.declared.sender.Sender.{Sender}
use Rattle.giop_tap.specs.Pairing.{Asked, Said, answers, asking, asking_by, is_about, is_answered, is_number, later_or, latest, number_of, part_of, unanswered_in, waiting, waiting_after, without_latest}
use Rattle.giop_tap.specs.Waiting.{AreRising, numbers}
use Rattle.giop_tap.proofs.Rising.{RiseBelow, rise-below}
use Rattle.giop_tap.proofs.Stacks.{all-latest}

all-kept : (p : ℕ → Bool) (ns : List ℕ) → AllByRecursion (λ n. p n ≡ true) ns → filter p ns ≡ ns
all-kept p [] all = refl
all-kept p (n ∷ ns) all = ap (λ (b : Bool). cond b (n ∷ filter p ns) (filter p ns)) all.0 ∙ ap (λ (ms : List ℕ). n ∷ ms) (all-kept p ns all.1)

twice : (p q : ℕ → Bool) (ns : List ℕ) → filter (λ n. not (p n || q n)) ns ≡ filter (λ n. not (q n)) (filter (λ n. not (p n)) ns)
twice p q [] = refl
twice p q (n ∷ ns) = by (p n) (twice p q ns)
  where
    by : (b : Bool) → filter (λ n. not (p n || q n)) ns ≡ filter (λ n. not (q n)) (filter (λ n. not (p n)) ns)
        → cond (not (b || q n)) (n ∷ filter (λ n. not (p n || q n)) ns) (filter (λ n. not (p n || q n)) ns) ≡ filter (λ n. not (q n)) (cond (not b) (n ∷ filter (λ n. not (p n)) ns) (filter (λ n. not (p n)) ns))
    by true next = next
    by false next = ap (λ (ms : List ℕ). cond (not (q n)) (n ∷ ms) ms) next

any-latest : (test : Asked → Bool) (ws : List Asked) → list_any test ws ≡ is_some (latest test ws)
any-latest test [] = refl
any-latest test (a ∷ later) = by (latest test later) (test a) (any-latest test later)
  where
    by : (o : Option Asked) (b : Bool) → list_any test later ≡ is_some o → (b || list_any test later) ≡ is_some (later_or o b a)
    by (Some w) true e = refl
    by (Some w) false e = e
    by None true e = refl
    by None false e = e

-- numbers above one are others
others-kept : (n : ℕ) (ws : List Asked) → AllByRecursion (λ b. n < b.number) ws → AllByRecursion (λ m. not (is_number m (Some n)) ≡ true) (numbers ws)
others-kept n [] all = tt
others-kept n (b ∷ ws) all = let less = all.0 in (let differ : (n == b.number) ≡ false = grind (arith, nat_tests) in ap not differ, others-kept n ws all.1)

none-out : (ws : List Asked) → AllByRecursion (λ m. not (is_number m None) ≡ true) (numbers ws)
none-out [] = tt
none-out (a ∷ ws) = (refl, none-out ws)

-- without the number of the latest
number-out : (test : Asked → Bool) (ws : List Asked) → AreRising ws → filter (λ n. not (is_number n (number_of (latest test ws)))) (numbers ws) ≡ numbers (without_latest test ws)
number-out test [] rising = refl
number-out test (a ∷ later) rising = by (latest test later) (test a) refl (number-out test later rising.1)
  where
    by : (o : Option Asked) (here : Bool) → latest test later ≡ o → filter (λ n. not (is_number n (number_of (latest test later)))) (numbers later) ≡ numbers (without_latest test later)
        → filter (λ n. not (is_number n (number_of (later_or o here a)))) (numbers (a ∷ later)) ≡ numbers (cond (list_any test later) (a ∷ without_latest test later) (cond here later (a ∷ later)))
    by (Some b) here e next =
        let less = all-latest (λ b. a.number < b.number) test later b rising.0 e in
        let differ : (b.number == a.number) ≡ false = grind (arith, nat_tests) in
        ap (λ (c : Bool). cond (not c) (a.number ∷ filter (λ n. not (is_number n (Some b.number))) (numbers later)) (filter (λ n. not (is_number n (Some b.number))) (numbers later))) differ
        ∙ ap (λ (ns : List ℕ). a.number ∷ ns) (ap (λ (o : Option Asked). filter (λ n. not (is_number n (number_of o))) (numbers later)) (sym e) ∙ next)
        ∙ sym (ap (λ (c : Bool). numbers (cond c (a ∷ without_latest test later) (cond here later (a ∷ later)))) (any-latest test later ∙ ap is_some e))
    by None true e next =
        ap (λ (c : Bool). cond (not c) (a.number ∷ filter (λ n. not (is_number n (Some a.number))) (numbers later)) (filter (λ n. not (is_number n (Some a.number))) (numbers later))) (eq-eqb a.number a.number refl)
        ∙ all-kept (λ n. not (is_number n (Some a.number))) (numbers later) (others-kept a.number later rising.0)
        ∙ sym (ap (λ (c : Bool). numbers (cond c (a ∷ without_latest test later) later)) (any-latest test later ∙ ap is_some e))
    by None false e next =
        ap (λ (ns : List ℕ). a.number ∷ ns) (all-kept (λ n. not (is_number n None)) (numbers later) (none-out later))
        ∙ sym (ap (λ (c : Bool). numbers (cond c (a ∷ without_latest test later) (a ∷ later))) (any-latest test later ∙ ap is_some e))

-- a message to come is not answered
to-come : (n : ℕ) (earlier : List Said) → length earlier < n → is_answered n earlier ≡ false
to-come n [] less = refl
to-come n (m ∷ earlier) less = by (part_of m.content) (to-come n earlier (omega arith))
  where
    other : (test : Asked → Bool) (o : Option Asked) → latest test (waiting earlier) ≡ o → is_number n (number_of o) ≡ false
    other test None e = refl
    other test (Some b) e =
        let below = all-latest (λ b. b.number < suc (length earlier)) test (waiting earlier) b ((rise-below earlier).below) e in
        let differ : (b.number == n) ≡ false = grind (arith, nat_tests) in
        differ

    by : (p : Part) → is_answered n earlier ≡ false → (is_answered n earlier || answers n p (number_of (latest (is_about m.connection m.sender p) (waiting earlier)))) ≡ false
    by (Asks kind id) e = rw e refl
    by (Answers kind id) e = rw (e, other (is_about m.connection m.sender (Answers kind id)) (latest (is_about m.connection m.sender (Answers kind id)) (waiting earlier)) refl) refl
    by (Cancels id) e = rw e refl
    by Apart e = rw e refl

or-false : (b : Bool) → not (b || false) ≡ not b
or-false true = refl
or-false false = refl

pub unanswered-wait : (earlier : List Said) → unanswered_in earlier ≡ numbers (waiting earlier)
unanswered-wait [] = refl
unanswered-wait (m ∷ earlier) = by (part_of m.content) (unanswered-wait earlier)
  where
    same : filter (λ k. not (is_answered k earlier || false)) (asking earlier) ≡ filter (λ k. not (is_answered k earlier)) (asking earlier)
    same = filter_agree (λ k. not (is_answered k earlier || false)) (λ k. not (is_answered k earlier)) (λ k. or-false (is_answered k earlier)) (asking earlier)

    by : (p : Part) → unanswered_in earlier ≡ numbers (waiting earlier)
        → filter (λ k. not (is_answered k earlier || answers k p (number_of (latest (is_about m.connection m.sender p) (waiting earlier))))) (asking earlier ++ asking_by (suc (length earlier)) p)
        ≡ numbers (waiting_after (suc (length earlier)) m.connection m.sender p (waiting earlier))
    by (Asks kind id) next =
        let n : ℕ = suc (length earlier) in
        let a : Asked = record { number = n; connection = m.connection; sender = m.sender; wanted = kind; id = id } in
        filter-append (λ k. not (is_answered k earlier || false)) (asking earlier) (n ∷ [])
        ∙ ap (λ (ns : List ℕ). ns ++ cond (not (is_answered n earlier || false)) (n ∷ []) []) (same ∙ next)
        ∙ ap (λ (b : Bool). numbers (waiting earlier) ++ cond (not (b || false)) (n ∷ []) []) (to-come n earlier (omega arith))
        ∙ sym (map-append (λ (a : Asked). a.number) (waiting earlier) (a ∷ []))
    by (Answers kind id) next =
        let test : Asked → Bool = is_about m.connection m.sender (Answers kind id) in
        let o : Option ℕ = number_of (latest test (waiting earlier)) in
        ap (filter (λ k. not (is_answered k earlier || is_number k o))) (append-nil (asking earlier))
        ∙ twice (λ k. is_answered k earlier) (λ k. is_number k o) (asking earlier)
        ∙ ap (filter (λ k. not (is_number k o))) next
        ∙ number-out test (waiting earlier) ((rise-below earlier).rise)
    by (Cancels id) next = ap (filter (λ k. not (is_answered k earlier || false))) (append-nil (asking earlier)) ∙ same ∙ next
    by Apart next = ap (filter (λ k. not (is_answered k earlier || false))) (append-nil (asking earlier)) ∙ same ∙ next
