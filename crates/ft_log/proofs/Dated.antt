-- An order that has the expirations of entries: its least one is theirs, and what is popped of it is one of them.
use Rattle.std.proofs.Common.{◌≡◌, ℕ, ◌+◌, ◌<◌, ◌≤◌, true, cond, nat_lt, ◌==◌, List, [], ◌∷◌, length, Option, Some, None, IfSome, IfNone, MatchOption, refl, sym, ap, ◌∙◌, arith}
use Rattle.std.specs.List.{count_by, sum_by}
use Rattle.std.proofs.lemmas.List.Sums.{sum_by-cons}
use Rattle.ft_log.specs.Dues.{dues}
use Rattle.ft_log.specs.Keys.{RequestKey, are_distinct}
use Rattle.ft_log.specs.Kept.{least_expiration, unexpired}
use Rattle.ft_log.specs.Tied.{AreDues, due_in, due_of}
use Rattle.ft_log.specs.View.{entries_at, key_of}
use Rattle.ft_log.specs.Without.{without}
use Rattle.ft_log.specs.declared.story.Entry.{Entry}
use Rattle.ft_log.specs.declared.due.Due.{Due}
use Rattle.ft_log.specs.declared.order.Order.{Order}
use Rattle.ft_log.proofs.Entries.{IsLeft, NoneBefore, all_stay, keys_at, least_is, left_from, length_sum, one, one_itself, split}

empty : {X : Type 0} (xs : List X) → length xs ≡ 0 → xs ≡ []
empty [] h = refl
empty (x ∷ xs) h = absurd (omega (arith, h))

module _ (o : Order) (es : List Entry) (dated : AreDues o es) where
  pub as_many : length (dues o) ≡ length es
  as_many = sym (length_sum (dues o)) ∙ dated (λ _. 1) ∙ length_sum es

  pub none_before : (t : ℕ) → count_by (λ d. nat_lt d.until.0 t) (dues o) ≡ 0 → NoneBefore t es
  none_before t h = sym (dated (λ p. cond (nat_lt p.0 t) 1 0)) ∙ h

  no_entries : dues o ≡ [] → es ≡ []
  no_entries h = empty es (sym as_many ∙ ap length h)

  pub least_of : (r : Option ℕ) → IfNone r (dues o ≡ []) → IfSome r (λ t. count_by (λ d. nat_lt d.until.0 t) (dues o) ≡ 0) → IfSome r (λ t. 0 < count_by (λ d. d.until.0 == t) (dues o))
      → r ≡ least_expiration (entries_at es)
  least_of None none before there = sym (ap (λ l. least_expiration (entries_at l)) (no_entries none))
  least_of (Some t) none before there = sym (least_is t es (none_before t before) (omega (arith, there, dated (λ p. cond (p.0 == t) 1 0))))

  pub stay_before : (r : Option ℕ) → IfNone r (dues o ≡ []) → IfSome r (λ t. count_by (λ d. nat_lt d.until.0 t) (dues o) ≡ 0)
      → (now : ℕ) → MatchOption r (Unit {0}) (λ t. now ≤ t) → unexpired now (entries_at es) ≡ entries_at es
  stay_before None none before now le = ap (λ l. unexpired now (entries_at l)) (no_entries none) ∙ sym (ap entries_at (no_entries none))
  stay_before (Some t) none before now le = all_stay t now es le (none_before t before)

  -- the entry of the first
  pub left_first : (due : Due) (rest : List Due) → dues o ≡ due ∷ rest → are_distinct (keys_at es) ≡ true → IsLeft due.until.0 (key_of due.key.key) es
  left_first due rest is distinct =
      let x : ℕ = due.until.0 in
      let key : RequestKey = key_of due.key.key in
      let all = ap (sum_by (λ (d : Due). one x key (due_in d))) is ∙ sum_by-cons (λ (d : Due). one x key (due_in d)) due rest in
      let there : 0 < sum_by (λ e. one x key (due_of e)) es = omega (arith, all, one_itself x key, dated (one x key)) in
      left_from x key es (split x key es there) distinct

  module _ (o' : Order) (due : Due) (sums : (f : Due → ℕ) → sum_by f (dues o') + f due ≡ sum_by f (dues o)) where
    pub left_of : are_distinct (keys_at es) ≡ true → IsLeft due.until.0 (key_of due.key.key) es
    left_of distinct =
        let x : ℕ = due.until.0 in
        let key : RequestKey = key_of due.key.key in
        let all = sums (λ d. one x key (due_in d)) in
        let there : 0 < sum_by (λ e. one x key (due_of e)) es = omega (arith, all, one_itself x key, dated (one x key)) in
        left_from x key es (split x key es there) distinct

    pub dues_left : IsLeft due.until.0 (key_of due.key.key) es → AreDues o' (without (key_of due.key.key) es)
    dues_left left f =
        let same : f (due_of left.entry) ≡ f (due_in due) = λ i. f (left.until i, left.of_key i) in
        omega (arith, same, sums (λ d. f (due_in d)), dated f, left.sums (λ e. f (due_of e)))
