-- The longest front of a key among keys.
use Rattle.std.proofs.Common.{◌≡◌, ◌∙◌, ◌⊎◌, inl, inr, ◌||◌, ◌&&◌, ◌<◌, ◌≤◌, ◌++◌, ℕ, zero, suc, Bool, true, false, cond, List, [], ◌∷◌, Option, Some, None, ap, arith, bytes_eq, drop, is_some, length, length-append, map, nat_eq, nat_lt, refl, subst, sym, take, true≢false, Vec, Global}
use Rattle.std.specs.BTreeMap.{BTreeMap}
use Rattle.std.specs.Cmp.Lexicographic.{slice_cmp}
use Rattle.std.specs.List.{list_any, starts_with}
use Rattle.std.specs.Map.{keys_of}
use Rattle.std.specs.Ordering.{is_eq, nat_cmp}
use Rattle.std.proofs.Math.Bool.{or-false}
use Rattle.std.proofs.Math.Seq.{take-append_seam}
use Rattle.std.proofs.lemmas.Bool.{ltb-false, ltb-true}
use Rattle.std.proofs.lemmas.Bool.Decides.{Decides-eqb}
use Rattle.std.proofs.lemmas.List.{length-take-le, take-append-drop}
use Rattle.std.proofs.lemmas.List.Folds.{list_any-append}
use Rattle.std.proofs.lemmas.Map.Made.{is_some-lookup}
use Rattle.std.proofs.lemmas.Map.Text.{is_eq-slice_cmp}
use Rattle.std.proofs.lemmas.Slice.Eq.{bytes_eq-Decides, starts_is}
use mathlib.Core.Path.{fun_ext}
use Rattle.ft_objects.specs.Adding.{longer_front}
use Rattle.ft_objects.specs.Families.{family, known_front}
use Rattle.ft_objects.specs.Filling.{at}
use Rattle.ft_objects.proofs.Named.{list_any-map}

-- whether a key is one of these
abbrev pub is_among : List (List ℕ) → List ℕ → Bool
is_among ks own = list_any (λ k. bytes_eq own k) ks

-- the longest front of the key among these, if there is one
abbrev pub IsLongest : List ℕ → List (List ℕ) → Option (List ℕ) → Type 0
IsLongest key ks None = (own : List ℕ) → is_among ks own ≡ true → starts_with nat_eq key own ≡ false
IsLongest key ks (Some front) = (is_among ks front ≡ true) × (starts_with nat_eq key front ≡ true) × ((own : List ℕ) → is_among ks own ≡ true → starts_with nat_eq key own ≡ true → length own ≤ length front)

or_left : (a b : Bool) → a ≡ true → (a || b) ≡ true
or_left true b h = refl
or_left false b h = absurd (true≢false (sym h))

or_right : (a b : Bool) → b ≡ true → (a || b) ≡ true
or_right true b h = refl
or_right false b h = h

or_either : (a b : Bool) → (a || b) ≡ true → (a ≡ true) ⊎ (b ≡ true)
or_either true b h = inl refl
or_either false b h = inr h

-- with one more key
module _ (key : List ℕ) (ks : List (List ℕ)) (x : List ℕ) where
  among_more : (own : List ℕ) → is_among (ks ++ x ∷ []) own ≡ (is_among ks own || bytes_eq own x)
  among_more own = list_any-append (λ k. bytes_eq own k) ks (x ∷ []) ∙ ap (λ b. is_among ks own || b) (or-false (bytes_eq own x))

  kept : (own : List ℕ) → is_among ks own ≡ true → is_among (ks ++ x ∷ []) own ≡ true
  kept own h = among_more own ∙ or_left (is_among ks own) (bytes_eq own x) h

  last : is_among (ks ++ x ∷ []) x ≡ true
  last = among_more x ∙ or_right (is_among ks x) (bytes_eq x x) ((bytes_eq-Decides x x).1 refl)

  either : (own : List ℕ) → is_among (ks ++ x ∷ []) own ≡ true → (is_among ks own ≡ true) ⊎ (own ≡ x)
  either own h = by (or_either (is_among ks own) (bytes_eq own x) (sym (among_more own) ∙ h))
    where
      by : (is_among ks own ≡ true) ⊎ (bytes_eq own x ≡ true) → (is_among ks own ≡ true) ⊎ (own ≡ x)
      by (inl old) = inl old
      by (inr new) = inr ((bytes_eq-Decides own x).0 new)

  longest_more : (best : Option (List ℕ)) → IsLongest key ks best → IsLongest key (ks ++ x ∷ []) (longer_front key best x)
  longest_more None h = by (starts_with nat_eq key x) refl
    where
      by : (b : Bool) → starts_with nat_eq key x ≡ b → IsLongest key (ks ++ x ∷ []) (cond b (Some x) None)
      by true e = (last, e, λ own among starts. from own starts (either own among))
        where
          from : (own : List ℕ) → starts_with nat_eq key own ≡ true → (is_among ks own ≡ true) ⊎ (own ≡ x) → length own ≤ length x
          from own starts (inl old) = absurd (true≢false (sym starts ∙ h own old))
          from own starts (inr same) = let n = ap length same in omega (arith, n)
      by false e = λ own among. from own (either own among)
        where
          from : (own : List ℕ) → (is_among ks own ≡ true) ⊎ (own ≡ x) → starts_with nat_eq key own ≡ false
          from own (inl old) = h own old
          from own (inr same) = ap (starts_with nat_eq key) same ∙ e
  longest_more (Some front) h = by (nat_lt (length front) (length x)) (starts_with nat_eq key x) refl refl
    where
      stays : ((own : List ℕ) → own ≡ x → starts_with nat_eq key own ≡ true → length own ≤ length front) → IsLongest key (ks ++ x ∷ []) (Some front)
      stays g = (kept front h.0, h.1, λ own among starts. from own starts (either own among))
        where
          from : (own : List ℕ) → starts_with nat_eq key own ≡ true → (is_among ks own ≡ true) ⊎ (own ≡ x) → length own ≤ length front
          from own starts (inl old) = h.2 own old starts
          from own starts (inr same) = g own same starts

      by : (a b : Bool) → nat_lt (length front) (length x) ≡ a → starts_with nat_eq key x ≡ b → IsLongest key (ks ++ x ∷ []) (cond (a && b) (Some x) (Some front))
      by true true d e = (last, e, λ own among starts. from own starts (either own among))
        where
          from : (own : List ℕ) → starts_with nat_eq key own ≡ true → (is_among ks own ≡ true) ⊎ (own ≡ x) → length own ≤ length x
          from own starts (inl old) = let le = h.2 own old starts in let lt = ltb-true (length front) (length x) d in omega (arith, le, lt)
          from own starts (inr same) = let n = ap length same in omega (arith, n)
      by true false d e = stays (λ own same starts. absurd (true≢false (sym starts ∙ (ap (starts_with nat_eq key) same ∙ e))))
      by false b d e = stays (λ own same starts. let n = ap length same in let le = ltb-false (length front) (length x) d in omega (arith, n, le))

  -- the same of a list and of a front that are these
  pub longest_on : (ls : List (List ℕ)) (best next : Option (List ℕ)) → ls ≡ ks ++ x ∷ [] → next ≡ longer_front key best x → IsLongest key ks best → IsLongest key ls next
  longest_on ls best next is same h =
      let P : List (List ℕ) → Type 0 = λ all. IsLongest key all next in
      let Q : Option (List ℕ) → Type 0 = λ o. IsLongest key (ks ++ x ∷ []) o in
      subst P (sym is) (subst Q (sym same) (longest_more best h))

-- no front of at most n octets is known
front_none : (knows : List ℕ → Bool) (key : List ℕ) (n : ℕ) → ((m : ℕ) → m ≤ n → knows (take m key) ≡ false) → known_front knows key n ≡ None
front_none knows key zero none = let e : knows [] ≡ false = none 0 (omega arith) in ap (λ b. cond b (Some []) None) e
front_none knows key (suc n) none =
    let e : knows (take (suc n) key) ≡ false = none (suc n) (omega arith) in
    ap (λ b. cond b (Some (take (suc n) key)) (known_front knows key n)) e ∙ front_none knows key n (λ m le. none m (omega (arith, le)))

-- that of b octets is, and no longer one
front_some : (knows : List ℕ → Bool) (key : List ℕ) (b n : ℕ) → b ≤ n → knows (take b key) ≡ true → ((m : ℕ) → b < m → m ≤ n → knows (take m key) ≡ false) → known_front knows key n ≡ Some (take b key)
front_some knows key b zero le is none =
    let zero_is : b ≡ 0 = omega (arith, le) in
    let e : knows [] ≡ true = ap (λ m. knows (take m key)) (sym zero_is) ∙ is in
    ap (λ t. cond t (Some []) None) e ∙ ap (λ m. Some (take m key)) (sym zero_is)
front_some knows key b (suc n) le is none = by (nat_lt b (suc n)) refl (λ few. front_some knows key b n few is (λ m more le. none m more (omega (arith, le))))
  where
    by : (t : Bool) → nat_lt b (suc n) ≡ t → (b ≤ n → known_front knows key n ≡ Some (take b key)) → known_front knows key (suc n) ≡ Some (take b key)
    by true lt shorter =
        let below = ltb-true b (suc n) lt in
        let e : knows (take (suc n) key) ≡ false = none (suc n) below (omega arith) in
        ap (λ t. cond t (Some (take (suc n) key)) (known_front knows key n)) e ∙ shorter (omega (arith, below))
    by false lt shorter =
        let above = ltb-false b (suc n) lt in
        let same : b ≡ suc n = omega (arith, above, le) in
        let e : knows (take (suc n) key) ≡ true = ap (λ m. knows (take m key)) (sym same) ∙ is in
        ap (λ t. cond t (Some (take (suc n) key)) (known_front knows key n)) e ∙ ap (λ m. Some (take m key)) (sym same)

starts_take : (key : List ℕ) (m : ℕ) → starts_with nat_eq key (take m key) ≡ true
starts_take key m = (starts_is Decides-eqb key (take m key) (starts_with nat_eq key (take m key)) refl).1 (drop m key) (sym (take-append-drop m key))

not_true : (b : Bool) → (b ≡ true → ⊥) → b ≡ false
not_true true h = absurd (h refl)
not_true false h = refl

pub longest_is : (key : List ℕ) (ks : List (List ℕ)) (best : Option (List ℕ)) → IsLongest key ks best → best ≡ family (is_among ks) key
longest_is key ks None h =
    sym (front_none (is_among ks) key (length key) (λ m le. not_true (is_among ks (take m key)) (λ among. true≢false (sym (starts_take key m) ∙ h (take m key) among))))
longest_is key ks (Some front) h =
    let split = (starts_is Decides-eqb key front (starts_with nat_eq key front) refl).0 h.1 in
    let is : take (length front) key ≡ front = ap (take (length front)) split ∙ take-append_seam front (drop (length front) key) in
    let whole = ap length split in
    let fits : length front ≤ length key = omega (arith, whole, length-append front (drop (length front) key)) in
    ap Some (sym is) ∙ sym (front_some (is_among ks) key (length front) (length key) fits (ap (is_among ks) is ∙ h.0)
    (λ m more few. not_true (is_among ks (take m key)) (λ among.
    let le = h.2 (take m key) among (starts_take key m) in
    let n = length-take-le m key few in
    let no : ⊥ = omega (arith, le, n, more) in
    no)))

-- which keys a map of the code knows
pub known_among : {X : Type 0} (m : BTreeMap (Vec ℕ Global) X) → (λ (q : List ℕ). is_some (at m q)) ≡ is_among (map (λ (k : Vec ℕ Global). k.items) (keys_of m.entries))
known_among m = fun_ext (λ q.
    is_some-lookup (λ (k : Vec ℕ Global). is_eq (slice_cmp nat_cmp q k.items)) m.entries
    ∙ (ap (λ p. list_any p (keys_of m.entries)) (fun_ext (λ (k : Vec ℕ Global). is_eq-slice_cmp q k.items))
    ∙ sym (list_any-map (λ k. bytes_eq q k) (λ (k : Vec ℕ Global). k.items) (keys_of m.entries))))
