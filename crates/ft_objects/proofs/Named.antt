-- Maps by octets, once what stands under one key has changed.
use Rattle.std.proofs.Common.{◌≡◌, ℕ, Bool, true, false, cond, List, Option, Some, None, bytes_eq, refl, sym, ap, ◌∙◌, true≢false, Vec, Global, [], ◌∷◌, map, is_some, ◌||◌}
use Rattle.std.specs.BTreeMap.{BTreeMap}
use Rattle.std.specs.Cmp.Lexicographic.{slice_cmp}
use Rattle.std.specs.Map.{IsKeyTest, AreApart, KeepsOthers}
use Rattle.std.specs.Ordering.{nat_cmp, eq_by_cmp, is_eq}
use Rattle.std.specs.declared.cmp.Ordering.{Ordering}
use Rattle.std.specs.declared.cmp.Ordering.TheVariants.{Less, Equal, Greater}
use Rattle.std.proofs.lemmas.Map.Lookups.{exact_bytes}
use Rattle.std.proofs.lemmas.Slice.Eq.{bytes_eq-Decides}
use mathlib.Core.Path.{ap₂, fun_ext}
use Rattle.std.specs.List.{list_any}
use Rattle.ft_objects.specs.Adding.{IsWhyNotHere, IsWhyNotPut}
use Rattle.ft_objects.specs.Filling.{at, changed, identified, is_a_name, is_a_types, non_existent_name, non_existent_types, offered_in}
use Rattle.ft_objects.specs.Interfaces.{Interface, operation}
use Rattle.ft_objects.specs.declared.error.InterfacesError.{InterfacesError}
use Rattle.ft_objects.specs.declared.error.InterfacesError.TheVariants.{NotValid, NoObject, RawObject, Taken, Memory}
use Rattle.ft_objects.specs.declared.object.Offered.{Offered}

-- the test of a key's octets
abbrev named : List ℕ → Vec ℕ Global → Bool
named key k = is_eq (slice_cmp nat_cmp key k.items)

eq_equal : (o : Ordering) → is_eq o ≡ true → o ≡ Equal
eq_equal Less h = absurd (true≢false (sym h))
eq_equal Equal h = refl
eq_equal Greater h = absurd (true≢false (sym h))

named_is : (key : List ℕ) (k : Vec ℕ Global) → named key k ≡ true → key ≡ k.items
named_is key k h = exact_bytes key k.items (eq_equal (slice_cmp nat_cmp key k.items) h)

key_test : (key : List ℕ) → IsKeyTest (eq_by_cmp (λ (x y : Vec ℕ Global). slice_cmp nat_cmp x.items y.items)) (named key)
key_test key x y h = ap (λ l. is_eq (slice_cmp nat_cmp l y.items)) (named_is key x h)

apart : (key q : List ℕ) → (key ≡ q → ⊥) → AreApart (named key) (named q)
apart key q differ k h = by (named q k) refl
  where
    by : (b : Bool) → named q k ≡ b → b ≡ false
    by true e = absurd (differ (named_is key k h ∙ sym (named_is q k e)))
    by false e = refl

module _ {X : Type 0} (m n : BTreeMap (Vec ℕ Global) X) (key : List ℕ) (w : Option X) (now : at n key ≡ w) (keeps : KeepsOthers (eq_by_cmp (λ (x y : Vec ℕ Global). slice_cmp nat_cmp x.items y.items)) (named key) m.entries n.entries) where
  at_each : (q : List ℕ) → at n q ≡ changed key w (at m) q
  unfolding KeepsOthers
  at_each q = by (bytes_eq q key) refl
    where
      by : (b : Bool) → bytes_eq q key ≡ b → at n q ≡ cond b w (at m q)
      by true e = ap (at n) ((bytes_eq-Decides q key).0 e) ∙ now
      by false e = keeps (named q) (key_test q) (apart key q (λ same. true≢false (sym ((bytes_eq-Decides q key).1 (sym same)) ∙ e)))

  pub at_changed : at n ≡ changed key w (at m)
  at_changed = fun_ext at_each

-- the same after a function of each value
pub changed_through : {A B : Type 0} (g : A → B) (f : List ℕ → A) (key : List ℕ) (v : A) → (λ (k : List ℕ). g (changed key v f k)) ≡ changed key (g v) (λ k. g (f k))
changed_through {A} {B} g f key v = fun_ext (λ k. by k (bytes_eq k key))
  where
    by : (k : List ℕ) (b : Bool) → g (cond b v (f k)) ≡ cond b (g v) (g (f k))
    by k true = refl
    by k false = refl

-- the value that is there already
pub changed_same : {A : Type 0} (f : List ℕ → A) (key : List ℕ) (v : A) → f key ≡ v → changed key v f ≡ f
changed_same {A} f key v is = fun_ext (λ k. by k (bytes_eq k key) refl)
  where
    by : (k : List ℕ) (b : Bool) → bytes_eq k key ≡ b → cond b v (f k) ≡ f k
    by k true e = sym is ∙ ap f (sym ((bytes_eq-Decides k key).0 e))
    by k false e = refl

-- what was there, put back
pub changed_back : {A : Type 0} (f : List ℕ → A) (key : List ℕ) (v w : A) → f key ≡ v → changed key v (changed key w f) ≡ f
changed_back {A} f key v w is = fun_ext (λ k. by k (bytes_eq k key) refl)
  where
    by : (k : List ℕ) (b : Bool) → bytes_eq k key ≡ b → cond b v (cond b w (f k)) ≡ f k
    by k true e = sym is ∙ ap f (sym ((bytes_eq-Decides k key).0 e))
    by k false e = refl

-- what each name leads to
abbrev pub leads : (List ℕ → Option Offered) → List ℕ → Interface
leads f name = offered_in (f name)

-- what each name leads to, once what stands under one has changed
pub led : (f g : List ℕ → Option Offered) (key : List ℕ) (w : Option Offered) → g ≡ changed key w f → (λ (name : List ℕ). offered_in (g name)) ≡ changed key (offered_in w) (λ name. offered_in (f name))
led f g key w e = ap leads e ∙ changed_through offered_in f key w

-- once the two operations are put in
pub led_twice : (f g h : List ℕ → Option Offered) (x y : Offered) → g ≡ changed is_a_name (Some x) f → h ≡ changed non_existent_name (Some y) g
    → offered_in (Some x) ≡ operation is_a_types → offered_in (Some y) ≡ operation non_existent_types → (λ (name : List ℕ). offered_in (h name)) ≡ identified (λ name. offered_in (f name))
led_twice f g h x y first second is_x is_y =
    led g h non_existent_name (Some y) second
    ∙ ap₂ (changed non_existent_name) is_y (led f g is_a_name (Some x) first ∙ ap (λ i. changed is_a_name i (λ name. offered_in (f name))) is_x)

pub none_is : {X : Type 0} (o : Option X) → is_some o ≡ false → o ≡ None
none_is None h = refl
none_is (Some x) h = absurd (true≢false h)

-- nothing was under the key, so that memory is why nothing was put there
pub why_put : {X : Type 0} (o : Option X) (Free : Type 0) (e : InterfacesError) → o ≡ None → Free → IsWhyNotPut o e → IsWhyNotHere false Free e
why_put None Free Taken is free why = absurd (true≢false (sym why))
why_put (Some x) Free Taken is free why = absurd (some_none x is)
  where
    some_none : {X : Type 0} (x : X) → Some x ≡ None → ⊥
    some_none x h = cc
why_put o Free Memory is free why = (refl, free)
why_put o Free NotValid is free why = absurd why
why_put o Free NoObject is free why = absurd why
why_put o Free RawObject is free why = absurd why

pub list_any-map : {A B : Type 0} (p : B → Bool) (f : A → B) (xs : List A) → list_any p (map f xs) ≡ list_any (λ x. p (f x)) xs
list_any-map p f [] = refl
list_any-map p f (x ∷ xs) = ap (λ b. p (f x) || b) (list_any-map p f xs)
