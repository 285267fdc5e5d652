-- Lists: fronts, what holds of each element, and one element set.
use Rattle.std.proofs.Common.{◌≡◌, ℕ, zero, suc, List, [], ◌∷◌, ◌++◌, drop, map, set, Option, Some, None, refl, ap, ◌∙◌, subst, append_assoc}
use Rattle.std.specs.List.{AllByRecursion, Contains, cons_option, filter_map, slice_get}
use Rattle.std.proofs.lemmas.List.Elements.{All-contains, All-from_recursion, Contains-append_left, Contains-append_right, Contains-push}
use Rattle.std.proofs.lemmas.Option.{none-some}
use Rattle.ft_ends.specs.Fine.{IsFront}

-- Fronts.

pub front-trans : {A : Type 0} (xs ys zs : List A) → IsFront xs ys → IsFront ys zs → IsFront xs zs
front-trans {A} xs ys zs h k = (h.0 ++ k.0, k.1 ∙ ap (λ (l : List A). l ++ k.0) h.1 ∙ append_assoc xs h.0 k.0)

-- What holds of each.

-- .. of two lists holds of each of both together
pub each-append : {A : Type 0} (P : A → Type 0) (xs ys : List A) → AllByRecursion P xs → AllByRecursion P ys → AllByRecursion P (xs ++ ys)
each-append P [] ys h k = k
each-append P (x ∷ xs) ys h k = (h.0, each-append P xs ys h.1 k)

pub each-weaker : {A : Type 0} (P Q : A → Type 0) → ((x : A) → P x → Q x) → (xs : List A) → AllByRecursion P xs → AllByRecursion Q xs
each-weaker P Q f [] h = tt
each-weaker P Q f (x ∷ xs) h = (f x h.0, each-weaker P Q f xs h.1)

pub each-left : {A : Type 0} (P : A → Type 0) (xs ys : List A) → AllByRecursion P (xs ++ ys) → AllByRecursion P xs
each-left P [] ys h = tt
each-left P (x ∷ xs) ys h = (h.0, each-left P xs ys h.1)

pub each-front : {A : Type 0} (P : A → Type 0) (xs ys : List A) → IsFront xs ys → AllByRecursion P ys → AllByRecursion P xs
each-front P xs ys front h = each-left P xs front.0 (subst (AllByRecursion P) front.1 h)

pub each-drop : {A : Type 0} (P : A → Type 0) (n : ℕ) (xs : List A) → AllByRecursion P xs → AllByRecursion P (drop n xs)
each-drop P zero xs h = h
each-drop P (suc n) [] h = tt
each-drop P (suc n) (x ∷ xs) h = each-drop P n xs h.1

pub each-map : {A B : Type 0} (f : A → B) (P : A → Type 0) (Q : B → Type 0) → ((x : A) → P x → Q (f x)) → (xs : List A) → AllByRecursion P xs → AllByRecursion Q (map f xs)
each-map f P Q g [] h = tt
each-map f P Q g (x ∷ xs) h = (g x h.0, each-map f P Q g xs h.1)

-- what a function gives, where it gives something
abbrev pub IfGiven : {B : Type 0} → (B → Type 0) → Option B → Type 0
IfGiven Q None = Unit {0}
IfGiven Q (Some y) = Q y

pub each-some : {A B : Type 0} (f : A → Option B) (P : A → Type 0) (Q : B → Type 0) → ((x : A) → P x → IfGiven Q (f x)) → (xs : List A) → AllByRecursion P xs → AllByRecursion Q (filter_map f xs)
each-some f P Q g [] h = tt
each-some {A} {B} f P Q g (x ∷ xs) h = added (f x) (g x h.0) (each-some f P Q g xs h.1)
  where
    added : (o : Option B) → IfGiven Q o → AllByRecursion Q (filter_map f xs) → AllByRecursion Q (cons_option o (filter_map f xs))
    added None k rest = rest
    added (Some y) k rest = (k, rest)

pub each-both : {A : Type 0} (P Q : A → Type 0) (xs : List A) → AllByRecursion P xs → AllByRecursion Q xs → AllByRecursion (λ x. P x × Q x) xs
each-both P Q [] h k = tt
each-both P Q (x ∷ xs) h k = ((h.0, k.0), each-both P Q xs h.1 k.1)

pub each-contains : {A : Type 0} (P : A → Type 0) (xs : List A) (x : A) → AllByRecursion P xs → Contains xs x → P x
each-contains P xs x h k = All-contains P xs x (All-from_recursion P xs h) k

pub contains-head : {A : Type 0} (x : A) (xs : List A) → Contains (x ∷ xs) x
contains-head x xs = Contains-append_left (x ∷ []) xs x (Contains-push [] x)

pub contains-tail : {A : Type 0} (x y : A) (xs : List A) → Contains xs y → Contains (x ∷ xs) y
contains-tail x y xs h = Contains-append_right (x ∷ []) xs y h

-- .. and back
pub each-within : {A : Type 0} (P : A → Type 0) (xs : List A) → ((x : A) → Contains xs x → P x) → AllByRecursion P xs
each-within P [] f = tt
each-within P (x ∷ xs) f = (f x (contains-head x xs), each-within P xs (λ y among. f y (contains-tail x y xs among)))

-- One element set.

pub set-here : {A : Type 0} (k : ℕ) (x y : A) (xs : List A) → slice_get xs k ≡ Some x → slice_get (set xs k y) k ≡ Some y
set-here k x y [] h = absurd (none-some x h)
set-here zero x y (z ∷ xs) h = refl
set-here (suc k) x y (z ∷ xs) h = set-here k x y xs h

pub set-other : {A : Type 0} (j k : ℕ) (y : A) (xs : List A) → (j ≡ k → ⊥) → slice_get (set xs k y) j ≡ slice_get xs j
set-other j k y [] h = refl
set-other zero zero y (z ∷ xs) h = absurd (h refl)
set-other zero (suc k) y (z ∷ xs) h = refl
set-other (suc j) zero y (z ∷ xs) h = refl
set-other (suc j) (suc k) y (z ∷ xs) h = set-other j k y xs (λ e. h (ap suc e))
