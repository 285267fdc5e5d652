-- Ids that are read octet by octet.
use Rattle.std.proofs.Common.{◌≡◌, ◌≢◌, ◌∙◌, ◌⊎◌, inl, inr, ℕ, List, [], ◌∷◌, ◌++◌, length, map, Bool, true, false, nat_eq, Vec, Global, refl, ap, sym, subst, append_assoc, append-nil, arith, eq-eqb}
use Rattle.std.proofs.lemmas.Bool.{eqb-true, false≢true}
use Rattle.std.specs.List.{AllByRecursion}
use Rattle.cdr_core.specs.Spelling.{IsClean}
use Rattle.ft_objects.specs.Filling.{AreClean}
use Rattle.lemonrudder.specs.Identifies.{AreIdsOf, EndsInNoNul, with_nuls}

-- ids that were read, and octets after the last NUL
pub record HaveRead (octets : List ℕ) (ids : List (Vec ℕ Global)) (id : List ℕ) : Type 0 where
  pub spelled : octets ≡ with_nuls (map (λ x. x.items) ids) ++ id
  pub clean : AreClean (map (λ x. x.items) ids)
  pub last : IsClean id

all_push : {X : Type 0} (P : X → Type 0) (xs : List X) (x : X) → AllByRecursion P xs → P x → AllByRecursion P (xs ++ x ∷ [])
all_push P [] x all one = (one, tt)
all_push P (y ∷ ys) x all one = (all.0, all_push P ys x all.1 one)

map_push : (xs : List (Vec ℕ Global)) (x : Vec ℕ Global) → map (λ y. y.items) (xs ++ x ∷ []) ≡ map (λ y. y.items) xs ++ x.items ∷ []
map_push [] x = refl
map_push (y ∷ ys) x = ap (λ zs. y.items ∷ zs) (map_push ys x)

with_nuls-push : (xs : List (List ℕ)) (x : List ℕ) → with_nuls (xs ++ x ∷ []) ≡ with_nuls xs ++ (x ++ 0 ∷ [])
with_nuls-push [] x = refl
with_nuls-push (y ∷ ys) x = ap (λ zs. y ++ 0 ∷ zs) (with_nuls-push ys x) ∙ sym (append_assoc y (0 ∷ with_nuls ys) (x ++ 0 ∷ []))

pub read_nothing : (ids : List (Vec ℕ Global)) (id : List ℕ) → ids ≡ [] → id ≡ [] → HaveRead [] ids id
read_nothing ids id none empty = subst (λ xs. HaveRead [] xs id) (sym none) (subst (λ x. HaveRead [] [] x) (sym empty) (record { spelled = refl; clean = tt; last = tt }))

-- a NUL ends an id
pub read_nul : (octets more : List ℕ) (ids all : List (Vec ℕ Global)) (v : Vec ℕ Global) (id : List ℕ) (n : ℕ) → HaveRead octets ids v.items → more ≡ octets ++ n ∷ [] → n ≡ 0 → all ≡ ids ++ v ∷ [] → id ≡ [] → HaveRead more all id
read_nul octets more ids all v id n h is nul pushed empty =
    let names = map (λ (x : Vec ℕ Global). x.items) ids in
    let same : map (λ (x : Vec ℕ Global). x.items) all ≡ names ++ v.items ∷ [] = ap (λ xs. map (λ (x : Vec ℕ Global). x.items) xs) pushed ∙ map_push ids v in record {
      spelled = is ∙ ap (λ k. octets ++ k ∷ []) nul ∙ ap (λ xs. xs ++ 0 ∷ []) h.spelled ∙ append_assoc (with_nuls names) v.items (0 ∷ []) ∙ sym (with_nuls-push names v.items) ∙ ap with_nuls (sym same) ∙ sym (append-nil (with_nuls (map (λ (x : Vec ℕ Global). x.items) all)))
          ∙ ap (λ xs. with_nuls (map (λ (x : Vec ℕ Global). x.items) all) ++ xs) (sym empty);
      clean = subst AreClean (sym same) (all_push IsClean names v.items h.clean h.last);
      last = subst IsClean (sym empty) tt;
    }

-- another octet belongs to one
pub read_octet : (octets more : List ℕ) (ids : List (Vec ℕ Global)) (id longer : List ℕ) (n : ℕ) → HaveRead octets ids id → more ≡ octets ++ n ∷ [] → n ≢ 0 → longer ≡ id ++ n ∷ [] → HaveRead more ids longer
read_octet octets more ids id longer n h is other pushed =
    let front = with_nuls (map (λ (x : Vec ℕ Global). x.items) ids) in record {
      spelled = is ∙ ap (λ xs. xs ++ n ∷ []) h.spelled ∙ append_assoc front id (n ∷ []) ∙ ap (λ xs. front ++ xs) (sym pushed);
      clean = h.clean;
      last = subst IsClean (sym pushed) (all_push (λ x. x ≢ 0) id n h.last other);
    }

-- what has octets has a last one
last_of : (x : ℕ) (xs : List ℕ) → IsClean (x ∷ xs) → (front : List ℕ) × (last : ℕ) × (x ∷ xs ≡ front ++ last ∷ []) × (last ≢ 0)
last_of x [] clean = ([], x, refl, clean.0)
last_of x (y ∷ ys) clean = let l = last_of y ys clean.1 in (x ∷ l.0, l.1, ap (λ zs. x ∷ zs) l.2, l.3)

ends : (octets front id : List ℕ) → octets ≡ front ++ id → IsClean id → (front ≡ []) ⊎ (id ≢ []) → EndsInNoNul octets
ends octets front [] is clean (inl none) = inl (is ∙ append-nil front ∙ none)
ends octets front [] is clean (inr some) = absurd (some refl)
ends octets front (x ∷ xs) is clean some =
    let l = last_of x xs clean in
    inr (front ++ l.0, l.1, is ∙ ap (λ ys. front ++ ys) l.2 ∙ sym (append_assoc front l.0 (l.1 ∷ [])), l.3)

pub read_no_ids : (octets : List ℕ) (ids : List (Vec ℕ Global)) (id : List ℕ) → HaveRead octets ids id → (ids ≡ []) ⊎ (id ≢ []) → EndsInNoNul octets
read_no_ids octets ids id h (inl none) = ends octets (with_nuls (map (λ x. x.items) ids)) id h.spelled h.last (inl (ap (λ xs. with_nuls (map (λ (x : Vec ℕ Global). x.items) xs)) none))
read_no_ids octets ids id h (inr some) = ends octets (with_nuls (map (λ x. x.items) ids)) id h.spelled h.last (inr some)

pub read_ids : (octets : List ℕ) (ids : List (Vec ℕ Global)) (id : List ℕ) → HaveRead octets ids id → ids ≢ [] → id ≡ [] → AreIdsOf octets (map (λ x. x.items) ids)
read_ids octets ids id h some empty = record {
  some = λ none. some (no_ids ids none);
  clean = h.clean;
  spelled = h.spelled ∙ ap (λ xs. with_nuls (map (λ (x : Vec ℕ Global). x.items) ids) ++ xs) empty ∙ append-nil (with_nuls (map (λ (x : Vec ℕ Global). x.items) ids));
} where
  no_ids : (ids : List (Vec ℕ Global)) → map (λ x. x.items) ids ≡ [] → ids ≡ []
  no_ids [] none = refl
  no_ids (x ∷ xs) none = absurd cc

-- whether a vector is empty
nothing_in : {X : Type 0} (xs : List X) (n : ℕ) → n ≡ length xs → n ≡ 0 → xs ≡ []
nothing_in [] n long none = refl
nothing_in (x ∷ xs) n long none = absurd (omega arith)

something_in : {X : Type 0} (xs : List X) (n : ℕ) → n ≡ length xs → n ≢ 0 → xs ≢ []
something_in xs n long some none = some (long ∙ ap length none)

pub no_items : {X : Type 0} (v : Vec X Global) (b : Bool) → b ≡ nat_eq v.len 0 → b ≡ true → v.items ≡ []
no_items v b is held = let e : nat_eq v.len 0 ≡ true = sym is ∙ held in nothing_in v.items v.len v.ok.0 (eqb-true v.len 0 e)

pub some_items : {X : Type 0} (v : Vec X Global) (b : Bool) → b ≡ nat_eq v.len 0 → b ≡ false → v.items ≢ []
some_items v b is none = something_in v.items v.len v.ok.0 (λ e. false≢true (sym none ∙ is ∙ eq-eqb v.len 0 e))
