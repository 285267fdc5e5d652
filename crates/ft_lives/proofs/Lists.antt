-- Lists that contain something, split at it; and keys that are one.
use Rattle.std.proofs.Common.{◌≡◌, ℕ, zero, suc, ◌<◌, Bool, true, List, [], ◌∷◌, ◌++◌, length, get_or, Contains, refl, sym, ap, subst, ◌∙◌, arith, append_assoc}
use Rattle.std.proofs.lemmas.Bool.{and_from, and_parts}
use Rattle.std.proofs.lemmas.Bool.Decides.{Decides-int_eq}
use Rattle.std.proofs.lemmas.Slice.Eq.{bytes_eq-Decides}
use Rattle.std.proofs.lemmas.List.Elements.{Contains-append_left, Contains-append_right, Contains-push}
use Rattle.std.specs.Ordering.{int_eq}
use Rattle.std.specs.Prelude.{bytes_eq}
use Rattle.ft_log.specs.Keys.{RequestKey, same_key}

module _ {X : Type 0} where
  -- what is contained stands between a front and a rest
  pub record IsSplit (xs : List X) (x : X) : Type 0 where
    pub front : List X
    pub rest : List X
    pub is : xs ≡ front ++ x ∷ rest

  split-by : (xs : List X) (x : X) (k : ℕ) → k < length xs → get_or xs k x ≡ x → IsSplit xs x
  split-by [] x k lt at = absurd (omega (arith, lt))
  split-by (y ∷ ys) x zero lt at = record { front = []; rest = ys; is = ap (λ z. z ∷ ys) at }
  split-by (y ∷ ys) x (suc k) lt at =
      let more = split-by ys x k (omega (arith, lt)) at in
      record { front = y ∷ more.front; rest = more.rest; is = ap (λ zs. y ∷ zs) more.is }

  pub split-at : (xs : List X) (x : X) → Contains xs x → IsSplit xs x
  split-at xs x there = split-by xs x there.0 there.1 there.2

  pub contains-middle : (front rest : List X) (x : X) → Contains (front ++ x ∷ rest) x
  contains-middle front rest x = Contains-append_right front (x ∷ rest) x (Contains-append_left (x ∷ []) rest x (Contains-push [] x))

  pub contains-along : (xs ys : List X) (x : X) → xs ≡ ys → Contains xs x → Contains ys x
  contains-along xs ys x is there = subst (λ (l : List X). Contains l x) is there

pub same_key-self : (key : RequestKey) → same_key key key ≡ true
same_key-self key = and_from _ _ ((bytes_eq-Decides key.client_id key.client_id).1 refl) ((Decides-int_eq key.retention_id key.retention_id).1 refl)

pub same_is : (a b : RequestKey) → same_key a b ≡ true → a ≡ b
same_is a b h =
    let parts = and_parts (bytes_eq a.client_id b.client_id) (int_eq a.retention_id b.retention_id) h in
    let client = (bytes_eq-Decides a.client_id b.client_id).0 parts.0 in
    let number = (Decides-int_eq a.retention_id b.retention_id).0 parts.1 in
    λ i. record { client_id = client i; retention_id = number i }
