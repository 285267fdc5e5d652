-- Who waits for the outcome of a parked request, once those are dropped whose connections have ended.
use Rattle.std.proofs.Common.{◌≡◌, ℕ, ◌≤◌, Bool, true, false, cond, List, [], ◌∷◌, ◌++◌, length, refl, sym, ap, ◌∙◌, arith}
use Rattle.std.specs.List.{list_all}
use Rattle.std.proofs.lemmas.Bool.{and_from, and_parts}
use Rattle.giop_core.specs.declared.request.ReplyWish.{ReplyWish}
use Rattle.giop_core.specs.declared.request.ReplyWish.TheVariants as wish
use Rattle.ft_orb.specs.declared.parked.Waiter.{Waiter}
use Rattle.ft_orb.specs.Parked.{AreOf, IsClear, is_wished, on_going}

pub wished-is : (w : ReplyWish) → (w ≡ wish.None → ⊥) → is_wished w ≡ true
wished-is wish.None apart = absurd (apart refl)
wished-is wish.Empty apart = refl
wished-is wish.Full apart = refl

module _ (goes : ℕ → Bool) where
  pub going-once : (ws : List Waiter) → on_going goes (on_going goes ws) ≡ on_going goes ws
  going-once [] = refl
  going-once (w ∷ ws) = by (goes w.connection) refl (going-once ws)
    where
      by : (b : Bool) → goes w.connection ≡ b → on_going goes (on_going goes ws) ≡ on_going goes ws → on_going goes (cond b (w ∷ on_going goes ws) (on_going goes ws)) ≡ cond b (w ∷ on_going goes ws) (on_going goes ws)
      by true is once = ap (λ (x : Bool). cond x (w ∷ on_going goes (on_going goes ws)) (on_going goes (on_going goes ws))) is ∙ ap (λ (l : List Waiter). w ∷ l) once
      by false is once = once

  pub going-few : (ws : List Waiter) → length (on_going goes ws) ≤ length ws
  going-few [] = omega arith
  going-few (w ∷ ws) = let few = going-few ws in (elim (goes w.connection) as (λ (b : Bool). length (cond b (w ∷ on_going goes ws) (on_going goes ws)) ≤ length (w ∷ ws)) [ true ↦ omega (arith, few) | false ↦ omega (arith, few) ])

  pub going-append : (ws vs : List Waiter) → on_going goes (ws ++ vs) ≡ on_going goes ws ++ on_going goes vs
  going-append [] vs = refl
  going-append (x ∷ ws) vs =
      ap (λ (l : List Waiter). cond (goes x.connection) (x ∷ l) l) (going-append ws vs)
      ∙ (elim (goes x.connection) as (λ (b : Bool). cond b (x ∷ (on_going goes ws ++ on_going goes vs)) (on_going goes ws ++ on_going goes vs) ≡ cond b (x ∷ on_going goes ws) (on_going goes ws) ++ on_going goes vs) [ true ↦ refl | false ↦ refl ])

  pub going-clear : (ws : List Waiter) → IsClear goes (on_going goes ws)
  going-clear [] = tt
  going-clear (w ∷ ws) = by (goes w.connection) refl (going-clear ws)
    where
      by : (b : Bool) → goes w.connection ≡ b → IsClear goes (on_going goes ws) → IsClear goes (cond b (w ∷ on_going goes ws) (on_going goes ws))
      by true is rest = is
      by false is rest = rest

-- what cleared a list
pub cleared-is : (goes : ℕ → Bool) (old new : List Waiter) → new ≡ on_going goes old → on_going goes new ≡ on_going goes old
cleared-is goes old new is = ap (on_going goes) is ∙ going-once goes old

-- one list more, once some were dropped whose connections have ended
pub joined-is : (goes : ℕ → Bool) (old mid new : List Waiter) (w : Waiter) → on_going goes mid ≡ on_going goes old → new ≡ mid ++ w ∷ [] → on_going goes new ≡ on_going goes (old ++ w ∷ [])
joined-is goes old mid new w same pushed =
    ap (on_going goes) pushed ∙ going-append goes mid (w ∷ []) ∙ ap (λ (l : List Waiter). l ++ on_going goes (w ∷ [])) same ∙ sym (going-append goes old (w ∷ []))

pub few-still : (goes : ℕ → Bool) (old mid : List Waiter) (most : ℕ) → on_going goes mid ≡ on_going goes old → length mid ≤ most → length (on_going goes old) ≤ most
few-still goes old mid most same few = let less = going-few goes mid in let size = ap (λ (l : List Waiter). length l) same in omega (arith, less, size, few)

-- Nobody else waits.

all-kept : (goes : ℕ → Bool) (test : Waiter → Bool) (ws : List Waiter) → list_all test ws ≡ true → list_all test (on_going goes ws) ≡ true
all-kept goes test [] h = refl
all-kept goes test (w ∷ ws) h =
    let both = and_parts (test w) (list_all test ws) h in
    let rest = all-kept goes test ws both.1 in
    (elim (goes w.connection) as (λ (b : Bool). list_all test (cond b (w ∷ on_going goes ws) (on_going goes ws)) ≡ true) [ true ↦ and_from (test w) (list_all test (on_going goes ws)) both.0 rest | false ↦ rest ])

pub all-push : (test : Waiter → Bool) (ws : List Waiter) (w : Waiter) → list_all test ws ≡ true → test w ≡ true → list_all test (ws ++ w ∷ []) ≡ true
all-push test [] w h is = and_from (test w) true is refl
all-push test (x ∷ ws) w h is = let both = and_parts (test x) (list_all test ws) h in and_from (test x) (list_all test (ws ++ w ∷ [])) both.0 (all-push test ws w both.1 is)

all-front : (test : Waiter → Bool) (ws : List Waiter) (w : Waiter) → list_all test (ws ++ w ∷ []) ≡ true → (list_all test ws ≡ true) × (test w ≡ true)
all-front test [] w h = (refl, (and_parts (test w) true h).0)
all-front test (x ∷ ws) w h = let both = and_parts (test x) (list_all test (ws ++ w ∷ [])) h in let rest = all-front test ws w both.1 in (and_from (test x) (list_all test ws) both.0 rest.0, rest.1)

pub cleared-of : (goes : ℕ → Bool) (old new : List Waiter) → new ≡ on_going goes old → AreOf old new
cleared-of goes old new is test h = ap (list_all test) is ∙ all-kept goes test old h

pub joined-of : (old mid new : List Waiter) (w : Waiter) → AreOf old mid → new ≡ mid ++ w ∷ [] → AreOf (old ++ w ∷ []) new
joined-of old mid new w of pushed test h = let both = all-front test old w h in ap (list_all test) pushed ∙ all-push test mid w (of test both.0) both.1

pub same-of : (old mid new : List Waiter) → AreOf old mid → new ≡ mid → AreOf old new
same-of old mid new of is test h = ap (list_all test) is ∙ of test h
