-- Texts are cut in one way.
use Rattle.std.proofs.Common.{◌≡◌, ◌≢◌, ℕ, suc, ◌<◌, List, [], ◌∷◌, ◌++◌, length, get_or, take, drop, ◌⊎◌, inl, inr, refl, sym, ap, ◌∙◌, subst, arith}
use Rattle.std.proofs.Math.Seq.{drop-cons}
use Rattle.std.proofs.lemmas.List.{get_or-take, take-append-drop, length-take}
use Rattle.corbaloc.specs.Grammar.{IsCut, IsFree, IsUntil}

module _ (mark : ℕ) where
  free_tail : (x : ℕ) (text : List ℕ) → IsFree mark (x ∷ text) → IsFree mark text
  free_tail x text free = λ i within. free (suc i) (omega (arith, within))

  free_head : (x : ℕ) (text : List ℕ) → IsFree mark (x ∷ text) → x ≢ mark
  free_head x text free = free 0 (omega arith)

  parts_once : (a c b d : List ℕ) → IsFree mark a → IsFree mark c → a ++ mark ∷ b ≡ c ++ mark ∷ d → (a ≡ c) × (b ≡ d)
  parts_once [] [] b d f g e = (refl, cc)
  parts_once [] (y ∷ c) b d f g e =
      let head : y ≡ mark = cc in
      absurd (free_head y c g head)
  parts_once (x ∷ a) [] b d f g e =
      let head : x ≡ mark = cc in
      absurd (free_head x a f head)
  parts_once (x ∷ a) (y ∷ c) b d f g e =
      let head : x ≡ y = cc in
      let tail : a ++ mark ∷ b ≡ c ++ mark ∷ d = cc in
      let parts = parts_once a c b d (free_tail x a f) (free_tail y c g) tail in
      let first : a ≡ c = parts.0 in
      (cc, parts.1)

  no_mark : (a b : List ℕ) → IsFree mark (a ++ mark ∷ b) → ⊥
  no_mark [] b free = free_head mark b free refl
  no_mark (x ∷ a) b free = no_mark a b (free_tail x (a ++ mark ∷ b) free)

  -- a text is cut at its first mark alone
  pub cut_once : (text a b c d : List ℕ) → IsCut mark text a b → IsCut mark text c d → (a ≡ c) × (b ≡ d)
  cut_once text a b c d one other = parts_once a c b d one.1 other.1 (sym one.0 ∙ other.0)

  -- a text without the mark is not cut
  pub free_not_cut : (text a b : List ℕ) → IsFree mark text → IsCut mark text a b → ⊥
  free_not_cut text a b free cut = no_mark a b (subst (IsFree mark) cut.0 free)

  -- what may follow a part that ends before a mark
  abbrev pub Follows : List ℕ → Type 0
  Follows rest = (rest ≡ []) ⊎ ((more : List ℕ) × (rest ≡ mark ∷ more))

  not_follows : (y : ℕ) (c d b : List ℕ) → y ≢ mark → Follows b → b ≡ y ∷ (c ++ d) → ⊥
  not_follows y c d b other (inl h) e = absurd cc
  not_follows y c d b other (inr h) e =
      let is : b ≡ mark ∷ h.0 = h.1 in
      let head : y ≡ mark = cc in
      other head

  untils_once : (a c b d : List ℕ) → IsFree mark a → IsFree mark c → Follows b → Follows d → a ++ b ≡ c ++ d → (a ≡ c) × (b ≡ d)
  untils_once [] [] b d f g p q e = (refl, e)
  untils_once [] (y ∷ c) b d f g p q e = absurd (not_follows y c d b (free_head y c g) p e)
  untils_once (x ∷ a) [] b d f g p q e = absurd (not_follows x a b d (free_head x a f) q (sym e))
  untils_once (x ∷ a) (y ∷ c) b d f g p q e =
      let head : x ≡ y = cc in
      let tail : a ++ b ≡ c ++ d = cc in
      let parts = untils_once a c b d (free_tail x a f) (free_tail y c g) p q tail in
      let first : a ≡ c = parts.0 in
      (cc, parts.1)

  -- a text has one part before its first mark
  pub until_once : (text a b c d : List ℕ) → IsUntil mark text a b → IsUntil mark text c d → (a ≡ c) × (b ≡ d)
  until_once text a b c d one other = untils_once a c b d one.1 other.1 one.2 other.2 (sym one.0 ∙ other.0)

  -- what is before the first mark, and what follows from there on
  pub until_at : (text first rest : List ℕ) (at : ℕ) → first ≡ take at text → rest ≡ drop at text → (at < length text) × (get_or text at 0 ≡ mark) × ((i : ℕ) → i < at → get_or text i 0 ≢ mark) → IsUntil mark text first rest
  until_at text first rest at front back h =
      (sym (take-append-drop at text) ∙ cc, λ i within is. h.2 i (below i within) (sym (get_or-take at text i 0 (below i within)) ∙ cc), inr (drop (suc at) text, back ∙ (drop-cons text at 0 h.0 ∙ cc)))
    where
      below : (i : ℕ) → i < length first → i < at
      below i within = omega (arith, ap length front, length-take at text)
