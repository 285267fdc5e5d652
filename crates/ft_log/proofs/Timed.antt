-- What stands under a key expires when its entry does.
use Rattle.std.proofs.Common.{◌≡◌, ℕ, ◌+◌, ◌<◌, Bool, true, false, not, ◌&&◌, ◌==◌, cond, List, [], ◌∷◌, refl, sym, ap, arith}
use Rattle.std.specs.List.{sum_by}
use Rattle.std.proofs.lemmas.Bool.{and_parts, eqb-true}
use Rattle.std.proofs.lemmas.List.Sums.{sum_by-cons}
use Rattle.ft_log.specs.Keys.{RequestKey, same_key}
use Rattle.ft_log.specs.Maps.{due_at}
use Rattle.ft_log.specs.Tied.{due_of}
use Rattle.ft_log.specs.View.{key_of}
use Rattle.ft_log.specs.Without.{without}
use Rattle.ft_log.specs.declared.name.Name.{Name}
use Rattle.ft_log.specs.declared.shelf.Kept.{Kept}
use Rattle.ft_log.specs.declared.story.Entry.{Entry}
use Rattle.ft_log.proofs.Entries.{IsLeft, one, one_itself}

-- none is of the key that is left out
pub no_one : (x : ℕ) (key : RequestKey) (e : Entry) → same_key key (key_of e.key) ≡ false → one x key (due_of e) ≡ 0
no_one x key e t = elim (e.expiration == x) as (λ b. ◌≡◌ {A = ℕ} (cond (b && same_key key (key_of e.key)) 1 0) 0) [ true ↦ ap (λ b. cond b 1 0) t | false ↦ refl ]

pub ones_left : (x : ℕ) (key : RequestKey) (es : List Entry) → sum_by (λ e. one x key (due_of e)) (without key es) ≡ 0
ones_left x key [] = refl
ones_left x key (e ∷ es) = by (same_key key (key_of e.key)) refl (ones_left x key es)
  where
    by : (b : Bool) → same_key key (key_of e.key) ≡ b → sum_by (λ z. one x key (due_of z)) (without key es) ≡ 0 → sum_by (λ z. one x key (due_of z)) (cond (not b) (e ∷ without key es) (without key es)) ≡ 0
    by true t h = h
    by false t h =
        let all = sum_by-cons (λ (z : Entry). one x key (due_of z)) e (without key es) in
        omega (arith, all, h, no_one x key e t)

pub one_is : (u x : ℕ) (s : Bool) → 0 < cond (x == u && s) 1 0 → u ≡ x
one_is u x s h = by (x == u && s) refl h
  where
    by : (b : Bool) → (x == u && s) ≡ b → 0 < cond b 1 0 → u ≡ x
    by true t k = sym (eqb-true x u (and_parts (x == u) s t).0)
    by false t k = absurd (omega (arith, k))

-- what is taken away expires when the entry that goes does
pub same_until : (u x : ℕ) (key : RequestKey) (es : List Entry) (old new : List (Name × Kept)) → IsLeft x key es
    → ((f : ℕ × RequestKey → ℕ) → sum_by (λ p. f (due_at p)) new + f (u, key) ≡ sum_by (λ p. f (due_at p)) old)
    → ((f : ℕ × RequestKey → ℕ) → sum_by (λ p. f (due_at p)) old ≡ sum_by (λ e. f (due_of e)) es) → u ≡ x
same_until u x key es old new left taken listed =
    let f : ℕ × RequestKey → ℕ = one u key in
    let entry : f (due_of left.entry) ≡ f (x, key) = λ i. f (left.until i, left.of_key i) in
    one_is u x (same_key key key) (omega (arith, taken f, one_itself u key, listed f, left.sums (λ e. f (due_of e)), entry, ones_left u key es))
