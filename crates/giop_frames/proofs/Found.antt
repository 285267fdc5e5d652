-- A part found by its place.
use Rattle.std.proofs.Common.{◌≡◌, ℕ, ◌+◌, ◌<◌, Bool, true, List, [], ◌∷◌, length, get_or, set, zero, suc, Option, Some, None, is_some, refl, sym, ap, subst, ◌∙◌, inl, inr, arith}
use Rattle.std.specs.List.{position, position_from, remove}
use Rattle.std.proofs.lemmas.Iterator.Adapters.{position_from-zero}
use Rattle.giop_frames.specs.declared.partial.Key.{Key}
use Rattle.giop_frames.specs.declared.partial.Part.{Part}
use Rattle.giop_frames.specs.Fragments.{is_key}
use Rattle.giop_frames.specs.Standing.{entry_of, entries}
use Rattle.giop_frames.specs.Streams.{Entry, part_in}
use Rattle.giop_frames.specs.Private.{without}
use Rattle.giop_frames.proofs.Tables.{head-other, head-same, without-other, without-same}
use Rattle.giop_frames.proofs.Deciding.{test_key}

abbrev pub of_key : Key → Part → Bool
of_key key p = is_key p.key key

-- the part at a place is the first of that key
pub record FoundAt (key : Key) (ps : List Part) (k : ℕ) : Type 0 where
  pub below : k < length ps
  pub same : (d : Part) → (get_or ps k d).key ≡ key
  pub part : (d : Part) → part_in (entries ps) key ≡ Some (entry_of (get_or ps k d)).part
  pub rest : entries (remove ps k) ≡ without key (entries ps)

found_next : (key : Key) (p : Part) (ps : List Part) (k : ℕ) → ((p.key ≡ key) → ⊥) → FoundAt key ps k → FoundAt key (p ∷ ps) (suc k)
found_next key p ps k n f = record {
  below = omega (arith, f.below);
  same = f.same;
  part = λ d. head-other (entry_of p) (entries ps) key n ∙ f.part d;
  rest = ap (λ (qs : List Entry). entry_of p ∷ qs) f.rest ∙ sym (without-other key (entry_of p) (entries ps) n);
}

found_here : (key : Key) (p : Part) (ps : List Part) → p.key ≡ key → FoundAt key (p ∷ ps) 0
found_here key p ps e = record {
  below = omega arith;
  same = λ d. e;
  part = λ d. head-same (entry_of p) (entries ps) key e;
  rest = sym (without-same key (entry_of p) (entries ps) e);
}

found_from : (key : Key) (ps : List Part) (i k : ℕ) → position_from (of_key key) i ps ≡ Some k → (j : ℕ) × (k ≡ i + j) × FoundAt key ps j
found_from key [] i k e = absurd cc
found_from key (p ∷ ps) i k e =
    elim (test_key p.key key) [
      | inl t ↦
          let here : position_from (of_key key) i (p ∷ ps) ≡ Some i = rw t.0 refl in
          let same : i ≡ k = cc in
          (0, omega (arith, same), found_here key p ps t.1)
      | inr t ↦
          let later : position_from (of_key key) i (p ∷ ps) ≡ position_from (of_key key) (i + 1) ps = rw t.0 refl in
          let f = found_from key ps (i + 1) k (sym later ∙ e) in
          (suc f.0, omega (arith, f.1), found_next key p ps f.0 t.1 f.2)
    ]

none_from : (key : Key) (ps : List Part) (i : ℕ) → position_from (of_key key) i ps ≡ None → part_in (entries ps) key ≡ None
none_from key [] i e = refl
none_from key (p ∷ ps) i e =
    elim (test_key p.key key) [
      | inl t ↦ absurd (let here : position_from (of_key key) i (p ∷ ps) ≡ Some i = rw t.0 refl in cc)
      | inr t ↦
          let later : position_from (of_key key) i (p ∷ ps) ≡ position_from (of_key key) (i + 1) ps = rw t.0 refl in
          head-other (entry_of p) (entries ps) key t.1 ∙ none_from key ps (i + 1) (sym later ∙ e)
    ]

pub place-some : (key : Key) (ps : List Part) (k : ℕ) → position (of_key key) ps ≡ Some k → FoundAt key ps k
place-some key ps k e =
    let f = found_from key ps 0 k (sym (position_from-zero (of_key key) ps) ∙ e) in
    let same : f.0 ≡ k = omega (arith, f.1) in
    subst (FoundAt key ps) same f.2

pub place-none : (key : Key) (ps : List Part) → position (of_key key) ps ≡ None → part_in (entries ps) key ≡ None
place-none key ps e = none_from key ps 0 (sym (position_from-zero (of_key key) ps) ∙ e)

some_by : (key : Key) (ps : List Part) (o : Option ℕ) → position (of_key key) ps ≡ o → is_some o ≡ is_some (part_in (entries ps) key)
some_by key ps None e = ap is_some (sym (place-none key ps e))
some_by key ps (Some k) e = elim ps as (λ qs. FoundAt key qs k → true ≡ is_some (part_in (entries qs) key)) [ [] ↦ λ f. absurd (omega (arith, f.below)) | p ∷ qs ↦ λ f. ap is_some (sym (f.part p)) ] (place-some key ps k e)

pub place-is_some : (key : Key) (ps : List Part) → is_some (position (of_key key) ps) ≡ is_some (part_in (entries ps) key)
place-is_some key ps = some_by key ps (position (of_key key) ps) refl

-- another part in the place of one, under the same key with the same header and octets
pub entries-set : (ps : List Part) (k : ℕ) (p d : Part) → entry_of p ≡ entry_of (get_or ps k d) → entries (set ps k p) ≡ entries ps
entries-set [] k p d e = refl
entries-set (q ∷ qs) zero p d e = ap (λ (x : Entry). x ∷ entries qs) e
entries-set (q ∷ qs) (suc k) p d e = ap (λ (xs : List Entry). entry_of q ∷ xs) (entries-set qs k p d e)
