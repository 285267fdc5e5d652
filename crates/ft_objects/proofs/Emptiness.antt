-- A catalogue offers nothing just where it has no objects.
use Rattle.std.proofs.Common.{◌≡◌, ◌∙◌, ℕ, Bool, true, cond, List, [], ◌∷◌, Option, Some, ap, arith, is_some, length, refl, sym, true≢false, Vec, Global}
use Rattle.std.specs.BTreeMap.{BTreeMap, btree_map_len, is_at}
use Rattle.std.specs.Cmp.Lexicographic.{slice_cmp}
use Rattle.std.specs.Map.{lookup}
use Rattle.std.specs.Ordering.{is_eq, nat_cmp}
use Rattle.std.proofs.lemmas.Map.Text.{is_eq-slice_cmp}
use Rattle.std.proofs.lemmas.Slice.Eq.{bytes_eq-Decides}
use Rattle.ft_objects.specs.Catalogues.{Offer}
use Rattle.ft_objects.specs.Filling.{at, nothing, offer_in}
use Rattle.ft_objects.specs.declared.object.Object.{Object}

none-of : {A : Type 0} (l : List A) → length l ≡ 0 → l ≡ []
none-of [] h = refl
none-of (x ∷ l) h = absurd (omega (arith, h))

-- what entries have under a key
abbrev under : List (Vec ℕ Global × Object) → List ℕ → Option Object
under es key = lookup (is_at (λ (k : Vec ℕ Global). slice_cmp nat_cmp key k.items)) es

abbrev known : List (Vec ℕ Global × Object) → List ℕ → Bool
known es key = is_some (under es key)

at-itself : (key : List ℕ) → is_eq (slice_cmp nat_cmp key key) ≡ true
at-itself key = is_eq-slice_cmp key key ∙ (bytes_eq-Decides key key).1 refl

module _ (m : BTreeMap (Vec ℕ Global) Object) where
  pub none_offered : btree_map_len m ≡ 0 → offer_in (at m) ≡ nothing
  none_offered h = ap (λ (es : List (Vec ℕ Global × Object)). offer_in (under es)) (none-of m.entries h)

  pub none_there : offer_in (at m) ≡ nothing → btree_map_len m ≡ 0
  none_there h = by m.entries (ap (λ (o : Offer). o.knows) h)
    where
      by : (es : List (Vec ℕ Global × Object)) → known es ≡ nothing.knows → length es ≡ 0
      by [] h = refl
      by (x ∷ es) h = absurd (true≢false (sym (ap (λ b. is_some (cond b (Some x.1) (under es x.0.items))) (at-itself x.0.items)) ∙ ap (λ (f : List ℕ → Bool). f x.0.items) h))
