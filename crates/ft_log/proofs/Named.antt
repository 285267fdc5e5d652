-- Look-ups by a name, once what stands under one name has changed.
use Rattle.std.proofs.Common.{◌≡◌, ℕ, ℤ, Bool, true, false, cond, List, Option, Some, None, unwrap_or, bytes_eq, refl, sym, ap, ◌∙◌, true≢false}
use Rattle.std.specs.Map.{lookup, IsKeyTest, AreApart, KeepsOthers}
use Rattle.std.proofs.lemmas.Slice.Eq.{bytes_eq-Decides}
use Rattle.std.specs.declared.random_state.RandomState.{RandomState}
use Rattle.indexmap.specs.IndexMap.{IndexMap, get_by}
use Rattle.ft_log.specs.Keys.{RequestKey, same_key}
use Rattle.ft_log.specs.Names.{AreEqual, is_named, named_so, equal_alike}
use Rattle.ft_log.specs.Maps.{Counts, held_at}
use Rattle.ft_log.specs.declared.name.Name.{Name}
use Rattle.ft_log.proofs.Listed.{itself, same_is}

-- what the names' own test says
abbrev pub Law : (Name → Name → Bool) → Type 0
Law eq = (x y : Name) → eq x y ≡ is_named x.client_id.items x.number y

key_test : (eq : Name → Name → Bool) → Law eq → (c : List ℕ) (m : Option ℤ) → IsKeyTest eq (is_named c m)
key_test eq law c m x y h = equal_alike c m x y h ∙ sym (law x y)

apart : (c d : List ℕ) (m n : Option ℤ) → (AreEqual c d m n → ⊥) → AreApart (is_named c m) (is_named d n)
apart c d m n differ k h = by (is_named d n k) refl
  where
    by : (b : Bool) → is_named d n k ≡ b → b ≡ false
    by true e = let a = named_so c m k h in let z = named_so d n k e in absurd (differ (record { client = a.client ∙ sym z.client; number = a.number ∙ sym z.number }))
    by false e = refl

others : {X : Type 0} (eq : Name → Name → Bool) → Law eq → (c d : List ℕ) (m n : Option ℤ) (old new : List (Name × X)) → KeepsOthers eq (is_named c m) old new → (AreEqual c d m n → ⊥)
    → lookup (is_named d n) new ≡ lookup (is_named d n) old
unfolding KeepsOthers
others {X} eq law c d m n old new keeps differ = keeps (is_named d n) (key_test eq law d n) (apart c d m n differ)

not_same : (key other : RequestKey) → same_key other key ≡ false → AreEqual key.client_id other.client_id (Some key.retention_id) (Some other.retention_id) → ⊥
not_same key other e are =
    let number : key.retention_id ≡ other.retention_id = let n = are.number in cc in
    let same : other ≡ key = λ i. record { client_id = sym are.client i; retention_id = sym number i } in
    true≢false (sym (itself key) ∙ ap (λ k. same_key k key) (sym same) ∙ e)

-- what stands under a key changed
module _ {X : Type 0} (eq : Name → Name → Bool) (law : Law eq) (m n : IndexMap Name X RandomState) (w : Option X) (key : RequestKey)
    (now : get_by (is_named key.client_id (Some key.retention_id)) n ≡ w) (keeps : KeepsOthers eq (is_named key.client_id (Some key.retention_id)) m.entries n.entries) where
  pub under_key : (other : RequestKey) → get_by (is_named other.client_id (Some other.retention_id)) n ≡ cond (same_key other key) w (get_by (is_named other.client_id (Some other.retention_id)) m)
  under_key other = by (same_key other key) refl
    where
      by : (b : Bool) → same_key other key ≡ b → get_by (is_named other.client_id (Some other.retention_id)) n ≡ cond b w (get_by (is_named other.client_id (Some other.retention_id)) m)
      by true e = ap (λ (k : RequestKey). get_by (is_named k.client_id (Some k.retention_id)) n) (same_is other key e) ∙ now
      by false e = others eq law key.client_id other.client_id (Some key.retention_id) (Some other.retention_id) m.entries n.entries keeps (not_same key other e)

-- a client's count changed
module _ (eq : Name → Name → Bool) (law : Law eq) (m n : Counts) (w : Option ℕ) (client : List ℕ)
    (now : get_by (is_named client None) n ≡ w) (keeps : KeepsOthers eq (is_named client None) m.entries n.entries) where
  pub held-client : (other : List ℕ) → held_at n other ≡ cond (bytes_eq client other) (unwrap_or w 0) (held_at m other)
  held-client other = by (bytes_eq client other) refl
    where
      by : (b : Bool) → bytes_eq client other ≡ b → held_at n other ≡ cond b (unwrap_or w 0) (held_at m other)
      by true e = ap (held_at n) (sym ((bytes_eq-Decides client other).0 e)) ∙ ap (λ o. unwrap_or o 0) now
      by false e = ap (λ o. unwrap_or o 0) (others eq law client other None None m.entries n.entries keeps (λ are. true≢false (sym ((bytes_eq-Decides client other).1 are.client) ∙ e)))
