-- Tests, each with what it reports.
use Rattle.std.proofs.Common.{refl, ap, ◌≡◌, ℕ, ◌<◌, ◌≤◌, ◌≢◌, ◌⊎◌, ◌==◌, nat_lt, nat_le, true, false, inl, inr}
use Rattle.giop_frames.specs.declared.partial.Key.{Key}
use Rattle.giop_frames.specs.declared.partial.Key.TheVariants.{Of11, Of12}
use Rattle.giop_frames.specs.Fragments.{is_key}
use Rattle.std.proofs.lemmas.Bool.{cases_eq, cases_lt, eq-eqb, le-leb, le-ltb, lt-leb, lt-ltb, ne_eqb}

pub test_lt : (a b : ℕ) → ((nat_lt a b ≡ true) × (a < b)) ⊎ ((nat_lt a b ≡ false) × (b ≤ a))
test_lt a b = elim (cases_lt a b) [ inl h ↦ inl (lt-ltb a b h, h) | inr h ↦ inr (le-ltb a b h, h) ]

pub test_le : (a b : ℕ) → ((nat_le a b ≡ true) × (a ≤ b)) ⊎ ((nat_le a b ≡ false) × (b < a))
test_le a b = elim (cases_lt b a) [ inl h ↦ inr (lt-leb a b h, h) | inr h ↦ inl (le-leb a b h, h) ]

pub test_eq : (a b : ℕ) → (((a == b) ≡ true) × (a ≡ b)) ⊎ (((a == b) ≡ false) × (a ≢ b))
test_eq a b = elim (cases_eq a b) [ inl h ↦ inl (eq-eqb a b h, h) | inr h ↦ inr (ne_eqb a b h, h) ]

pub test_key : (j k : Key) → ((is_key j k ≡ true) × (j ≡ k)) ⊎ ((is_key j k ≡ false) × (j ≢ k))
test_key (Of12 i) (Of12 j) = elim (test_eq i j) [ inl t ↦ inl (t.0, ap (λ (n : ℕ). Of12 n) t.1) | inr t ↦ inr (t.0, λ e. t.1 cc) ]
test_key (Of12 i) Of11 = inr (refl, λ e. cc)
test_key Of11 (Of12 j) = inr (refl, λ e. cc)
test_key Of11 Of11 = inl (refl, refl)
