-- Calls that leave by a test are taken out one by one.
use Rattle.std.proofs.Common.{◌≡◌, ℕ, zero, suc, ◌+◌, ◌<◌, ◌≤◌, ◌==◌, nat_le, Bool, true, false, not, cond, List, [], ◌∷◌, ◌++◌, length, slice_get, slice_index_or, Some, None, refl, sym, ap, ◌∙◌, subst, arith, append_assoc}
use Rattle.std.specs.List.{AllByRecursion, remove}
use Rattle.std.proofs.lemmas.Bool.Decides.{nat_tests}
use Rattle.std.proofs.lemmas.List.{append-nil}
use Rattle.ft_client.specs.Clients.{Client, Ended, Pending, begun, completed, leaving, staying, without}
use Rattle.ft_client.specs.Lives.{AreRising, ended_count, one_if, pending_count}
use Rattle.ft_client.specs.Messages.{typed}
use Rattle.cdr_core.specs.Value.{no_values}

abbrev pub nobody : Pending
nobody = begun 0 (record { object_key = []; operation = []; arguments = no_values; expiration = 0; form = typed }) None

abbrev pub leaves : (Pending → Bool) → Pending → Bool
leaves stays p = not (stays p)

stays_is : (b : Bool) → not b ≡ false → b ≡ true
stays_is true e = refl
stays_is false e = cc

leaves_is : (b : Bool) → not b ≡ true → b ≡ false
leaves_is true e = cc
leaves_is false e = refl

module _ (stays : Pending → Bool) where
  -- the first so many stay
  abbrev pub AllStay : ℕ → List Pending → Type 0
  AllStay n ps = (j : ℕ) → j < n → leaves stays (slice_index_or ps j nobody) ≡ false

  -- one more stays
  pub one_more_stays : (n : ℕ) (ps : List Pending) → AllStay n ps → leaves stays (slice_index_or ps n nobody) ≡ false → AllStay (suc n) ps
  one_more_stays n ps h here j lt = pick (nat_le n j) refl
    where
      pick : (b : Bool) → nat_le n j ≡ b → leaves stays (slice_index_or ps j nobody) ≡ false
      pick true e = let same : n ≡ j = grind (arith, nat_tests) in subst (λ k. leaves stays (slice_index_or ps k nobody) ≡ false) same here
      pick false e = h j (grind (arith, nat_tests))

  -- without a call behind them the first are the same
  pub stay_without : (n : ℕ) (ps : List Pending) → AllStay n ps → AllStay n (remove ps n)
  stay_without n ps h j lt = ap (leaves stays) (before ps n j lt) ∙ h j lt
    where
      before : (ps : List Pending) (n j : ℕ) → j < n → slice_index_or (remove ps n) j nobody ≡ slice_index_or ps j nobody
      before [] zero j lt = absurd (omega arith)
      before [] (suc n) j lt = refl
      before (p ∷ ps) zero j lt = absurd (omega arith)
      before (p ∷ ps) (suc n) zero lt = refl
      before (p ∷ ps) (suc n) (suc j) lt = before ps n j (omega arith)

  -- What is left.

  pub staying-each : (P : Pending → Type 0) (ps : List Pending) → AllByRecursion P ps → AllByRecursion P (staying stays ps)
  staying-each P [] h = tt
  staying-each P (p ∷ ps) h =
      elim (stays p) as (λ b. AllByRecursion P (cond b (p ∷ staying stays ps) (staying stays ps)))
      [ true ↦ (h.0, staying-each P ps h.1) | false ↦ staying-each P ps h.1 ]

  pub staying-rising : (last : ℕ) (ps : List Pending) → AreRising last ps → AreRising last (staying stays ps)
  staying-rising last [] h = tt
  staying-rising last (p ∷ ps) h =
      elim (stays p) as (λ b. AreRising last (cond b (p ∷ staying stays ps) (staying stays ps)))
      [ true ↦ (h.0, staying-each (λ q. p.id < q.id) ps h.1, staying-rising last ps h.2) | false ↦ staying-rising last ps h.2 ]

  module _ (ended : Ended) where
    -- what stays, and what leaves, are all
    pub staying-count : (r : ℕ) (ps : List Pending) → pending_count r ps ≡ pending_count r (staying stays ps) + ended_count r (leaving stays ended ps)
    staying-count r [] = refl
    staying-count r (p ∷ ps) =
        let rest = staying-count r ps in
        elim (stays p) as (λ b. one_if (p.id == r) + pending_count r ps ≡ pending_count r (cond b (p ∷ staying stays ps) (staying stays ps)) + ended_count r (cond b (leaving stays ended ps) ((p.id, ended) ∷ leaving stays ended ps)))
        [ true ↦ omega (arith, rest) | false ↦ omega (arith, rest) ]

    -- a client that they have left
    abbrev pub left_by : Client → Client
    left_by m = record m { pending = staying stays m.pending; completions = m.completions ++ leaving stays ended m.pending }

    -- all stay
    pub nothing_leaves : (ps : List Pending) → AllStay (length ps) ps → (staying stays ps ≡ ps) × (leaving stays ended ps ≡ [])
    nothing_leaves [] h = (refl, refl)
    nothing_leaves (p ∷ ps) h =
        let here = stays_is (stays p) (h 0 (omega arith)) in
        let rest = nothing_leaves ps (λ j lt. h (suc j) (omega (arith, lt))) in (
          ap (λ b. cond b (p ∷ staying stays ps) (staying stays ps)) here ∙ ap (λ (qs : List Pending). p ∷ qs) rest.0,
          ap (λ b. cond b (leaving stays ended ps) ((p.id, ended) ∷ leaving stays ended ps)) here ∙ rest.1,
        )

    pub left_is : (n : ℕ) (m : Client) → AllStay n m.pending → length m.pending ≤ n → left_by m ≡ m
    left_is n m h le =
        let r = nothing_leaves m.pending (λ j lt. h j (omega (arith, lt, le))) in
        (λ i. record m { pending = r.0 i; completions = m.completions ++ r.1 i }) ∙ ap (λ cs. record m { completions = cs }) (append-nil m.completions)

    -- the first that leaves taken out
    leaves_first : (n : ℕ) (ps : List Pending) (p : Pending) → AllStay n ps → slice_get ps n ≡ Some p → leaves stays p ≡ true → (staying stays (remove ps n) ≡ staying stays ps) × ((p.id, ended) ∷ leaving stays ended (remove ps n) ≡ leaving stays ended ps)
    leaves_first n [] p h at is = absurd (cc)
    leaves_first zero (q ∷ ps) p h at is =
        let same : p ≡ q = cc in
        let off : stays q ≡ false = ap stays (sym same) ∙ leaves_is (stays p) is in
        (sym (ap (λ b. cond b (q ∷ staying stays ps) (staying stays ps)) off), ap (λ (x : Pending). (x.id, ended) ∷ leaving stays ended ps) same ∙ sym (ap (λ b. cond b (leaving stays ended ps) ((q.id, ended) ∷ leaving stays ended ps)) off))
    leaves_first (suc n) (q ∷ ps) p h at is =
        let here = stays_is (stays q) (h 0 (omega arith)) in
        let rest = leaves_first n ps p (λ j lt. h (suc j) (omega (arith, lt))) at is in (
          ap (λ b. cond b (q ∷ staying stays (remove ps n)) (staying stays (remove ps n))) here ∙ ap (λ (qs : List Pending). q ∷ qs) rest.0 ∙ sym (ap (λ b. cond b (q ∷ staying stays ps) (staying stays ps)) here),
          ap (λ b. (p.id, ended) ∷ cond b (leaving stays ended (remove ps n)) ((q.id, ended) ∷ leaving stays ended (remove ps n))) here ∙ rest.1 ∙ sym (ap (λ b. cond b (leaving stays ended ps) ((q.id, ended) ∷ leaving stays ended ps)) here),
        )

    pub left_without : (n : ℕ) (m : Client) (p : Pending) → AllStay n m.pending → slice_get m.pending n ≡ Some p → leaves stays p ≡ true → remove m.pending n ≡ without p.id m.pending → left_by (completed p.id ended m) ≡ left_by m
    left_without n m p h at is left =
        let r = leaves_first n m.pending p h at is in
        let kept : staying stays (without p.id m.pending) ≡ staying stays m.pending = ap (staying stays) (sym left) ∙ r.0 in
        let gone : (m.completions ++ (p.id, ended) ∷ []) ++ leaving stays ended (without p.id m.pending) ≡ m.completions ++ leaving stays ended m.pending =
        append_assoc m.completions ((p.id, ended) ∷ []) (leaving stays ended (without p.id m.pending)) ∙ ap (λ (qs : List Pending). m.completions ++ (p.id, ended) ∷ leaving stays ended qs) (sym left) ∙ ap (λ cs. m.completions ++ cs) r.1 in
        λ i. record m { pending = kept i; completions = gone i }
