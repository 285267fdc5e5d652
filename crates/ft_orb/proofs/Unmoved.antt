-- What is parked stays as it was, but for who waits.
use Rattle.std.proofs.Common.{◌≡◌, ◌==◌, ℕ, ◌<◌, Bool, true, false, List, length, Option, Some, None, refl, sym, ap, subst, ◌∙◌}
use Rattle.std.specs.Option.{option_map}
use Rattle.std.proofs.lemmas.Bool.{eqb-true}
use Rattle.ft_log.specs.View.{performed_in}
use Rattle.ft_log.specs.declared.outcome.Outcome.{Outcome}
use Rattle.ft_orb.specs.declared.desk.Step.{Step}
use Rattle.ft_orb.specs.declared.keeper.Repeat.{Repeat}
use Rattle.ft_orb.specs.declared.parked.Parked.{Parked}
use Rattle.ft_orb.specs.declared.pausing.Pending.{Pending}
use Rattle.ft_orb.specs.declared.waiters.Join.{Join}
use Rattle.ft_orb.specs.declared.waiters.Join.TheVariants as join
use Rattle.ft_orb.specs.Engines.{awaited_of}
use Rattle.ft_orb.specs.Parked.{JoinsAs, JoinsBy}
use Rattle.ft_orb.specs.Parking.{left_of, told_of}

-- fewer are left to wait
pub left-fewer : (old new : Option Parked) (p r : Parked) → old ≡ Some p → new ≡ Some r → length r.waiters.items < length p.waiters.items → left_of new < left_of old
left-fewer old new p r was is less = subst (λ (x : Option Parked). left_of x < left_of old) (sym is) (subst (λ (x : Option Parked). length r.waiters.items < left_of x) (sym was) less)

abbrev IsSameAt : (ℕ → Option Parked) → (ℕ → Option Parked) → ℕ → Type 0
IsSameAt old new q = (option_map (λ (x : Parked). awaited_of x.pending) (new q) ≡ option_map (λ (x : Parked). awaited_of x.pending) (old q)) × (told_of (new q) ≡ told_of (old q))

abbrev IsSameIn : (ℕ → Option Parked) → (ℕ → Option Parked) → Type 0
IsSameIn old new = (q : ℕ) → IsSameAt old new q

pub same-at : (old new : ℕ → Option Parked) (q : ℕ) → new q ≡ old q → IsSameAt old new q
same-at old new q is = (ap (λ (o : Option Parked). option_map (λ (x : Parked). awaited_of x.pending) o) is, ap (λ (o : Option Parked). told_of o) is)

-- What is parked under one number is as it was but for who waits.
pub parked-same : (old new : ℕ → Option Parked) (n : ℕ) (p r : Parked) → old n ≡ Some p → new n ≡ Some r → r.pending ≡ p.pending → r.outcome ≡ p.outcome → ((q : ℕ) → (q == n) ≡ false → new q ≡ old q) → IsSameIn old new
parked-same old new n p r was is pending outcome others q = by (q == n) refl
  where
    by : (b : Bool) → (q == n) ≡ b → IsSameAt old new q
    by true at =
        let same = eqb-true q n at in
        let here = ap new same ∙ is in
        let there = ap old same ∙ was in (
          ap (λ (o : Option Parked). option_map (λ (x : Parked). awaited_of x.pending) o) here ∙ ap (λ (w : Pending). Some (awaited_of w)) pending ∙ sym (ap (λ (o : Option Parked). option_map (λ (x : Parked). awaited_of x.pending) o) there),
          ap (λ (o : Option Parked). told_of o) here ∙ ap (λ (o : Option Outcome). option_map performed_in o) outcome ∙ sym (ap (λ (o : Option Parked). told_of o) there),
        )
    by false at = (ap (λ (o : Option Parked). option_map (λ (x : Parked). awaited_of x.pending) o) (others q at), ap (λ (o : Option Parked). told_of o) (others q at))

-- .. so a repeat that joined leaves what is parked
pub joined-parked : (old new : ℕ → Option Parked) (n most c : ℕ) (goes : ℕ → Bool) (r : Repeat) (step : Step) (mid grown : List ℕ) → JoinsAs goes most c r (old n) step (new n) mid grown → ((q : ℕ) → (q == n) ≡ false → new q ≡ old q) → IsSameIn old new
joined-parked old new n most c goes r step mid grown joins others = by (old n) refl (new n) refl joins
  where
    same-request : (p x : Parked) (j : Join) → JoinsBy goes most (record { connection = c; asker = r.asker }) p j x → (x.pending ≡ p.pending) × (x.outcome ≡ p.outcome)
    same-request p x join.Silent h = (ap (λ (y : Parked). y.pending) h.1, ap (λ (y : Parked). y.outcome) h.1)
    same-request p x join.Waits h = h.2
    same-request p x join.Full h = h.2
    same-request p x join.Memory h = h.2

    gone : old n ≡ None → new n ≡ None → IsSameIn old new
    gone was is q = at (q == n) refl
      where
        at : (b : Bool) → (q == n) ≡ b → IsSameAt old new q
        at true here =
            let same = eqb-true q n here in
            let both : new q ≡ old q = ap new same ∙ is ∙ sym was ∙ sym (ap old same) in
            (ap (λ (o : Option Parked). option_map (λ (x : Parked). awaited_of x.pending) o) both, ap (λ (o : Option Parked). told_of o) both)
        at false here = (ap (λ (o : Option Parked). option_map (λ (x : Parked). awaited_of x.pending) o) (others q here), ap (λ (o : Option Parked). told_of o) (others q here))

    by : (a : Option Parked) → old n ≡ a → (b : Option Parked) → new n ≡ b → JoinsAs goes most c r a step b mid grown → IsSameIn old new
    by None was b is h = gone was (is ∙ h.1)
    by (Some p) was None is h = absurd h
    by (Some p) was (Some x) is h = let same = same-request p x h.0 h.1 in parked-same old new n p x was is same.0 same.1 others
