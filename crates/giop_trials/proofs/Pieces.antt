-- Octets that are fed piece by piece.
use Rattle.std.proofs.Common.{◌≡◌, ℕ, ◌+◌, ◌≤◌, List, ◌++◌, take, drop, sym, ap, subst, ◌∙◌, append_assoc}
use Rattle.std.proofs.Math.Seq.{take-add}
use Rattle.std.proofs.lemmas.List.{take-take}
use Rattle.giop_frames.specs.declared.limits.Limits.{Limits}
use Rattle.giop_frames.specs.Standing.{Standing, StandsFor}

-- the first n octets of a piece at the front of what is left
taken_further : (t n k : ℕ) (octets left piece : List ℕ) → left ≡ drop t octets → piece ≡ take k left → n ≤ k → take t octets ++ take n piece ≡ take (t + n) octets
taken_further t n k octets left piece rest front le =
    ap (λ (x : List ℕ). take t octets ++ take n x) front ∙ ap (λ (x : List ℕ). take t octets ++ x) (take-take n k left le) ∙ ap (λ (x : List ℕ). take t octets ++ take n x) rest ∙ sym (take-add t n octets)

-- an assembler that stands for these too stands for the octets up to there
pub stands_further : (a : Standing) (s : List ℕ) (t n k : ℕ) (octets left piece : List ℕ) → left ≡ drop t octets → piece ≡ take k left → n ≤ k → StandsFor a ((s ++ take t octets) ++ take n piece) → StandsFor a (s ++ take (t + n) octets)
stands_further a s t n k octets left piece rest front le stands =
    subst (λ (x : List ℕ). StandsFor a (s ++ x)) (taken_further t n k octets left piece rest front le) (subst (StandsFor a) (append_assoc s (take t octets) (take n piece)) stands)
