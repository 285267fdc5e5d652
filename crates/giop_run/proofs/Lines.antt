-- The lines of what stands at the end of a list.
use Rattle.std.proofs.Common.{◌≡◌, ℕ, ◌+◌, suc, List, [], ◌∷◌, ◌++◌, length, refl, append_assoc, append-nil, arith}
use Rattle.ior_core.specs.declared.tagged.Tagged.{Tagged}
use Rattle.ior_core.specs.View.{tagged_value, tagged_values}
use Rattle.giop_run.specs.ReferenceLines.{component_line, component_lines, lines_from, profile_lines}

pub component_lines_more : (xs : List Tagged) (x : Tagged) → component_lines (tagged_values (xs ++ x ∷ [])) ≡ component_lines (tagged_values xs) ++ component_line (tagged_value x)
component_lines_more [] x = rw (append-nil) refl
component_lines_more (y ∷ ys) x = rw (component_lines_more ys x, append_assoc) refl

pub lines_from_more : (place : ℕ) (xs : List Tagged) (x : Tagged) → lines_from place (xs ++ x ∷ []) ≡ lines_from place xs ++ profile_lines (place + length xs) x
lines_from_more place [] x =
    let same : place + length {A = Tagged} [] ≡ place = omega arith in
    rw (same, append-nil) refl
lines_from_more place (y ∷ ys) x =
    let same : suc place + length ys ≡ place + length (y ∷ ys) = omega arith in
    rw (lines_from_more (suc place) ys x, append_assoc, same) refl
