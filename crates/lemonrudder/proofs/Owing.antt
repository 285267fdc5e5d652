-- What is written after what was due is due too, whatever of it was taken before.
use Rattle.std.proofs.Common.{◌≡◌, ℕ, ◌≤◌, min, List, ◌++◌, length, drop, Option, Some, IfSome, Result, ap, subst, arith, ◌∙◌, length-append}
use Rattle.std.proofs.lemmas.List.{drop-append-le, drop_min}
use Rattle.ft_orb.specs.declared.error.CloseError.{CloseError}
use Rattle.ft_orb.specs.declared.events.Note.{Note}
use Rattle.ft_orb.specs.Standing.{note_of_closing}

-- octets were appended: those that were taken are the same
pub grows : (n : ℕ) (before written out : List ℕ) → n ≤ length before → out ≡ before ++ written → drop n out ≡ drop n before ++ written
grows n before written out few e = ap (drop n) e ∙ drop-append-le n before written few

pub stays : (n : ℕ) (before written out : List ℕ) → n ≤ length before → out ≡ before ++ written → n ≤ length out
stays n before written out few e = let l = ap length e ∙ length-append before written in omega (arith, l)

-- what a close says, which ended so
pub closed-as : (r : Result (Unit {0}) CloseError) (note : Note) (Q : Note → Type 0) → note_of_closing r ≡ Some note → IfSome (note_of_closing r) Q → Q note
closed-as r note Q is h = subst (λ (o : Option Note). IfSome o Q) is h

-- no more is taken than there is
pub drop_taken : (xs : List ℕ) (room : ℕ) → drop (min (length xs) room) xs ≡ drop room xs
drop_taken xs room = let e : min (length xs) room ≡ min room (length xs) = omega arith in ap (λ n. drop n xs) e ∙ drop_min room xs
