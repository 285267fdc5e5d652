-- That a number which a test allows fits its type, and a sequence made of a list. Nobody has to read these proofs; they stand here since
-- those of servants cite them.
use Rattle.std.specs.Prelude.{◌≡◌, ◌<◌, ◌≤◌, ◌^◌, ℕ, suc, ℤ, Bool, true, List, [], ◌∷◌, length, map}
use Rattle.std.specs.List.{list_all}
use Rattle.std.proofs.Common.{refl, ap, arith}
use Rattle.std.proofs.lemmas.Bool.{and_parts}
use Rattle.cdr_core.specs.Fitting.{AllFit, Fits}
use Rattle.cdr_core.specs.Form as form
use Rattle.cdr_core.specs.Form.{Form, Number}
use Rattle.cdr_core.specs.Value as value
use Rattle.cdr_core.specs.Value.{Value, count, values}
use Rattle.ft_objects.specs.Ranges.{is_in_range}
use Rattle.ft_objects.specs.facts.Ranges.{range_by_test}

-- a number that the test allows fits its type
pub number_fits : (kind : Number) (z : ℤ) → is_in_range kind z ≡ true → Fits (form.number kind) (value.number kind z)
number_fits kind z h = (refl, range_by_test kind z h)

-- values made of a list fit a type, where each that a test allows does
pub each_fits : {A : Type 0} (t : Form) (make : A → Value) (good : A → Bool) → ((x : A) → good x ≡ true → Fits t (make x)) → (xs : List A) → list_all good xs ≡ true → AllFit (Fits t) (values (map make xs))
each_fits t make good each [] h = tt
each_fits t make good each (x ∷ xs) h = let both = and_parts (good x) (list_all good xs) h in (each x both.0, each_fits t make good each xs both.1)

count_map : {A : Type 0} (make : A → Value) (xs : List A) → count (values (map make xs)) ≡ length xs
count_map make [] = refl
count_map make (x ∷ xs) = ap suc (count_map make xs)

-- .. and so a sequence of them does, of no more than its bound
pub sequence_fits : {A : Type 0} (bound : ℕ) (t : Form) (make : A → Value) (good : A → Bool) → ((x : A) → good x ≡ true → Fits t (make x)) → (xs : List A) → list_all good xs ≡ true → length xs ≤ bound → length xs < 2 ^ 32
    → Fits (form.sequence bound t) (value.sequence (values (map make xs)))
sequence_fits bound t make good each xs h within small = let n = count_map make xs in (omega (arith, n), omega (arith, n), each_fits t make good each xs h)
