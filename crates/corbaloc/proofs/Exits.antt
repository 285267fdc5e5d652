-- What holds where a call gives nothing.
use Rattle.std.proofs.Common.{◌≡◌, Bool, true, false, Option, Some, None, Result, Ok, Err, refl}
use Rattle.std.specs.Bool.{then_some}
use Rattle.std.specs.Option.{IfNone}
use Rattle.std.specs.Result.{result_ok, OkIff}

pub at_none : {T Q : Type 0} (r : Option T) → Q → IfNone r Q
at_none (Some x) q = tt
at_none None q = q

pub unless : {T Q : Type 0} (b : Bool) (x : T) (r : Option T) → r ≡ then_some b x → (b ≡ false → Q) → IfNone r Q
unless true x r is q = rw is tt
unless false x r is q = rw is (q refl)

pub weaker : {T P Q : Type 0} (r : Option T) → (P → Q) → IfNone r P → IfNone r Q
weaker (Some x) f p = tt
weaker None f p = f p

pub at_err : {T E P Q : Type 0} (r : Result T E) (x : T) (o : Option T) → o ≡ result_ok r → OkIff r P x → ((P → ⊥) → Q) → IfNone o Q
at_err (Ok y) x o is h q = rw is tt
at_err (Err e) x o is h q = rw is (q h)
