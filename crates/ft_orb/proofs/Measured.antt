-- The members of a system exception, as the code has them.
use Rattle.std.proofs.Common.{◌≡◌, ℕ, [], ◌∷◌, rules}
use Rattle.cdr_core.specs.View.{values_of}
use Rattle.cdr_core.specs.declared.values.Val.{the_lemmas}
use Rattle.cdr_core.specs.declared.values.Val.TheVariants.{Enum, ULong}
use Rattle.ft_objects.specs.Replies.{system_members}

pub members : (minor n : ℕ) → values_of (ULong minor ∷ Enum n ∷ []) ≡ system_members minor n
members minor n = search (rules, the_lemmas)
