-- That the savings keep a servant's promises. Nobody has to read this proof; it stands here since `impl Servant` cites it.
use Rattle.std.specs.Prelude.{ℤ, pos, ◌+ℤ◌, int_le, IsTrue}
use Rattle.std.proofs.Common.{rules, refl, subst, sym, inl}
use Rattle.std.proofs.lemmas.Bool.{and_parts}
use Rattle.cdr_core.specs.Fitting.{FitsMembers}
use Rattle.cdr_core.specs.Form as form
use Rattle.cdr_core.specs.Value.{Values}
use Rattle.ft_objects.specs.Accessors.{longlong_of, read_at}
use Rattle.ft_objects.specs.facts.Accessors.{longlong_fits}
use Rattle.ft_objects.specs.Objects.{Suits}
use Rattle.ft_objects.specs.facts.Objects.{bounded_suits, either_suits, object_is_servant}
use Rattle.ft_objects.specs.Servants.{IsServant}
use Rattle.ft_objects.specs.facts.Results.{number_fits}
use Rattle.ft_objects.specs.facts.Sizes.{clean_by}
use Rattle.uses.specs.Saving.{deposit, deposit_types, deposited, is_long_long, overdrawn_id, savings, savings_meaning}

given_deposit : (balance cents : ℤ) → IsTrue (is_long_long balance) → Suits is_long_long deposit_types (deposited balance cents)
given_deposit balance cents h =
    either_suits _
    (λ e. let k = (and_parts (int_le (pos 0) (balance +ℤ cents)) (is_long_long (balance +ℤ cents)) e).1 in bounded_suits refl k (number_fits form.longlong (balance +ℤ cents) k, tt))
    (λ e. bounded_suits refl h (clean_by overdrawn_id refl, inl (refl, (number_fits form.longlong balance h, tt))))

deposit_suits : (balance : ℤ) (arguments : Values) → IsTrue (is_long_long balance) → FitsMembers deposit_types.arguments arguments → Suits is_long_long deposit_types (deposit balance (read_at longlong_of 0 arguments))
deposit_suits balance arguments h a =
    let cents = longlong_fits deposit_types.arguments arguments 0 refl a in
    subst (λ c. Suits is_long_long deposit_types (deposit balance c)) (sym cents.1) (given_deposit balance cents.0 h)

pub savings_are_servant : IsServant savings_meaning
savings_are_servant =
    object_is_servant savings (record { valid = search rules; suits = deposit_suits }, (record { valid = search rules; suits = λ balance arguments h a. bounded_suits refl h (number_fits form.longlong balance h, tt) }, tt))
