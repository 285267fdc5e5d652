-- That the counter keeps a servant's promises. Nobody has to read this proof; it stands here since `impl Servant` cites it.
use Rattle.std.specs.Prelude.{ℤ, ◌+ℤ◌, IsTrue}
use Rattle.std.proofs.Common.{rules, refl, subst, sym, inl}
use Rattle.cdr_core.specs.Fitting.{FitsMembers}
use Rattle.cdr_core.specs.Form as form
use Rattle.cdr_core.specs.Value.{Values}
use Rattle.ft_objects.specs.Accessors.{long_of, read_at}
use Rattle.ft_objects.specs.facts.Accessors.{long_fits}
use Rattle.ft_objects.specs.Objects.{Suits}
use Rattle.ft_objects.specs.facts.Objects.{bounded_suits, either_suits, object_is_servant}
use Rattle.ft_objects.specs.Servants.{IsServant}
use Rattle.ft_objects.specs.facts.Results.{number_fits}
use Rattle.ft_objects.specs.facts.Sizes.{clean_by}
use Rattle.counter.specs.Counter.{add, add_types, counter, counter_meaning, is_long_long, overflow_id, sum_of}

summed : (total n : ℤ) → IsTrue (is_long_long total) → Suits is_long_long add_types (sum_of total n)
summed total n h =
    either_suits (is_long_long (total +ℤ n))
    (λ e. bounded_suits refl e (number_fits form.longlong (total +ℤ n) e, tt))
    (λ e. bounded_suits refl h (clean_by overflow_id refl, inl (refl, tt)))

added : (total : ℤ) (arguments : Values) → IsTrue (is_long_long total) → FitsMembers add_types.arguments arguments → Suits is_long_long add_types (add total (read_at long_of 0 arguments))
added total arguments h a =
    let n = long_fits add_types.arguments arguments 0 refl a in
    subst (λ m. Suits is_long_long add_types (add total m)) (sym n.1) (summed total n.0 h)

pub counter_is_servant : IsServant counter_meaning
counter_is_servant =
    object_is_servant counter (record { valid = search rules; suits = added }, (record { valid = search rules; suits = λ total arguments h a. bounded_suits refl h (number_fits form.longlong total h, tt) }, tt))
