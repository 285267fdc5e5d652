-- The counter, whose state is its total.
use Rattle.std.specs.Prelude.{ℕ, ℤ, ◌+ℤ◌, Bool, bytes_eq, List, [], ◌∷◌, codes, Option, Some, None, if◌then◌else◌}
use Rattle.cdr_core.specs.Form as form
use Rattle.cdr_core.specs.Parts.{long, longlong, longlong_value}
use Rattle.cdr_core.specs.Value.{no_values, values}
use Rattle.cdr_core.specs.View.{forms}
use Rattle.ft_log.specs.Performed.{Performed, raised, returned, system}
use Rattle.ft_log.specs.declared.system_exception.Completion.TheVariants.{No}
use Rattle.ft_log.specs.declared.system_exception.SystemName.TheVariants.{BadOperation}
use Rattle.ft_objects.specs.Accessors.{long_of, read_at}
use Rattle.ft_objects.specs.Interfaces.{Types}
use Rattle.ft_objects.specs.Ranges.{is_in_range}
use Rattle.ft_objects.specs.Objects.{Object, meaning_of}
use Rattle.ft_objects.specs.Servants.{Meaning}

-- its object key, `c`
abbrev pub is_counter : List ℕ → Bool
is_counter key = bytes_eq key (codes "c")

-- a total is a long long
abbrev pub is_long_long : ℤ → Bool
is_long_long z = is_in_range form.longlong z

abbrev pub overflow_id : List ℕ
overflow_id = codes "IDL:Counter/Overflow:1.0"

-- long long add(in long n) raises (Overflow), and Overflow has no members
abbrev pub add_types : Types
add_types = record { arguments = forms (long ∷ []); results = forms (longlong ∷ []); raises = (overflow_id, forms []) ∷ [] }

-- long long get()
abbrev pub get_types : Types
get_types = record { arguments = forms []; results = forms (longlong ∷ []); raises = [] }

-- a total is returned
abbrev pub tells : ℤ → Performed
tells total = returned (values (longlong_value total ∷ []))

-- the sum is the new total and is returned; where it is no long long, nothing changes and Overflow is raised
abbrev pub sum_of : ℤ → ℤ → ℤ × Performed
sum_of total n = if is_long_long (total +ℤ n) then (total +ℤ n, tells (total +ℤ n)) else (total, raised overflow_id no_values)

-- the argument of `add` is there, since it is asked with arguments of its types
abbrev pub add : ℤ → Option ℤ → ℤ × Performed
add total (Some n) = sum_of total n
add total None = (total, system BadOperation 0 No)

-- the object: its key is `c`
abbrev pub counter : Object ℤ
counter =
    record {
      key = codes "c";
      is_state = is_long_long;
      operations =
          record { name = codes "add"; types = add_types; gives = λ total arguments. add total (read_at long_of 0 arguments) }
          ∷ record { name = codes "get"; types = get_types; gives = λ total arguments. (total, tells total) } ∷ [];
    }

-- what the counter means
abbrev pub counter_meaning : Meaning ℤ
counter_meaning = meaning_of counter
