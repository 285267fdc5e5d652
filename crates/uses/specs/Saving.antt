-- The object of the example of a servant with arguments and an exception: one account, and its state is its balance in cents.
use Rattle.std.specs.Prelude.{ℤ, pos, ◌+ℤ◌, int_le, Bool, ◌&&◌, List, ℕ, [], ◌∷◌, codes, Option, Some, None, if◌then◌else◌}
use Rattle.cdr_core.specs.Form as form
use Rattle.cdr_core.specs.Parts.{longlong, longlong_value}
use Rattle.cdr_core.specs.Value.{values}
use Rattle.cdr_core.specs.View.{forms}
use Rattle.ft_log.specs.Performed.{Performed, raised, returned, system}
use Rattle.ft_log.specs.declared.system_exception.Completion.TheVariants.{No}
use Rattle.ft_log.specs.declared.system_exception.SystemName.TheVariants.{BadOperation}
use Rattle.ft_objects.specs.Accessors.{longlong_of, read_at}
use Rattle.ft_objects.specs.Interfaces.{Types}
use Rattle.ft_objects.specs.Ranges.{is_in_range}
use Rattle.ft_objects.specs.Objects.{Object, meaning_of}
use Rattle.ft_objects.specs.Servants.{Meaning}

-- a long long
abbrev pub is_long_long : ℤ → Bool
is_long_long z = is_in_range form.longlong z

-- exception Overdrawn { long long balance; }
abbrev pub overdrawn_id : List ℕ
overdrawn_id = codes "IDL:Savings/Overdrawn:1.0"

-- long long deposit(in long long cents) raises (Overdrawn)
abbrev pub deposit_types : Types
deposit_types = record { arguments = forms (longlong ∷ []); results = forms (longlong ∷ []); raises = (overdrawn_id, forms (longlong ∷ [])) ∷ [] }

-- long long balance()
abbrev pub balance_types : Types
balance_types = record { arguments = forms []; results = forms (longlong ∷ []); raises = [] }

-- a balance is returned
abbrev pub tells : ℤ → Performed
tells balance = returned (values (longlong_value balance ∷ []))

-- the sum is the new balance and is returned; where it is below 0 or no long long, nothing changes and Overdrawn reports the balance
abbrev pub deposited : ℤ → ℤ → ℤ × Performed
deposited balance cents = if int_le (pos 0) (balance +ℤ cents) && is_long_long (balance +ℤ cents) then (balance +ℤ cents, tells (balance +ℤ cents)) else (balance, raised overdrawn_id (values (longlong_value balance ∷ [])))

-- the argument is there, since `deposit` is asked with arguments of its types
abbrev pub deposit : ℤ → Option ℤ → ℤ × Performed
deposit balance (Some cents) = deposited balance cents
deposit balance None = (balance, system BadOperation 0 No)

-- the object: its key is `savings`
abbrev pub savings : Object ℤ
savings =
    record {
      key = codes "savings";
      is_state = is_long_long;
      operations =
          record { name = codes "deposit"; types = deposit_types; gives = λ balance arguments. deposit balance (read_at longlong_of 0 arguments) }
          ∷ record { name = codes "balance"; types = balance_types; gives = λ balance arguments. (balance, tells balance) } ∷ [];
    }

-- what the savings mean
abbrev pub savings_meaning : Meaning ℤ
savings_meaning = meaning_of savings
