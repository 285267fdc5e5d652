-- The object of the example of a servant with an invariant and a sequence: a ledger, and its state is its entries in cents.
use Rattle.std.specs.Prelude.{ℤ, pos, ◌+ℤ◌, int_le, Bool, ◌&&◌, List, ℕ, [], ◌∷◌, ◌++◌, length, map, nat_le, nat_lt, codes, Option, Some, None, if◌then◌else◌}
use Rattle.std.specs.List.{list_all}
use Rattle.cdr_core.specs.Form as form
use Rattle.cdr_core.specs.Parts.{longlong, longlong_value}
use Rattle.cdr_core.specs.Value as value
use Rattle.cdr_core.specs.Value.{values}
use Rattle.cdr_core.specs.View.{forms}
use Rattle.ft_log.specs.Performed.{Performed, raised, returned, system}
use Rattle.ft_log.specs.declared.system_exception.Completion.TheVariants.{No}
use Rattle.ft_log.specs.declared.system_exception.SystemName.TheVariants.{BadOperation}
use Rattle.ft_objects.specs.Accessors.{longlong_of, read_at}
use Rattle.ft_objects.specs.Interfaces.{Types}
use Rattle.ft_objects.specs.Ranges.{is_in_range}
use Rattle.ft_objects.specs.Objects.{Object, meaning_of}
use Rattle.ft_objects.specs.Servants.{Meaning}

-- a long long
abbrev pub is_long_long : ℤ → Bool
is_long_long z = is_in_range form.longlong z

-- the total of the entries
abbrev pub total_of : List ℤ → ℤ
total_of [] = pos 0
total_of (cents ∷ entries) = cents +ℤ total_of entries

-- a total is a long long, and never below 0
abbrev pub is_total : ℤ → Bool
is_total z = int_le (pos 0) z && is_long_long z

-- the states: at most 1000 entries, each of them a long long, whose total is one
abbrev pub is_ledger : List ℤ → Bool
is_ledger entries = nat_le (length entries) 1000 && list_all is_long_long entries && is_total (total_of entries)

-- exception Refused { long long total; }
abbrev pub refused_id : List ℕ
refused_id = codes "IDL:Ledger/Refused:1.0"

-- long long post(in long long cents) raises (Refused)
abbrev pub post_types : Types
post_types = record { arguments = forms (longlong ∷ []); results = forms (longlong ∷ []); raises = (refused_id, forms (longlong ∷ [])) ∷ [] }

-- sequence<long long, 1000> entries()
abbrev pub entries_types : Types
entries_types = record { arguments = forms []; results = forms (form.sequence 1000 longlong ∷ []); raises = [] }

-- long long total(), and long long settle()
abbrev pub total_types : Types
total_types = record { arguments = forms []; results = forms (longlong ∷ []); raises = [] }

-- a total is returned
abbrev pub tells : ℤ → Performed
tells total = returned (values (longlong_value total ∷ []))

-- the entries are returned
abbrev pub lists : List ℤ → Performed
lists entries = returned (values (value.sequence (values (map longlong_value entries)) ∷ []))

-- Refused is raised, and reports a total
abbrev pub refuses : ℤ → Performed
refuses total = raised refused_id (values (longlong_value total ∷ []))

-- there is room for one more entry, and with these cents the total is one
abbrev pub can_post : List ℤ → ℤ → Bool
can_post entries cents = nat_lt (length entries) 1000 && is_total (total_of entries +ℤ cents)

-- the cents are the last entry, and the new total is returned; where they can't be posted nothing changes, and Refused reports the total
abbrev pub posted : List ℤ → ℤ → List ℤ × Performed
posted entries cents = if can_post entries cents then (entries ++ cents ∷ [], tells (total_of entries +ℤ cents)) else (entries, refuses (total_of entries))

-- the argument is there, since `post` is asked with arguments of its types
abbrev pub post : List ℤ → Option ℤ → List ℤ × Performed
post entries (Some cents) = posted entries cents
post entries None = (entries, system BadOperation 0 No)

-- one entry takes the place of all, and is their total
abbrev pub settled : List ℤ → List ℤ × Performed
settled entries = (total_of entries ∷ [], tells (total_of entries))

-- the object: its key is `ledger`
abbrev pub ledger : Object (List ℤ)
ledger =
    record {
      key = codes "ledger";
      is_state = is_ledger;
      operations =
          record { name = codes "post"; types = post_types; gives = λ entries arguments. post entries (read_at longlong_of 0 arguments) }
          ∷ record { name = codes "settle"; types = total_types; gives = λ entries arguments. settled entries }
          ∷ record { name = codes "entries"; types = entries_types; gives = λ entries arguments. (entries, lists entries) }
          ∷ record { name = codes "total"; types = total_types; gives = λ entries arguments. (entries, tells (total_of entries)) } ∷ [];
    }

-- what the ledger means
abbrev pub ledger_meaning : Meaning (List ℤ)
ledger_meaning = meaning_of ledger
