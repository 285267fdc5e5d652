-- The object of the example of a servant: it hands out the numbers 1, 2, .., and its state is how many it gave.
use Rattle.std.specs.Prelude.{ℕ, ◌+◌, ◌^◌, ltb, Bool, bytes_eq, List, [], ◌∷◌, codes, if◌then◌else◌}
use Rattle.cdr_core.specs.Parts.{ulonglong, ulonglong_value}
use Rattle.cdr_core.specs.Value.{values}
use Rattle.cdr_core.specs.View.{forms}
use Rattle.ft_log.specs.Performed.{Performed, returned, system}
use Rattle.ft_log.specs.declared.system_exception.Completion.TheVariants.{No}
use Rattle.ft_log.specs.declared.system_exception.SystemName.TheVariants.{ImpLimit}
use Rattle.ft_objects.specs.Interfaces.{Types}
use Rattle.ft_objects.specs.Objects.{Object, meaning_of}
use Rattle.ft_objects.specs.Servants.{Meaning}

-- its object key
abbrev pub is_tickets : List ℕ → Bool
is_tickets key = bytes_eq key (codes "tickets")

-- unsigned long long next()
abbrev pub next_types : Types
next_types = record { arguments = forms []; results = forms (ulonglong ∷ []); raises = [] }

-- a number is an unsigned long long
abbrev pub is_ulonglong : ℕ → Bool
is_ulonglong n = ltb n (2 ^ 64)

-- the next number is given; where it is no unsigned long long, nothing changes and IMP_LIMIT is the outcome
abbrev pub next : ℕ → ℕ × Performed
next given = if is_ulonglong (given + 1) then (given + 1, returned (values (ulonglong_value (given + 1) ∷ []))) else (given, system ImpLimit 0 No)

-- the object: its key is `tickets`
abbrev pub tickets : Object ℕ
tickets = record { key = codes "tickets"; is_state = is_ulonglong; operations = record { name = codes "next"; types = next_types; gives = λ given arguments. next given } ∷ [] }

-- what the tickets mean: each call is one of `next`, since there is no other operation
abbrev pub tickets_meaning : Meaning ℕ
tickets_meaning = record (meaning_of tickets) { apply = λ given key name arguments. next given }
