-- The service context of a request that may be sent again (FT 23.2.7).
use Rattle.std.specs.Prelude.{◌≡◌, ◌≢◌, ℕ, ℤ, ◌==◌, List, [], ◌∷◌, ◌++◌, Option, Some, None, Result, Ok, Err, if◌then◌else◌}
use Rattle.std.specs.List.{AllByRecursion}
use Rattle.cdr_core.specs.declared.fault.Fault.{Fault}
use Rattle.cdr_core.specs.Encapsulation.{encapsulated}
use Rattle.cdr_core.specs.Reading.{value_at}
use Rattle.cdr_core.specs.Value.{Value}
use Rattle.giop_core.specs.declared.ft.FtField.{FtField}
use Rattle.giop_core.specs.declared.ft.FtField.TheVariants as field
use Rattle.giop_core.specs.Rows.{ft_request}
use Rattle.giop_core.specs.Content.{content_octets, integer, member, natural, parts}

-- what a request's contexts say of its client
pub data Ft : Type 0 where
  absent : Ft
  bad : Ft
  present : List ℕ → ℤ → ℕ → Ft

-- the fields of the context, where they read
abbrev pub ft_by : Result Value Fault → Ft
ft_by (Err f) = bad
ft_by (Ok v) = present (content_octets (member 0 (parts v))) (integer (member 1 (parts v))) (natural (member 2 (parts v)))

-- the octets of the first item of an id
abbrev pub first_of : ℕ → List (ℕ × List ℕ) → Option (List ℕ)
first_of id [] = None
first_of id (x ∷ xs) = if x.0 == id then Some x.1 else first_of id xs

-- octets of the context, if there is one
abbrev pub ft_of : Option (List ℕ) → Ft
ft_of None = absent
ft_of (Some octets) = ft_by (encapsulated (value_at ft_request) octets)

-- FT 23.2.7: the context of id 13, FT_REQUEST; of several the first counts (own rule)
unfoldable pub ft_in : List (ℕ × List ℕ) → Ft
ft_in contexts = ft_of (first_of 13 contexts)

-- what the code's type says
abbrev pub ft_seen : FtField → Ft
ft_seen field.Absent = absent
ft_seen field.Bad = bad
ft_seen (field.Present c r e) = present c.now r e

-- none of the items has the id
abbrev pub HasNone : ℕ → List (ℕ × List ℕ) → Type 0
HasNone id items = AllByRecursion (λ x. x.0 ≢ id) items

-- the first item of the id holds these octets
pub record IsFirst (id : ℕ) (octets : List ℕ) (items : List (ℕ × List ℕ)) : Type 0 where
  pub before : List (ℕ × List ℕ)
  pub after : List (ℕ × List ℕ)
  pub parts : items ≡ before ++ (id, octets) ∷ after
  pub none : HasNone id before
