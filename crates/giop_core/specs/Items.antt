-- Service contexts, or profiles, one after another in octets: each is an unsigned long and octets.
use Rattle.std.specs.Prelude.{ℕ, zero, suc, List, [], ◌∷◌, map, Ok, Err}
use Rattle.std.specs.Borrow.{Bor}
use Rattle.cdr_core.specs.declared.order.Order.{Order}
use Rattle.cdr_core.specs.Parts.{ulong_value}
use Rattle.cdr_core.specs.Value as value
use Rattle.cdr_core.specs.Value.{Value, values}
use Rattle.cdr_core.specs.Reading.{Read, value_at}
use Rattle.ior_core.specs.Grammar.{tagged}
use Rattle.giop_core.specs.declared.service_context.Contexts.{Contexts}
use Rattle.giop_core.specs.Content.{tagged_of}

-- a lent item as octets
abbrev pub item_at : ℕ × Bor (List ℕ) → ℕ × List ℕ
item_at x = (x.0, x.1.now)

-- the first item and the others, as far as they read
abbrev pub items_from : Read Value → (ℕ → List ℕ → List (ℕ × List ℕ)) → List (ℕ × List ℕ)
items_from (Ok x) others = tagged_of x.0 ∷ others x.1 x.2
items_from (Err f) others = []

-- the first n items
unfoldable pub items_in : Order → ℕ → ℕ → List ℕ → List (ℕ × List ℕ)
items_in order zero o octets = []
items_in order (suc n) o octets = items_from (value_at tagged order o octets) (items_in order n)

-- the items that are left in what a message lends
abbrev pub contexts_left : Contexts → List (ℕ × List ℕ)
contexts_left c = items_in c.cursor.order c.left c.cursor.place c.cursor.rest

-- items as values

-- one item
abbrev pub tagged_value : ℕ × List ℕ → Value
tagged_value x = value.structure (values (ulong_value x.0 ∷ value.octets x.1 ∷ []))

-- a list of items
abbrev pub list_value : List (ℕ × List ℕ) → Value
list_value items = value.sequence (values (map tagged_value items))

-- a reference by its type and its profiles
abbrev pub reference_as : List ℕ → List (ℕ × List ℕ) → Value
reference_as type_id profiles = value.structure (values (value.string type_id ∷ list_value profiles ∷ []))
