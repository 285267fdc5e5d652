-- Where reading references may run out of memory. Memory is taken for whole items of a list, and never by its count or by
-- a part of an item (own rule).
use Rattle.std.specs.Prelude.{◌≡◌, ℕ, List, ◌⊎◌}
use Rattle.cdr_core.specs.declared.order.Order.{Order}
use Rattle.cdr_core.specs.Memory.{AfterRead, StoresEach}
use Rattle.cdr_core.specs.Parts.{most, text}
use Rattle.cdr_core.specs.Reading.{length_at, value_at}
use Rattle.ior_core.specs.Grammar.{tagged}

-- of n items, one after another, one was read, whole, that ends at the place p
abbrev pub StoresItems : Order → ℕ → ℕ → List ℕ → ℕ → Type 0
StoresItems order n o octets p = StoresEach (value_at tagged order) (λ _ _ _. ⊥) n o octets p

-- the count of a list of items was read, and then such an item
abbrev pub StoresTagged : Order → ℕ → List ℕ → ℕ → Type 0
StoresTagged order o octets p = AfterRead (length_at order 0 most o octets) (λ n q rest. StoresItems order n q rest p)

-- the type id of a reference was read, and it or a profile after it ends at the place p
abbrev pub StoresReference : Order → ℕ → List ℕ → ℕ → Type 0
StoresReference order o octets p = AfterRead (value_at text order o octets) (λ _ q rest. (p ≡ q) ⊎ StoresTagged order q rest p)
