-- What a catalogue offers, and what it promises.
use Rattle.std.specs.Prelude.{◌≡◌, ◌↔◌, ℕ, Bool, false, List}
use Rattle.ft_objects.specs.Interfaces.{Interface, IsValidInterface, no_object}

-- which operation an object key and a name lead to, and which keys name an object
pub record Offer : Type 0 where
  pub interface : List ℕ → List ℕ → Interface
  pub knows : List ℕ → Bool

-- types are valid; and a key names no object exactly where every look-up under it says so
pub record IsOffer (o : Offer) : Type 0 where
  pub valid : (key operation : List ℕ) → IsValidInterface (o.interface key operation)
  pub absent : (key : List ℕ) → (o.knows key ≡ false) ↔ ((operation : List ℕ) → o.interface key operation ≡ no_object)
