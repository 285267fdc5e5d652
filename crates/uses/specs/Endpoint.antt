-- Texts of references.
use Rattle.std.specs.Prelude.{◌≡◌, ℕ, List, Ok}
use Rattle.cdr_core.specs.Value.{Value}
use Rattle.ior_core.specs.Text.{reference_in, text_octets}

-- the digits of the text give octets that are a reference
abbrev pub IsText : List ℕ → Type 0
IsText text = (octets : List ℕ) × (reference : Value) × (text_octets text ≡ Ok octets) × (reference_in octets ≡ Ok reference)
