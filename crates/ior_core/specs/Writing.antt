-- How references and profiles are written.
use Rattle.std.specs.Prelude.{ℕ, List, ◌∷◌}
use Rattle.cdr_core.specs.declared.order.Order.TheVariants.{Big}
use Rattle.cdr_core.specs.Encapsulation.{byte_order}
use Rattle.cdr_core.specs.Value.{Value}
use Rattle.cdr_core.specs.Writing.{octets_of}

-- An encapsulation of a value, with zeros for padding. That it is big-endian is an own rule.
abbrev pub encapsulation_of : Value → List ℕ
encapsulation_of v = byte_order Big ∷ octets_of Big v 1
