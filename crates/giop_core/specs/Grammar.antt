-- Which octets are a message, and which have a fault: the relations that reading decides.
use Rattle.std.specs.Prelude.{◌≡◌, ℕ, ◌+◌, false, List, [], ◌∷◌, ◌++◌, length, ◌⊎◌, ⊤}
use Rattle.cdr_core.specs.declared.order.Order.{Order}
use Rattle.cdr_core.specs.Form.{Form}
use Rattle.cdr_core.specs.Numbers.{padding}
use Rattle.cdr_core.specs.Value as value
use Rattle.cdr_core.specs.Value.{Value}
use Rattle.cdr_core.specs.Spelling.{Spells, InTurn}
use Rattle.cdr_core.specs.Stopping.{Stops}
use Rattle.giop_core.specs.declared.error.MessageFault.{MessageFault}
use Rattle.giop_core.specs.declared.error.MessageFault.TheVariants.{BadAddressing, Cdr}
use Rattle.giop_core.specs.declared.header.Version.{Version}
use Rattle.giop_core.specs.declared.header.MessageKind.{MessageKind}
use Rattle.giop_core.specs.Rows.{row}
use Rattle.giop_core.specs.Content.{Content, content}
use Rattle.giop_core.specs.Messages.{is_unknown, rest_at}

-- A value of the type. A union holds one of its members: a discriminator that is none of its labels is a fault (own rule).
abbrev pub SpellsField : Form → Order → Value → ℕ → List ℕ → Type 0
SpellsField t order v o octets = Spells t order v o octets × (is_unknown v ≡ false)

-- a value of each type, one after the other
abbrev pub SpellsFields : List Form → Order → List Value → ℕ → List ℕ → Type 0
SpellsFields [] order [] o octets = octets ≡ []
SpellsFields (t ∷ ts) order (v ∷ vs) o octets = InTurn (SpellsField t order v) (SpellsFields ts order vs) o octets
SpellsFields _ order _ o octets = ⊥

-- The octets after a header are this message: a front spells the fields of its row at offset 12, and the message says
-- what they say, with the rest.
pub record IsMessage (version : Version) (kind : MessageKind) (order : Order) (octets : List ℕ) (m : Content) : Type 0 where
  pub front : List ℕ
  pub rest : List ℕ
  pub fields : List Value
  pub parts : octets ≡ front ++ rest
  pub spelled : SpellsFields (row version kind) order fields 12 front
  pub says : m ≡ content version kind fields (rest_at version kind order (12 + length front) rest)

-- The first fault of a field: that of its type; or a front of the octets is a union whose discriminator, the short at this
-- place, is none of its labels, so that it holds no member (own rule). In a row only a target is a union.
abbrev pub StopsField : Form → Order → ℕ → List ℕ → MessageFault → Type 0
StopsField t order o octets (Cdr f) = Stops t order o octets f
StopsField t order o octets (BadAddressing place) = (d : Value) × InTurn (Spells t order (value.union d value.no_values)) (λ _ _. ⊤) o octets × (place ≡ o + padding o 2)

-- the fault of the first field that has one, after fields that are spelled
abbrev pub StopsInFields : List Form → Order → ℕ → List ℕ → MessageFault → Type 0
StopsInFields [] order o octets f = ⊥
StopsInFields (t ∷ ts) order o octets f = StopsField t order o octets f ⊎ ((v : Value) × InTurn (SpellsField t order v) (λ p rest. StopsInFields ts order p rest f) o octets)

-- The octets after a header are no message, and this is their first fault: the fields of the row stop with it at offset 12.
abbrev pub StopsMessage : Version → MessageKind → Order → List ℕ → MessageFault → Type 0
StopsMessage version kind order octets f = StopsInFields (row version kind) order 12 octets f
