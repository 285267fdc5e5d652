-- Messages by the table of their rows, read from left to right.
use Rattle.std.specs.Prelude.{◌≡◌, ℕ, ◌+◌, ◌<◌, ◌≤◌, Bool, true, false, List, [], ◌∷◌, ◌++◌, drop, length, ◌⊎◌, Result, Ok, Err, ⊤, if◌then◌else◌}
use Rattle.cdr_core.specs.declared.order.Order.{Order}
use Rattle.cdr_core.specs.Form.{Form}
use Rattle.cdr_core.specs.Value as value
use Rattle.cdr_core.specs.Value.{Value}
use Rattle.cdr_core.specs.Numbers.{padding}
use Rattle.cdr_core.specs.Reading.{Read, value_at}
use Rattle.giop_core.specs.declared.header.Version.{Version}
use Rattle.giop_core.specs.declared.header.Version.TheVariants.{V12}
use Rattle.giop_core.specs.declared.header.MessageKind.{MessageKind}
use Rattle.giop_core.specs.declared.header.MessageKind.TheVariants.{Request, Reply}
use Rattle.giop_core.specs.declared.error.MessageFault.{MessageFault}
use Rattle.giop_core.specs.declared.error.MessageFault.TheVariants.{Cdr, BadAddressing}
use Rattle.giop_core.specs.Rows.{row}
use Rattle.giop_core.specs.Content.{Content, Rest, content, locate_reply, reply, request}

infixl 10 ◌>>=◌
abbrev pub ◌>>=◌ : {A B : Type 0} → Result A MessageFault → (A → Result B MessageFault) → Result B MessageFault
(Ok x) >>= f = f x
(Err e) >>= f = Err e

-- what reading gives: a value, the place after it and the octets that are left, or the first fault
abbrev pub Found : Type 0 → Type 0
Found A = Result (A × ℕ × List ℕ) MessageFault

-- whether it is a union whose discriminator is none of its labels
abbrev pub is_unknown : Value → Bool
is_unknown (value.union d value.no_values) = true
is_unknown _ = false

-- An unknown discriminator is a fault at its place, which is the place of the field (own rule).
abbrev pub unless_unknown : ℕ → Read Value → Found Value
unless_unknown place (Err f) = Err (Cdr f)
unless_unknown place (Ok x) = if is_unknown x.0 then Err (BadAddressing place) else Ok x

-- a field; a discriminator is a short, which stands at a place divisible by 2
abbrev pub field_at : Form → Order → ℕ → List ℕ → Found Value
field_at t order o octets = unless_unknown (o + padding o 2) (value_at t order o octets)

-- fields one after the other
abbrev pub fields_at : List Form → Order → ℕ → List ℕ → Found (List Value)
fields_at [] order o octets = Ok ([], o, octets)
fields_at (t ∷ ts) order o octets = do
  x ← field_at t order o octets
  xs ← fields_at ts order x.1 x.2
  Ok (x.0 ∷ xs.0, xs.1, xs.2)

-- the octets after the fields as they are
abbrev pub directly : Order → ℕ → List ℕ → Rest
directly order place rest = record { order = order; place = place; octets = rest }

-- GIOP 9.4.2, GIOP 9.4.3: a body of 1.2 stands at the next place divisible by 8; where the octets end before it the body is
-- empty (own rule)
abbrev pub aligned : Order → ℕ → List ℕ → Rest
aligned order place rest = record { order = order; place = place + padding place 8; octets = drop (padding place 8) rest }

-- the octets after the fields, by version and kind
abbrev pub rest_at : Version → MessageKind → Order → ℕ → List ℕ → Rest
rest_at V12 Request order place rest = aligned order place rest
rest_at V12 Reply order place rest = aligned order place rest
rest_at _ _ order place rest = directly order place rest

-- What the octets after a header say in a version and kind, or the first fault. Octets after the fields of a message with
-- no body are ignored (own rule).
unfoldable pub message_of : Version → MessageKind → Order → List ℕ → Result Content MessageFault
message_of version kind order octets = do
  x ← fields_at (row version kind) order 12 octets
  Ok (content version kind x.0 (rest_at version kind order x.1 x.2))

-- P holds of the body of a message, if it has one
abbrev pub OnBody : (Rest → Type 0) → Content → Type 0
OnBody P (request id wish to operation contexts r) = P r
OnBody P (reply id status contexts r) = P r
OnBody P (locate_reply id status r) = P r
OnBody P _ = ⊤

-- A body stands at most 7 octets of padding past the end of the octets after the header, and has no more octets than they.
abbrev pub StandsNear : List ℕ → Rest → Type 0
StandsNear octets r = (r.place ≤ 12 + length octets + 7) × (length r.octets ≤ length octets)

-- A body is a back part of the octets after the header, and stands there. Only in 1.2, where the octets end in the padding
-- before it, it is empty and may stand past their end, by less than 8.
pub record IsBack (version : Version) (octets : List ℕ) (r : Rest) : Type 0 where
  pub front : List ℕ
  pub parts : octets ≡ front ++ r.octets
  pub place : (r.place ≡ 12 + length front) ⊎ ((version ≡ V12) × (r.octets ≡ []) × (12 + length front ≤ r.place) × (r.place < 12 + length front + 8))
