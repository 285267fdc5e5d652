-- Words of private functions: how far a partial message of 1.1 was read for its request id. No contract of a public call cites
-- them.
use Rattle.std.specs.Prelude.{◌≡◌, ℕ, ◌≤◌, ◌++◌, List, length, drop, Option, Some, None}
use Rattle.cdr_core.specs.declared.order.Order.{Order}
use Rattle.cdr_core.specs.Cursor.{Position}
use Rattle.cdr_core.specs.Parts.{ulong}
use Rattle.cdr_core.specs.Reading.{◌>>=◌, each_at, value_at}
use Rattle.ior_core.specs.Grammar.{tagged}
use Rattle.giop_core.specs.Begun.{number_read, request_id_in}
use Rattle.giop_frames.specs.declared.naming.Named.{Named}
use Rattle.giop_frames.specs.declared.naming.Named.TheVariants.{Unread, UpTo, Id}

-- the request id of a message of 1.1 by the octets that have come, those of its header among them
abbrev pub id_in : Order → List ℕ → Option ℕ
id_in order message = request_id_in order (drop 12 message)

-- the request id of a message of 1.1, read from a place on, where so many service contexts come before it
unfoldable pub id_after : Order → List ℕ → ℕ → ℕ → Option ℕ
id_after order message place left = number_read (do
  x ← each_at (value_at tagged order) left place (drop place message)
  value_at ulong order x.1 x.2)

-- the request id of a message of 1.1, read on from where reading stopped
abbrev pub id_from : Order → Named → List ℕ → Option ℕ
id_from order Unread message = id_in order message
id_from order (UpTo at left) message = id_after order message at left
id_from order (Id i) message = Some i

-- the place where reading goes on
abbrev pub place_of : Named → ℕ
place_of Unread = 12
place_of (UpTo at left) = at
place_of (Id i) = 0

-- the id that was read
abbrev pub id_read : Named → Option ℕ
id_read Unread = None
id_read (UpTo at left) = None
id_read (Id i) = Some i

-- a message was read so far: whatever comes, its id is what is read from there on
pub record IsReadTo (order : Order) (named : Named) (message : List ℕ) : Type 0 where
  pub place : place_of named ≤ length message
  pub same : (more : List ℕ) → id_from order named (message ++ more) ≡ id_in order (message ++ more)

-- a cursor stands in a message
pub record IsAt (cursor : Position) (message : List ℕ) : Type 0 where
  pub place : cursor.place ≤ length message
  pub rest : cursor.rest ≡ drop cursor.place message

-- a cursor passes over service contexts of a message, so that so many are left: whatever comes, the id is the same
pub record Passes (old new : Position) (count left : ℕ) (message : List ℕ) : Type 0 where
  pub at : IsAt new message
  pub same : (more : List ℕ) → id_after old.order (message ++ more) new.place left ≡ id_after old.order (message ++ more) old.place count
