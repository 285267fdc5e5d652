-- What the first octets of a message say, before the others have come.
use Rattle.std.specs.Prelude.{ℕ, List, Option, Some, None, Ok, Err}
use Rattle.cdr_core.specs.declared.order.Order.{Order}
use Rattle.cdr_core.specs.Parts.{ulong}
use Rattle.cdr_core.specs.Reading.{◌>>=◌, Read, value_at}
use Rattle.cdr_core.specs.Value.{Value}
use Rattle.giop_core.specs.Content.{natural}
use Rattle.giop_core.specs.Rows.{contexts}

-- the number that was read, if one was
abbrev pub number_read : Read Value → Option ℕ
number_read (Ok x) = Some (natural x.0)
number_read (Err f) = None

-- GIOP 9.4.2, GIOP 9.4.3: after the header of a Request or a Reply of 1.1 come service contexts, and then the request id
unfoldable pub request_id_in : Order → List ℕ → Option ℕ
request_id_in order octets = number_read (do
  x ← value_at contexts order 12 octets
  value_at ulong order x.1 x.2)
