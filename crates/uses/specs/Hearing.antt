-- What a server hears.
use Rattle.std.specs.Prelude.{Bool, true, false}
use Rattle.giop_link.specs.Hearing.{Incoming, asks}

-- a request
abbrev pub is_request : Incoming → Bool
is_request (asks question) = true
is_request _ = false
