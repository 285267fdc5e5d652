-- The kind of a message that was read, and what lends what it says.
use Rattle.std.specs.Prelude.{◌≡◌, Ok}
use Rattle.giop_core.specs.declared.header.MessageKind.TheVariants as kind
use Rattle.giop_core.specs.declared.reading.Said.{Said}
use Rattle.giop_core.specs.declared.reading.Said.TheVariants as said
use Rattle.giop_core.specs.Lent.{cancel_of, fragment_of}
use Rattle.giop_core.specs.Places.{Headed, said_by}

-- what it gives is by its kind, and lends the same message
abbrev pub IsSaid : Headed → Said → Type 0
IsSaid m (said.Request r) = (m.header.kind ≡ kind.Request) × (r ≡ m)
IsSaid m (said.Reply r) = (m.header.kind ≡ kind.Reply) × (r ≡ m)
IsSaid m (said.Cancel r) = (m.header.kind ≡ kind.CancelRequest) × (said_by m ≡ Ok (cancel_of r))
IsSaid m (said.LocateRequest r) = (m.header.kind ≡ kind.LocateRequest) × (r ≡ m)
IsSaid m (said.LocateReply r) = (m.header.kind ≡ kind.LocateReply) × (r ≡ m)
IsSaid m said.Close = m.header.kind ≡ kind.CloseConnection
IsSaid m said.Error = m.header.kind ≡ kind.MessageError
IsSaid m (said.Fragment r) = (m.header.kind ≡ kind.Fragment) × (said_by m ≡ Ok (fragment_of r))
