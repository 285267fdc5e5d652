-- Why nothing more is heard of a connection, as an engine keeps it of the one that ended last.
use Rattle.std.specs.Prelude.{◌==◌, ℕ, if◌then◌else◌, Option, Some, None}
use Rattle.giop_link.specs.declared.error.LinkFault.TheVariants.{Stream, WrongDirection}
use Rattle.giop_link.specs.Hearing as hearing
use Rattle.giop_link.specs.Hearing.{Meaning, ends, faulty, peer_closed, peer_error, says, wrong_direction}
use Rattle.ft_orb.specs.declared.ending.Ended.{Ended}
use Rattle.ft_orb.specs.declared.ending.Ending.{Ending}
use Rattle.ft_orb.specs.declared.ending.Ending.TheVariants.{Faulty, PeerClosed, PeerError}

-- why a connection ended, where it is the one that did last
abbrev pub ending_of : Option Ended → ℕ → Option Ending
ending_of None c = None
ending_of (Some e) c = if e.connection == c then Some e.why else None

-- why a connection ended whose stream ends so
abbrev pub why_of : hearing.Ending → Ending
why_of peer_closed = PeerClosed
why_of peer_error = PeerError
why_of wrong_direction = Faulty WrongDirection
why_of (faulty e) = Faulty (Stream e)

-- the connection that ended last, where the stream of one that went on has ended so, if it has
abbrev pub ended_by : ℕ → Option hearing.Ending → Option Ended → Option Ended
ended_by c None last = last
ended_by c (Some e) last = Some (record { connection = c; why = why_of e })

-- .. where this message came on it, which may end it
abbrev pub ended_at : ℕ → Meaning → Option Ended → Option Ended
ended_at c (says m) last = last
ended_at c (ends e) last = ended_by c (Some e) last
