-- The messages of connections in the order in which they complete, by what each side sent.
use Rattle.std.specs.Prelude.{◌≡◌, ℕ, ◌+◌, ◌++◌, Bool, List, [], ◌∷◌, length, drop, Option, Some, None, is_some, ⊤}
use Rattle.giop_core.specs.declared.header.Version.{Version}
use Rattle.giop_core.specs.Content.{Content}
use Rattle.giop_frames.specs.declared.limits.Limits.{Limits}
use Rattle.giop_frames.specs.Frames.{Frame}
use Rattle.giop_frames.specs.Standing.{frame_held, parts_held}
use Rattle.giop_frames.specs.Streams.{Entry, Follows, frames_of, rest_of}
use Rattle.giop_link.specs.Hearing.{Sound, ending_as, heard_as, says}
use Rattle.giop_link.specs.Listening.{Listened, ListenerStands, heard_in, spoken_by}
use Rattle.giop_tap.specs.declared.pairing.Tie.{Tie}
use Rattle.giop_tap.specs.declared.sender.Sender.{Sender}
use Rattle.giop_tap.specs.declared.sender.Sender.TheVariants.{Opener, Acceptor}
use Rattle.giop_tap.specs.Keys.{Kept, KeysStand}
use Rattle.giop_tap.specs.Pairing.{Said, waiting}
use Rattle.giop_tap.specs.Remembered.{last_tie, remembered}
use Rattle.giop_tap.specs.Waiting.{AreWaiting, Waits}

-- each message counts to a reader beside the connection
abbrev pub counts : Version → Content → Sound Content
counts version m = says m

-- the messages in a stream, and those that octets bring after what came before
abbrev pub said_in : Limits → List ℕ → List Content
said_in limits s = heard_as counts limits s

abbrev pub news : Limits → List ℕ → List ℕ → List Content
news limits before octets = drop (length (said_in limits before)) (said_in limits (before ++ octets))

-- whether a stream has ended: nothing that comes after its first fault counts
abbrev pub has_ended : Limits → List ℕ → Bool
has_ended limits s = is_some (ending_as counts limits s)

-- how many octets are held of a stream that has not ended: those after its last whole frame, or those of a message that is
-- whole; and those of the messages whose fragments have not all come
pub record IsHeld (limits : Limits) (s : List ℕ) (message : Option Frame) (n : ℕ) : Type 0 where
  pub parts : List Entry
  pub partial : Follows parts (frames_of limits s)
  pub octets : n ≡ frame_held message (rest_of limits s) + parts_held parts

-- what has come: the number of the connection, the octets of each side on it, or since it was resumed, and the messages on
-- all connections, the latest first
pub record Talk : Type 0 where
  pub connection : ℕ
  pub opener : List ℕ
  pub acceptor : List ℕ
  pub earlier : List Said

-- the octets of a side
abbrev pub octets_of : Sender → Talk → List ℕ
octets_of Opener t = t.opener
octets_of Acceptor t = t.acceptor

-- messages of a side after those
abbrev pub said_after : ℕ → Sender → List Content → List Said → List Said
said_after connection sender [] earlier = earlier
said_after connection sender (m ∷ ms) earlier = said_after connection sender ms (record { connection = connection; sender = sender; content = m } ∷ earlier)

-- more octets of a side: the messages that they bring stand after all others
abbrev pub talk_after : Limits → Sender → List ℕ → Talk → Talk
talk_after limits Opener octets t = record {
  connection = t.connection;
  opener = t.opener ++ octets;
  acceptor = t.acceptor;
  earlier = said_after t.connection Opener (news limits t.opener octets) t.earlier;
}
talk_after limits Acceptor octets t = record {
  connection = t.connection;
  opener = t.opener;
  acceptor = t.acceptor ++ octets;
  earlier = said_after t.connection Acceptor (news limits t.acceptor octets) t.earlier;
}

-- the stream of a side begins anew: what is left of it counts no more
abbrev pub resumed : Sender → Talk → Talk
resumed Opener t = record t { opener = [] }
resumed Acceptor t = record t { acceptor = [] }

-- another connection
abbrev pub connected : ℕ → Talk → Talk
connected connection t = record { connection = connection; opener = []; acceptor = []; earlier = t.earlier }

-- nothing has come
abbrev pub silence : Talk
silence = record { connection = 0; opener = []; acceptor = []; earlier = [] }

-- what is kept of messages: how many came, what the last had to do with those before it, the requests that wait, and the keys
pub record Paired : Type 0 where
  pub count : ℕ
  pub last : Option Tie
  pub waiting : Waits
  pub keyed : Kept

-- it is that of these messages, the latest first
pub record PairsStand (p : Paired) (earlier : List Said) : Type 0 where
  pub count_is : p.count ≡ length earlier
  pub last_is : p.last ≡ last_tie p.keyed.most earlier
  pub waiting_are : AreWaiting p.waiting (waiting earlier)
  pub keyed_stand : KeysStand p.keyed (remembered p.keyed.most earlier)

-- the ends of a connection that was left for another, and what both sides have sent on it
pub record Parted : Type 0 where
  pub connection : ℕ
  pub opener : Listened
  pub acceptor : Listened

pub record EndsStand (limits : Limits) (e : Parted) (t : Talk) : Type 0 where
  pub connection_is : e.connection ≡ t.connection
  pub opener_stands : ListenerStands counts limits e.opener t.opener
  pub acceptor_stands : ListenerStands counts limits e.acceptor t.acceptor

-- a connection that goes on, of which this has come; the messages of all connections are those of the other
abbrev pub turned : Talk → Talk → Talk
turned on t = record { connection = on.connection; opener = on.opener; acceptor = on.acceptor; earlier = t.earlier }

-- a trace, and the side whose message it lends, if it lends one
pub record Traced : Type 0 where
  pub limits : Limits
  pub connection : ℕ
  pub opener : Listened
  pub acceptor : Listened
  pub pairs : Paired
  pub lends : Option Sender

-- the end that hears a side
abbrev pub end_of : Sender → Traced → Listened
end_of Opener x = x.opener
end_of Acceptor x = x.acceptor

-- the message that a trace lends
abbrev pub lent_from : Option Sender → Traced → List Content
lent_from None x = []
lent_from (Some sender) x = heard_in (spoken_by counts (end_of sender x).message)

abbrev pub lent_of : Traced → List Content
lent_of x = lent_from x.lends x

-- a message is the latest
abbrev pub IsLatest : Said → List Said → Type 0
IsLatest m [] = ⊥
IsLatest m (n ∷ earlier) = m ≡ n

-- and so is one of a side that is lent
abbrev pub IsLentLast : ℕ → Option Sender → List Content → List Said → Type 0
IsLentLast connection (Some sender) (content ∷ others) earlier = IsLatest (record { connection = connection; sender = sender; content = content }) earlier
IsLentLast connection _ _ earlier = ⊤

-- what a trace stands for

pub record TraceStands (x : Traced) (t : Talk) : Type 0 where
  pub connection_is : x.connection ≡ t.connection
  pub opener_stands : ListenerStands counts x.limits x.opener t.opener
  pub acceptor_stands : ListenerStands counts x.limits x.acceptor t.acceptor
  pub pairs_stand : PairsStand x.pairs t.earlier
  pub lent_is : IsLentLast x.connection x.lends (lent_of x) t.earlier
