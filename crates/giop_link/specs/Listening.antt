-- An end of a connection as it hears its peer's stream, whoever it is: by what each message is to it.
use Rattle.std.specs.Prelude.{◌≡◌, ℕ, ◌++◌, Bool, true, List, [], ◌∷◌, Option, Some, None, Result, Ok, Err, is_some}
use Rattle.giop_core.specs.declared.header.MessageKind.{MessageKind}
use Rattle.giop_core.specs.declared.header.Version.{Version}
use Rattle.giop_core.specs.Content.{Content}
use Rattle.giop_frames.specs.declared.limits.Limits.{Limits}
use Rattle.giop_frames.specs.Frames.{Frame}
use Rattle.giop_frames.specs.Standing.{OnFault}
use Rattle.giop_frames.specs.Streams.{Entry, Stands}
use Rattle.giop_link.specs.declared.error.LinkFault.{LinkFault}
use Rattle.giop_link.specs.declared.error.LinkFault.TheVariants.{Stream, WrongDirection}
use Rattle.giop_link.specs.declared.listener.PeerEnd.{PeerEnd}
use Rattle.giop_link.specs.declared.listener.PeerEnd.TheVariants as peer
use Rattle.giop_link.specs.Hearing.{Ending, Sound, ending_as, ends, faulty, heard_as, kind_of, peer_closed, peer_error, says, sound_of, wrong_direction}

-- sides

-- what is done with a message: it is lent, or the end that the peer made is, or it is an error
abbrev pub turned : {Heard : Type 0} → Sound Heard → Result (Option PeerEnd) LinkFault
turned (says m) = Ok None
turned (ends peer_closed) = Ok (Some peer.Closed)
turned (ends peer_error) = Ok (Some peer.Error)
turned (ends wrong_direction) = Err WrongDirection
turned (ends (faulty e)) = Err (Stream e)

-- it is done with each message of a kind
abbrev pub IsTurn : {Heard : Type 0} → (Version → Content → Sound Heard) → MessageKind → Result (Option PeerEnd) LinkFault → Type 0
IsTurn meaning k turn = (version : Version) (m : Content) → kind_of m ≡ k → turned (meaning version m) ≡ turn

-- what octets bring

-- the message that is heard, if there is one
abbrev pub heard_in : {Heard : Type 0} → Option (Sound Heard) → List Heard
heard_in (Some (says m)) = m ∷ []
heard_in _ = []

-- the end of the stream, which the first stays
abbrev pub ending_in : {Heard : Type 0} → Option Ending → Option (Sound Heard) → Option Ending
ending_in (Some e) m = Some e
ending_in None (Some (ends e)) = Some e
ending_in None _ = None

module _ {Heard : Type 0} (meaning : Version → Content → Sound Heard) where
  -- octets t after the stream s bring this message: it is heard, or the stream ends by it; or they bring nothing
  pub record Brings (limits : Limits) (s t : List ℕ) (message : Option (Sound Heard)) : Type 0 where
    pub heard_is : heard_as meaning limits (s ++ t) ≡ heard_as meaning limits s ++ heard_in message
    pub ending_is : ending_as meaning limits (s ++ t) ≡ ending_in (ending_as meaning limits s) message

  -- octets t after the stream s bring nothing: no message that is heard, and no end
  pub record IsQuietTo (limits : Limits) (s t : List ℕ) : Type 0 where
    pub heard_is : heard_as meaning limits (s ++ t) ≡ heard_as meaning limits s
    pub ending_is : ending_as meaning limits (s ++ t) ≡ ending_as meaning limits s

  -- a stream that had not ended ends so with the piece, and no message is heard in it
  pub record EndsTo (limits : Limits) (s piece : List ℕ) (e : Ending) : Type 0 where
    pub going : ending_as meaning limits s ≡ None
    pub by : ending_as meaning limits (s ++ piece) ≡ Some e
    pub same : heard_as meaning limits (s ++ piece) ≡ heard_as meaning limits s

  -- a fault is that an allocation failed, or ends the stream s with more octets
  abbrev pub IsFaultTo : Limits → List ℕ → List ℕ → LinkFault → Type 0
  IsFaultTo limits s piece (Stream e) = OnFault e (EndsTo limits s piece (faulty e))
  IsFaultTo limits s piece WrongDirection = EndsTo limits s piece wrong_direction

-- listeners

-- a listener: its limits, whether it is closed, the octets of the frame that isn't whole, the partial messages, the message
-- that it lends, and the end that the peer made, while it lends that
pub record Listened : Type 0 where
  pub limits : Limits
  pub is_closed : Bool
  pub pending : List ℕ
  pub parts : List Entry
  pub message : Option Frame
  pub end : Option PeerEnd

-- a listener, closed: it holds and lends nothing
abbrev pub closed : Listened → Listened
closed l = record { limits = l.limits; is_closed = true; pending = []; parts = []; message = None; end = None }

-- a message that is heard
abbrev pub spoken : {Heard : Type 0} → Sound Heard → Option (Sound Heard)
spoken (says m) = Some (says m)
spoken (ends e) = None

abbrev pub spoken_by : {Heard : Type 0} → (Version → Content → Sound Heard) → Option Frame → Option (Sound Heard)
spoken_by meaning None = None
spoken_by meaning (Some f) = spoken (sound_of meaning f)

-- the end that a peer made
abbrev pub ending_by : PeerEnd → Ending
ending_by peer.Closed = peer_closed
ending_by peer.Error = peer_error

-- what is lent: the end that the peer made, if it made one, else the message
abbrev pub told_with : {Heard : Type 0} → Option PeerEnd → Option (Sound Heard) → Option (Sound Heard)
told_with None m = m
told_with (Some p) m = Some (ends (ending_by p))

abbrev pub lent_by : {Heard : Type 0} → (Version → Content → Sound Heard) → Listened → Option (Sound Heard)
lent_by meaning l = told_with l.end (spoken_by meaning l.message)

-- a listener stands for the stream s: it is closed exactly where the stream has ended, and else it holds what is left of it
pub record ListenerStands {Heard : Type 0} (meaning : Version → Content → Sound Heard) (limits : Limits) (l : Listened) (s : List ℕ) : Type 0 where
  pub limits_are : l.limits ≡ limits
  pub is_ended : l.is_closed ≡ is_some (ending_as meaning limits s)
  pub holds : ending_as meaning limits s ≡ None → Stands limits l.pending l.parts s
