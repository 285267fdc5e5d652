-- The statuses of replies as numbers, and how many of them each version has.
use Rattle.std.specs.Prelude.{ℕ, ◌==◌, List, [], ◌∷◌, Option, Some, None, if◌then◌else◌}
use Rattle.giop_core.specs.declared.header.Version.{Version}
use Rattle.giop_core.specs.declared.header.Version.TheVariants.{V12}
use Rattle.giop_core.specs.declared.reply.ReplyStatus.{ReplyStatus}
use Rattle.giop_core.specs.declared.reply.ReplyStatus.TheVariants as reply
use Rattle.giop_core.specs.declared.locate.LocateStatus.{LocateStatus}
use Rattle.giop_core.specs.declared.locate.LocateStatus.TheVariants as locate

-- GIOP 9.4.3: enum ReplyStatusType, in order
abbrev pub reply_status_number : ReplyStatus → ℕ
reply_status_number reply.NoException = 0
reply_status_number reply.UserException = 1
reply_status_number reply.SystemException = 2
reply_status_number reply.LocationForward = 3
reply_status_number reply.LocationForwardPerm = 4
reply_status_number reply.NeedsAddressingMode = 5

-- GIOP 9.4.6: enum LocateStatusType, in order
abbrev pub locate_status_number : LocateStatus → ℕ
locate_status_number locate.UnknownObject = 0
locate_status_number locate.ObjectHere = 1
locate_status_number locate.ObjectForward = 2
locate_status_number locate.ObjectForwardPerm = 3
locate_status_number locate.SystemException = 4
locate_status_number locate.NeedsAddressingMode = 5

-- the one of these that a number names
abbrev pub named : {Status : Type 0} → (Status → ℕ) → ℕ → List Status → Option Status
named number n [] = None
named number n (s ∷ ss) = if n == number s then Some s else named number n ss

abbrev pub reply_status_of : ℕ → Option ReplyStatus
reply_status_of n = named reply_status_number n (reply.NoException ∷ reply.UserException ∷ reply.SystemException ∷ reply.LocationForward ∷ reply.LocationForwardPerm ∷ reply.NeedsAddressingMode ∷ [])

abbrev pub locate_status_of : ℕ → Option LocateStatus
locate_status_of n = named locate_status_number n (locate.UnknownObject ∷ locate.ObjectHere ∷ locate.ObjectForward ∷ locate.ObjectForwardPerm ∷ locate.SystemException ∷ locate.NeedsAddressingMode ∷ [])

-- GIOP 9.4.3, GIOP 9.4.6: how many statuses a Reply of the version has, and a LocateReply; they count from 0
abbrev pub reply_statuses : Version → ℕ
reply_statuses V12 = 6
reply_statuses _ = 4

abbrev pub locate_statuses : Version → ℕ
locate_statuses V12 = 6
locate_statuses _ = 3
