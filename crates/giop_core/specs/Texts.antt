-- The texts of versions, kinds, wishes and statuses. Those of statuses are the standard's names of them; the others
-- are own rules.
use Rattle.std.specs.Prelude.{ℕ, List, codes}
use Rattle.giop_core.specs.declared.header.Version.{Version}
use Rattle.giop_core.specs.declared.header.Version.TheVariants.{V10, V11, V12}
use Rattle.giop_core.specs.declared.header.MessageKind.{MessageKind}
use Rattle.giop_core.specs.declared.header.MessageKind.TheVariants as kind
use Rattle.giop_core.specs.declared.request.ReplyWish.{ReplyWish}
use Rattle.giop_core.specs.declared.request.ReplyWish.TheVariants as wish
use Rattle.giop_core.specs.declared.reply.ReplyStatus.{ReplyStatus}
use Rattle.giop_core.specs.declared.reply.ReplyStatus.TheVariants as reply
use Rattle.giop_core.specs.declared.locate.LocateStatus.{LocateStatus}
use Rattle.giop_core.specs.declared.locate.LocateStatus.TheVariants as locate

abbrev pub version_text : Version → List ℕ
version_text V10 = codes "1.0"
version_text V11 = codes "1.1"
version_text V12 = codes "1.2"

-- GIOP 9.4.1: the names of MsgType
abbrev pub kind_text : MessageKind → List ℕ
kind_text kind.Request = codes "Request"
kind_text kind.Reply = codes "Reply"
kind_text kind.CancelRequest = codes "CancelRequest"
kind_text kind.LocateRequest = codes "LocateRequest"
kind_text kind.LocateReply = codes "LocateReply"
kind_text kind.CloseConnection = codes "CloseConnection"
kind_text kind.MessageError = codes "MessageError"
kind_text kind.Fragment = codes "Fragment"

abbrev pub wish_text : ReplyWish → List ℕ
wish_text wish.None = codes "none"
wish_text wish.Empty = codes "empty"
wish_text wish.Full = codes "full"

-- GIOP 9.4.3: the names of ReplyStatusType
abbrev pub reply_status_text : ReplyStatus → List ℕ
reply_status_text reply.NoException = codes "NO_EXCEPTION"
reply_status_text reply.UserException = codes "USER_EXCEPTION"
reply_status_text reply.SystemException = codes "SYSTEM_EXCEPTION"
reply_status_text reply.LocationForward = codes "LOCATION_FORWARD"
reply_status_text reply.LocationForwardPerm = codes "LOCATION_FORWARD_PERM"
reply_status_text reply.NeedsAddressingMode = codes "NEEDS_ADDRESSING_MODE"

-- GIOP 9.4.6: the names of LocateStatusType
abbrev pub locate_status_text : LocateStatus → List ℕ
locate_status_text locate.UnknownObject = codes "UNKNOWN_OBJECT"
locate_status_text locate.ObjectHere = codes "OBJECT_HERE"
locate_status_text locate.ObjectForward = codes "OBJECT_FORWARD"
locate_status_text locate.ObjectForwardPerm = codes "OBJECT_FORWARD_PERM"
locate_status_text locate.SystemException = codes "LOC_SYSTEM_EXCEPTION"
locate_status_text locate.NeedsAddressingMode = codes "LOC_NEEDS_ADDRESSING_MODE"
