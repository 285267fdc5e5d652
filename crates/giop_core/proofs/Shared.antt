-- Rows that versions share.
use Rattle.std.proofs.Common.{◌≡◌, ℕ, List, Ok, refl}
use Rattle.cdr_core.specs.declared.order.Order.{Order}
use Rattle.giop_core.specs.declared.header.MessageKind.TheVariants as kind
use Rattle.giop_core.specs.declared.header.Version.{Version}
use Rattle.giop_core.specs.declared.header.Version.TheVariants.{V10, V11, V12}
use Rattle.giop_core.specs.Content as content
use Rattle.giop_core.specs.Content.{content}
use Rattle.giop_core.specs.Messages.{message_of}
use Rattle.giop_core.specs.Rows.{row}

pub reply_11 : (order : Order) (octets : List ℕ) → message_of V11 kind.Reply order octets ≡ message_of V10 kind.Reply order octets
unfolding message_of row content
reply_11 order octets = refl

pub locate_11 : (order : Order) (octets : List ℕ) → message_of V11 kind.LocateRequest order octets ≡ message_of V10 kind.LocateRequest order octets
unfolding message_of row content
locate_11 order octets = refl

pub locate_reply_11 : (order : Order) (octets : List ℕ) → message_of V11 kind.LocateReply order octets ≡ message_of V10 kind.LocateReply order octets
unfolding message_of row content
locate_reply_11 order octets = refl

pub cancel_any : (v : Version) (order : Order) (octets : List ℕ) → message_of v kind.CancelRequest order octets ≡ message_of V10 kind.CancelRequest order octets
unfolding message_of row content
cancel_any V10 order octets = refl
cancel_any V11 order octets = refl
cancel_any V12 order octets = refl

pub close_any : (v : Version) (order : Order) (octets : List ℕ) → message_of v kind.CloseConnection order octets ≡ Ok content.close
unfolding message_of row content
close_any V10 order octets = refl
close_any V11 order octets = refl
close_any V12 order octets = refl

pub error_any : (v : Version) (order : Order) (octets : List ℕ) → message_of v kind.MessageError order octets ≡ Ok content.error
unfolding message_of row content
error_any V10 order octets = refl
error_any V11 order octets = refl
error_any V12 order octets = refl
