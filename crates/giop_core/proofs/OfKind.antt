-- What the parts of a message say is of the kind of its header.
use Rattle.std.proofs.Common.{◌≡◌, ℕ, ◌+◌, List, length, Ok, refl, sym, ap, ◌∙◌}
use Rattle.cdr_core.specs.declared.order.Order.{Order}
use Rattle.cdr_core.proofs.Found.{found}
use Rattle.cdr_core.specs.Value.{Value}
use Rattle.giop_core.specs.declared.header.MessageKind.{MessageKind}
use Rattle.giop_core.specs.declared.header.MessageKind.TheVariants as kind
use Rattle.giop_core.specs.declared.header.Version.{Version}
use Rattle.giop_core.specs.declared.header.Version.TheVariants.{V10, V11, V12}
use Rattle.giop_core.specs.declared.places.Parts.{Parts}
use Rattle.giop_core.specs.Content as content
use Rattle.giop_core.specs.Content.{Content, Rest}
use Rattle.giop_core.specs.Messages.{OnBody, StandsNear, message_of, rest_at}
use Rattle.giop_core.specs.Places.{ArePartsOf, content_in}
use Rattle.giop_core.proofs.Near.{said_near}
use Rattle.giop_core.proofs.Spelled.{message_found}

-- the kind of what a message says
abbrev pub kind_of : Content → MessageKind
kind_of (content.request id wish to operation contexts r) = kind.Request
kind_of (content.reply id status contexts r) = kind.Reply
kind_of (content.cancel id) = kind.CancelRequest
kind_of (content.locate_request id to) = kind.LocateRequest
kind_of (content.locate_reply id status r) = kind.LocateReply
kind_of content.close = kind.CloseConnection
kind_of content.error = kind.MessageError
kind_of (content.fragment id octets) = kind.Fragment

said : (version : Version) (k : MessageKind) (fields : List Value) (r : Rest) → kind_of (content.content version k fields r) ≡ k
unfolding content.content
said V10 kind.Request fields r = refl
said V10 k fields r = refl
said V11 kind.Request fields r = refl
said V11 k fields r = refl
said V12 kind.Request fields r = refl
said V12 k fields r = refl

module _ (version : Version) (k : MessageKind) (order : Order) (octets : List ℕ) (p : Parts) (are : ArePartsOf version k order octets p) where
  -- by the parts that they are
  pub kind_by : (q : Parts) → p ≡ q → k ≡ kind_of (content_in q order octets)
  kind_by q is =
      let s = message_found found version k order octets (content_in p order octets) are.0 in
      sym (ap kind_of s.says ∙ said version k s.fields (rest_at version k order (12 + length s.front) s.rest)) ∙ ap (λ (x : Parts). kind_of (content_in x order octets)) is

  pub says_by : (q : Parts) → p ≡ q → message_of version k order octets ≡ Ok (content_in q order octets)
  says_by q is = are.0 ∙ ap (λ (x : Parts). Ok (content_in x order octets)) is

  pub near_of : (m : Content) → m ≡ content_in p order octets → OnBody (StandsNear octets) m
  near_of m is = rw is (said_near version k order octets (content_in p order octets) are.0)
