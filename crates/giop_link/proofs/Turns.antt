-- What a message of a kind says, and what it is to a server and a client.
use Rattle.std.proofs.Common.{◌≡◌, List, [], ◌∷◌, Option, Some, None, Result, Ok, Err, IsOk, refl, sym, ap, subst, ◌∙◌}
use Rattle.std.specs.List.{AllByRecursion}
use Rattle.cdr_core.specs.declared.order.Order.{Order}
use Rattle.cdr_core.specs.Value.{Value}
use Rattle.giop_core.specs.declared.header.MessageKind.{MessageKind}
use Rattle.giop_core.specs.declared.header.MessageKind.TheVariants as kind
use Rattle.giop_core.specs.declared.header.Version.{Version}
use Rattle.giop_core.specs.declared.header.Version.TheVariants.{V10, V11, V12}
use Rattle.giop_core.specs.Content as content
use Rattle.giop_core.specs.Content.{Content, Rest}
use Rattle.giop_core.specs.Messages.{◌>>=◌, Found, fields_at, message_of, rest_at}
use Rattle.giop_core.specs.Rows.{row}
use Rattle.giop_frames.specs.declared.limits.Limits.{Limits}
use Rattle.giop_frames.specs.Completing.{AreMessages}
use Rattle.giop_frames.specs.Fragments.{content_of}
use Rattle.giop_frames.specs.Frames.{Frame}
use Rattle.giop_frames.specs.Streams.{Completed}
use Rattle.giop_link.specs.declared.error.LinkFault.{LinkFault}
use Rattle.giop_link.specs.declared.error.LinkFault.TheVariants.{WrongDirection}
use Rattle.giop_link.specs.declared.listener.PeerEnd.{PeerEnd}
use Rattle.giop_link.specs.declared.listener.PeerEnd.TheVariants as peer
use Rattle.giop_link.specs.Answering.{answer_to}
use Rattle.giop_link.specs.Hearing.{Sound, kind_of, meaning_in, sound_of, sound_read}
use Rattle.giop_link.specs.Messages.{IsAnswerByKind, IsByKind}
use Rattle.giop_link.specs.Listening.{IsTurn, turned}

-- a message of a kind says what is of that kind

content-kind : (version : Version) (k : MessageKind) (vs : List Value) (r : Rest) → kind_of (content.content version k vs r) ≡ k
unfolding content.content
content-kind V10 kind.Request vs r = refl
content-kind V11 kind.Request vs r = refl
content-kind V12 kind.Request vs r = refl
content-kind V10 kind.Reply vs r = refl
content-kind V11 kind.Reply vs r = refl
content-kind V12 kind.Reply vs r = refl
content-kind V10 kind.CancelRequest vs r = refl
content-kind V11 kind.CancelRequest vs r = refl
content-kind V12 kind.CancelRequest vs r = refl
content-kind V10 kind.LocateRequest vs r = refl
content-kind V11 kind.LocateRequest vs r = refl
content-kind V12 kind.LocateRequest vs r = refl
content-kind V10 kind.LocateReply vs r = refl
content-kind V11 kind.LocateReply vs r = refl
content-kind V12 kind.LocateReply vs r = refl
content-kind V10 kind.CloseConnection vs r = refl
content-kind V11 kind.CloseConnection vs r = refl
content-kind V12 kind.CloseConnection vs r = refl
content-kind V10 kind.MessageError vs r = refl
content-kind V11 kind.MessageError vs r = refl
content-kind V12 kind.MessageError vs r = refl
content-kind V10 kind.Fragment vs r = refl
content-kind V11 kind.Fragment vs r = refl
content-kind V12 kind.Fragment vs r = refl

found-kind : (version : Version) (k : MessageKind) (order : Order) (x : Found (List Value)) → IsOk (x >>= λ y. Ok (content.content version k y.0 (rest_at version k order y.1 y.2)))
    → (m : Content) × ((x >>= λ y. Ok (content.content version k y.0 (rest_at version k order y.1 y.2))) ≡ Ok m) × (kind_of m ≡ k)
found-kind version k order (Err e) ok = absurd cc
found-kind version k order (Ok y) ok = (content.content version k y.0 (rest_at version k order y.1 y.2), refl, content-kind version k y.0 (rest_at version k order y.1 y.2))

said-kind : (f : Frame) → IsOk (content_of f.header f.octets) → (m : Content) × (content_of f.header f.octets ≡ Ok m) × (kind_of m ≡ f.header.kind)
unfolding message_of
said-kind f ok = found-kind f.header.version f.header.kind f.header.order (fields_at (row f.header.version f.header.kind) f.header.order 12 f.octets) ok

-- so to any reader it is what its kind says
pub reads-as : {H : Type 0} → (meaning : Version → Content → Sound H) (f : Frame) → IsOk (content_of f.header f.octets) → (m : Content) × (sound_of meaning f ≡ meaning f.header.version m) × (kind_of m ≡ f.header.kind)
unfolding sound_of
reads-as meaning f ok =
    let x = said-kind f ok in
    (x.0, ap (sound_read meaning f.header.version) x.1, x.2)

-- a message by its kind

module _ {H : Type 0} (meaning : Version → Content → Sound H) (P : MessageKind → Sound H → Type 0) (by : (version : Version) (m : Content) → (kind_of m ≡ kind.Fragment → ⊥) → P (kind_of m) (meaning version m)) where
  by-kind : (f : Frame) → (f.header.kind ≡ kind.Fragment → ⊥) → IsOk (content_of f.header f.octets) → P f.header.kind (sound_of meaning f)
  by-kind f other ok =
      let x = reads-as meaning f ok in
      subst (P f.header.kind) (sym x.1) (subst (λ (k : MessageKind). P k (meaning f.header.version x.0)) x.2 (by f.header.version x.0 (λ is. other (sym x.2 ∙ is))))

  pub all-by-kind : (limits : Limits) (ms : List Completed) → AreMessages limits ms → AllByRecursion (λ m. P m.message.header.kind (sound_of meaning m.message)) ms
  all-by-kind limits [] are = tt
  all-by-kind limits (m ∷ ms) are = (by-kind m.message are.0.kind are.0.reads, all-by-kind limits ms are.1)

pub to-server : (version : Version) (m : Content) → (kind_of m ≡ kind.Fragment → ⊥) → IsByKind (kind_of m) (meaning_in version m)
to-server version (content.request id wish to operation contexts r) other = tt
to-server version (content.reply id status contexts r) other = tt
to-server version (content.cancel id) other = tt
to-server version (content.locate_request id to) other = tt
to-server version (content.locate_reply id status r) other = tt
to-server version content.close other = tt
to-server version content.error other = tt
to-server version (content.fragment id octets) other = absurd (other refl)

pub to-client : (version : Version) (m : Content) → (kind_of m ≡ kind.Fragment → ⊥) → IsAnswerByKind (kind_of m) (answer_to version m)
to-client version (content.request id wish to operation contexts r) other = tt
to-client version (content.reply id status contexts r) other = tt
to-client version (content.cancel id) other = tt
to-client version (content.locate_request id to) other = tt
to-client version (content.locate_reply id status r) other = tt
to-client version content.close other = tt
to-client version content.error other = tt
to-client version (content.fragment id octets) other = absurd (other refl)

-- what a message of a kind is: one that is heard, the peer's end, or of the wrong direction
abbrev pub turn_by : MessageKind → Result (Option PeerEnd) LinkFault
turn_by kind.Request = Ok None
turn_by kind.LocateRequest = Ok None
turn_by kind.CancelRequest = Ok None
turn_by kind.CloseConnection = Ok (Some peer.Closed)
turn_by kind.MessageError = Ok (Some peer.Error)
turn_by kind.Reply = Err WrongDirection
turn_by kind.LocateReply = Err WrongDirection
turn_by kind.Fragment = Err WrongDirection

turned-by : (version : Version) (m : Content) → turned (meaning_in version m) ≡ turn_by (kind_of m)
turned-by version (content.request id wish to operation contexts r) = refl
turned-by version (content.reply id status contexts r) = refl
turned-by version (content.cancel id) = refl
turned-by version (content.locate_request id to) = refl
turned-by version (content.locate_reply id status r) = refl
turned-by version content.close = refl
turned-by version content.error = refl
turned-by version (content.fragment id octets) = refl

pub is-turn : (k : MessageKind) → IsTurn meaning_in k (turn_by k)
is-turn k version m is = turned-by version m ∙ ap turn_by is

-- the same to a client: one that is heard, the peer's end, or of the wrong direction
abbrev pub client_turn_by : MessageKind → Result (Option PeerEnd) LinkFault
client_turn_by kind.Reply = Ok None
client_turn_by kind.LocateReply = Ok None
client_turn_by kind.CloseConnection = Ok (Some peer.Closed)
client_turn_by kind.MessageError = Ok (Some peer.Error)
client_turn_by kind.Request = Err WrongDirection
client_turn_by kind.LocateRequest = Err WrongDirection
client_turn_by kind.CancelRequest = Err WrongDirection
client_turn_by kind.Fragment = Err WrongDirection

client-turned-by : (version : Version) (m : Content) → turned (answer_to version m) ≡ client_turn_by (kind_of m)
client-turned-by version (content.request id wish to operation contexts r) = refl
client-turned-by version (content.reply id status contexts r) = refl
client-turned-by version (content.cancel id) = refl
client-turned-by version (content.locate_request id to) = refl
client-turned-by version (content.locate_reply id status r) = refl
client-turned-by version content.close = refl
client-turned-by version content.error = refl
client-turned-by version (content.fragment id octets) = refl

pub is-client-turn : (k : MessageKind) → IsTurn answer_to k (client_turn_by k)
is-client-turn k version m is = client-turned-by version m ∙ ap client_turn_by is
