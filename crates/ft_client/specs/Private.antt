-- Words of private functions: no public contract cites them.
use Rattle.std.specs.Prelude.{◌≡◌, ℕ, ◌+◌, ℤ, pos, Bool, true, false, ◌&&◌, if◌then◌else◌, List, [], ◌∷◌, ◌++◌, length, map, Option, Some, None, is_some, slice_index_or, slice_set}
use Rattle.std.specs.Option.{IsSome, option_map}
use Rattle.cdr_core.specs.Numbers.{padding}
use Rattle.cdr_core.specs.View.{values_of}
use Rattle.giop_core.specs.Content.{Rest}
use Rattle.giop_core.specs.Statuses.{reply_status_of}
use Rattle.giop_core.specs.Written.{behind_header}
use Rattle.giop_core.specs.declared.header.MessageKind.TheVariants.{Request}
use Rattle.giop_core.specs.declared.reply.ReplyStatus.{ReplyStatus}
use Rattle.giop_core.specs.declared.reply.ReplyStatus.TheVariants.{LocationForward, NoException, SystemException, UserException}
use Rattle.giop_link.specs.Answering.{client_ending, replied}
use Rattle.giop_link.specs.ClientLinking.{ClientLinked, Delivered, forward, needs_addressing, whole}
use Rattle.giop_link.specs.Hearing.{Sound, says}
use Rattle.ft_client.specs.declared.client.FtClient.{FtClient}
use Rattle.ft_client.specs.declared.ended.Ended.{Ended as CodeEnded}
use Rattle.ft_client.specs.declared.ended.ReplyBody.{ReplyBody}
use Rattle.ft_client.specs.declared.pending.Asked.{Asked}
use Rattle.ft_client.specs.declared.pending.Pending.{Pending as CodePending}
use Rattle.ft_client.specs.declared.requests.Manner.{Manner}
use Rattle.ft_client.specs.Clients.{Client, Ended, Linked, NeedsAddressing, Pending, Told, asks_again, completed_if, find_pending, put_off, told_of, waiting}
use Rattle.ft_client.specs.Ends.{body_of, completion_of, ended_of, numbered}
use Rattle.ft_client.specs.Keeping.{Kept, ids_after_sending, ids_awaited, kept_by, kept_of, octets_again, sent_again}
use Rattle.ft_client.specs.Lives.{AreRising}
use Rattle.ft_client.specs.Messages.{Call, Transmission, contexts_of, fields_of, order_of, request_behind, wish_of}
use Rattle.ft_client.specs.Redirections.{asked_anew}
use Rattle.ft_client.specs.Standing.{IsLinked, down, waiting_ids}

-- the place after service contexts whose first stands at a place
abbrev pub contexts_end : ℕ → List (ℕ × List ℕ) → ℕ
contexts_end place [] = place
contexts_end place (x ∷ xs) = contexts_end (place + padding place 4 + 8 + length x.1) xs

-- a transmission is that of what is asked, in this manner, under a number, with these service contexts and the request id 1
pub record IsAsked (id : ℤ) (manner : Manner) (contexts : List (ℕ × List ℕ)) (asked : Asked) (t : Transmission) : Type 0 where
  pub number : id ≡ pos t.retention_id
  pub first : t.request_id ≡ 1
  pub version : manner.version ≡ t.version
  pub order : manner.order ≡ order_of t.call.form
  pub wish : manner.wish ≡ wish_of t.call.form
  pub contexts_are : contexts ≡ contexts_of t
  pub key : asked.object_key.now ≡ t.at
  pub operation : asked.operation.now ≡ t.call.operation
  pub behind : behind_header t.version Request (order_of t.call.form) (fields_of t) (values_of asked.arguments.now) ≡ request_behind t
  pub expiration : asked.expiration ≡ t.call.expiration

-- a kept call was sent on a link, or was not due: what is left to be sent follows
pub record IsSentOn (now : ℕ) (k : Kept) (old new : ClientLinked) (sent : Option ℕ) (before after : List ℕ) : Type 0 where
  pub again : (rest : List Kept) → sent_again now old.ids.given (k ∷ rest) ≡ record k { sent = sent } ∷ sent_again now new.ids.given rest
  pub given : (rest : List Kept) → ids_after_sending now old.ids.given (k ∷ rest) ≡ ids_after_sending now new.ids.given rest
  pub octets : (rest : List Kept) → before ++ octets_again now old.ids.given (k ∷ rest) ≡ after ++ octets_again now new.ids.given rest
  pub link : new ≡ record old { ids = new.ids }
  pub one : List ℕ
  pub waits : (is : List ℕ) → old.ids ≡ waiting_ids old.ids.given is → new.ids ≡ waiting_ids new.ids.given (is ++ one)
  pub awaits : (rest : List Kept) → ids_awaited now old.ids.given (k ∷ rest) ≡ one ++ ids_awaited now new.ids.given rest
  pub more : List ℕ
  pub written : after ≡ before ++ more

-- GIOP 9.4.3: how a reply that neither forwards nor asks for another addressing ends its call
abbrev pub plain_end : Option ReplyStatus → Rest → Ended
plain_end (Some NoException) body = Told NoException body
plain_end (Some UserException) body = Told UserException body
plain_end _ body = Told SystemException body

-- the request id that a delivery answers, and how the call ends by it, if it is a reply
abbrev pub reply_in : Sound Delivered → Option (ℕ × Ended)
reply_in (says (whole (replied id shown))) = Some (id, plain_end (reply_status_of shown.status) shown.body)
reply_in (says (forward id body)) = Some (id, Told LocationForward body)
reply_in (says (needs_addressing id)) = Some (id, NeedsAddressing)
reply_in _ = None

abbrev pub reply_lent : Option (Sound Delivered) → Option (ℕ × Ended)
reply_lent None = None
reply_lent (Some d) = reply_in d

-- a reply of the code, with its outcome as the definitions have it
abbrev pub reply_as : ℕ × CodeEnded → ℕ × Ended
reply_as x = (x.0, ended_of x.1)

-- the request id of a reply that leaves its call pending, and the reference to which that is led, if it is led elsewhere; where TRANSIENT
-- is kept to, and where forwards are
abbrev pub left_in : (keeps leads : Bool) → Sound Delivered → Option (ℕ × Option Rest)
left_in keeps leads (says (whole (replied id shown))) = if keeps && asks_again (reply_status_of shown.status) shown.body then Some (id, None) else None
left_in keeps leads (says (forward id body)) = if leads then Some (id, Some body) else None
left_in keeps leads _ = None

abbrev pub left_lent : (keeps leads : Bool) → Option (Sound Delivered) → Option (ℕ × Option Rest)
left_lent keeps leads None = None
left_lent keeps leads (Some d) = left_in keeps leads d

-- one of the code
abbrev pub left_as : ℕ × Option ReplyBody → ℕ × Option Rest
left_as x = (x.0, option_map body_of x.1)

abbrev pub held_back : ℕ → Option Rest → Client → Client
held_back request_id led m = record m { pending = put_off request_id led m.pending }

-- a client after a call is left pending, or a reply has come, or neither
abbrev pub answered_by : Option (ℕ × Option Rest) → Option (ℕ × Ended) → Client → Client
answered_by (Some l) x m = held_back l.0 l.1 m
answered_by None None m = m
answered_by None (Some x) m = completed_if (waiting x.0 m.pending) x.1 m

-- .. after what its link lends
abbrev pub taken_in : Option (Sound Delivered) → Client → Client
taken_in d m = answered_by (left_lent m.keeps_transient m.keeps_forwards d) (reply_lent d) m

-- pending calls and completions stand for those of a client
pub record CallsStand (pending : List CodePending) (completions : List (ℤ × CodeEnded)) (m : Client) : Type 0 where
  pub pending_are : map kept_by pending ≡ map (kept_of m.version m.client_id) m.pending
  pub completions_are : map completion_of completions ≡ map numbered m.completions
  pub rising : AreRising m.last m.pending

-- The call of a number stands at a place of the client, and is led elsewhere. What is put there in its place, as it or another by it is
-- asked for under another object key, makes the calls those where it is redirected.
pub record IsLedAt (z : ℤ) (c : FtClient) (m : Client) (place number : ℕ) : Type 0 where
  pub call : Pending
  pub find : find_pending z m.pending ≡ Some call
  pub led : is_some call.led ≡ true
  pub numbered : number ≡ call.id
  pub kept : (d : CodePending) → kept_by (slice_index_or c.pending.items place d) ≡ kept_of m.version m.client_id call
  pub put : (key : List ℕ) (anew : Call → Call) (k : Kept) → k ≡ kept_of m.version m.client_id (record call { call = anew call.call; at = key; led = None })
      → slice_set (map kept_by c.pending.items) place k ≡ map (kept_of m.version m.client_id) (asked_anew z key anew m.pending)

-- what a client is after octets came on its link: it has ended, or it goes on
abbrev pub IsFedTo : Client → Linked → List ℕ → Bool → List CodePending → List (ℤ × CodeEnded) → ClientLinked → Type 0
IsFedTo m l octets true pending completions link = CallsStand pending completions (told_of (down m.limits) octets m (Some l)) × IsSome (client_ending m.limits (l.received ++ octets))
IsFedTo m l octets false pending completions link =
    CallsStand pending completions (told_of (down m.limits) octets m (Some l)) × IsLinked link (told_of (down m.limits) octets m (Some l)) (record l { received = l.received ++ octets })
