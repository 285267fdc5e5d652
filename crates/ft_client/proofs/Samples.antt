-- Samples: what the definitions give on short lists of what happens, which are written out.
use Rattle.std.proofs.Common.{◌≡◌, ℕ, pos, ◌==◌, if◌then◌else◌, List, [], ◌∷◌, ◌++◌, Option, Some, None, refl, lit≤, true}
use Rattle.cdr_core.specs.Value.{no_values}
use Rattle.cdr_core.specs.declared.order.Order.TheVariants.{Big, Little}
use Rattle.giop_core.specs.Content.{Rest}
use Rattle.giop_core.specs.Written.{behind_header, ft_octets, octets_body}
use Rattle.giop_core.specs.declared.header.Version.TheVariants.{V10, V12}
use Rattle.giop_core.specs.declared.reply.ReplyStatus.TheVariants.{LocationForward, NoException}
use Rattle.giop_core.specs.declared.request.ReplyWish.{ReplyWish}
use Rattle.giop_core.specs.declared.request.ReplyWish.TheVariants as wish
use Rattle.giop_frames.specs.declared.limits.Cuts.TheVariants.{Aligned}
use Rattle.giop_frames.specs.declared.limits.Limits.{Limits}
use Rattle.giop_link.specs.Hearing.{Ending, Hearing, peer_closed}
use Rattle.ft_client.specs.Clients.{Called, Cancelled, Expired, Fed, Happening, Joined, KeptForwards, Parted, Recalled, Redirected, Resent, Resumed, Sent, Skipped, Taken, Ticked, Told, first_led, fits, new_client, says, transmission}
use Rattle.ft_client.specs.Ends.{led_to}
use Rattle.ft_client.specs.Lives.{Life, lived, new_life}
use Rattle.ft_client.specs.Messages.{Answer, Call, Transmission, Withdrawn, contexts_of, located, raw, replied, typed}

abbrev limits : Limits
limits = record { message = 4096; partials = 1; cuts = Aligned; message_in_range = (lit≤ tt, lit≤ tt); partials_in_range = (lit≤ tt, lit≤ tt) }

-- a peer whose messages are one octet each: 0 closes, n is a reply to request n, 101 one to a locate of the id 1, and 201 a reply to
-- request 1 that forwards

abbrev body : Rest
body = record { order = Big; place = 24; octets = 7 ∷ [] }

abbrev answered : ℕ → Answer
answered n = if n == 101 then located 1 (record { status = 1; body = body }) else (if n == 201 then replied 1 (record { status = 3; body = body }) else replied n (record { status = 0; body = body }))

abbrev toy_heard : List ℕ → List Answer
toy_heard [] = []
toy_heard (n ∷ ns) = if n == 0 then [] else answered n ∷ toy_heard ns

abbrev toy_ending : List ℕ → Option Ending
toy_ending [] = None
toy_ending (n ∷ ns) = if n == 0 then Some peer_closed else toy_ending ns

abbrev down : Hearing Answer
down = record { heard = toy_heard; ending = toy_ending }

-- `add` of the object `c`, until the moment 100
abbrev add : Call
add = record { object_key = 99 ∷ []; operation = 97 ∷ 100 ∷ 100 ∷ []; arguments = no_values; expiration = 100; form = typed }

abbrev life : List Happening → Life
life hs = lived down hs (new_life (65 ∷ []) V12 limits)

-- call r, sent as request i
abbrev sent_as : ℕ → ℕ → Transmission
sent_as r i = transmission V12 (65 ∷ []) r i add

-- it is short enough
short : fits 1 (new_client (65 ∷ []) V12 limits) add ≡ true
unfolding behind_header
short = refl

-- it is sent when it is made, and again on the next connection; past its expiration it isn't sent any more, and the next moment
-- ends it
again : (life (Joined 50 ∷ Called 50 add ∷ Parted ∷ Joined 60 ∷ Parted ∷ Joined 101 ∷ [])).sent ≡ (50, sent_as 1 1) ∷ (60, sent_as 1 1) ∷ []
unfolding behind_header
again = refl

ends : (life (Joined 50 ∷ Called 50 add ∷ Parted ∷ Joined 60 ∷ Parted ∷ Joined 101 ∷ Ticked 101 ∷ Taken ∷ [])).taken ≡ (1, Expired) ∷ []
unfolding behind_header
ends = refl

-- at its expiration it is still sent, and no moment before the next ends it
in_time : (life (Called 100 add ∷ Joined 100 ∷ Ticked 100 ∷ Taken ∷ [])).sent ≡ (100, sent_as 1 1) ∷ []
unfolding behind_header
in_time = refl

pending_yet : (life (Called 100 add ∷ Joined 100 ∷ Ticked 100 ∷ Taken ∷ [])).taken ≡ []
unfolding behind_header
pending_yet = refl

-- a call that is made past its expiration is not taken
refused : (life (Joined 101 ∷ Called 101 add ∷ [])).calls ≡ []
unfolding behind_header
refused = refl

-- a reply completes the call, and the same octets again complete nothing
once : (life (Joined 50 ∷ Called 50 add ∷ Fed (1 ∷ 1 ∷ []) ∷ Fed (1 ∷ []) ∷ Taken ∷ Taken ∷ [])).taken ≡ (1, Told NoException body) ∷ []
unfolding behind_header
once = refl

-- two calls are sent again in order of their numbers, and replies complete them in any order

abbrev both_again : List Happening
both_again = Called 50 add ∷ Joined 50 ∷ Called 50 add ∷ Parted ∷ Joined 60 ∷ []

in_order : (life both_again).sent ≡ (50, sent_as 1 1) ∷ (50, sent_as 2 2) ∷ (60, sent_as 1 1) ∷ (60, sent_as 2 2) ∷ []
unfolding behind_header
in_order = refl

crossed : (life (both_again ++ Fed (2 ∷ 1 ∷ []) ∷ Taken ∷ Taken ∷ [])).taken ≡ (2, Told NoException body) ∷ (1, Told NoException body) ∷ []
unfolding behind_header
crossed = refl

-- a call that is cancelled is withdrawn; a reply after that gives nothing, nor does it a second time
withdraws : says (Recalled (pos 1)) (life (Joined 50 ∷ Called 50 add ∷ [])).client ≡ Withdrawn V12 1 ∷ []
unfolding behind_header
withdraws = refl

cancelled : (life (Joined 50 ∷ Called 50 add ∷ Recalled (pos 1) ∷ Fed (1 ∷ []) ∷ Recalled (pos 1) ∷ Taken ∷ Taken ∷ [])).taken ≡ (1, Cancelled) ∷ []
unfolding behind_header
cancelled = refl

-- it isn't withdrawn where it wasn't sent on the present link
silent : says (Recalled (pos 1)) (life (Joined 50 ∷ Called 50 add ∷ Parted ∷ Joined 101 ∷ [])).client ≡ []
unfolding behind_header
silent = refl

-- the reply to a locate completes no call, and a late reply no call that has expired
of_a_locate : (life (Joined 50 ∷ Called 50 add ∷ Fed (101 ∷ []) ∷ Ticked 101 ∷ Fed (1 ∷ []) ∷ Taken ∷ Taken ∷ [])).taken ≡ (1, Expired) ∷ []
unfolding behind_header
of_a_locate = refl

-- after the peer's end nothing is heard, the client is unconnected, and the call is sent again
closed : (life (Joined 50 ∷ Called 50 add ∷ Fed (0 ∷ 1 ∷ []) ∷ Taken ∷ Joined 60 ∷ [])).sent ≡ (50, sent_as 1 1) ∷ (60, sent_as 1 1) ∷ []
unfolding behind_header
closed = refl

unheard : (life (Joined 50 ∷ Called 50 add ∷ Fed (0 ∷ 1 ∷ []) ∷ Fed (1 ∷ []) ∷ Taken ∷ [])).taken ≡ []
unfolding behind_header
unheard = refl

-- the reply to the id that the call had on an earlier connection completes nothing: there it was request 2, here it is 1
earlier : (life (Called 50 add ∷ Called 50 add ∷ Joined 50 ∷ Recalled (pos 1) ∷ Parted ∷ Joined 60 ∷ Fed (2 ∷ []) ∷ Taken ∷ Taken ∷ [])).taken ≡ (1, Cancelled) ∷ []
unfolding behind_header
earlier = refl

-- a call of before is sent under its own number, and the next call has the next; a number that was given takes none up
taken_up : (life (Resumed 50 3 add ∷ Called 50 add ∷ Joined 60 ∷ [])).sent ≡ (60, sent_as 3 1) ∷ (60, sent_as 4 2) ∷ []
unfolding behind_header
taken_up = refl

used : (life (Called 50 add ∷ Resumed 50 1 add ∷ [])).calls ≡ (1, add) ∷ []
unfolding behind_header
used = refl

-- past its expiration it is not taken up
taken_up_late : (life (Resumed 101 3 add ∷ [])).calls ≡ []
unfolding behind_header
taken_up_late = refl

-- numbers are skipped, and not back
after_others : (life (Skipped 5 ∷ Skipped 3 ∷ Called 50 add ∷ [])).calls ≡ (6, add) ∷ []
unfolding behind_header
after_others = refl

-- a forward completes its call
forwarded : (life (Joined 50 ∷ Called 50 add ∷ Fed (201 ∷ []) ∷ Taken ∷ [])).taken ≡ (1, Told LocationForward body) ∷ []
unfolding behind_header
forwarded = refl

-- where it is set so, it leaves it pending: the call is not sent until it is redirected, and then under the other key and its own
-- number, and is completed once

abbrev led_elsewhere : List Happening
led_elsewhere = KeptForwards true ∷ Joined 50 ∷ Called 50 add ∷ Fed (201 ∷ []) ∷ []

led_silent : (life (led_elsewhere ++ Resent 60 ∷ Parted ∷ Joined 70 ∷ Taken ∷ [])).sent ≡ (50, sent_as 1 1) ∷ []
unfolding behind_header
led_silent = refl

led_body : led_to (first_led (life led_elsewhere).client.pending) ≡ Some (pos 1, body)
unfolding behind_header
led_body = refl

redirected : (life (led_elsewhere ++ Redirected (pos 1) (100 ∷ []) ∷ Resent 60 ∷ [])).sent ≡ (50, sent_as 1 1) ∷ (60, record (sent_as 1 2) { at = 100 ∷ [] }) ∷ []
unfolding behind_header
redirected = refl

redirected_once : (life (led_elsewhere ++ Redirected (pos 1) (100 ∷ []) ∷ Resent 60 ∷ Fed (1 ∷ 2 ∷ 2 ∷ []) ∷ Taken ∷ Taken ∷ [])).taken ≡ (1, Told NoException body) ∷ []
unfolding behind_header
redirected_once = refl

-- it expires and is cancelled as others are
led_expires : (life (led_elsewhere ++ Ticked 101 ∷ Taken ∷ [])).taken ≡ (1, Expired) ∷ []
unfolding behind_header
led_expires = refl

led_cancelled : (life (led_elsewhere ++ Recalled (pos 1) ∷ Redirected (pos 1) (100 ∷ []) ∷ Resent 60 ∷ Taken ∷ [])).taken ≡ (1, Cancelled) ∷ []
unfolding behind_header
led_cancelled = refl

-- a call that is not led is not redirected
not_led : (life (Called 50 add ∷ Redirected (pos 1) (100 ∷ []) ∷ Joined 60 ∷ [])).sent ≡ (60, sent_as 1 1) ∷ []
unfolding behind_header
not_led = refl

-- a raw call of `put`, until the moment 100: in 1.0, in little order, with one context and the octets 1, 2 of a place
abbrev put : ReplyWish → ℕ → Call
put w place = record {
  object_key = 99 ∷ [];
  operation = 112 ∷ 117 ∷ 116 ∷ [];
  arguments = octets_body (1 ∷ 2 ∷ []);
  expiration = 100;
  form = raw (record { version = V10; order = Little; wish = w; contexts = (1, 9 ∷ []) ∷ []; place = place });
}

-- call r of it, sent as request i, in the version that it has
abbrev put_as : ReplyWish → ℕ → ℕ → Transmission
put_as w r i = transmission V12 (65 ∷ []) r i (put w 80)

sent_in : (put_as wish.Full 1 1).version ≡ V10
sent_in = refl

-- its FT_REQUEST stands before its own context, and the id after both
contexts_in : contexts_of (put_as wish.Full 1 1) ≡ (13, ft_octets Big (65 ∷ []) (pos 1) 100) ∷ (1, 9 ∷ []) ∷ []
contexts_in = refl

-- its body stands at 88, and so it is taken where it came from 80, and not where it came from 81
at_its_place : (life (Called 50 (put wish.Full 80) ∷ [])).calls ≡ (1, put wish.Full 80) ∷ []
unfolding behind_header
at_its_place = refl

at_another : (life (Called 50 (put wish.Full 81) ∷ [])).calls ≡ []
unfolding behind_header
at_another = refl

-- one that wishes for a reply waits for it
raw_waits : (life (Joined 50 ∷ Called 50 (put wish.Full 80) ∷ Taken ∷ Fed (1 ∷ []) ∷ Taken ∷ [])).taken ≡ (1, Told NoException body) ∷ []
unfolding behind_header
raw_waits = refl

-- one that wishes for none ends when it is sent, here or on the next connection, and is not sent again
sent_here : (life (Joined 50 ∷ Called 50 (put wish.None 80) ∷ Taken ∷ Parted ∷ Joined 60 ∷ Taken ∷ [])).taken ≡ (1, Sent) ∷ []
unfolding behind_header
sent_here = refl

sent_later : (life (Called 50 (put wish.None 80) ∷ Taken ∷ Called 50 add ∷ Joined 60 ∷ Taken ∷ Fed (2 ∷ []) ∷ Taken ∷ [])).taken ≡ (1, Sent) ∷ (2, Told NoException body) ∷ []
unfolding behind_header
sent_later = refl

sent_once : (life (Called 50 (put wish.None 80) ∷ Joined 60 ∷ Parted ∷ Joined 70 ∷ [])).sent ≡ (60, put_as wish.None 1 1) ∷ []
unfolding behind_header
sent_once = refl

-- past its expiration it is not sent, and ends by that
sent_never : (life (Called 50 (put wish.None 80) ∷ Joined 101 ∷ Ticked 101 ∷ Taken ∷ [])).taken ≡ (1, Expired) ∷ []
unfolding behind_header
sent_never = refl
