-- What a client keeps of a pending call: the octets of its Request, and where in them the request id stands.
use Rattle.std.specs.Prelude.{ℕ, zero, suc, ◌+◌, nat_le, nat_lt, not, is_some, ◌&&◌, Bool, if◌then◌else◌, ◌++◌, ℤ, pos, List, [], ◌∷◌, length, take, drop, Option, Some, None}
use Rattle.std.specs.Option.{option_map}
use Rattle.cdr_core.specs.Numbers.{padding, digits_of}
use Rattle.cdr_core.specs.Writing.{octets_of}
use Rattle.cdr_core.specs.declared.order.Order.{Order}
use Rattle.giop_core.specs.Content.{Rest}
use Rattle.giop_core.specs.Items.{list_value}
use Rattle.giop_core.specs.Rows.{has_id_first}
use Rattle.giop_core.specs.declared.header.Version.{Version}
use Rattle.giop_core.specs.declared.request.ReplyWish.{ReplyWish}
use Rattle.ft_client.specs.declared.pending.Pending.{Pending as CodePending}
use Rattle.ft_client.specs.Clients.{Pending, transmission_to}
use Rattle.ft_client.specs.Ends.{body_of}
use Rattle.ft_client.specs.Messages.{Transmission, contexts_of, is_oneway, order_of, request_octets, wish_of}

-- the place after service contexts that stand after the header
abbrev pub after_contexts : Order → List (ℕ × List ℕ) → ℕ
after_contexts order contexts = 12 + length (octets_of order (list_value contexts) 12)

-- GIOP 9.4.2: the place of the request id in a Request with these contexts: after the header, where it comes first, as in 1.2, and
-- after the contexts before
abbrev pub id_place : Version → Order → List (ℕ × List ℕ) → ℕ
id_place version order contexts = if has_id_first version then 12 else (after_contexts order contexts + padding (after_contexts order contexts) 4)

-- a pending call as it is kept: the order and the wish of its Request, its octets as it would be sent under the request id 1, and the
-- reference to which it is led, if it is led elsewhere
pub record Kept : Type 0 where
  pub id : ℤ
  pub expiration : ℕ
  pub order : Order
  pub wish : ReplyWish
  pub message : List ℕ
  pub id_at : ℕ
  pub sent : Option ℕ
  pub led : Option Rest

-- a call that was sent so, or was not, and is led elsewhere, or is not
abbrev pub kept_as : Transmission → Option ℕ → Option Rest → Kept
kept_as t sent led = record {
  id = pos t.retention_id;
  expiration = t.call.expiration;
  order = order_of t.call.form;
  wish = wish_of t.call.form;
  message = request_octets t;
  id_at = id_place t.version (order_of t.call.form) (contexts_of t);
  sent = sent;
  led = led;
}

abbrev pub kept_of : Version → List ℕ → Pending → Kept
kept_of version client_id p = kept_as (transmission_to version client_id p.id 1 p.at p.call) p.sent p.led

-- a pending call of the code
abbrev pub kept_by : CodePending → Kept
kept_by p = record {
  id = p.id;
  expiration = p.expiration;
  order = p.order;
  wish = p.wish;
  message = p.message.items;
  id_at = p.id_at;
  sent = p.sent;
  led = option_map body_of p.led;
}

-- its octets under another request id
abbrev pub under : ℕ → Kept → List ℕ
under i k = take k.id_at k.message ++ (digits_of k.order 4 i ++ drop (k.id_at + 4) k.message)

-- with the call at a place noted as sent under a request id, or as not sent
abbrev pub marked : ℕ → Option ℕ → List Kept → List Kept
marked i sent [] = []
marked zero sent (k ∷ ks) = record k { sent = sent } ∷ ks
marked (suc i) sent (k ∷ ks) = k ∷ marked i sent ks

-- with the call at a place noted as not sent, and as led elsewhere, or not
abbrev pub left_at : ℕ → Option Rest → List Kept → List Kept
left_at i led [] = []
left_at zero led (k ∷ ks) = record k { sent = None; led = led } ∷ ks
left_at (suc i) led (k ∷ ks) = k ∷ left_at i led ks

-- no call is noted as sent
abbrev pub unmarked : List Kept → List Kept
unmarked [] = []
unmarked (k ∷ ks) = record k { sent = None } ∷ unmarked ks

-- whether a kept call is due on a link that has given n ids
abbrev pub is_due : ℕ → ℕ → Kept → Bool
is_due now n k = not (is_some k.sent) && (not (is_some k.led) && (nat_le now k.expiration && nat_lt n 2147483648))

-- the kept calls on a link that has given n ids: each that is due is sent, in order
abbrev pub sent_again : ℕ → ℕ → List Kept → List Kept
sent_again now n [] = []
sent_again now n (k ∷ ks) = if is_due now n k then record k { sent = Some (suc n) } ∷ sent_again now (suc n) ks else k ∷ sent_again now n ks

-- how many ids the link has given then
abbrev pub ids_after_sending : ℕ → ℕ → List Kept → ℕ
ids_after_sending now n [] = n
ids_after_sending now n (k ∷ ks) = if is_due now n k then ids_after_sending now (suc n) ks else ids_after_sending now n ks

-- and the octets that are written
abbrev pub octets_again : ℕ → ℕ → List Kept → List ℕ
octets_again now n [] = []
octets_again now n (k ∷ ks) = if is_due now n k then under (suc n) k ++ octets_again now (suc n) ks else octets_again now n ks

-- the request id under which a call waits for its reply, if it wishes for one
abbrev pub awaited : ReplyWish → ℕ → List ℕ
awaited wish i = if is_oneway wish then [] else i ∷ []

-- the request ids under which those that are sent then wait
abbrev pub ids_awaited : ℕ → ℕ → List Kept → List ℕ
ids_awaited now n [] = []
ids_awaited now n (k ∷ ks) = if is_due now n k then awaited k.wish (suc n) ++ ids_awaited now (suc n) ks else ids_awaited now n ks
