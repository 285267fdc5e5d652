-- What a server says to what arrives, as messages, and their octets.
use Rattle.std.specs.Prelude.{ℕ, Bool, List, [], ◌∷◌, Option, Some, None, Result, Ok, Err, flat_map}
use Rattle.std.specs.List.{cons_option}
use Rattle.cdr_core.specs.Value.{Values, no_values}
use Rattle.cdr_core.specs.declared.order.Order.{Order}
use Rattle.cdr_core.specs.declared.order.Order.TheVariants.{Big}
use Rattle.giop_core.specs.Keys.{key_of_addressed}
use Rattle.giop_core.specs.declared.header.Version.{Version}
use Rattle.giop_core.specs.declared.request.ReplyWish.{ReplyWish}
use Rattle.giop_core.specs.declared.request.ReplyWish.TheVariants as wish
use Rattle.giop_link.specs.Linking.{close_connection}
use Rattle.ft_log.specs.Performed.{Performed, raw, returned}
use Rattle.ft_log.specs.declared.outcome.RawStatus.TheVariants.{NoException}
use Rattle.ft_log.specs.declared.system_exception.SystemName.{SystemName}
use Rattle.ft_orb.specs.ExactlyOnce.{Arrival}
use Rattle.ft_objects.specs.Replies.{answered_as, body_of, locate_reply, locate_status, message_error, order_of, reply, status_of}
use Rattle.ft_orb.specs.Requests.{Terms, Wanted, asking, locating, origin_of}
use Rattle.ft_log.specs.Holding.{Holding, known, parked}

-- a Reply to the request of an id, with its byte order, its status and the values of its body; the status of the target of a locate
-- of an id; MessageError; CloseConnection
pub data Telling : Type 0 where
  Replied : Version → (order : Order) → (id status : ℕ) → Values → Telling
  Located : Version → (id : ℕ) → (status : ℕ) → Telling
  Failed : Telling
  Closing : Telling

-- its octets
abbrev pub octets_told : Telling → List ℕ
octets_told (Replied version order id status body) = reply version order id status body
octets_told (Located version id status) = locate_reply version id status
octets_told Failed = message_error
octets_told Closing = close_connection

-- those of a message, if there is one
abbrev pub octets_if : Option Telling → List ℕ
octets_if None = []
octets_if (Some t) = octets_told t

-- GIOP 9.4.2: by the wish of the request no Reply, or one without its results, or the whole one
abbrev pub reply_told : ReplyWish → Version → ℕ → Performed → Option Telling
reply_told wish.None version id p = None
reply_told wish.Empty version id (returned results) = Some (Replied version Big id 0 no_values)
reply_told wish.Empty version id (raw NoException order body) = Some (Replied version order id 0 no_values)
reply_told _ version id p = Some (Replied version (order_of p) id (status_of p) (body_of p))

abbrev pub reply_by : ReplyWish → Version → ℕ → Performed → List ℕ
reply_by wish version id p = octets_if (reply_told wish version id p)

-- what is said to what arrived for its answer, if anything
abbrev pub Teller : Type 0 → Type 0
Teller Outcome = Wanted → Result Outcome SystemName → Option Telling

-- the message of an answer to what arrived, if one is wished for
abbrev pub answer_told : (List ℕ → Bool) → Teller Performed
answer_told knows (asking c q) answer = reply_told q.wish q.version q.id (answered_as answer)
answer_told knows (locating c version id to) answer = Some (Located version id (locate_status knows (key_of_addressed to)))

-- what is said to what arrived for a call that is parked under a number, if anything
abbrev pub Later : Type 0
Later = Wanted → ℕ → Option Telling

-- nothing yet
abbrev pub nothing_yet : Later
nothing_yet w number = None

-- the message for what a log keeps, if there is one
abbrev pub held_told : Later → (List ℕ → Bool) → Teller Holding
held_told late knows w (Ok (known outcome)) = answer_told knows w (Ok outcome)
held_told late knows w (Ok (parked number)) = late w number
held_told late knows w (Err refusal) = answer_told knows w (Err refusal)

-- .. where what was served when it arrived says which keys name objects
abbrev pub told_at : Later → (ℕ → Terms) → Teller Holding
told_at late terms w answer = held_told late (terms (origin_of w).changes).knows w answer

module _ {Outcome : Type 0} (tell : Teller Outcome) where
  -- its octets
  unfoldable pub rendering : Wanted → Result Outcome SystemName → List ℕ
  rendering w answer = octets_if (tell w answer)

  -- the messages of these answers to these arrivals, in order
  abbrev pub answers_told : List (Arrival Wanted) → List (Result Outcome SystemName) → List Telling
  answers_told [] answers = []
  answers_told (a ∷ later) [] = []
  answers_told (a ∷ later) (answer ∷ answers) = cons_option (tell a.content answer) (answers_told later answers)

  -- their octets, one after another
  abbrev pub rendered : List (Arrival Wanted) → List (Result Outcome SystemName) → List ℕ
  rendered arrivals answers = flat_map octets_told (answers_told arrivals answers)
