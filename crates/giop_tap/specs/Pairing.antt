-- Which request a message answers or cancels, and which it repeats. The earlier messages are a list, the latest first, over
-- all connections; the number of a message counts from 1.
use Rattle.std.specs.Prelude.{ℕ, suc, ◌+◌, ◌/◌, ◌==◌, ◌≤◌, ◌&&◌, ◌||◌, ◌++◌, ℤ, Bool, true, false, not, List, [], ◌∷◌, length, sum_by, take, Option, Some, None, IsSome, if◌then◌else◌}
use Rattle.std.specs.Option.{option_map}
use Rattle.std.specs.Ordering.{int_eq}
use Rattle.std.specs.List.{filter, find, list_any}
use Rattle.std.specs.Str.{bytes_eq}
use Rattle.giop_core.specs.declared.request.ReplyWish.{ReplyWish}
use Rattle.giop_core.specs.declared.request.ReplyWish.TheVariants as wish
use Rattle.giop_core.specs.Content as content
use Rattle.giop_core.specs.Content.{Content}
use Rattle.giop_core.specs.Ft.{Ft, absent, bad, ft_in, present}
use Rattle.giop_tap.specs.declared.part.Part.{Part}
use Rattle.giop_tap.specs.declared.part.Part.TheVariants.{Asks, Answers, Cancels, Apart}
use Rattle.giop_tap.specs.declared.place.Wanted.{Wanted}
use Rattle.giop_tap.specs.declared.place.Wanted.TheVariants as wanted
use Rattle.giop_tap.specs.declared.sender.Sender.{Sender}
use Rattle.giop_tap.specs.declared.sender.Sender.TheVariants.{Opener, Acceptor}

-- a message: its connection, the side that sent it, and what it says
pub record Said : Type 0 where
  pub connection : ℕ
  pub sender : Sender
  pub content : Content

-- answers

-- a request that waits for its answer
pub record Asked : Type 0 where
  pub number : ℕ
  pub connection : ℕ
  pub sender : Sender
  pub wanted : Wanted
  pub id : ℕ

-- GIOP 9.4.2: a request is answered unless its response flags ask for none
abbrev pub asked_by : ReplyWish → ℕ → Part
asked_by wish.None id = Apart
asked_by wish.Empty id = Asks wanted.Reply id
asked_by wish.Full id = Asks wanted.Reply id

-- GIOP 9.4.2 to GIOP 9.4.6: what a message is to the pairs: a request of an id, by the kind of its answer; an answer; a cancel
abbrev pub part_of : Content → Part
part_of (content.request id wish to operation contexts body) = asked_by wish id
part_of (content.locate_request id to) = Asks wanted.Location id
part_of (content.reply id status contexts body) = Answers wanted.Reply id
part_of (content.locate_reply id status body) = Answers wanted.Location id
part_of (content.cancel id) = Cancels id
part_of content.close = Apart
part_of content.error = Apart
part_of (content.fragment id octets) = Apart

abbrev pub is_same : Sender → Sender → Bool
is_same Opener Opener = true
is_same Acceptor Acceptor = true
is_same _ _ = false

-- the other side
abbrev pub peer : Sender → Sender
peer Opener = Acceptor
peer Acceptor = Opener

abbrev pub is_wanted : Wanted → Wanted → Bool
is_wanted wanted.Reply wanted.Reply = true
is_wanted wanted.Location wanted.Location = true
is_wanted _ _ = false

-- a request of a side and an id, on a connection
abbrev pub is_asked : ℕ → Sender → ℕ → Asked → Bool
is_asked connection sender id a = (a.connection == connection && is_same a.sender sender) && a.id == id

-- whether a message of a side is about a request: an answer is about one of the other side, which waits for its kind, and a
-- cancel about one of its own side, of either kind
abbrev pub is_about : ℕ → Sender → Part → Asked → Bool
is_about connection sender (Answers kind id) a = is_asked connection (peer sender) id a && is_wanted kind a.wanted
is_about connection sender (Cancels id) a = is_asked connection sender id a
is_about connection sender (Asks kind id) a = false
is_about connection sender Apart a = false

-- the last for which a test holds
abbrev pub later_or : Option Asked → Bool → Asked → Option Asked
later_or (Some b) is a = Some b
later_or None is a = if is then Some a else None

abbrev pub latest : (Asked → Bool) → List Asked → Option Asked
latest test [] = None
latest test (a ∷ later) = later_or (latest test later) (test a) a

-- the others
abbrev pub without_latest : (Asked → Bool) → List Asked → List Asked
without_latest test [] = []
without_latest test (a ∷ later) = if list_any test later then a ∷ without_latest test later else (if test a then later else a ∷ later)

-- the requests that wait after a message: one more, or without the one that it answers
abbrev pub waiting_after : ℕ → ℕ → Sender → Part → List Asked → List Asked
waiting_after number connection sender (Asks kind id) asked = asked ++ record { number = number; connection = connection; sender = sender; wanted = kind; id = id } ∷ []
waiting_after number connection sender (Answers kind id) asked = without_latest (is_about connection sender (Answers kind id)) asked
waiting_after number connection sender (Cancels id) asked = asked
waiting_after number connection sender Apart asked = asked

-- the requests that no message has answered, in their order
abbrev pub waiting : List Said → List Asked
waiting [] = []
waiting (m ∷ earlier) = waiting_after (suc (length earlier)) m.connection m.sender (part_of m.content) (waiting earlier)

-- the number of a request
abbrev pub number_of : Option Asked → Option ℕ
number_of None = None
number_of (Some a) = Some a.number

-- GIOP 9.4.3, GIOP 9.4.4, GIOP 9.4.6: which request a message answers or cancels: the latest that waits, and that it is about
abbrev pub request_of : Said → List Said → Option ℕ
request_of m earlier = number_of (latest (is_about m.connection m.sender (part_of m.content)) (waiting earlier))

-- the same of the latest message
abbrev pub answered : List Said → Option ℕ
answered [] = None
answered (m ∷ earlier) = request_of m earlier

-- GIOP 9.4.2, GIOP 9.4.5: the requests that want an answer, by their numbers
abbrev pub asking_by : ℕ → Part → List ℕ
asking_by number (Asks kind id) = number ∷ []
asking_by number (Answers kind id) = []
asking_by number (Cancels id) = []
asking_by number Apart = []

abbrev pub asking : List Said → List ℕ
asking [] = []
asking (m ∷ earlier) = asking earlier ++ asking_by (suc (length earlier)) (part_of m.content)

-- whether a message is the answer to the request of a number
abbrev pub is_number : ℕ → Option ℕ → Bool
is_number number None = false
is_number number (Some request) = request == number

abbrev pub answers : ℕ → Part → Option ℕ → Bool
answers number (Answers kind id) request = is_number number request
answers number (Asks kind id) request = false
answers number (Cancels id) request = false
answers number Apart request = false

-- whether one of these is
abbrev pub is_answered : ℕ → List Said → Bool
is_answered number [] = false
is_answered number (m ∷ earlier) = is_answered number earlier || answers number (part_of m.content) (request_of m earlier)

-- the requests that want an answer, and that no message has answered
abbrev pub unanswered_in : List Said → List ℕ
unanswered_in earlier = filter (λ n. not (is_answered n earlier)) (asking earlier)

-- repeats

-- FT 23.2.7: a client id and a retention id name a request over all its transmissions; and the number of the message
pub record Named : Type 0 where
  pub client_id : List ℕ
  pub retention_id : ℤ
  pub number : ℕ

-- whether it has this key
abbrev pub has_key : List ℕ → ℤ → Named → Bool
has_key client retention n = int_eq n.retention_id retention && bytes_eq n.client_id client

-- what the contexts of a request say of its client
abbrev pub ft_of : Content → Ft
ft_of (content.request id wish to operation contexts body) = ft_in contexts
ft_of _ = absent

-- a request with a key, in the message of a number
abbrev pub named_by : ℕ → Ft → List Named
named_by number (present client retention expiration) = record { client_id = client; retention_id = retention; number = number } ∷ []
named_by number absent = []
named_by number bad = []

-- all of them among messages, in their order
abbrev pub named_in : List Said → List Named
named_in [] = []
named_in (m ∷ earlier) = named_in earlier ++ named_by (suc (length earlier)) (ft_of m.content)

-- whether a request has the key of these contexts
abbrev pub is_repeated : Ft → Named → Bool
is_repeated (present client retention expiration) n = has_key client retention n
is_repeated absent n = false
is_repeated bad n = false

-- FT 23.2.7: which request the latest message repeats: the first of all with its key, on any connection
abbrev pub repeated : List Said → Option ℕ
repeated [] = None
repeated (m ∷ earlier) = option_map (λ n. n.number) (find (is_repeated (ft_of m.content)) (named_in earlier))

-- whether the message of a number is an earlier request with the key of the latest
abbrev pub may_repeat : ℕ → List Said → Bool
may_repeat number [] = false
may_repeat number (m ∷ earlier) = list_any (λ n. is_repeated (ft_of m.content) n && n.number == number) (named_in earlier)

-- own rule: a key weighs one, and one more for each 256 octets of its client id
abbrev pub weight_of : List ℕ → ℕ
weight_of client = length client / 256 + 1

abbrev pub weight_in : List Named → ℕ
weight_in ns = sum_by (λ n. weight_of n.client_id) ns

-- own rule: keys may be forgotten, but none of the last requests, as many as weigh no more than this: whether the latest
-- message repeats one of them
abbrev pub RepeatsRecent : ℕ → List Said → Type 0
RepeatsRecent most [] = ⊥
RepeatsRecent most (m ∷ earlier) = (k : ℕ) × (weight_in (named_in (take k earlier)) ≤ most) × IsSome (repeated (m ∷ take k earlier))
