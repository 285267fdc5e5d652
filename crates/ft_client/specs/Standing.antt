-- What a client of the code stands for.
use Rattle.std.specs.Prelude.{◌≡◌, ℕ, ◌+◌, ◌<◌, ◌≤◌, ◌==◌, true, List, [], ◌∷◌, ◌++◌, length, map, take, Option, Some, None}
use Rattle.std.specs.List.{AllByRecursion, filter_map}
use Rattle.giop_core.specs.declared.request.ReplyWish.TheVariants.{Full}
use Rattle.giop_frames.specs.declared.limits.Limits.{Limits}
use Rattle.giop_link.specs.Answering.{answer_to, client_ending}
use Rattle.giop_link.specs.ClientLinking.{ClientLinked, ClientStands, Exchange, Terms}
use Rattle.giop_link.specs.Hearing.{Hearing, hearing_of}
use Rattle.giop_link.specs.Ids.{Ids, entered, wanted_by}
use Rattle.ft_client.specs.declared.client.FtClient.{FtClient}
use Rattle.ft_client.specs.Clients.{Client, Linked, Pending, is_unsettled, parted, told_of}
use Rattle.ft_client.specs.Ends.{completion_of, numbered}
use Rattle.ft_client.specs.Keeping.{kept_by, kept_of}
use Rattle.ft_client.specs.Lives.{AreRising, one_if}
use Rattle.ft_client.specs.Messages.{Answer}

-- what a client hears of its server
abbrev pub down : Limits → Hearing Answer
down limits = hearing_of answer_to limits

-- the request ids under which pending calls were sent on the present link
abbrev pub sent_ids : List Pending → List ℕ
sent_ids ps = filter_map (λ p. p.sent) ps

-- the numbers grow, and are at most this
abbrev pub AreAscending : ℕ → List ℕ → Type 0
AreAscending most [] = Unit {0}
AreAscending most (i ∷ is) = (i ≤ most) × AllByRecursion (λ j. i < j) is × AreAscending most is

-- the ids of a link that has given so many, where these requests wait for replies
abbrev pub waiting_ids : ℕ → List ℕ → Ids
waiting_ids given [] = record { given = given; outstanding = [] }
waiting_ids given (i ∷ is) = record { given = given; outstanding = entered (wanted_by Full) i [] ++ (waiting_ids given is).outstanding }

abbrev pub exchange_of : Linked → List ℕ → Exchange
exchange_of l is = record { ids = waiting_ids l.given is; received = l.received }

-- how often an id is among ids
abbrev pub times : ℕ → List ℕ → ℕ
times r [] = 0
times r (i ∷ is) = one_if (i == r) + times r is

-- what a client's links are made with; at most 64 calls are pending
abbrev pub terms_of : Client → Terms
terms_of m = record { limits = m.limits; version = m.version; most = 64 }

-- A link that goes on and stands for the client's. The ids that wait on it grow, and are those of the pending calls, in whatever
-- order; each call that was sent on it wishes for a reply.
pub record IsLinked (link : ClientLinked) (m : Client) (l : Linked) : Type 0 where
  pub ids : List ℕ
  pub stands : ClientStands (terms_of m) link (exchange_of l ids)
  pub going : client_ending m.limits l.received ≡ None
  pub ascending : AreAscending l.given ids
  pub same : (r : ℕ) → times r ids ≡ times r (sent_ids m.pending)
  pub wished : AllByRecursion (λ p. is_unsettled p ≡ true) m.pending

-- what a client holds as its link: where there is none, no call is sent
abbrev pub LinkFor : Option ClientLinked → Client → Option Linked → Type 0
LinkFor None m None = sent_ids m.pending ≡ []
LinkFor (Some link) m (Some l) = IsLinked link m l
LinkFor _ m _ = ⊥

-- what the fields of a client stand for, but for the link
pub record FieldsStand (c : FtClient) (m : Client) : Type 0 where
  pub client_id : c.client_id.items ≡ m.client_id
  pub version : c.version ≡ m.version
  pub limits : c.limits ≡ m.limits
  pub last : c.last ≡ m.last
  pub pending : map kept_by c.pending.items ≡ map (kept_of m.version m.client_id) m.pending
  pub completions : map completion_of c.completions.items ≡ map numbered m.completions
  pub rising : AreRising m.last m.pending
  pub keeps : c.keeps_transient ≡ m.keeps_transient
  pub forwards : c.keeps_forwards ≡ m.keeps_forwards

-- a client stands for this one
pub record FtStands (c : FtClient) (m : Client) : Type 0 where
  pub fields : FieldsStand c m
  pub link : LinkFor c.link m m.link

-- an allocation failed: the replies in a front of these octets, not in all of them, were taken, and the connection is lost
abbrev pub IsFedShort : List ℕ → Client → FtClient → Type 0
IsFedShort octets m c = (n : ℕ) × (n < length octets) × FtStands c (parted (told_of (down m.limits) (take n octets) m m.link))
