-- What can be written, and what is heard of it.
use Rattle.std.specs.Prelude.{◌≡◌, ℕ, ◌<◌, ◌≤◌, ◌^◌, List, ◌++◌, length, filter_map, map}
use Rattle.std.specs.List.{AllByRecursion}
use Rattle.cdr_core.specs.Numbers.{AreOctets}
use Rattle.cdr_core.specs.Spelling.{IsClean}
use Rattle.cdr_core.specs.Writing.{octets_of_all}
use Rattle.cdr_core.specs.declared.order.Order.TheVariants.{Big}
use Rattle.giop_frames.specs.declared.limits.Limits.{Limits}
use Rattle.giop_link.specs.Hearing.{Hearing, heard}
use Rattle.ft_client.specs.Directions.{stream}
use Rattle.ft_client.specs.Messages.{Answer, Asked, Call, Said, Transmission, Withdrawn, contexts_of, incoming_of, octets_said, request_behind, typed}
use Rattle.ft_orb.specs.ExactlyOnce.{Present}
use Rattle.ft_objects.specs.Replies.{body_limit}
use Rattle.ft_orb.specs.Requests.{field_of}
use Rattle.ft_ends.specs.Both.{key_of}
use Rattle.ft_orb.specs.Tellings.{Closing, Failed, Located, Replied, Telling, octets_told}
use Rattle.ft_ends.specs.Tellings.{answer_in}

-- the first list is a front of the second
abbrev pub IsFront : {A : Type 0} → List A → List A → Type 0
IsFront {A} xs ys = (more : List A) × (ys ≡ xs ++ more)

-- a call's arguments are typed, its operation has no NUL, its arguments are written as octets, and its expiration is an unsigned long long
pub record IsFineCall (call : Call) : Type 0 where
  pub values : call.form ≡ typed
  pub operation : IsClean call.operation
  pub arguments : (place : ℕ) → AreOctets (octets_of_all Big call.arguments place)
  pub expiration : call.expiration < 2 ^ 64

-- what a client says can be written: texts have no NUL, numbers are in their ranges, and the size is one that a header can say
pub record IsFine (t : Transmission) : Type 0 where
  pub client : IsClean t.client_id
  pub call : IsFineCall t.call
  pub number : t.retention_id < 2 ^ 31
  pub id : t.request_id < 2 ^ 32
  pub size : length (request_behind t) < 2 ^ 32

abbrev pub IsFineSaid : Said → Type 0
IsFineSaid (Asked t) = IsFine t
IsFineSaid (Withdrawn version id) = id < 2 ^ 32

-- what the server says can be written and read again: a reply's status is at most 3, and its body takes at most 1,048,576 octets in its order
abbrev pub IsFineTelling : Telling → Type 0
IsFineTelling (Replied version order id status body) = (id < 2 ^ 32) × (status ≤ 3) × (length (octets_of_all order body 24) ≤ body_limit)
IsFineTelling (Located version id status) = (id < 2 ^ 32) × (status ≤ 1)
IsFineTelling Failed = Unit {0}
IsFineTelling Closing = Unit {0}

-- Nothing is heard on either direction but what was said: what a server of these limits hears of what clients wrote is a front
-- of what they say, and what clients hear is never taken back, and of what the server wrote is a front of what it says.
pub record AreFaithful (limits : Limits) (hears : Limits → Hearing Answer) : Type 0 where
  pub asked : (said : List Said) → AllByRecursion IsFineSaid said → IsFront (heard limits (stream octets_said said)) (map incoming_of said)
  pub carried : (t : Transmission) → IsFine t → field_of (contexts_of t) ≡ Present (key_of t) t.call.expiration
  pub grows : (own : Limits) (s c : List ℕ) → IsFront ((hears own).heard s) ((hears own).heard (s ++ c))
  pub answered : (own : Limits) (ts : List Telling) → AllByRecursion IsFineTelling ts → IsFront ((hears own).heard (stream octets_told ts)) (filter_map answer_in ts)
