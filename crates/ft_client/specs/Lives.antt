-- A client with all that ever was, and what is true of it.
use Rattle.std.specs.Prelude.{◌≡◌, ◌⊎◌, ℕ, ◌+◌, ◌<◌, ◌≤◌, ◌==◌, ◌&&◌, nat_le, nat_lt, ℤ, pos, Bool, true, false, if◌then◌else◌, List, [], ◌∷◌, ◌++◌, length, Option, Some, None}
use Rattle.std.specs.List.{AllByRecursion, Contains}
use Rattle.giop_core.specs.declared.header.Version.{Version}
use Rattle.giop_frames.specs.declared.limits.Limits.{Limits}
use Rattle.ft_client.specs.Clients.{Called, Client, Ended, Fed, Happening, Joined, Kept, KeptForwards, Parted, Pending, Recalled, Redirected, Resent, Resumed, Skipped, Taken, Ticked, after, gives, made, new_client, says}
use Rattle.giop_link.specs.Hearing.{Hearing}
use Rattle.ft_client.specs.Messages.{Answer, Asked, Call, Said, Transmission, Withdrawn, version_in}

-- a client with all its calls and their numbers, the first first, its transmissions, each with its moment, and the completions that were taken
pub record Life : Type 0 where
  pub client : Client
  pub calls : List (ℕ × Call)
  pub sent : List (ℕ × Transmission)
  pub taken : List (ℕ × Ended)

abbrev pub new_life : List ℕ → Version → Limits → Life
new_life client_id version limits = record {
  client = new_client client_id version limits;
  calls = [];
  sent = [];
  taken = [];
}

-- the transmissions among what is written at a moment
abbrev pub sent_at : ℕ → List Said → List (ℕ × Transmission)
sent_at now [] = []
sent_at now (Asked t ∷ later) = (now, t) ∷ sent_at now later
sent_at now (Withdrawn version request_id ∷ later) = sent_at now later

-- the moment of a happening at which requests are written
abbrev pub moment_of : Happening → ℕ
moment_of (Called now call) = now
moment_of (Resumed now id call) = now
moment_of (Joined now) = now
moment_of (Resent now) = now
moment_of _ = 0

-- a life and one happening more
abbrev pub goes_on : Hearing Answer → Happening → Life → Life
goes_on down h l = record {
  client = after down h l.client;
  calls = l.calls ++ made h l.client;
  sent = l.sent ++ sent_at (moment_of h) (says h l.client);
  taken = l.taken ++ gives h l.client;
}

-- a life and what happens after it, the first first
abbrev pub lived : Hearing Answer → List Happening → Life → Life
lived down [] l = l
lived down (h ∷ hs) l = lived down hs (goes_on down h l)

-- the call of a number, if it was given one
abbrev pub call_at : List (ℕ × Call) → ℕ → Option Call
call_at [] r = None
call_at (x ∷ xs) r = if x.0 == r then Some x.1 else call_at xs r

abbrev pub one_if : Bool → ℕ
one_if true = 1
one_if false = 0

-- how often a number was given a call, how often it is pending, and how often it was completed
abbrev pub called_count : ℕ → List (ℕ × Call) → ℕ
called_count r [] = 0
called_count r (x ∷ xs) = one_if (x.0 == r) + called_count r xs

abbrev pub pending_count : ℕ → List Pending → ℕ
pending_count r [] = 0
pending_count r (p ∷ ps) = one_if (p.id == r) + pending_count r ps

abbrev pub ended_count : ℕ → List (ℕ × Ended) → ℕ
ended_count r [] = 0
ended_count r (x ∷ xs) = one_if (x.0 == r) + ended_count r xs

-- the numbers grow along the list, and are at most this
abbrev pub AreRising : ℕ → List Pending → Type 0
AreRising last [] = Unit {0}
AreRising last (p ∷ ps) = (p.id ≤ last) × AllByRecursion (λ q. p.id < q.id) ps × AreRising last ps

-- a client that took these calls, and from which these completions were taken
pub record IsAlive (client_id : List ℕ) (version : Version) (calls : List (ℕ × Call)) (taken : List (ℕ × Ended)) (m : Client) : Type 0 where
  pub client : m.client_id ≡ client_id
  pub writes : m.version ≡ version
  -- numbers count from 1, and no number was given two calls
  pub numbers : AllByRecursion (λ x. (0 < x.0) × (x.0 ≤ m.last)) calls
  pub single : (r : ℕ) → called_count r calls ≤ 1
  -- each number that was given is pending, or was completed once, and no other is
  pub once : (r : ℕ) → pending_count r m.pending + (ended_count r taken + ended_count r m.completions) ≡ called_count r calls
  -- what is pending is as it was called, in order of the numbers
  pub pending : AllByRecursion (λ p. call_at calls p.id ≡ Some p.call) m.pending
  pub rising : AreRising m.last m.pending

-- a transmission of one of these calls, made in time
pub record IsOfCall (client_id : List ℕ) (version : Version) (calls : List (ℕ × Call)) (x : ℕ × Transmission) : Type 0 where
  pub client : x.1.client_id ≡ client_id
  pub written : x.1.version ≡ version_in version x.1.call.form
  pub call : call_at calls x.1.retention_id ≡ Some x.1.call
  pub in_time : x.0 ≤ x.1.call.expiration

pub record IsLife (client_id : List ℕ) (version : Version) (l : Life) : Type 0 where
  pub alive : IsAlive client_id version l.calls l.taken l.client
  -- each transmission of a call carries this client's id and the call's content, and none was made past its expiration
  pub sent : AllByRecursion (λ x. IsOfCall client_id version l.calls x) l.sent

-- the object keys that redirections give, each with the number of its call
abbrev pub redirection : Happening → List (ℤ × List ℕ)
redirection (Redirected id key) = (id, key) ∷ []
redirection _ = []

abbrev pub redirections : List Happening → List (ℤ × List ℕ)
redirections [] = []
redirections (h ∷ hs) = redirection h ++ redirections hs

-- a transmission that asks under its call's own object key, or under one that these give its number
abbrev pub IsAskedAt : List (ℤ × List ℕ) → Transmission → Type 0
IsAskedAt keys t = (t.at ≡ t.call.object_key) ⊎ Contains keys (pos t.retention_id, t.at)

-- what leaves numbers out: a call of before that is taken up again, and a number that is skipped
abbrev pub leaves_out : Happening → Bool
leaves_out (Called now call) = false
leaves_out (Resumed now id call) = true
leaves_out (Skipped id) = true
leaves_out (Kept keeps) = false
leaves_out (KeptForwards keeps) = false
leaves_out (Redirected id key) = false
leaves_out (Joined now) = false
leaves_out (Resent now) = false
leaves_out (Fed octets) = false
leaves_out Parted = false
leaves_out (Recalled id) = false
leaves_out (Ticked now) = false
leaves_out Taken = false

-- each number up to the last was given a call, and is pending, or was completed once; no other is
pub record HasNoGaps (l : Life) : Type 0 where
  pub count : length l.calls ≡ l.client.last
  pub once : (r : ℕ) → pending_count r l.client.pending + (ended_count r l.taken + ended_count r l.client.completions) ≡ one_if (nat_lt 0 r && nat_le r l.client.last)
