-- That both ends act as one.
use Rattle.std.specs.Prelude.{◌≡◌, ℕ, ◌≤◌, ◌<◌, ◌==◌, ◌&&◌, pos, false, List, [], ◌∷◌, ◌++◌, ◌+◌, Option, Some, IsSome, Contains, Result, Ok, Err, slice_get, bytes_eq}
use Rattle.std.specs.Option.{option_map}
use Rattle.std.specs.List.{AllByRecursion}
use Rattle.cdr_core.specs.Writing.{octets_of_all}
use Rattle.giop_core.specs.Content.{Rest}
use Rattle.giop_core.specs.declared.reply.ReplyStatus.TheVariants.{LocationForward, NoException, SystemException, UserException}
use Rattle.ft_log.specs.Keys.{RequestKey}
use Rattle.ft_log.specs.Performed.{Performed, raised, raw, returned, system}
use Rattle.ft_log.specs.declared.outcome.RawStatus.TheVariants as raw_status
use Rattle.ft_log.specs.declared.system_exception.SystemName.{SystemName}
use Rattle.ft_client.specs.Clients.{Cancelled, Ended, Expired, Told}
use Rattle.ft_client.specs.Lives.{IsOfCall, call_at, one_if}
use Rattle.ft_client.specs.Messages.{Transmission, question_of}
use Rattle.ft_orb.specs.ExactlyOnce.{Arrival, OneExpiration, Present, acts, answer_of, outcome_kept, performed_of}
use Rattle.ft_orb.specs.History.{Event, arrivals}
use Rattle.ft_orb.specs.Outputs.{Made}
use Rattle.ft_objects.specs.Replies.{answered_as, body_of, order_of}
use Rattle.ft_orb.specs.Requests.{Origin, Wanted, asking, rules_of}
use Rattle.ft_objects.specs.Servants.{Meaning}
use Rattle.ft_ends.specs.World.{Member, Newcomer, World}

-- the key of a transmission
abbrev pub key_of : Transmission → RequestKey
key_of t = record { client_id = t.client_id; retention_id = pos t.retention_id }

-- no two of these clients have one id
abbrev pub AreDistinct : List Newcomer → Type 0
AreDistinct [] = Unit {0}
AreDistinct (n ∷ ns) = AllByRecursion (λ other. bytes_eq n.client_id other.client_id ≡ false) ns × AreDistinct ns

-- the key of call r of client k
abbrev pub key_at : List Newcomer → ℕ → ℕ → Option RequestKey
key_at newcomers k r = option_map (λ n. record { client_id = n.client_id; retention_id = pos r }) (slice_get newcomers k)

-- how often a call was completed
abbrev pub completed_count : ℕ → ℕ → List (ℕ × ℕ × Ended) → ℕ
completed_count k r [] = 0
completed_count k r (x ∷ xs) = one_if (x.0 == k && x.1 == r) + completed_count k r xs

-- of two performed requests, one after the other, not both carry one key
abbrev pub AreOnce : List (Arrival Wanted) → Type 0
AreOnce performed =
    (front between rest : List (Arrival Wanted)) (p q : Arrival Wanted) (key : RequestKey) (early late : ℕ) → performed ≡ front ++ p ∷ between ++ q ∷ rest → p.field ≡ Present key early → q.field ≡ Present key late → ⊥

-- what a client's call ends with where this is its outcome: with the body as its reply carries it, in the outcome's byte order at the
-- place 24
abbrev pub body_at : Performed → Rest
body_at p = record { order = order_of p; place = 24; octets = octets_of_all (order_of p) (body_of p) 24 }

-- .. by its status: a body of octets that forwards ends the call with the reference to ask
abbrev pub ended_of : Performed → Ended
ended_of (returned results) = Told NoException (body_at (returned results))
ended_of (raised id members) = Told UserException (body_at (raised id members))
ended_of (system name minor completion) = Told SystemException (body_at (system name minor completion))
ended_of (raw raw_status.NoException order body) = Told NoException (body_at (raw raw_status.NoException order body))
ended_of (raw raw_status.UserException order body) = Told UserException (body_at (raw raw_status.UserException order body))
ended_of (raw raw_status.SystemException order body) = Told SystemException (body_at (raw raw_status.SystemException order body))
ended_of (raw raw_status.LocationForward order body) = Told LocationForward (body_at (raw raw_status.LocationForward order body))

-- an arrival is that of a transmission among these, wherever it came from, and carries its content, its key and its expiration
pub record IsSentIn (sent : List (ℕ × Transmission)) (a : Arrival Wanted) : Type 0 where
  pub now : ℕ
  pub transmission : Transmission
  pub origin : Origin
  pub among : Contains sent (now, transmission)
  pub content : a.content ≡ asking origin (question_of transmission)
  pub field : a.field ≡ Present (key_of transmission) transmission.call.expiration

-- .. of one that client k made for its call r
pub record IsSentFor (newcomers : List Newcomer) (members : List Member) (k r : ℕ) (a : Arrival Wanted) : Type 0 where
  pub newcomer : Newcomer
  pub member : Member
  pub client : slice_get newcomers k ≡ Some newcomer
  pub is : slice_get members k ≡ Some member
  pub sent : IsSentIn member.life.sent a
  pub number : sent.transmission.retention_id ≡ r
  pub of_call : IsOfCall newcomer.client_id newcomer.version member.life.calls (sent.now, sent.transmission)

-- .. of one that some client made for one of its calls
pub record IsSentBy (newcomers : List Newcomer) (members : List Member) (a : Arrival Wanted) : Type 0 where
  pub place : ℕ
  pub number : ℕ
  pub call : IsSentFor newcomers members place number a

module _ {State : Type 0} (meaning : Meaning State) (made : Made State) where
  -- the answer to an arrival with a key, after these: the outcome of the performed arrival of its key; or a refusal, and then
  -- it was not performed
  abbrev pub Answers : List Event → List (Arrival Wanted) → Arrival Wanted → RequestKey → Result Performed SystemName → Type 0
  Answers past before a key (Ok outcome) = outcome_kept (rules_of meaning made.capacity made.share) made.opening key (performed_of (rules_of meaning made.capacity made.share) (arrivals made.limits past)) ≡ Some (Ok outcome)
  Answers past before a key (Err refusal) = acts (rules_of meaning made.capacity made.share) (performed_of (rules_of meaning made.capacity made.share) before) a ≡ false

  -- there is an arrival of this key whose answer this is
  pub record Explains (past : List Event) (key : RequestKey) (ended : Ended) : Type 0 where
    pub before : List (Arrival Wanted)
    pub arrival : Arrival Wanted
    pub later : List (Arrival Wanted)
    pub expiration : ℕ
    pub split : arrivals made.limits past ≡ before ++ arrival ∷ later
    pub field : arrival.field ≡ Present key expiration
    pub is : ended ≡ ended_of (answered_as (answer_of (rules_of meaning made.capacity made.share) made.opening before arrival))
    pub answers : Answers past before arrival key (answer_of (rules_of meaning made.capacity made.share) made.opening before arrival)

  -- a completion of call r of client k by a reply is explained so, by an arrival of that call
  abbrev pub IsExplainedAs : List Newcomer → World → ℕ → ℕ → Ended → Type 0
  IsExplainedAs newcomers w k r Expired = Unit {0}
  IsExplainedAs newcomers w k r Cancelled = Unit {0}
  IsExplainedAs newcomers w k r ended = (key : RequestKey) × (key_at newcomers k r ≡ Some key) × (why : Explains w.past key ended) × IsSentFor newcomers w.members k r why.arrival

  -- both ends act as one
  pub record ActsOnce (newcomers : List Newcomer) (w : World) : Type 0 where
    -- each completion with a reply is the answer to an arrival that this client sent for that call: the outcome of the one that
    -- was performed, or a refusal of one that wasn't
    pub explained : AllByRecursion (λ x. IsExplainedAs newcomers w x.0 x.1 x.2) w.completions
    -- no key is performed twice
    pub performed : AreOnce (performed_of (rules_of meaning made.capacity made.share) (arrivals made.limits w.past))
    -- each arrival is one that a client sent for one of its calls
    pub arrived : AllByRecursion (λ a. IsSentBy newcomers w.members a) (arrivals made.limits w.past)
    -- all transmissions of a call carry its content, and none was made past its expiration
    pub sent : (k : ℕ) (n : Newcomer) (m : Member) → slice_get newcomers k ≡ Some n → slice_get w.members k ≡ Some m → AllByRecursion (λ x. IsOfCall n.client_id n.version m.life.calls x) m.life.sent
    -- each call completes at most once
    pub once : (k r : ℕ) → completed_count k r w.completions ≤ 1
    -- .. and what completes is a call that its client made
    pub called : (k r : ℕ) → 0 < completed_count k r w.completions → (m : Member) × (slice_get w.members k ≡ Some m) × IsSome (call_at m.life.calls r)
    -- requests with one key carry one expiration: shown, and not assumed
    pub expirations : OneExpiration (arrivals made.limits w.past)
