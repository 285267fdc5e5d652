-- Words of private functions: no public contract cites them.
use Rattle.std.specs.Prelude.{◌≡◌, ℕ, zero, suc, ◌+◌, ℤ, pos, List, [], ◌∷◌, ◌++◌, length, map, Option, Some, None, is_some, slice_get, IsTrue}
use Rattle.std.specs.List.{AllByRecursion}
use Rattle.cdr_core.specs.Spelling.{IsClean}
use Rattle.ft_client.specs.declared.client.FtClient.{FtClient}
use Rattle.ft_client.specs.declared.ended.Ended.{Ended as CodeEnded}
use Rattle.ft_client.specs.declared.error.CallError.{CallError}
use Rattle.ft_client.specs.declared.error.CallError.TheVariants.{Expired, IdsUsed, Memory, TooLong, TooManyCalls}
use Rattle.ft_client.specs.declared.error.RecallError.{RecallError}
use Rattle.ft_client.specs.declared.error.RecallError.TheVariants as recall
use Rattle.ft_client.specs.declared.error.RedirectError.{RedirectError}
use Rattle.ft_client.specs.declared.error.RedirectError.TheVariants as redirect
use Rattle.ft_client.specs.Clients.{Called, Client, Ended, Pending, Resumed, made as takes}
use Rattle.ft_client.specs.Directions.{stream}
use Rattle.ft_client.specs.Laws.{CallsCompleteOnce, LivesGoOn, RequestsAreAsLong}
use Rattle.ft_client.specs.Lives.{call_at}
use Rattle.ft_client.specs.Messages.{Call, octets_said, typed}
use Rattle.ft_client.specs.Standing.{FtStands, down}
use Rattle.ft_orb.specs.ExactlyOnce.{OneExpiration}
use Rattle.ft_orb.specs.History.{Event, arrivals}
use Rattle.ft_orb.specs.Outputs.{Made}
use Rattle.ft_objects.specs.Servants.{Meaning}
use Rattle.ft_orb.specs.Standing.{Shown, Stands}
use Rattle.ft_ends.specs.declared.post.Post.{Post}
use Rattle.ft_ends.specs.declared.taken.Taken.{Taken as CodeTaken}
use Rattle.ft_ends.specs.declared.way.Way.{Way}
use Rattle.ft_ends.specs.declared.wire.Wire.{Wire as CodeWire}
use Rattle.ft_ends.specs.Both.{AreDistinct}
use Rattle.ft_ends.specs.Laws.{sides_of}
use Rattle.ft_ends.specs.Playing.{call_as, given_of, numbered}
use Rattle.ft_orb.specs.Tellings.{Telling, octets_told}
use Rattle.ft_ends.specs.Tellings.{law_told, tellings}
use Rattle.ft_ends.specs.World.{CallNow, Member, Moved, Newcomer, RecallNow, Step, Wire, World, client_of, member_of, moved, step}

-- the laws of clients
pub record ClientLaws : Type 0 where
  pub once : CallsCompleteOnce
  pub goes_on : LivesGoOn
  pub as_long : RequestsAreAsLong

-- an error that is no failed allocation
abbrev pub IsRefusal : CallError → Type 0
IsRefusal Expired = Unit {0}
IsRefusal IdsUsed = Unit {0}
IsRefusal TooManyCalls = Unit {0}
IsRefusal TooLong = Unit {0}
IsRefusal Memory = ⊥

-- .. of a call that is taken up again
abbrev pub IsRecallRefusal : RecallError → Type 0
IsRecallRefusal recall.NumberUsed = Unit {0}
IsRecallRefusal recall.Expired = Unit {0}
IsRecallRefusal recall.TooManyCalls = Unit {0}
IsRecallRefusal recall.TooLong = Unit {0}
IsRecallRefusal recall.Memory = ⊥

-- .. of a call that is redirected
abbrev pub IsRedirectRefusal : RedirectError → Type 0
IsRedirectRefusal redirect.NotForwarded = Unit {0}
IsRedirectRefusal redirect.TooLong = Unit {0}
IsRedirectRefusal redirect.Memory = ⊥

-- a call that was taken, as it is noted, under its number
abbrev pub taken_of : CodeTaken → ℤ × Call
taken_of t = (t.number, call_as t.call.now)

-- a call with its number, if it was given one
abbrev pub noted : Option ℤ → Call → List (ℤ × Call)
noted None call = []
noted (Some number) call = (number, call) ∷ []

-- .. as a client's life has it
abbrev pub numbered_call : ℕ × Call → ℤ × Call
numbered_call x = (pos x.0, x.1)

-- the calls of a client are those that were noted
abbrev pub AreTaken : List CodeTaken → List (ℕ × Call) → Type 0
AreTaken taken calls = map taken_of taken ≡ map numbered_call calls

-- the calls that a client has made after a step
abbrev pub calls_after : Step → Client → List (ℕ × Call) → List (ℕ × Call)
calls_after (CallNow k now call) c calls = calls ++ takes (Called now call) c
calls_after (RecallNow k now id call) c calls = calls ++ takes (Resumed now id call) c
calls_after s c calls = calls

-- what a client has pending are typed calls among these, as they were called
pub record AreCalled (calls : List (ℕ × Call)) (pending : List Pending) : Type 0 where
  pub call : AllByRecursion (λ p. call_at calls p.id ≡ Some p.call) pending
  pub values : AllByRecursion (λ p. p.call.form ≡ typed) pending

-- of all octets that were written one way, so many were delivered: it holds the last of them
abbrev pub IsWay : Way → List ℕ → ℕ → Type 0
IsWay way all went = (gone : List ℕ) × (all ≡ gone ++ way.octets.items) × (went ≡ length gone + way.delivered)

-- it holds none
pub record IsIdle (way : Way) : Type 0 where
  pub octets : way.octets.items ≡ []
  pub delivered : way.delivered ≡ 0

-- no connection
pub record IsUnused (wire : CodeWire) : Type 0 where
  pub number : wire.number ≡ None
  pub up : IsIdle wire.up
  pub down : IsIdle wire.down

-- a connection, where these are all that the server said on each
pub record IsWire (tells : ℕ → List Telling) (wire : CodeWire) (x : Wire) : Type 0 where
  pub number : wire.number ≡ Some x.number
  pub up : IsWay wire.up (stream octets_said x.said) x.went
  pub down : IsWay wire.down (stream octets_told (tells x.number)) x.came

abbrev pub IsWireFor : (ℕ → List Telling) → CodeWire → Option Wire → Type 0
IsWireFor tells wire None = IsUnused wire
IsWireFor tells wire (Some x) = IsWire tells wire x

-- what stands beside a client that has no connection and has called nothing
pub record IsBare (post : Post) : Type 0 where
  pub wire : IsUnused post.wire
  pub taken : post.taken.items ≡ []

-- .. and so many of them
abbrev pub AreBare : ℕ → List Post → Type 0
AreBare zero [] = Unit {0}
AreBare (suc n) (u ∷ us) = IsBare u × AreBare n us
AreBare zero (u ∷ us) = ⊥
AreBare (suc n) [] = ⊥

-- a client, and what stands beside it, stand for a member
pub record IsHeld (tells : ℕ → List Telling) (m : Member) (client : FtClient) (post : Post) : Type 0 where
  pub client_is : FtStands client m.life.client
  pub wire_is : IsWireFor tells post.wire m.wire
  pub taken : AreTaken post.taken.items m.life.calls

-- .. and clients for members
abbrev pub AreHeld : (ℕ → List Telling) → List Member → List FtClient → List Post → Type 0
AreHeld tells [] [] [] = Unit {0}
AreHeld tells (m ∷ ms) (c ∷ cs) (u ∷ us) = IsHeld tells m c u × AreHeld tells ms cs us
AreHeld tells [] [] (u ∷ us) = ⊥
AreHeld tells [] (c ∷ cs) us = ⊥
AreHeld tells (m ∷ ms) [] us = ⊥
AreHeld tells (m ∷ ms) (c ∷ cs) [] = ⊥

module _ {State : Type 0} (meaning : Meaning State) (made : Made State) where
  -- what the server says on each connection
  abbrev pub tells : List Event → ℕ → List Telling
  tells past c = tellings (law_told meaning made) past c

  -- the server, a client and its wire, after a step of that client
  pub record Holds (server : Shown State) (client : FtClient) (wire : CodeWire) (v : Moved) : Type 0 where
    pub server_is : Stands meaning made server v.past
    pub client_is : FtStands client v.member.life.client
    pub wire_is : IsWireFor (tells v.past) wire v.member.wire

  -- a client may take a step: it has a link where it has a connection, nothing was said on the next one, what it has pending is as
  -- it called it, and requests with one key carry one expiration after the step
  pub record IsSettled (past : List Event) (opened : ℕ) (m : Member) (s : Step) : Type 0 where
    pub linked : is_some m.life.client.link ≡ is_some m.wire
    pub fresh : tells past (suc opened) ≡ []
    pub called : AreCalled m.life.calls m.life.client.pending
    pub once : OneExpiration (arrivals made.limits (moved (sides_of meaning made down) past opened s m).past)

  -- all of it stands for a world, where these were the completions before its first step
  pub record Runs (server : Shown State) (opened : ℕ) (clients : List FtClient) (posts : List Post) (before : List (ℕ × ℤ × Ended)) (out : List (ℕ × ℤ × CodeEnded)) (w : World) : Type 0 where
    pub server_is : Stands meaning made server w.past
    pub opened_is : opened ≡ w.opened
    pub held : AreHeld (tells w.past) w.members clients posts
    pub given : map given_of out ≡ before ++ map numbered w.completions

  -- a step may be taken in a world: its client may take it, and it says nothing on the connections of others
  pub record IsReady (w : World) (s : Step) : Type 0 where
    pub settled : (m : Member) → slice_get w.members (client_of s) ≡ Some m → IsSettled w.past w.opened m s
    pub others : (k : ℕ) (m : Member) (x : Wire) → slice_get w.members k ≡ Some m → m.wire ≡ Some x → (k ≡ client_of s → ⊥) → tells (step (sides_of meaning made down) w s).past x.number ≡ tells w.past x.number

  -- a new server, new clients with clean ids that differ, and beside them no connection and no call
  pub record AreSet (newcomers : List Newcomer) (server : Shown State) (clients : List FtClient) (posts : List Post) : Type 0 where
    pub stands : Stands meaning made server []
    pub state : IsTrue (meaning.is_state made.opening)
    pub held : AreHeld (tells []) (map member_of newcomers) clients posts
    pub distinct : AreDistinct newcomers
    pub clean : AllByRecursion (λ n. IsClean n.client_id) newcomers
