-- What a call on a client does.
use Rattle.std.specs.Prelude.{◌≡◌, ◌≢◌, ℕ, ◌<◌, ℤ, pos, Bool, true, List, [], ◌∷◌, ◌++◌, ◌≤◌, length, min, take, drop, is_some, option_map, Option, Some, None, Result, Ok, Err, FitsSigned}
use Rattle.std.specs.Int.{from_bool, w32}
use Rattle.std.specs.Option.{option_and_then}
use Rattle.cdr_core.specs.declared.order.Order.TheVariants.{Big}
use Rattle.cdr_core.specs.Spelling.{IsClean}
use Rattle.giop_core.specs.Content.{Rest}
use Rattle.giop_core.specs.declared.reply.ReplyStatus.TheVariants.{LocationForward, NoException, UserException}
use Rattle.giop_core.specs.declared.header.Version.TheVariants.{V12}
use Rattle.giop_frames.specs.declared.limits.Cuts.TheVariants.{Aligned}
use Rattle.giop_frames.specs.declared.limits.Limits.{Limits}
use Rattle.ft_client.specs.Clients.{Cancelled, Client, Ended, Expired, Fed, Happening, Joined, NeedsAddressing, Recalled, Sent, Taken, Ticked, Told, after, find_pending, new_client, parted, says, told_of}
use Rattle.ft_client.specs.Directions.{stream}
use Rattle.ft_client.specs.Ends.{ended_of}
use Rattle.ft_client.specs.Messages.{octets_said}
use Rattle.ft_client.specs.Standing.{FtStands, down}
use Rattle.lemonrudder.specs.declared.calling.Calling.{Calling}
use Rattle.lemonrudder.specs.declared.calling.CompletionHead.{CompletionHead}
use Rattle.lemonrudder.specs.declared.refusal.Refusal.{Refusal}
use Rattle.lemonrudder.specs.declared.refusal.Refusal.TheVariants as refusal
use Rattle.lemonrudder.specs.Copies.{Copies}
use Rattle.lemonrudder.specs.Dues.{IsPlaced, owed}
use Rattle.lemonrudder.specs.Layouts.{laid, octets_of_completion}
use Rattle.lemonrudder.specs.Naming.{HasLimits, order_number}
use Rattle.lemonrudder.specs.Refusals.{filled}

-- a client as C has it: the client, the octets that are due on its connection, and how the call ended whose completion was
-- taken last
pub record Standing : Type 0 where
  pub client : Client
  pub due : List ℕ
  pub last : Option Ended

-- how the call ended whose completion was taken last, if one was
abbrev pub last_end : Calling → Option Ended
last_end s = option_map ended_of s.ended

-- what the library holds stands for this client
pub record Stands (s : Calling) (x : Standing) : Type 0 where
  pub client : FtStands s.client x.client
  pub placed : IsPlaced s.due
  pub due : owed s.due ≡ x.due
  pub last : last_end s ≡ x.last

-- the client that is stood for becomes another
abbrev pub Becomes : (Standing → Standing) → Calling → Calling → Type 0
Becomes f s t = (x : Standing) → Stands s x → Stands t (f x)

-- it stays what it was
abbrev pub Stays : Calling → Calling → Type 0
Stays = Becomes (λ x. x)

-- something happens to a client, and what it writes is due after what was
abbrev pub happened : Happening → Standing → Standing
happened h x = record x { client = after (down x.client.limits) h x.client; due = x.due ++ stream octets_said (says h x.client) }

-- its connection is lost, and what was due there
abbrev pub lost : Standing → Standing
lost x = record x { client = parted x.client; due = [] }

-- the connection is lost
abbrev pub OnLost : Calling → Calling → Result ℕ Refusal → Type 0
OnLost s t r = (r ≡ Ok 0) × Becomes lost s t

-- it is connected anew; or an allocation failed, which only a call that is to be sent again needs, and it is not connected
abbrev pub OnConnected : (now : ℕ) → Calling → Calling → Result ℕ Refusal → Type 0
OnConnected now s t (Ok n) = (n ≡ 0) × Becomes (λ x. happened (Joined now) (lost x)) s t
OnConnected now s t (Err e) = (e ≡ refusal.Lost) × Becomes lost s t × ((x : Standing) → Stands s x → says (Joined now) (parted x.client) ≢ [])

-- whether it is connected
abbrev pub OnIsConnected : Calling → Calling → Result ℕ Refusal → Type 0
OnIsConnected s t r = (t ≡ s) × ((connected : Bool) × (r ≡ Ok (from_bool connected)) × ((x : Standing) → Stands s x → connected ≡ is_some x.client.link))

-- a call is cancelled, where it is pending; a number that is none of 32 bits is refused, and where a CancelRequest is to be
-- written an allocation may fail
abbrev pub OnCancel : (call : ℤ) → Calling → Calling → Result ℕ Refusal → Type 0
OnCancel call s t (Ok n) = (x : Standing) → Stands s x → (n ≡ from_bool (is_some (find_pending call x.client.pending))) × Stands t (happened (Recalled call) x)
OnCancel call s t (Err refusal.Range) = (t ≡ s) × (¬ (FitsSigned w32 call))
OnCancel call s t (Err refusal.Memory) = Stays s t × ((x : Standing) → Stands s x → says (Recalled call) x.client ≢ [])
OnCancel call s t (Err e) = ⊥

-- a moment has come
abbrev pub OnTick : (now : ℕ) → Calling → Calling → Result ℕ Refusal → Type 0
OnTick now s t r = (r ≡ Ok 0) × Becomes (happened (Ticked now)) s t

-- octets came; where an allocation failed, which they need only on a connection, a front of them, not all, was taken, and the connection
-- is lost
abbrev pub OnFeed : List ℕ → Calling → Calling → Result ℕ Refusal → Type 0
OnFeed octets s t (Ok n) = (n ≡ length octets) × Becomes (happened (Fed octets)) s t
OnFeed octets s t (Err e) = (e ≡ refusal.Lost) × ((x : Standing) → Stands s x → (is_some x.client.link ≡ true) × (n : ℕ) × (n < length octets)
    × Stands t (record x { client = parted (told_of (down x.client.limits) (take n octets) x.client x.client.link) }))

-- the body of the reply by which a call ended, if it ended so
abbrev pub told : Ended → Option Rest
told (Told status body) = Some body
told _ = None

-- how a call ended, as the header numbers it
abbrev pub how_ended : Ended → ℕ
how_ended (Told NoException body) = 0
how_ended (Told UserException body) = 1
how_ended (Told LocationForward body) = 3
how_ended (Told _ body) = 2
how_ended NeedsAddressing = 4
how_ended Expired = 5
how_ended Cancelled = 6
how_ended Sent = 7

-- where there is no body its numbers are 0
abbrev pub body_or_none : Option Rest → Rest
body_or_none None = record { order = Big; place = 0; octets = [] }
body_or_none (Some body) = body

-- what is said of a call that ended
abbrev pub head_with : ℤ → ℕ → Option Rest → CompletionHead
head_with call how told = let body = body_or_none told in
    record { body_size = length body.octets; body_at = body.place; call = call; how = how; body_order = order_number body.order; reserved = 0 }

abbrev pub head_of : ℤ → Ended → CompletionHead
head_of call ended = head_with call (how_ended ended) (told ended)

-- the first of these completions is taken, if there is one, and told, as much of the struct as the room has
abbrev pub Takes : List (ℕ × Ended) → (room new : List ℕ) → Standing → Calling → Result ℕ Refusal → Type 0
Takes [] room new x t r = (r ≡ Ok 0) × (new ≡ room) × Stands t x
Takes (c ∷ later) room new x t r = (r ≡ Ok 1) × (new ≡ laid (octets_of_completion (head_of (pos c.0) c.1)) room) × Stands t (record x { client = after (down x.client.limits) Taken x.client; last = Some c.1 })

-- the next completion is asked for
abbrev pub OnCompleted : (room new : List ℕ) → Calling → Calling → Result ℕ Refusal → Type 0
OnCompleted room new s t r = (x : Standing) → Stands s x → Takes x.client.completions room new x t r

-- the body of the completion that was taken last is copied, if there is one
abbrev pub OnBody : List ℕ → List ℕ → Calling → Calling → Result ℕ Refusal → Type 0
OnBody room new s t r = (t ≡ s) × Copies (option_map (λ body. body.octets) (option_and_then told (last_end s))) room new r

-- octets that are due are moved into a room, as many as it has
abbrev pub OnOutput : List ℕ → List ℕ → Calling → Calling → Result ℕ Refusal → Type 0
OnOutput room new s t r = (r ≡ Ok (min (length (owed s.due)) (length room))) × (new ≡ filled (owed s.due) room) × Becomes (λ x. record x { due = drop (length room) x.due }) s t

-- a name that a client may have
abbrev pub IsName : List ℕ → Type 0
IsName id = (1 ≤ length id) × (length id ≤ 256) × IsClean id

-- a client is made that has made no call: its messages are in 1.2, and its connections have messages of up to 1048576 octets, and 4
-- that are partial; or its name is not allowed; or memory is short
abbrev pub IsMade : (id : List ℕ) → Result Calling Refusal → Type 0
IsMade id (Ok s) = (limits : Limits) × HasLimits 1048576 4 Aligned limits × Stands s (record { client = new_client id V12 limits; due = []; last = None })
IsMade id (Err refusal.Text) = ¬ (IsName id)
IsMade id (Err refusal.Memory) = IsName id
IsMade id (Err e) = ⊥
