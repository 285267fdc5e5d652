-- Clients and a server over a schedule of steps: what each has done, and what is on its way between them.
use Rattle.std.specs.Prelude.{ℕ, suc, ◌+◌, ℤ, Bool, List, [], ◌∷◌, ◌++◌, drop, length, map, slice_set, take, Option, Some, None, slice_get}
use Rattle.giop_core.specs.declared.header.Version.{Version}
use Rattle.giop_frames.specs.declared.limits.Limits.{Limits}
use Rattle.ft_client.specs.Clients.{Called, Ended, Fed, Happening, Joined, Kept, KeptForwards, Linked, Parted, Recalled, Redirected, Resent, Resumed, Skipped, Ticked, says}
use Rattle.ft_client.specs.Directions.{stream}
use Rattle.giop_link.specs.Hearing.{Hearing}
use Rattle.ft_client.specs.Lives.{Life, goes_on, new_life}
use Rattle.ft_client.specs.Messages.{Answer, Call, Said}
use Rattle.ft_orb.specs.History.{Close, Event, Lost, Opened, Piece}
use Rattle.ft_orb.specs.Tellings.{Telling}
use Rattle.ft_ends.specs.Tellings.{tellings}

-- The two directions: the octets of what clients say, the octets of what the server says, what a client of some limits hears
-- in octets, and what an event makes the server say.
pub record Sides : Type 0 where
  pub said : Said → List ℕ
  pub telling : Telling → List ℕ
  pub hears : Limits → Hearing Answer
  pub says : List Event → Event → List Telling

-- a connection: its number, what its client said on it, and how many octets were delivered to the server, and to the client
pub record Wire : Type 0 where
  pub number : ℕ
  pub said : List Said
  pub went : ℕ
  pub came : ℕ

-- a client with all that ever was, and its connection, if there is one
pub record Member : Type 0 where
  pub life : Life
  pub wire : Option Wire

-- the server's past, the newest event first; how many connections were opened; the clients; and all completions in order, each
-- with the client's place in the list and the call's number
pub record World : Type 0 where
  pub past : List Event
  pub opened : ℕ
  pub members : List Member
  pub completions : List (ℕ × ℕ × Ended)

-- What may happen next, at a moment where there is one: client k calls; it takes a call of before up again, under its number;
-- it learns up to which number calls of before were numbered; it learns whether TRANSIENT leaves its calls pending, and whether a
-- forward does; it learns under which object key a call that is led elsewhere is asked for; it connects; it sends again what is due;
-- the next n octets that it wrote go up, or all; it gets the next n octets that the server wrote, or all; its connection is cut; the
-- server closes it; the client cancels a call; it learns of a moment.
pub data Step : Type 0 where
  CallNow : (k now : ℕ) → Call → Step
  RecallNow : (k now id : ℕ) → Call → Step
  SkipTo : (k id : ℕ) → Step
  KeepOn : (k : ℕ) (keeps : Bool) → Step
  KeepForwards : (k : ℕ) (keeps : Bool) → Step
  RedirectTo : (k : ℕ) (id : ℤ) → List ℕ → Step
  Connect : (k now : ℕ) → Step
  ResendNow : (k now : ℕ) → Step
  UpTo : (k n now : ℕ) → Step
  Down : (k n : ℕ) → Step
  Cut : (k : ℕ) → Step
  Shut : (k : ℕ) → Step
  Cancel : (k : ℕ) (id : ℤ) → Step
  Tick : (k now : ℕ) → Step

-- the client that takes it
abbrev pub client_of : Step → ℕ
client_of (CallNow k now call) = k
client_of (RecallNow k now id call) = k
client_of (SkipTo k id) = k
client_of (KeepOn k keeps) = k
client_of (KeepForwards k keeps) = k
client_of (RedirectTo k id key) = k
client_of (Connect k now) = k
client_of (ResendNow k now) = k
client_of (UpTo k n now) = k
client_of (Down k n) = k
client_of (Cut k) = k
client_of (Shut k) = k
client_of (Cancel k id) = k
client_of (Tick k now) = k

-- a client that is new: its id, the version of what it writes, and the limits of what it reads
pub record Newcomer : Type 0 where
  pub client_id : List ℕ
  pub version : Version
  pub limits : Limits

abbrev pub member_of : Newcomer → Member
member_of n = record { life = new_life n.client_id n.version n.limits; wire = None }

-- new clients, unconnected, and a server to which nothing has happened
abbrev pub start : List Newcomer → World
start newcomers = record { past = []; opened = 0; members = map member_of newcomers; completions = [] }

-- what a step of a client leads to: the server's past, how many connections were opened, and the client
pub record Moved : Type 0 where
  pub past : List Event
  pub opened : ℕ
  pub member : Member

abbrev pub moved_to : List Event → ℕ → Member → Moved
moved_to past opened m = record { past = past; opened = opened; member = m }

-- what is said on a connection, if there is one
abbrev pub extended : List Said → Option Wire → Option Wire
extended said None = None
extended said (Some x) = Some (record x { said = x.said ++ said })

-- a client whose completions were all taken
abbrev pub emptied : Life → Life
emptied l = record l { client = record l.client { completions = [] }; taken = l.taken ++ l.client.completions }

-- completions of client k
abbrev pub with_client : ℕ → List (ℕ × Ended) → List (ℕ × ℕ × Ended)
with_client k [] = []
with_client k (x ∷ xs) = (k, x.0, x.1) ∷ with_client k xs

module _ (sides : Sides) where
  -- what a client hears
  abbrev pub hears_of : Life → Hearing Answer
  hears_of l = sides.hears l.client.limits

  -- a client's own doing: what it says goes onto its connection
  abbrev pub acted : Happening → Member → Member
  acted h m = record { life = goes_on (hears_of m.life) h m.life; wire = extended (says h m.life.client) m.wire }

  -- the octets that are on their way up, and down
  abbrev pub going_up : Wire → List ℕ
  going_up x = drop x.went (stream sides.said x.said)

  abbrev pub coming_down : List Event → Wire → List ℕ
  coming_down past x = drop x.came (stream sides.telling (tellings sides.says past x.number))

  -- a client that has left its link leaves its connection, and the server loses it
  abbrev pub fed_off : List Event → ℕ → Life → Wire → ℕ → Option Linked → Moved
  fed_off past opened life x n None = moved_to (Lost x.number ∷ past) opened (record { life = life; wire = None })
  fed_off past opened life x n (Some l) = moved_to past opened (record { life = life; wire = Some (record x { came = x.came + n }) })

  abbrev pub fed_with : List Event → ℕ → Life → Wire → List ℕ → Moved
  fed_with past opened life x octets = fed_off past opened (goes_on (hears_of life) (Fed octets) life) x (length octets) (goes_on (hears_of life) (Fed octets) life).client.link

  -- connections have the numbers 1, 2, .. in order of opening
  abbrev pub connected : List Event → ℕ → ℕ → Member → Option Wire → Moved
  connected past opened now m None =
      moved_to (Opened (suc opened) ∷ past) (suc opened) (record {
        life = goes_on (hears_of m.life) (Joined now) m.life;
        wire = Some (record { number = suc opened; said = says (Joined now) m.life.client; went = 0; came = 0 });
      })
  connected past opened now m (Some x) = moved_to past opened m

  abbrev pub up : List Event → ℕ → ℕ → ℕ → Member → Option Wire → Moved
  up past opened n now m None = moved_to past opened m
  up past opened n now m (Some x) =
      moved_to (Piece x.number now (take n (going_up x)) ∷ past) opened (record m { wire = Some (record x { went = x.went + length (take n (going_up x)) }) })

  abbrev pub down : List Event → ℕ → ℕ → Member → Option Wire → Moved
  down past opened n m None = moved_to past opened m
  down past opened n m (Some x) = fed_with past opened m.life x (take n (coming_down past x))

  -- what was not delivered either way is dropped
  abbrev pub cut : List Event → ℕ → Member → Option Wire → Moved
  cut past opened m None = moved_to past opened m
  cut past opened m (Some x) = moved_to (Lost x.number ∷ past) opened (record { life = goes_on (hears_of m.life) Parted m.life; wire = None })

  -- the client still gets what was written
  abbrev pub shut : List Event → ℕ → Member → Option Wire → Moved
  shut past opened m None = moved_to past opened m
  shut past opened m (Some x) = moved_to (Close x.number ∷ past) opened m

  -- the steps, for the client that takes them; one that can't act does nothing
  abbrev pub moved : List Event → ℕ → Step → Member → Moved
  moved past opened (CallNow k now call) m = moved_to past opened (acted (Called now call) m)
  moved past opened (RecallNow k now id call) m = moved_to past opened (acted (Resumed now id call) m)
  moved past opened (SkipTo k id) m = moved_to past opened (acted (Skipped id) m)
  moved past opened (KeepOn k keeps) m = moved_to past opened (acted (Kept keeps) m)
  moved past opened (KeepForwards k keeps) m = moved_to past opened (acted (KeptForwards keeps) m)
  moved past opened (RedirectTo k id key) m = moved_to past opened (acted (Redirected id key) m)
  moved past opened (Connect k now) m = connected past opened now m m.wire
  moved past opened (ResendNow k now) m = moved_to past opened (acted (Resent now) m)
  moved past opened (UpTo k n now) m = up past opened n now m m.wire
  moved past opened (Down k n) m = down past opened n m m.wire
  moved past opened (Cut k) m = cut past opened m m.wire
  moved past opened (Shut k) m = shut past opened m m.wire
  moved past opened (Cancel k id) m = moved_to past opened (acted (Recalled id) m)
  moved past opened (Tick k now) m = moved_to past opened (acted (Ticked now) m)

  -- the completions of client k go out
  abbrev pub given_out : ℕ → World → Moved → World
  given_out k w v = record {
    past = v.past;
    opened = v.opened;
    members = slice_set w.members k (record v.member { life = emptied v.member.life });
    completions = w.completions ++ with_client k v.member.life.client.completions;
  }

  -- a step with no such client does nothing
  abbrev pub step_of : World → Step → Option Member → World
  step_of w s None = w
  step_of w s (Some m) = given_out (client_of s) w (moved w.past w.opened s m)

  abbrev pub step : World → Step → World
  step w s = step_of w s (slice_get w.members (client_of s))

  -- a whole schedule, from a world
  abbrev pub run : World → List Step → World
  run w [] = w
  run w (s ∷ ss) = run (step w s) ss

  -- .. and from new clients
  abbrev pub world : List Newcomer → List Step → World
  world newcomers steps = run (start newcomers) steps
