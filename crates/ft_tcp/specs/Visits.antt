-- Connections that are served one after another, and the past of a server that has served them.
use Rattle.std.specs.Prelude.{◌≢◌, ℕ, suc, ◌≤◌, Bool, List, [], ◌∷◌, ◌++◌, length, map, Result}
use Rattle.std.specs.List.{flat_map}
use Rattle.giop_frames.specs.declared.limits.Limits.{Limits}
use Rattle.ft_log.specs.Performed.{Performed}
use Rattle.ft_log.specs.declared.system_exception.SystemName.{SystemName}
use Rattle.ft_orb.specs.declared.events.Note.{Note}
use Rattle.ft_orb.specs.declared.events.Note.TheVariants.{Done}
use Rattle.ft_orb.specs.declared.wire.StreamEnd.{StreamEnd}
use Rattle.ft_orb.specs.History.{Event, Lost, Opened}
use Rattle.ft_orb.specs.Outputs.{Plays, Writes, after}
use Rattle.ft_orb.specs.Wires.{Act, AreNoted, AreReadInTime, AreSmall, HasEnded, Turn, acts_in, entries_of, events_in, past_with}

-- what came of a wire that was accepted: it was dropped, since its connection was not opened, or it was served in turns to an end,
-- after which it did these acts
pub data Visit : Type 0 where
  dropped : (note : Note) → Visit
  served : (turns : List Turn) (end : StreamEnd) (last : List Act) → Visit

-- at most so many reads are made of a connection
abbrev pub max_reads : ℕ
max_reads = 1_000_000

-- the past after the visit of connection c
abbrev pub past_with_visit : Limits → List Event → ℕ → Visit → List Event
past_with_visit limits past c (dropped note) = after limits past (Opened c) note
past_with_visit limits past c (served turns end last) = Lost c ∷ past_with limits (Opened c ∷ past) c turns

-- the past after visits, the first of which has this number
abbrev pub past_with_visits : Limits → List Event → ℕ → List Visit → List Event
past_with_visits limits past c [] = past
past_with_visits limits past c (v ∷ vs) = past_with_visits limits (past_with_visit limits past c v) (suc c) vs

-- what the wire did in a visit
abbrev pub acts_of : Visit → List Act
acts_of (dropped note) = []
acts_of (served turns end last) = acts_in turns ++ last

-- the moments that the clock gave in a visit ..
abbrev pub moments_of : Visit → List ℕ
moments_of (dropped note) = []
moments_of (served turns end last) = map (λ t. t.moment) turns

-- .. and in visits
abbrev pub moments_in : List Visit → List ℕ
moments_in visits = flat_map moments_of visits

module _ (limits : Limits) (knows : List ℕ → Bool) (answers : List Event → Event → List (Result Performed SystemName)) where
  -- on connection c at most so many pieces came, each while the stream had not ended; what was written for each is the output by
  -- these answers; and the end says how much of it was sent, and what the wire did last
  pub record IsSession (past : List Event) (c : ℕ) (turns : List Turn) (end : StreamEnd) (last : List Act) : Type 0 where
    pub plays : Plays limits knows answers past (events_in c turns) (entries_of turns)
    pub noted : AreNoted end (entries_of turns)
    pub ended : HasEnded limits past c max_reads turns end last
    pub timely : AreReadInTime limits past c turns
    pub small : AreSmall turns
    pub few : length turns ≤ max_reads

  -- a visit of connection c: its opening failed so, or it counted and the connection was served
  abbrev pub IsVisit : List Event → ℕ → Visit → Type 0
  IsVisit past c (dropped note) = (note ≢ Done) × Writes limits knows answers past (Opened c) [] note
  IsVisit past c (served turns end last) = Writes limits knows answers past (Opened c) [] Done × IsSession (Opened c ∷ past) c turns end last

  -- visits one after another, the first of which has this number
  abbrev pub AreVisits : List Event → ℕ → List Visit → Type 0
  AreVisits past c [] = Unit {0}
  AreVisits past c (v ∷ vs) = IsVisit past c v × AreVisits (past_with_visit limits past c v) (suc c) vs
