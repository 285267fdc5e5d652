-- What the events of a script write on a server of the counter, and the total that they leave.
use Rattle.std.specs.Prelude.{◌≡◌, ℤ, List, []}
use Rattle.ft_orb.specs.ExactlyOnce.{OneExpiration, state_of}
use Rattle.ft_orb.specs.History.{Event, arrivals}
use Rattle.ft_orb.specs.Now.{now_says, state_now}
use Rattle.ft_orb.specs.Outputs.{Made, Noted, Plays, law_says, past_after, table_says}
use Rattle.ft_orb.specs.Requests.{rules_of}
use Rattle.counter.specs.Counter.{counter_meaning, is_counter}
use Rattle.giop_run.specs.declared.play.Terms.{Terms}

-- the server of a play: its servant is a counter with the total at the beginning
abbrev pub made_by : Terms → Made ℤ
made_by t = record { limits = t.limits; capacity = t.capacity; share = t.share; opening = t.start }

-- these entries are those of the events, where requests are answered as the server's log has it
abbrev pub AreOfTable : Terms → List Event → List Noted → Type 0
AreOfTable t events entries = Plays t.limits is_counter (table_says counter_meaning (made_by t)) [] events entries

-- where each key has one expiration: these entries are those of the events where each distinct request acts once, and the total is
-- what the performed requests make of the first one
abbrev pub AreOfLaw : Terms → List Event → List Noted → ℤ → Type 0
AreOfLaw t events entries total = OneExpiration (arrivals t.limits (past_after t.limits [] events entries))
    → Plays t.limits is_counter (law_says counter_meaning (made_by t)) [] events entries
    × (total ≡ state_of (rules_of counter_meaning t.capacity t.share) t.start (arrivals t.limits (past_after t.limits [] events entries)))

-- these entries are those of the events where each key is held from the performing of its request until that expires, and the total
-- is what is performed so makes of the first one: nothing is asked of the keys
abbrev pub AreOfNow : Terms → List Event → List Noted → ℤ → Type 0
AreOfNow t events entries total = Plays t.limits is_counter (now_says counter_meaning (made_by t)) [] events entries
    × (total ≡ state_now counter_meaning (made_by t) (past_after t.limits [] events entries))
