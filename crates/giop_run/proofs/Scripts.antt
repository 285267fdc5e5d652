-- A play of a whole script, from what `play` ensures of the events that it played.
use Rattle.std.proofs.Common.{◌≡◌, ℤ, List, [], ◌++◌, length, map, take, sym, ap, subst, ◌∙◌}
use Rattle.std.proofs.Math.Seq.{take-length}
use Rattle.ft_orb.specs.ExactlyOnce.{OneExpiration, state_of}
use Rattle.ft_orb.specs.History.{arrivals, event_of}
use Rattle.ft_orb.specs.Now.{now_says, state_now}
use Rattle.ft_orb.specs.Outputs.{Made, Plays, law_says, noted, past_after, table_says}
use Rattle.ft_orb.specs.Requests.{rules_of}
use Rattle.ft_orb.specs.declared.events.Event.{Event}
use Rattle.ft_orb.specs.declared.events.Written.{Written}
use Rattle.counter.specs.Counter.{counter_meaning, is_counter}
use Rattle.giop_run.specs.Plays.{AreOfLaw, AreOfNow, AreOfTable}
use Rattle.giop_run.specs.declared.play.Terms.{Terms}

-- the server of a play, whose counter begins with this total
abbrev pub made_with : Terms → ℤ → Made ℤ
made_with t start = record { limits = t.limits; capacity = t.capacity; share = t.share; opening = start }

abbrev OfTable : Terms → ℤ → List Event → List Written → Type 0
OfTable t start events entries = Plays t.limits is_counter (table_says counter_meaning (made_with t start)) [] (map event_of events) (map noted entries)

abbrev OfLaw : Terms → ℤ → List Event → List Written → ℤ → Type 0
OfLaw t start events entries total = OneExpiration (arrivals t.limits (past_after t.limits [] (map event_of events) (map noted entries)))
    → Plays t.limits is_counter (law_says counter_meaning (made_with t start)) [] (map event_of events) (map noted entries)
    × (total ≡ state_of (rules_of counter_meaning t.capacity t.share) start (arrivals t.limits (past_after t.limits [] (map event_of events) (map noted entries))))

abbrev OfNow : Terms → ℤ → List Event → List Written → ℤ → Type 0
OfNow t start events entries total = Plays t.limits is_counter (now_says counter_meaning (made_with t start)) [] (map event_of events) (map noted entries)
    × (total ≡ state_now counter_meaning (made_with t start) (past_after t.limits [] (map event_of events) (map noted entries)))

-- all events were played, and all entries are new
entries_are : (old new written : List Written) → old ≡ [] → new ≡ old ++ written → written ≡ new
entries_are old new written none all = sym (all ∙ ap (λ o. o ++ written) none)

pub table_of : (t : Terms) (start : ℤ) (events : List Event) (old new written : List Written) → start ≡ t.start → old ≡ [] → new ≡ old ++ written
    → OfTable t start (take (length events) events) written → AreOfTable t (map event_of events) (map noted new)
table_of t start events old new written is none all plays =
    subst (λ ws. OfTable t t.start events ws) (entries_are old new written none all)
    (subst (λ es. OfTable t t.start es written) (take-length events)
    (subst (λ z. OfTable t z (take (length events) events) written) is plays))

pub law_of : (t : Terms) (start : ℤ) (events : List Event) (old new written : List Written) (servant total : ℤ) → start ≡ t.start → old ≡ [] → new ≡ old ++ written
    → total ≡ servant → OfLaw t start (take (length events) events) written servant → AreOfLaw t (map event_of events) (map noted new) total
law_of t start events old new written servant total is none all same law =
    subst (λ ws. OfLaw t t.start events ws total) (entries_are old new written none all)
    (subst (λ es. OfLaw t t.start es written total) (take-length events)
    (subst (λ z. OfLaw t z (take (length events) events) written total) is
    (subst (λ n. OfLaw t start (take (length events) events) written n) (sym same) law)))

pub now_of : (t : Terms) (start : ℤ) (events : List Event) (old new written : List Written) (servant total : ℤ) → start ≡ t.start → old ≡ [] → new ≡ old ++ written
    → total ≡ servant → OfNow t start (take (length events) events) written servant → AreOfNow t (map event_of events) (map noted new) total
now_of t start events old new written servant total is none all same now =
    subst (λ ws. OfNow t t.start events ws total) (entries_are old new written none all)
    (subst (λ es. OfNow t t.start es written total) (take-length events)
    (subst (λ z. OfNow t z (take (length events) events) written total) is
    (subst (λ n. OfNow t start (take (length events) events) written n) (sym same) now)))
