-- What a `Key`, an `Outcome`, a `Held` and an entry of the code stand for: the same with its vectors left out.
use Rattle.std.specs.Prelude.{List, [], ◌∷◌, map}
use Rattle.cdr_core.specs.View.{values_of}
use Rattle.ft_log.specs.Holding.{Holding, known, parked}
use Rattle.ft_log.specs.Keys.{RequestKey}
use Rattle.ft_log.specs.Kept.{KeptOutcome}
use Rattle.ft_log.specs.Performed.{Performed, raw, returned, raised, system}
use Rattle.ft_log.specs.declared.story.Entry.{Entry}
use Rattle.ft_log.specs.declared.held.Held.{Held}
use Rattle.ft_log.specs.declared.held.Held.TheVariants.{Known, Parked}
use Rattle.ft_log.specs.declared.key.Key.{Key}
use Rattle.ft_log.specs.declared.outcome.Outcome.{Outcome}
use Rattle.ft_log.specs.declared.outcome.Outcome.TheVariants.{One, Raw, Returned, Raised, System}

-- the key that a `Key` stands for
abbrev pub key_of : Key → RequestKey
key_of k = record { client_id = k.client_id.items; retention_id = k.retention_id }

-- what an `Outcome` stands for
abbrev pub performed_in : Outcome → Performed
performed_in (Returned results) = returned (values_of results.items)
performed_in (One result) = returned (values_of (result ∷ []))
performed_in (Raised id members) = raised id.items (values_of members.items)
performed_in (System name minor completion) = system name minor completion
performed_in (Raw status order body) = raw status order body.items

-- what a `Held` stands for
abbrev pub holding_in : Held → Holding
holding_in (Known outcome) = known (performed_in outcome)
holding_in (Parked number) = parked number

-- what is kept, as an entry stands for it
abbrev pub entry_in : Entry → KeptOutcome Holding
entry_in e = record { key = key_of e.key; expiration = e.expiration; outcome = holding_in e.outcome }

-- .. and entries
abbrev pub entries_at : List Entry → List (KeptOutcome Holding)
entries_at es = map entry_in es
