-- Outcomes seen as others: which requests act, which are refused and what is kept does not depend on what is given.
use Rattle.std.specs.Prelude.{◌≡◌, List, map, Result, Ok, Err}
use Rattle.ft_log.specs.Kept.{KeptOutcome}
use Rattle.ft_log.specs.declared.system_exception.SystemName.{SystemName}
use Rattle.ft_orb.specs.ExactlyOnce.{Arrival, Rules}
use Rattle.ft_orb.specs.Table.{Table, table_after, table_answers}

module _ {Outcome Other : Type 0} (see : Outcome → Other) where
  -- an entry, a table and an answer, with each outcome seen so
  abbrev pub seen_entry : KeptOutcome Outcome → KeptOutcome Other
  seen_entry e = record { key = e.key; expiration = e.expiration; outcome = see e.outcome }

  abbrev pub seen_table : {State : Type 0} → Table State Outcome → Table State Other
  seen_table t = record { state = t.state; entries = map seen_entry t.entries }

  abbrev pub seen_answer : Result Outcome SystemName → Result Other SystemName
  seen_answer (Ok outcome) = Ok (see outcome)
  seen_answer (Err refusal) = Err refusal

  -- the same rules, which give what is seen
  abbrev pub seen_rules : {State Content Call : Type 0} → Rules State Content Call Outcome → Rules State Content Call Other
  seen_rules rules = record {
    asked = rules.asked;
    apply = λ state call. ((rules.apply state call).0, see (rules.apply state call).1);
    has_room = rules.has_room;
  }

  -- A table that gives other outcomes is the table, seen so, and so are its answers.
  abbrev pub TablesAreSeen : {State Content Call : Type 0} → Rules State Content Call Outcome → Type 0
  TablesAreSeen {State} {Content} rules = (t : Table State Outcome) (arrivals : List (Arrival Content))
      → (table_after (seen_rules rules) (seen_table t) arrivals ≡ seen_table (table_after rules t arrivals))
      × (table_answers (seen_rules rules) (seen_table t) arrivals ≡ map seen_answer (table_answers rules t arrivals))
