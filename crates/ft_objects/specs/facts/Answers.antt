-- That an outcome of an operation may be handed in for it. Nobody has to read this proof; it stands here since those of callers cite it.
use Rattle.ft_log.specs.Performed.{Performed, raised, raw, returned, system}
use Rattle.ft_objects.specs.Interfaces.{Interface, IsAnswerOf, IsOutcomeOf}

pub outcome_is_answer : (i : Interface) (p : Performed) → IsOutcomeOf i p → IsAnswerOf i p
outcome_is_answer i (returned results) h = h
outcome_is_answer i (raised id members) h = h
outcome_is_answer i (system name minor completion) h = h
outcome_is_answer i (raw status order body) h = tt
