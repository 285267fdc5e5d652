-- What is counted of what becomes of requests, with one more.
use Rattle.ft_orb.specs.declared.counts.Counts.{Counts}
use Rattle.ft_orb.specs.Decisions.{one_more}

-- as before
abbrev pub as_counted : Counts → Counts
as_counted n = n

-- one that was answered while it waited, was parked, or got its outcome while it was parked
abbrev pub one_answered : Counts → Counts
one_answered n = record n { answered = one_more n.answered }

abbrev pub one_parked : Counts → Counts
one_parked n = record n { parked = one_more n.parked }

abbrev pub one_settled : Counts → Counts
one_settled n = record n { settled = one_more n.settled }

-- .. was given up
abbrev pub one_given_up : Counts → Counts
one_given_up n = record n { given_up = one_more n.given_up }
