use Rattle.std.proofs.Common.{ℕ, List, Result, subst}
use Rattle.ft_log.specs.declared.system_exception.SystemName.{SystemName}
use Rattle.ft_orb.specs.History.{Event}
use Rattle.ft_orb.specs.Outputs.{WritesBy}
use Rattle.ft_orb.specs.Parking.{numbering}
use Rattle.ft_orb.proofs.Declined.{pasts-stand}
use Rattle.ft_orb.proofs.Ledgers.{runs-keep-all, written-now, written-once}
use Rattle.ft_orb.proofs.laws.deeds_are_written_by_all.Goals as goal

pub returns-clause-now : goal.returns-clause-now
returns-clause-now c = written-now

pub returns-clause-once : goal.returns-clause-once
returns-clause-once c = written-once

pub returns-clause-keeps : goal.returns-clause-keeps
returns-clause-keeps c = runs-keep-all

pub returns-clause-stand : goal.returns-clause-stand
returns-clause-stand c s late held past e written note h =
    subst (λ (says : List Event → Event → List (Result ℕ SystemName)). WritesBy s.limits (numbering s late held).tell says past e written note) (λ i p f. (pasts-stand s).answers held p f i) h
