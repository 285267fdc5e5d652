use Rattle.ft_log.proofs.Listed.{found, entry_found}
use Rattle.ft_log.proofs.laws.entries_are_found.Goals as goal

pub returns-clause-found : goal.returns-clause-found
returns-clause-found c = λ front rest e distinct. found front rest e distinct

pub returns-clause-entry : goal.returns-clause-entry
returns-clause-entry c = λ key entries o h.
    let f = entry_found key entries o h in
    (f.front, f.rest, f.entry, f.is, f.has_key, f.has_outcome)
