-- What a store in memory shows.
use Rattle.std.specs.Prelude.{List, [], map}
use Rattle.ft_log.specs.Kept.{unexpired}
use Rattle.ft_log.specs.View.{key_of, performed_in}
use Rattle.ft_lives.specs.declared.row.Kept.{Kept}
use Rattle.ft_lives.specs.declared.memory.MemoryStore.{MemoryStore}
use Rattle.ft_lives.specs.Steps.{Shown}
use Rattle.ft_lives.specs.Stores.{Row}

-- its rows
abbrev pub row_in : Kept → Row
row_in k = record { key = key_of k.key; expiration = k.expiration; outcome = performed_in k.outcome }

abbrev pub rows_in : List Kept → List Row
rows_in rows = map row_in rows

-- those that are held, its mark and its servant; and nothing is ever in doubt
abbrev pub shown_in : {S : Type 0} → MemoryStore S → Shown S
shown_in m = record { store = record { rows = unexpired m.mark (rows_in m.rows.items); mark = m.mark }; state = m.servant; doubts = [] }
