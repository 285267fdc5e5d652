use Rattle.std.proofs.Common.{◌≡◌, ℕ, ◌-◌}
use Rattle.cdr_core.specs.Reading.{each_at, value_at}
use Rattle.cdr_core.specs.Private.{with_front}
use Rattle.ior_core.specs.Grammar.{tagged}
use Rattle.ior_core.specs.Memory.{StoresItems}
use Rattle.ior_core.specs.View.{tagged_values}
use Rattle.ior_core.proofs.tagged.read_each.Given as goal

-- what was read so far and what is left give the whole
abbrev pub invariant-loop : goal.invariant-loop
invariant-loop l = record {
  order : l.cursor.order ≡ l.fn.cursor.order;
  stores : (p : ℕ) → StoresItems l.fn.cursor.order (l.count - l.counter) l.cursor.place l.cursor.rest p
      → StoresItems l.fn.cursor.order l.count l.fn.cursor.place l.fn.cursor.rest p;
  whole : with_front (tagged_values l.all.items) (each_at (value_at tagged l.fn.cursor.order) (l.count - l.counter) l.cursor.place l.cursor.rest)
      ≡ each_at (value_at tagged l.fn.cursor.order) l.count l.fn.cursor.place l.fn.cursor.rest;
}
