use Rattle.std.proofs.Common.{◌≡◌, ◌≤◌, ◌-◌, ℕ, List, length, map}
use Rattle.std.specs.Borrow.{Bor}
use Rattle.cdr_core.specs.Private.{with_front}
use Rattle.cdr_core.specs.Reading.{each_at, value_at}
use Rattle.cdr_core.specs.Value.{values}
use Rattle.ior_core.specs.Grammar.{tagged}
use Rattle.ior_core.specs.View.{lent_value}
use Rattle.lemonrudder.proofs.contexts.pass_each.Given as goal

-- some that were passed over and what is left give the whole
abbrev pub invariant-loop : goal.invariant-loop
invariant-loop l = record {
  order : l.cursor.order ≡ l.fn.cursor.order;
  within : l.counter ≤ l.count;
  read : (xs : List (ℕ × Bor (List ℕ))) × (length xs ≡ l.counter) × (with_front (values (map lent_value xs)) (each_at (value_at tagged l.fn.cursor.order) (l.count - l.counter) l.cursor.place l.cursor.rest)
      ≡ each_at (value_at tagged l.fn.cursor.order) l.count l.fn.cursor.place l.fn.cursor.rest);
}
