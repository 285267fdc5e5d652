use Rattle.std.proofs.Common.{◌≡◌, ◌-◌}
use Rattle.cdr_core.specs.Reading.{each_at, value_at}
use Rattle.cdr_core.specs.Private.{passing}
use Rattle.ior_core.specs.Grammar.{tagged}
use Rattle.ior_core.proofs.tagged.skip.Given as goal

-- to pass over what is left is to pass over all
abbrev pub invariant-loop : goal.invariant-loop
invariant-loop l = record {
  order : l.cursor.order ≡ l.fn.cursor.order;
  whole : passing (each_at (value_at tagged l.fn.cursor.order) (l.count - l.counter) l.cursor.place l.cursor.rest)
      ≡ passing (each_at (value_at tagged l.fn.cursor.order) l.count l.fn.cursor.place l.fn.cursor.rest);
}
