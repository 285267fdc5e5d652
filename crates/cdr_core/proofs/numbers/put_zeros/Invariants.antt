use Rattle.std.proofs.Common.{◌≡◌, ◌+◌, ◌-◌, ◌≤◌, ◌++◌, length, replicate, vec_capacity}
use Rattle.cdr_core.proofs.numbers.put_zeros.Given as goal

abbrev pub invariant-loop : goal.invariant-loop
invariant-loop l = record {
  items : l.out.items ≡ l.fn.out.items ++ replicate l.counter 0;
  room : length l.out.items + (l.count - l.counter) ≤ vec_capacity l.out;
  capacity : vec_capacity l.out ≡ vec_capacity l.fn.out;
}
