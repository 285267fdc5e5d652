use Rattle.std.proofs.Common.{◌≡◌, ◌+◌, ◌-◌, ◌≤◌, ◌++◌, length, take, vec_capacity}
use Rattle.cdr_core.specs.Numbers.{padding}
use Rattle.cdr_core.specs.Private.{basic_size}
use Rattle.cdr_core.specs.View.{values_of}
use Rattle.cdr_core.specs.Writing.{octets_of_all}
use Rattle.cdr_core.proofs.runs.put_run.Given as goal

-- what was appended so far, and the next place needs no padding
abbrev pub invariant-loop-value : goal.invariant-loop-value
invariant-loop-value l = record {
  done : l.done ≡ l.value-index;
  within : l.value-index ≤ length l.all;
  aligned : padding (l.place + (length l.out.items - length l.fn.out.items)) (basic_size l.kind) ≡ 0;
  whole : l.out.items ≡ l.fn.out.items ++ octets_of_all l.order (values_of (take l.value-index l.all)) l.place;
  capacity : vec_capacity l.fn.out ≤ vec_capacity l.out;
}
