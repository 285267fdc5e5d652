use Rattle.std.proofs.Common.{◌≡◌, ◌+◌, ◌≤◌, length, drop}
use Rattle.cdr_core.specs.View.{values_of}
use Rattle.cdr_core.specs.Writing.{octets_of_all}
use Rattle.cdr_core.specs.declared.order.Order.{Order}
use Rattle.cdr_core.proofs.measuring.+measuring.Given as goal

-- the place so far, and what is left from there, give the whole
abbrev pub invariant-end_of_list-loop-value : goal.invariant-end_of_list-loop-value
invariant-end_of_list-loop-value l = record {
  whole : (order : Order) → l.end + length (octets_of_all order (values_of (drop l.value-index l.values)) l.end) ≡ l.place + length (octets_of_all order (values_of l.values) l.place);
  after : l.place ≤ l.end;
}
