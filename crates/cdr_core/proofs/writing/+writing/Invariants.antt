use Rattle.std.proofs.Common.{◌≡◌, ◌+◌, ◌-◌, ◌≤◌, ◌++◌, length, drop, vec_capacity}
use Rattle.cdr_core.specs.Private.{Keeps}
use Rattle.cdr_core.specs.View.{values_of}
use Rattle.cdr_core.specs.Writing.{octets_of_all, place_in, AreWritable}
use Rattle.cdr_core.proofs.writing.+writing.Given as goal

abbrev pub decreases-append_elements-loop-next : goal.decreases-append_elements-loop-next
decreases-append_elements-loop-next l = length l.all - l.next

-- what was appended so far, and what is left, give the whole
abbrev pub invariant-append_elements-loop-next : goal.invariant-append_elements-loop-next
invariant-append_elements-loop-next l =
    let left = octets_of_all l.writer.order (values_of (drop l.next l.all)) (place_in l.writer l.out.items) in
    let all = octets_of_all l.writer.order (values_of l.all) (place_in l.writer l.fn.out.items) in
    record {
      start : l.writer.start ≤ length l.out.items;
      within : l.next ≤ length l.all;
      writable : AreWritable (values_of (drop l.next l.all));
      keeps : Keeps l.fn.out.items l.out.items;
      room : length l.fn.out.items + length all ≤ vec_capacity l.fn.out → length l.out.items + length left ≤ vec_capacity l.out;
      whole : l.out.items ++ left ≡ l.fn.out.items ++ all;
      capacity : vec_capacity l.fn.out ≤ vec_capacity l.out;
    }

abbrev pub invariant-append_all-loop-value : goal.invariant-append_all-loop-value
invariant-append_all-loop-value l =
    let left = octets_of_all l.writer.order (values_of (drop l.value-index l.all)) (place_in l.writer l.out.items) in
    let all = octets_of_all l.writer.order (values_of l.all) (place_in l.writer l.fn.out.items) in
    record {
      start : l.writer.start ≤ length l.out.items;
      writable : AreWritable (values_of (drop l.value-index l.all));
      keeps : Keeps l.fn.out.items l.out.items;
      room : length l.fn.out.items + length all ≤ vec_capacity l.fn.out → length l.out.items + length left ≤ vec_capacity l.out;
      whole : l.out.items ++ left ≡ l.fn.out.items ++ all;
      capacity : vec_capacity l.fn.out ≤ vec_capacity l.out;
    }
