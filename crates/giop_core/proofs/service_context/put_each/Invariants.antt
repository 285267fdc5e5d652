use Rattle.std.proofs.Common.{◌≡◌, ◌++◌, drop, map}
use Rattle.cdr_core.specs.Private.{Keeps}
use Rattle.cdr_core.specs.Value.{values}
use Rattle.cdr_core.specs.Writing.{octets_of_all, place_in, AreWritable}
use Rattle.giop_core.specs.Private.{lent_value}
use Rattle.giop_core.proofs.service_context.put_each.Given as goal

-- what was appended so far, and what is left, give the whole
abbrev pub invariant-loop-one : goal.invariant-loop-one
invariant-loop-one l = record {
  keeps : Keeps l.fn.out.items l.out.items;
  writable : AreWritable (values (map lent_value (drop l.one-index l.all)));
  whole : l.out.items ++ octets_of_all l.writer.order (values (map lent_value (drop l.one-index l.all))) (place_in l.writer l.out.items)
      ≡ l.fn.out.items ++ octets_of_all l.writer.order (values (map lent_value l.all)) (place_in l.writer l.fn.out.items);
}
