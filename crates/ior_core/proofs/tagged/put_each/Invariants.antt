use Rattle.std.proofs.Common.{◌≡◌, ◌++◌, drop}
use Rattle.cdr_core.specs.Private.{Keeps}
use Rattle.cdr_core.specs.Writing.{octets_of_all, place_in, AreWritable}
use Rattle.ior_core.specs.View.{tagged_values}
use Rattle.ior_core.proofs.tagged.put_each.Given as goal

-- what was appended so far, and what is left, give the whole
abbrev pub invariant-loop-one : goal.invariant-loop-one
invariant-loop-one l = record {
  keeps : Keeps l.fn.out.items l.out.items;
  writable : AreWritable (tagged_values (drop l.one-index l.all));
  whole : l.out.items ++ octets_of_all l.writer.order (tagged_values (drop l.one-index l.all)) (place_in l.writer l.out.items)
      ≡ l.fn.out.items ++ octets_of_all l.writer.order (tagged_values l.all) (place_in l.writer l.fn.out.items);
}
