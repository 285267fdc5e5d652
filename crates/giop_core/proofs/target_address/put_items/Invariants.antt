use Rattle.std.proofs.Common.{◌≡◌, ◌-◌, ◌++◌}
use Rattle.cdr_core.specs.Private.{Keeps}
use Rattle.cdr_core.specs.Writing.{octets_of_all, place_in, AreWritable}
use Rattle.giop_core.proofs.ItemsPut.{item_values}
use Rattle.giop_core.proofs.target_address.put_items.Given as goal

-- what was appended so far, and what is left to read, give the whole
abbrev pub invariant-loop : goal.invariant-loop
invariant-loop l = record {
  order : l.cursor.order ≡ l.fn.cursor.order;
  keeps : Keeps l.fn.out.items l.out.items;
  writable : AreWritable (item_values l.fn.cursor.order (l.left - l.counter) l.cursor.place l.cursor.rest);
  whole : l.out.items ++ octets_of_all l.writer.order (item_values l.fn.cursor.order (l.left - l.counter) l.cursor.place l.cursor.rest) (place_in l.writer l.out.items)
      ≡ l.fn.out.items ++ octets_of_all l.writer.order (item_values l.fn.cursor.order l.left l.fn.cursor.place l.fn.cursor.rest) (place_in l.writer l.fn.out.items);
}
