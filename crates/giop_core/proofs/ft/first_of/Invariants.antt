use Rattle.std.proofs.Common.{◌≡◌, ◌-◌}
use Rattle.giop_core.specs.Ft.{first_of}
use Rattle.giop_core.specs.Items.{items_in}
use Rattle.giop_core.proofs.ft.first_of.Given as goal

-- the first of the items that are left is the first of all
abbrev pub invariant-loop : goal.invariant-loop
invariant-loop l = record {
  order : l.cursor.order ≡ l.fn.cursor.order;
  so_far : first_of l.id (items_in l.fn.cursor.order (l.left - l.counter) l.cursor.place l.cursor.rest) ≡ first_of l.id (items_in l.fn.cursor.order l.left l.fn.cursor.place l.fn.cursor.rest);
}
