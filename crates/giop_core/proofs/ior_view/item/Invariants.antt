use Rattle.std.proofs.Common.{◌≡◌, ◌-◌, ◌≤◌}
use Rattle.std.specs.List.{slice_get}
use Rattle.giop_core.specs.Items.{items_in}
use Rattle.giop_core.proofs.ior_view.item.Given as goal

-- the item of the number among those that are left is the one among all
abbrev pub invariant-loop-at : goal.invariant-loop-at
invariant-loop-at l = record {
  order : l.cursor.order ≡ l.fn.cursor.order;
  before : l.at ≤ l.index;
  so_far : slice_get (items_in l.fn.cursor.order (l.left - l.at) l.cursor.place l.cursor.rest) (l.index - l.at) ≡ slice_get (items_in l.fn.cursor.order l.left l.fn.cursor.place l.fn.cursor.rest) l.index;
}
