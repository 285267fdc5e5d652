use Rattle.std.proofs.Common.{◌≡◌, ℕ, ◌-◌, ◌≤◌, [], drop, length, vec_capacity}
use Rattle.cdr_core.specs.Reading.{chosen_at, members_at}
use Rattle.cdr_core.specs.Value.{label}
use Rattle.cdr_core.specs.View.{cases_of, form_of, forms_of, value_of, values_of}
use Rattle.cdr_core.specs.Memory.{StoresChosen, StoresMembers}
use Rattle.cdr_core.specs.Private.{union_at, with_front, ReadsOn, StoresUnion}
use Rattle.cdr_core.proofs.reading.+reading.Given as goal

-- what was read so far and what is left give the whole
abbrev pub invariant-each-loop-alloc : goal.invariant-each-loop-alloc
invariant-each-loop-alloc l = record {
  order : l.cursor.order ≡ l.fn.cursor.order;
  reads : ReadsOn (form_of l.ty) l.fn.cursor.order l.count [] l.fn.cursor.place l.fn.cursor.rest l.all.items l.cursor.place l.cursor.rest;
}

abbrev pub decreases-each-loop-alloc : goal.decreases-each-loop-alloc
decreases-each-loop-alloc l = l.count - length l.all.items

abbrev pub invariant-each_of-loop-ty : goal.invariant-each_of-loop-ty
invariant-each_of-loop-ty l = record {
  order : l.cursor.order ≡ l.fn.cursor.order;
  stores : (p : ℕ) → StoresMembers (forms_of (drop l.ty-index l.types)) l.fn.cursor.order l.cursor.place l.cursor.rest p → StoresMembers (forms_of l.types) l.fn.cursor.order l.fn.cursor.place l.fn.cursor.rest p;
  whole : with_front (values_of l.all.items) (members_at (forms_of (drop l.ty-index l.types)) l.fn.cursor.order l.cursor.place l.cursor.rest)
      ≡ members_at (forms_of l.types) l.fn.cursor.order l.fn.cursor.place l.fn.cursor.rest;
  room : vec_capacity l.fn.room ≤ vec_capacity l.all;
}

-- no case so far has the label
abbrev pub invariant-chosen-loop-case : goal.invariant-chosen-loop-case
invariant-chosen-loop-case l = record {
  same : l.cursor ≡ l.fn.cursor;
  stores : (p : ℕ) → StoresChosen (cases_of (drop l.case-index l.case-items) l.default) l.fn.cursor.order (label (value_of l.discriminator)) l.fn.cursor.place l.fn.cursor.rest p
      → StoresUnion (form_of l.union) l.fn.cursor.order (label (value_of l.discriminator)) l.fn.cursor.place l.fn.cursor.rest p;
  whole : chosen_at (cases_of (drop l.case-index l.case-items) l.default) l.fn.cursor.order (label (value_of l.discriminator)) l.fn.cursor.place l.fn.cursor.rest
      ≡ union_at (form_of l.union) l.fn.cursor.order (label (value_of l.discriminator)) l.fn.cursor.place l.fn.cursor.rest;
}
