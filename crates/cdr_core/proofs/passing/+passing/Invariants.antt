use Rattle.std.proofs.Common.{◌≡◌, ◌-◌, drop}
use Rattle.cdr_core.specs.Reading.{chosen_at, each_at, members_at, value_at}
use Rattle.cdr_core.specs.View.{cases_of, form_of, forms_of}
use Rattle.cdr_core.specs.Private.{passing, union_at}
use Rattle.cdr_core.proofs.passing.+passing.Given as goal

-- to pass over what is left is to pass over all
abbrev pub invariant-each-loop : goal.invariant-each-loop
invariant-each-loop l = record {
  order : l.cursor.order ≡ l.fn.cursor.order;
  whole : passing (each_at (value_at (form_of l.ty) l.fn.cursor.order) (l.count - l.counter) l.cursor.place l.cursor.rest)
      ≡ passing (each_at (value_at (form_of l.ty) l.fn.cursor.order) l.count l.fn.cursor.place l.fn.cursor.rest);
}

abbrev pub invariant-each_of-loop-ty : goal.invariant-each_of-loop-ty
invariant-each_of-loop-ty l = record {
  order : l.cursor.order ≡ l.fn.cursor.order;
  whole : passing (members_at (forms_of (drop l.ty-index l.types)) l.fn.cursor.order l.cursor.place l.cursor.rest)
      ≡ passing (members_at (forms_of l.types) l.fn.cursor.order l.fn.cursor.place l.fn.cursor.rest);
}

-- no case so far has the label
abbrev pub invariant-chosen-loop-case : goal.invariant-chosen-loop-case
invariant-chosen-loop-case l = record {
  same : l.cursor ≡ l.fn.cursor;
  whole : chosen_at (cases_of (drop l.case-index l.case-items) l.default) l.fn.cursor.order l.fn.label l.fn.cursor.place l.fn.cursor.rest
      ≡ union_at (form_of l.union) l.fn.cursor.order l.fn.label l.fn.cursor.place l.fn.cursor.rest;
}
