-- How many octets values of a type take, wherever they stand.
use Rattle.std.specs.Prelude.{ℕ, ◌+◌, ◌-◌, ◌*◌, ◌≤◌, max, Bool, ◌&&◌, nat_le, length}
use Rattle.std.specs.List.{list_all}
use Rattle.cdr_core.specs.Form as form
use Rattle.cdr_core.specs.Form.{Cases, Form, Forms, size}
use Rattle.cdr_core.specs.Value.{Value, Values}
use Rattle.cdr_core.specs.Writing.{AreWritable, IsWritable, octets_of, octets_of_all}
use Rattle.cdr_core.specs.declared.order.Order.{Order}
use Rattle.ft_objects.specs.Interfaces.{Types}
use Rattle.ft_objects.specs.Replies.{body_limit}

abbrev mutual
  -- CDR 9.3.1, CDR 9.3.2: the most octets that a value of the type takes, with the padding before its numbers
  pub most_octets : Form → ℕ
  most_octets form.boolean = 1
  most_octets (form.number kind) = 2 * size kind - 1
  most_octets (form.string bound) = 7 + bound + 1
  most_octets (form.octets bound) = 7 + bound
  most_octets (form.sequence bound t) = 7 + bound * most_octets t
  most_octets (form.array n t) = n * most_octets t
  most_octets (form.enumeration n) = 7
  most_octets (form.structure ts) = most_octets_of_all ts
  most_octets (form.union d cs) = most_octets d + most_octets_of_member cs

  -- that values take, one of each type
  pub most_octets_of_all : Forms → ℕ
  most_octets_of_all form.no_forms = 0
  most_octets_of_all (form.form t ts) = most_octets t + most_octets_of_all ts

  -- that the member of a union takes
  pub most_octets_of_member : Cases → ℕ
  most_octets_of_member form.otherwise_nothing = 0
  most_octets_of_member (form.otherwise t) = most_octets t
  most_octets_of_member (form.labelled k t cs) = max (most_octets t) (most_octets_of_member cs)

-- what an operation returns and raises takes no more octets than a body may have, an exception with its repository id
abbrev pub is_bounded : Types → Bool
is_bounded t =
    nat_le (most_octets_of_all t.results) body_limit && list_all (λ r. nat_le (7 + length r.0 + 1 + most_octets_of_all r.1) body_limit) t.raises

-- a value can be written, and takes at most n octets in either order and at any place
pub record IsWithin (n : ℕ) (v : Value) : Type 0 where
  pub writable : IsWritable v
  pub short : (order : Order) (o : ℕ) → length (octets_of order v o) ≤ n

-- values, one after another, can be written, and take at most n octets together in either order and at any place
pub record AreWithin (n : ℕ) (vs : Values) : Type 0 where
  pub writable : AreWritable vs
  pub short : (order : Order) (o : ℕ) → length (octets_of_all order vs o) ≤ n
