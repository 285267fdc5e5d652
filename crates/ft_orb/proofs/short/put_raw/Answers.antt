use Rattle.std.proofs.Common.{◌∙◌, ◌+◌, ◌++◌, ap, arith, length, List, ℕ}
use Rattle.ft_orb.proofs.Fronts.{raw_put}
use Rattle.ft_orb.proofs.short.put_raw.Goals as goal

pub returns-clause-ok : goal.returns-clause-ok
returns-clause-ok c =
    let a = c.args in
    raw_put a.version a.request_id a.status (12 + length a.body.now) a.body.now a.out.now.items c.front_of.result c.extend_from_slice.new.self.items c.extend_from_slice-2.new.self.items c.extend_from_slice-2.result c.are_octets.ensures (omega arith) c.front_of.ensures
    (c.in_ok-extend_from_slice.ensures.items ∙ ap (λ (xs : List ℕ). xs ++ c.front_of.result) c.reserve.ensures.items) c.extend_from_slice-2.ensures.items
