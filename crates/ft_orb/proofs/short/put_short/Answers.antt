use Rattle.std.proofs.Common.{◌∙◌, ◌-◌, ◌++◌, ap, arith, List, ℕ}
use Rattle.cdr_core.specs.View.{values_of}
use Rattle.ft_orb.proofs.Fronts.{front_put}
use Rattle.ft_orb.proofs.short.put_short.Goals as goal

pub returns-clause-ok : goal.returns-clause-ok
returns-clause-ok c =
    let a = c.args in
    front_put a.version a.request_id 0 (a.end - 12) (values_of a.results.now) a.out.now.items c.front_of.result c.extend_from_slice.new.self.items c.write_list.new.out.items c.write_list.result (omega (arith, c.requires.end)) c.front_of.ensures
    (c.in_ok-extend_from_slice.ensures.items ∙ ap (λ (xs : List ℕ). xs ++ c.front_of.result) c.reserve.ensures.items) c.write_list.ensures.ok
