use Rattle.std.proofs.Common.{sym, ◌∙◌}
use Rattle.giop_proxy.proofs.Ending.{none-put, put-err, put-ok}
use Rattle.giop_proxy.proofs.finishing.put_body.Goals as goal

pub returns-then-is_empty-clause-ok : goal.returns-then-is_empty-clause-ok
returns-then-is_empty-clause-ok c =
    let a = c.args in
    none-put a.version a.kind a.order a.end a.body.now a.out.now.items c.requires.bodied c.are_octets.ensures (sym c.is_empty.ensures ∙ c.if-is_empty.true)

pub returns-clause-ok : goal.returns-clause-ok
returns-clause-ok c =
    let a = c.args in
    put-ok a.version a.kind a.order a.end a.body.now a.out.now.items c.put_gap.new.out.items c.extend_from_slice.new.self.items c.requires.bodied c.are_octets.ensures (sym c.is_empty.ensures ∙ c.if-is_empty.false) c.in_ok-put_gap.ensures.ok
    c.extend_from_slice.result c.extend_from_slice.ensures.items

pub returns-clause-err : goal.returns-clause-err
returns-clause-err c =
    let a = c.args in
    put-err a.version a.end a.body.now a.out.now.items c.put_gap.new.out.items c.extend_from_slice.new.self.items c.in_ok-put_gap.ensures.ok c.extend_from_slice.result c.extend_from_slice.ensures.items
