use Rattle.std.proofs.Common.{[], ◌∷◌}
use Rattle.cdr_core.proofs.Appending.{puts_one, puts_then}
use Rattle.cdr_core.specs.Parts.{ulong_value}
use Rattle.cdr_core.specs.Value as value
use Rattle.cdr_core.specs.Value.{values}
use Rattle.giop_core.proofs.locate.put_locate_reply.Goals as goal

pub returns : goal.returns
returns c =
    let a = c.args in
    let old = a.out.now.items in
    let mid = c.ulong.new.out.items in
    let id = ulong_value a.request_id in
    puts_then a.writer.now (values (id ∷ [])) (value.enumeration a.status) old mid c.ulong-2.new.out.items c.requires (puts_one a.writer.now id old mid c.in_ok-ulong.ensures) c.in_ok-ulong-2.ensures
