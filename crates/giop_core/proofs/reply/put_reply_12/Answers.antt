use Rattle.std.proofs.Common.{[], ◌∷◌, map}
use Rattle.cdr_core.proofs.Appending.{puts_one, puts_then}
use Rattle.cdr_core.specs.Parts.{ulong_value}
use Rattle.cdr_core.specs.Value as value
use Rattle.cdr_core.specs.Value.{Value, values}
use Rattle.giop_core.specs.Items.{item_at, list_value}
use Rattle.giop_core.proofs.reply.put_reply_12.Goals as goal

pub returns : goal.returns
returns c =
    let a = c.args in
    let w = a.writer.now in
    let old = a.out.now.items in
    let le = c.requires.start in
    let id : Value = ulong_value a.request_id in
    let status : Value = value.enumeration a.status in
    let contexts : Value = list_value (map item_at a.contexts.now) in
    let p1 = puts_one w id old c.ulong.new.out.items c.in_ok-ulong.ensures in
    let p2 = puts_then w (values (id ∷ [])) status old c.ulong.new.out.items c.ulong-2.new.out.items le p1 c.in_ok-ulong-2.ensures in
    puts_then w (values (id ∷ status ∷ [])) contexts old c.ulong-2.new.out.items c.put_contexts.new.out.items le p2 c.in_ok-put_contexts.ensures
