use Rattle.std.proofs.Common.{[], ◌∷◌, map}
use Rattle.cdr_core.proofs.Appending.{puts_one, puts_then}
use Rattle.cdr_core.specs.Parts.{ulong_value}
use Rattle.cdr_core.specs.Value as value
use Rattle.cdr_core.specs.Value.{Value, values}
use Rattle.giop_core.specs.Items.{item_at, list_value}
use Rattle.giop_core.specs.Lent.{addressed_by}
use Rattle.giop_core.specs.Written.{response_expected, key_value, zeros}
use Rattle.giop_core.proofs.request.put_request_11.Goals as goal

pub returns : goal.returns
returns c =
    let a = c.args in
    let w = a.writer.now in
    let old = a.out.now.items in
    let le = c.requires.start in
    let contexts : Value = list_value (map item_at a.fields.now.contexts.now) in
    let id : Value = ulong_value a.fields.now.request_id in
    let expected : Value = value.boolean (response_expected a.fields.now.wish) in
    let reserved : Value = zeros in
    let key : Value = key_value (addressed_by a.fields.now.target.now) in
    let operation : Value = value.string a.fields.now.operation.now in
    let principal : Value = value.octets [] in
    let p1 = puts_one w contexts old c.put_contexts.new.out.items c.in_ok-put_contexts.ensures in
    let p2 = puts_then w (values (contexts ∷ [])) id old c.put_contexts.new.out.items c.ulong.new.out.items le p1 c.in_ok-ulong.ensures in
    let p3 = puts_then w (values (contexts ∷ id ∷ [])) expected old c.ulong.new.out.items c.boolean.new.out.items le p2 (rw c.response_expected.ensures at c.in_ok-boolean.ensures) in
    let p4 = puts_then w (values (contexts ∷ id ∷ expected ∷ [])) reserved old c.boolean.new.out.items c.put_reserved.new.out.items le p3 c.in_ok-put_reserved.ensures in
    let p5 = puts_then w (values (contexts ∷ id ∷ expected ∷ reserved ∷ [])) key old c.put_reserved.new.out.items c.put_key.new.out.items le p4 c.in_ok-put_key.ensures in
    let p6 = puts_then w (values (contexts ∷ id ∷ expected ∷ reserved ∷ key ∷ [])) operation old c.put_key.new.out.items c.string.new.out.items le p5 c.in_ok-string.ensures in
    puts_then w (values (contexts ∷ id ∷ expected ∷ reserved ∷ key ∷ operation ∷ [])) principal old c.string.new.out.items c.put_principal.new.out.items le p6 c.in_ok-put_principal.ensures
