use Rattle.std.proofs.Common.{[], ◌∷◌, map}
use Rattle.cdr_core.proofs.Appending.{puts_one, puts_then}
use Rattle.cdr_core.specs.Parts.{octet_value, ulong_value}
use Rattle.cdr_core.specs.Value as value
use Rattle.cdr_core.specs.Value.{Value, values}
use Rattle.giop_core.specs.Items.{item_at, list_value}
use Rattle.giop_core.specs.Lent.{addressed_by}
use Rattle.giop_core.specs.Written.{response_flags, target_of, zeros}
use Rattle.giop_core.proofs.request.put_request_12.Goals as goal

pub returns : goal.returns
returns c =
    let a = c.args in
    let w = a.writer.now in
    let old = a.out.now.items in
    let le = c.requires.start in
    let id : Value = ulong_value a.fields.now.request_id in
    let flags : Value = octet_value (response_flags a.fields.now.wish) in
    let reserved : Value = zeros in
    let target : Value = target_of (addressed_by a.fields.now.target.now) in
    let operation : Value = value.string a.fields.now.operation.now in
    let contexts : Value = list_value (map item_at a.fields.now.contexts.now) in
    let p1 = puts_one w id old c.ulong.new.out.items c.in_ok-ulong.ensures in
    let p2 = puts_then w (values (id ∷ [])) flags old c.ulong.new.out.items c.octet.new.out.items le p1 (rw c.response_flags.ensures at c.in_ok-octet.ensures) in
    let p3 = puts_then w (values (id ∷ flags ∷ [])) reserved old c.octet.new.out.items c.put_reserved.new.out.items le p2 c.in_ok-put_reserved.ensures in
    let p4 = puts_then w (values (id ∷ flags ∷ reserved ∷ [])) target old c.put_reserved.new.out.items c.put_target.new.out.items le p3 c.in_ok-put_target.ensures in
    let p5 = puts_then w (values (id ∷ flags ∷ reserved ∷ target ∷ [])) operation old c.put_target.new.out.items c.string.new.out.items le p4 c.in_ok-string.ensures in
    puts_then w (values (id ∷ flags ∷ reserved ∷ target ∷ operation ∷ [])) contexts old c.string.new.out.items c.put_contexts.new.out.items le p5 c.in_ok-put_contexts.ensures
