use Rattle.std.proofs.Common.{◌-◌, arith}
use Rattle.std.proofs.lemmas.Result.{err_from_is_err_and}
use Rattle.giop_proxy.proofs.Ending.{ended-kept, long-at, ok-at, size-at}
use Rattle.giop_proxy.proofs.finishing.finish.Goals as goal

pub returns-then-size-most : goal.returns-then-size-most
returns-then-size-most c =
    let a = c.args in
    long-at a.version a.kind a.order a.limit a.start a.body.now a.out.now.items c.requires.bodied c.are_octets.ensures c.requires.begun (c.len-all.result - a.start) c.begun_at-begins.result (omega arith) c.begun_at-begins.ensures (omega arith)

pub returns-in_err-put_body : goal.returns-in_err-put_body
returns-in_err-put_body c =
    let a = c.args in
    let p = err_from_is_err_and c.from_residual.result c.from_residual.ensures.1 in
    rw (p.1, p.2) (ended-kept a.version a.kind a.order a.limit a.start a.body.now a.out.now.items c.requires.bodied c.are_octets.ensures c.requires.begun c.put_body.new.out.items c.in_err-put_body.ensures.err)

pub put_header-requires-clause-short : goal.put_header-requires-clause-short
put_header-requires-clause-short c =
    let a = c.args in
    let size = size-at a.version a.kind a.order a.limit a.start a.body.now a.out.now.items c.requires.bodied c.are_octets.ensures c.requires.begun (c.len-all.result - a.start) c.begun_at-begins.result (omega arith) c.begun_at-begins.ensures c.put_body.new.out.items c.put_body.new.out.items c.in_ok-put_body.ensures.ok in
    omega (arith, size)

pub returns : goal.returns
returns c =
    let a = c.args in
    ok-at a.version a.kind a.order a.limit a.start a.body.now a.out.now.items c.requires.bodied c.are_octets.ensures c.requires.begun (c.len-all.result - a.start) c.begun_at-begins.result (omega arith) c.begun_at-begins.ensures c.put_body.new.out.items c.put_header.new.out.items c.in_ok-put_body.ensures.ok
    (omega arith) c.put_header.ensures
