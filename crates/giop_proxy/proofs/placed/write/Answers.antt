use Rattle.std.proofs.Common.{arith}
use Rattle.giop_proxy.specs.Placing.{fields_at}
use Rattle.giop_proxy.specs.PlacingPrivate.{fields_for, kind_of}
use Rattle.giop_proxy.proofs.Appended.{back-appends, back-same}
use Rattle.giop_proxy.proofs.placed.write.Goals as goal

pub returns-clause-appends : goal.returns-clause-appends
returns-clause-appends c =
    let a = c.args in
    let old = a.out.now.items in
    let mid = c.append-appended.new.out.items in
    let new = c.cut_back.new.out.items in
    rw (c.cut_back.ensures.same) (back-appends a.version (kind_of a.fields.now) a.order a.limit a.body.now (fields_at a.version a.order a.place a.body.now (fields_for a.version a.fields.now a.place a.body.now)) c.len-start.result old mid new (omega (arith, c.len-start.ensures, a.out.now.ok.0))
    c.append-appended.result c.append-appended.ensures (rw c.cut_back.ensures.same at c.cut_back.ensures.ok) (rw c.cut_back.ensures.same at c.cut_back.ensures.err))

pub returns-clause-err : goal.returns-clause-err
returns-clause-err c =
    let a = c.args in
    let old = a.out.now.items in
    let mid = c.append-appended.new.out.items in
    let new = c.cut_back.new.out.items in
    rw (c.cut_back.ensures.same) (back-same a.version (kind_of a.fields.now) a.order a.limit a.body.now (fields_at a.version a.order a.place a.body.now (fields_for a.version a.fields.now a.place a.body.now)) c.len-start.result old mid new (omega (arith, c.len-start.ensures, a.out.now.ok.0))
    c.append-appended.result c.append-appended.ensures (rw c.cut_back.ensures.same at c.cut_back.ensures.ok) (rw c.cut_back.ensures.same at c.cut_back.ensures.err))
