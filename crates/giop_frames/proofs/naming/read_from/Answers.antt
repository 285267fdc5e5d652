use Rattle.giop_frames.proofs.Ids.{context-is-cut, found-id, found-id-now, goes-on, id-is-missing}
use Rattle.giop_frames.proofs.naming.read_from.Goals.{then-left-eq0+in_default, else-left-eq0}
use Rattle.giop_frames.proofs.naming.read_from.Goals as goal

pub returns-in-Ok-clause-same : goal.returns-in-Ok-clause-same
returns-in-Ok-clause-same c =
    let a = c.args in
    let now = c.pass-left.new.cursor in
    let w = goes-on c.new-cursor.result now a.order a.at c.from.result a.count c.pass-left.result c.split_at.result.1.now a.message.now c.new-cursor.ensures c.from.ensures c.split_at.ensures.back c.requires.at c.pass-left.ensures.order c.pass-left.ensures.passes in
    found-id now a.order a.at a.count c.pass-left.result a.message.now w c.read_is_spelled.ensures c.spelled_is_read.ensures c.ulong.new.self c.in-Ok.id c.if-left-eq0.true c.in-Ok.ensures.0

pub returns-in-Ok-clause-id : goal.returns-in-Ok-clause-id
returns-in-Ok-clause-id c =
    let a = c.args in
    let now = c.pass-left.new.cursor in
    let w = goes-on c.new-cursor.result now a.order a.at c.from.result a.count c.pass-left.result c.split_at.result.1.now a.message.now c.new-cursor.ensures c.from.ensures c.split_at.ensures.back c.requires.at c.pass-left.ensures.order c.pass-left.ensures.passes in
    found-id-now now a.order a.at a.count c.pass-left.result a.message.now w c.read_is_spelled.ensures c.spelled_is_read.ensures c.ulong.new.self c.in-Ok.id c.if-left-eq0.true c.in-Ok.ensures.0

pub returns-clause-id : goal.returns-clause-id
returns-clause-id c =
    let a = c.args in
    let now = c.pass-left.new.cursor in
    let w = goes-on c.new-cursor.result now a.order a.at c.from.result a.count c.pass-left.result c.split_at.result.1.now a.message.now c.new-cursor.ensures c.from.ensures c.split_at.ensures.back c.requires.at c.pass-left.ensures.order c.pass-left.ensures.passes in
    elim c.if-left-eq0.branch [
      | then-left-eq0+in_default v ↦ id-is-missing now a.order a.at a.count c.pass-left.result a.message.now w v.in_default.field-0 v.if-left-eq0.true v.in_default.ensures.0
      | else-left-eq0 v ↦ context-is-cut now a.order a.at a.count c.pass-left.result a.message.now w v.if-left-eq0.false c.pass-left.ensures.stops
    ]
