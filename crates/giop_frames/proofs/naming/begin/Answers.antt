use Rattle.std.proofs.Common.{rules, arith}
use Rattle.std.proofs.Math.Facts.{Fits-of_lt}
use Rattle.std.specs.Int.{w32}
use Rattle.giop_frames.proofs.Ids.{begins, begun, begun-id, not-begun}
use Rattle.giop_frames.proofs.naming.begin.Goals as goal

pub overflow_cast-place : goal.overflow_cast-place
overflow_cast-place c =
    let t = begins c.read_is_spelled.ensures c.spelled_is_read.ensures c.new-cursor.result c.ulong.new.self c.args.order c.split_at.result.1.now c.args.message.now c.in-Ok.count c.new-cursor.ensures c.split_at.ensures.back c.requires.long c.in-Ok.ensures.0 in
    Fits-of_lt {w = w32} (omega (arith, t.place, c.place.ensures, c.requires.short))

pub read_from-requires-clause-at : goal.read_from-requires-clause-at
read_from-requires-clause-at c =
    let t = begins c.read_is_spelled.ensures c.spelled_is_read.ensures c.new-cursor.result c.ulong.new.self c.args.order c.split_at.result.1.now c.args.message.now c.in-Ok.count c.new-cursor.ensures c.split_at.ensures.back c.requires.long c.in-Ok.ensures.0 in
    omega (arith, t.place, c.place.ensures)

pub returns-in-Ok-clause-read : goal.returns-in-Ok-clause-read
returns-in-Ok-clause-read c =
    let t = begins c.read_is_spelled.ensures c.spelled_is_read.ensures c.new-cursor.result c.ulong.new.self c.args.order c.split_at.result.1.now c.args.message.now c.in-Ok.count c.new-cursor.ensures c.split_at.ensures.back c.requires.long c.in-Ok.ensures.0 in
    begun c.args.order c.args.message.now c.ulong.new.self.rest c.in-Ok.count c.ulong.new.self.place c.place.result c.read_from.result (search rules) t c.place.ensures c.read_from.ensures.place c.read_from.ensures.same

pub returns-in-Ok-clause-id : goal.returns-in-Ok-clause-id
returns-in-Ok-clause-id c =
    let t = begins c.read_is_spelled.ensures c.spelled_is_read.ensures c.new-cursor.result c.ulong.new.self c.args.order c.split_at.result.1.now c.args.message.now c.in-Ok.count c.new-cursor.ensures c.split_at.ensures.back c.requires.long c.in-Ok.ensures.0 in
    begun-id c.args.order c.args.message.now c.ulong.new.self.rest c.in-Ok.count c.ulong.new.self.place c.place.result c.read_from.result (grind arith) t c.place.ensures c.read_from.ensures.id

pub returns-in-Err-clause-id : goal.returns-in-Err-clause-id
returns-in-Err-clause-id c = not-begun c.new-cursor.result c.args.order c.split_at.result.1.now c.args.message.now c.in-Err.field-0 c.new-cursor.ensures c.split_at.ensures.back c.in-Err.ensures.0
