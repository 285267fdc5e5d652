use Rattle.std.proofs.Common.{rules}
use Rattle.std.proofs.lemmas.Result.{err_from_is_err_and}
use Rattle.ior_core.specs.Private.{head_value}
use Rattle.ior_core.proofs.Bodies.{key_is, pass_fails, passed}
use Rattle.ior_core.proofs.profile.key_in.Goals as goal

pub returns-in_err-skip_components : goal.returns-in_err-skip_components
returns-in_err-skip_components c =
    let p = err_from_is_err_and c.from_residual-in_err-skip_components.result c.from_residual-in_err-skip_components.ensures.1 in
    let start = c.in_ok-cursor.cursor in
    let h = c.in_ok-head.head in
    let mid = c.read_head.new.cursor in
    let stopped = rw (c.in_ok-head.ensures.1) at c.in_err-skip_components.ensures in
    rw (p.1, p.2) (pass_fails c.args.octets.now start.order start.place start.rest c.in_ok-cursor.ensures (head_value h.major h.minor h.host.now h.port h.object_key.now) mid.place mid.rest c.in_ok-head.ensures.0 c.in_err-skip_components.field-0.0 stopped)

pub returns : goal.returns
returns c =
    let start = c.in_ok-cursor.cursor in
    let h = c.in_ok-head.head in
    let mid = c.read_head.new.cursor in
    let new = c.skip_components.new.cursor in
    let read = rw (c.in_ok-head.ensures.1) at c.in_ok-skip_components.ensures.0 in
    rw (key_is c.args.octets.now h.major h.minor h.host.now h.port h.object_key.now (passed c.args.octets.now start.order start.place start.rest c.in_ok-cursor.ensures (head_value h.major h.minor h.host.now h.port h.object_key.now) mid.place mid.rest c.in_ok-head.ensures.0 new.place new.rest read)) (search rules)
