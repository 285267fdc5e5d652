use Rattle.std.proofs.Common.{append_assoc, append-nil}
use Rattle.giop_text.proofs.messages.put_request.Goals as goal

pub returns : goal.returns
returns c =
    let whole = rw (c.in_ok-write-2.ensures.bytes, c.in_ok-put_target.ensures, c.in_ok-write.ensures.bytes, c.in_ok-operation.ensures) at c.put_body.ensures in
    let same = simp append_assoc at whole in
    simp append-nil same
