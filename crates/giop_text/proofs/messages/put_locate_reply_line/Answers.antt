use Rattle.std.proofs.Common.{append_assoc}
use Rattle.giop_text.proofs.messages.put_locate_reply_line.Goals as goal

pub returns : goal.returns
returns c =
    let whole = rw (c.in_ok-put_body.ensures, c.in_ok-put_locate_status.ensures, c.in_ok-write.ensures.bytes) at c.end_line.ensures in
    simp append_assoc at whole
