use Rattle.std.proofs.Common.{map}
use Rattle.giop_core.specs.Items.{item_at}
use Rattle.giop_core.specs.Written.{octets_body}
use Rattle.giop_core.proofs.OctetsBody.{body_length}
use Rattle.ft_orb.proofs.Carried.{short_written}
use Rattle.ft_orb.proofs.answering.Asker.put_body.Goals as goal

pub returns-in_default-clause-err : goal.returns-in_default-clause-err
returns-in_default-clause-err c =
    let a = c.args in
    short_written (map item_at a.contexts.now) a.self.version a.order a.self.request_id c.number-status.result (octets_body a.body.now) c.write_raw_reply.result a.out.now.items c.write_raw_reply.new.out.items c.requires.short (rw (body_length a.order a.body.now 24) c.requires.length) c.write_raw_reply.ensures
