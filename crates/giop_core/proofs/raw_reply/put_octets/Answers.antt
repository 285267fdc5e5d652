use Rattle.std.proofs.Common.{sym, ◌∙◌}
use Rattle.giop_core.proofs.OctetsBody.{padded_put, plain_put}
use Rattle.giop_core.proofs.raw_reply.put_octets.Goals as goal
use Rattle.giop_core.proofs.raw_reply.put_octets.Goals.{in-V10, in-V12}

pub returns : goal.returns
returns c =
    let a = c.args in
    let w = a.writer.now in
    let old = a.out.now.items in
    let aligned = c.align.new.out.items in
    let new = c.extend_from_slice.new.self.items in
    let n = c.match-version.alignment in
    let some = sym c.is_empty.ensures ∙ c.if-is_empty.false in
    let r = c.extend_from_slice.result in
    let put = c.extend_from_slice.ensures.items in
    elim c.match-version.branch [
      | in-V10 b ↦ plain_put w a.octets.now old aligned new n c.are_octets.ensures c.in_ok-align.ensures.ok b.alignment-is a.version b.in-V10.is r put
      | in-V12 b ↦ rw b.in-V12.is (padded_put w a.octets.now old aligned new n c.are_octets.ensures c.in_ok-align.ensures.ok c.requires some b.alignment-is r put)
    ]
