use Rattle.std.proofs.Common.{◌≡◌, [], ◌++◌, Option, Some, IfOk, length, option_map, take, ap, subst, sym, ◌∙◌}
use Rattle.giop_core.specs.Content.{Content}
use Rattle.giop_frames.specs.declared.limits.Limits.{Limits}
use Rattle.giop_frames.specs.Standing.{IsFault, completed_at}
use Rattle.giop_frames.specs.Streams.{messages_of}
use Rattle.ft_log.specs.View.{performed_in}
use Rattle.uses.specs.Forwarding.{told_by}
use Rattle.uses.proofs.Told.{fault_first, lent_first}
use Rattle.uses.proofs.forwarding.read_reply.Goals as goal

pub returns-in-Ok : goal.returns-in-Ok
returns-in-Ok c =
    let n = c.in-Ok.field-0 in
    let octets = c.args.octets.now in
    let lent = c.feed.new.self.message in
    let told = subst (λ (l : Limits). messages_of l (take n octets) ≡ messages_of l [] ++ completed_at (length (take n octets)) lent) c.new-assembler.ensures.limits (c.in-Ok.ensures.messages [] c.new-assembler.ensures.stands) in
    subst (λ (said : Option Content). IfOk c.told_by.result (λ told. option_map performed_in told ≡ told_by c.args.request_id said))
    (lent_first c.args.limits octets n lent told c.message.result c.message.ensures.lent c.in-Ok.ensures.all c.streams_grow.ensures.messages) c.told_by.ensures

pub returns : goal.returns
returns c =
    let octets = c.args.octets.now in
    let e = c.in-Err.fault in
    let fault = subst (λ (l : Limits). IsFault l [] octets e) c.new-assembler.ensures.limits (c.in-Err.ensures.fault [] c.new-assembler.ensures.stands) in
    ap Some c.untold.ensures ∙ sym (ap (told_by c.args.request_id) (fault_first c.args.limits octets e fault c.in_default.not-Memory))
