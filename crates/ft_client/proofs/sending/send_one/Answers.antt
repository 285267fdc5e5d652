use Rattle.std.proofs.Common.{sym, ap, ◌∙◌}
use Rattle.ft_client.specs.Keeping.{is_due, kept_by}
use Rattle.ft_client.proofs.Sent.{not_sent, was_sent}
use Rattle.ft_client.proofs.sending.send_one.Goals as goal

pub returns-then-not-is_due-clause-ok : goal.returns-then-not-is_due-clause-ok
returns-then-not-is_due-clause-ok c = not_sent c.args.now (kept_by c.args.call.now) c.args.link.now c.args.out.now.items (ap (λ n. is_due c.args.now n (kept_by c.args.call.now)) (sym c.given.ensures) ∙ sym c.is_due.ensures ∙ c.if-not-is_due.true)

pub returns-clause-ok : goal.returns-clause-ok
returns-clause-ok c =
    let h = c.in_ok-transmit.ensures in
    was_sent c.args.now (kept_by c.args.call.now) c.args.link.now c.transmit.new.link c.in_ok-transmit.field-0 c.args.out.now.items c.transmit.new.out.items (ap (λ n. is_due c.args.now n (kept_by c.args.call.now)) (sym c.given.ensures) ∙ sym c.is_due.ensures ∙ c.if-not-is_due.false) h.ok.0 h.ok.1 h.out
