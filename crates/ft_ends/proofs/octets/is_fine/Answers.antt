use Rattle.std.proofs.Common.{subst}
use Rattle.cdr_core.specs.Octets.{HoldAll}
use Rattle.cdr_core.specs.View.{values_of}
use Rattle.ft_ends.proofs.Ready.{call-fine, recall-fine}
use Rattle.ft_ends.proofs.octets.is_fine.Goals as goal

pub returns-in-Call : goal.returns-in-Call
returns-in-Call c =
    call-fine c.written_is_octets.ensures c.args.step.now c.in-Call.client c.in-Call.now c.in-Call.call c.in-Call.is c.requires (subst (λ vs. HoldAll (values_of vs)) c.deref.ensures.value c.hold_octets.ensures)

pub returns-in-Recall : goal.returns-in-Recall
returns-in-Recall c =
    recall-fine c.written_is_octets.ensures c.args.step.now c.in-Recall.client c.in-Recall.number c.in-Recall.now c.in-Recall.call c.in-Recall.is c.requires (subst (λ vs. HoldAll (values_of vs)) c.deref-in-Recall.ensures.value c.hold_octets-in-Recall.ensures)
