use Rattle.std.proofs.Common.{◌≡◌, List, Some, None, ap, ◌∙◌, sym}
use Rattle.std.specs.List.{position}
use Rattle.ft_client.specs.declared.pending.Pending.{Pending as CodePending}
use Rattle.ft_client.specs.Clients.{is_sent_as}
use Rattle.ft_client.proofs.Settled.{nothing_settled, one_settled}
use Rattle.ft_client.proofs.settling.settle.Goals as goal

pub returns-in-Some-clause-stands : goal.returns-in-Some-clause-stands
returns-in-Some-clause-stands c = λ m st.
    let r = c.args.request_id in
    let qs = c.args.pending.now.items in
    let e : position (λ p. is_sent_as r p.sent) qs ≡ Some c.in-Some.place = ap (λ (ps : List CodePending). position (λ p. is_sent_as r p.sent) ps) (sym c.as_slice.ensures.value) ∙ sym c.place_sent.ensures ∙ c.in-Some.is in
    one_settled r qs c.complete.new.pending.items c.args.completions.now.items c.complete.new.completions.items c.args.ended m c.in-Some.place e c.complete.ensures.pending c.complete.ensures.ended st

pub returns-in_default-clause-stands : goal.returns-in_default-clause-stands
returns-in_default-clause-stands c = λ m st.
    let r = c.args.request_id in
    let qs = c.args.pending.now.items in
    let e : position (λ p. is_sent_as r p.sent) qs ≡ None = ap (λ (ps : List CodePending). position (λ p. is_sent_as r p.sent) ps) (sym c.as_slice.ensures.value) ∙ sym c.place_sent.ensures ∙ c.in_default.is in
    nothing_settled r qs c.args.completions.now.items c.args.ended m e st
