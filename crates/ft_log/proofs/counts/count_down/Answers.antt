use Rattle.std.proofs.Common.{◌≡◌, None, refl, ◌∙◌, arith}
use Rattle.std.proofs.lemmas.Bool.Decides.{nat_tests}
use Rattle.ft_log.specs.Maps.{held_at}
use Rattle.ft_log.proofs.Counting.{one_less}
use Rattle.ft_log.proofs.Named.{held-client}
use Rattle.ft_log.proofs.Slots.{take_count}
use Rattle.ft_log.proofs.counts.count_down.Goals as goal

pub returns-then-lowered-clause-held : goal.returns-then-lowered-clause-held
returns-then-lowered-clause-held c = (c.lowered.ensures.yes c.if-lowered.true).1

pub returns-then-lowered-clause-slots : goal.returns-then-lowered-clause-slots
returns-then-lowered-clause-slots c =
    let more = (c.lowered.ensures.yes c.if-lowered.true).0 in
    let same = c.lowered.ensures.slots in
    grind (arith, nat_tests)

pub returns-clause-held : goal.returns-clause-held
returns-clause-held c = λ client.
    let up = c.swap_remove.ensures.updates in
    let no = c.lowered.ensures.no c.if-lowered.false in
    one_less c.lowered.new.counts c.swap_remove.new.self c.args.client_id.now client 0 (omega (arith, no.0, no.1 c.args.client_id.now, c.requires))
    (held-client _ (λ x y. refl) c.lowered.new.counts c.swap_remove.new.self None c.args.client_id.now up.1 up.3 client) ∙ no.1 client

pub returns-clause-slots : goal.returns-clause-slots
returns-clause-slots c =
    let no = c.lowered.ensures.no c.if-lowered.false in
    let one : held_at c.lowered.new.counts c.args.client_id.now ≡ 1 = omega (arith, no.0, no.1 c.args.client_id.now, c.requires) in
    let fewer = take_count c.swap_remove.result _ _ _ c.swap_remove.ensures.value c.swap_remove.ensures.len in
    let same = c.lowered.ensures.slots in
    let held = no.1 c.args.client_id.now in
    grind (arith, nat_tests)
