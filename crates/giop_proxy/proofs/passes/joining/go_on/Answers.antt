use Rattle.std.proofs.Common.{ℕ, ◌+◌, drop, refl, ap, ◌∙◌}
use Rattle.giop_frames.specs.Frames.{id_length}
use Rattle.giop_proxy.specs.PassingMessages.{ended}
use Rattle.giop_proxy.specs.PassingPrivate.{entries, frame_in}
use Rattle.giop_proxy.proofs.PassingJoins.{goes-done, goes-fault-last, goes-fault-more, goes-quiet, payload-at}
use Rattle.giop_proxy.proofs.passes.joining.go_on.Goals as goal

pub returns-then-header-clause-step : goal.returns-then-header-clause-step
returns-then-header-clause-step c =
    let f = c.args.fragment.now in
    let paid = payload-at f.header f.octets.items c.split_at.result.1.now (c.split_at.ensures.back ∙ ap (λ (n : ℕ). drop (12 + n) c.as_slice.result.now) c.id_length.ensures ∙ ap (drop (12 + id_length f.header.version)) c.as_slice.ensures.value) in
    goes-fault-more c.args.limits.now c.args.message f c.split_at.result.1.now (entries c.args.parts.now.items) c.args.passed.now.items c.args.key c.requires.key paid
    c.at_fault.result c.in-Some.fault c.add.new.passed.items c.in-Some.ensures c.if-header.true c.in_ok-add.ensures c.at_fault.ensures.told

pub returns-in-Some-clause-step : goal.returns-in-Some-clause-step
returns-in-Some-clause-step c =
    let f = c.args.fragment.now in
    let paid = payload-at f.header f.octets.items c.split_at.result.1.now (c.split_at.ensures.back ∙ ap (λ (n : ℕ). drop (12 + n) c.as_slice.result.now) c.id_length.ensures ∙ ap (drop (12 + id_length f.header.version)) c.as_slice.ensures.value) in
    goes-fault-last c.args.limits.now c.args.message f c.split_at.result.1.now (entries c.args.parts.now.items) c.args.passed.now.items c.args.key c.requires.key paid
    c.at_fault-in-Some.result c.in-Some.fault c.in-Some.ensures c.if-header.false c.at_fault-in-Some.ensures.told

pub returns-then-header-2-clause-step : goal.returns-then-header-2-clause-step
returns-then-header-2-clause-step c =
    let f = c.args.fragment.now in
    let paid = payload-at f.header f.octets.items c.split_at.result.1.now (c.split_at.ensures.back ∙ ap (λ (n : ℕ). drop (12 + n) c.as_slice.result.now) c.id_length.ensures ∙ ap (drop (12 + id_length f.header.version)) c.as_slice.ensures.value) in
    goes-quiet c.args.limits.now c.args.message f c.split_at.result.1.now (entries c.args.parts.now.items) c.args.passed.now.items c.args.key c.requires.key paid
    c.args.parts.now.items c.push.new.self.items _ c.in_default.ensures c.if-header-2.true refl c.in_ok-push.ensures.items refl (c.in_ok-message.ensures (frame_in f) paid)

pub returns-clause-step : goal.returns-clause-step
returns-clause-step c =
    let f = c.args.fragment.now in
    let paid = payload-at f.header f.octets.items c.split_at.result.1.now (c.split_at.ensures.back ∙ ap (λ (n : ℕ). drop (12 + n) c.as_slice.result.now) c.id_length.ensures ∙ ap (drop (12 + id_length f.header.version)) c.as_slice.ensures.value) in
    goes-done c.args.limits.now c.args.message f c.split_at.result.1.now (entries c.args.parts.now.items) c.args.passed.now.items c.args.key c.requires.key paid
    c.judge.result _ c.in_default.ensures c.if-header-2.false (c.end.ensures ∙ ap ended (c.in_ok-message.ensures (frame_in f) paid)) c.judge.ensures.told
