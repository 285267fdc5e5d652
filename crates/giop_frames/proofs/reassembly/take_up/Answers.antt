use Rattle.std.proofs.Common.{◌≡◌, ℕ, ◌+◌, true, rules, drop, refl, ap, ◌∙◌, arith}
use Rattle.giop_frames.specs.Fragments.{is_same_order}
use Rattle.giop_frames.specs.Standing.{framed, entries}
use Rattle.giop_frames.proofs.Judging.{continued, payload-at, too-long-at}
use Rattle.giop_frames.proofs.reassembly.take_up.Goals as goal

pub returns-then-limits-len : goal.returns-then-limits-len
returns-then-limits-len c =
    let same : is_same_order c.in-Some.part.header.order c.args.header.now.order ≡ true = first_of (search rules, grind arith) in
    too-long-at c.args.limits.now (framed c.args.header.now c.args.frame.now) (entries c.args.parts.now.items) c.in-Some.part c.split_at.result.1.now c.key_of-key.result c.key_of-key.ensures c.in-Some.ensures.found same
    (payload-at c.args.header.now c.args.frame.now c.split_at.result.1.now (c.split_at.ensures.back ∙ ap (λ (n : ℕ). drop (12 + n) c.args.frame.now) c.id_length.ensures)) (omega (arith, c.in-Some.part.headed)) (omega (arith, c.if-limits-len.true, c.len.ensures))

pub returns : goal.returns
returns c =
    let same : is_same_order c.in-Some.part.header.order c.args.header.now.order ≡ true = first_of (search rules, grind arith) in
    continued c.args.limits.now (framed c.args.header.now c.args.frame.now) (entries c.args.parts.now.items) _ _ c.in-Some.part c.split_at.result.1.now c.key_of-key.result c.key_of-key.ensures c.in-Some.ensures.found same
    (payload-at c.args.header.now c.args.frame.now c.split_at.result.1.now (c.split_at.ensures.back ∙ ap (λ (n : ℕ). drop (12 + n) c.args.frame.now) c.id_length.ensures)) (omega (arith, c.in-Some.part.headed)) (omega (arith, c.if-limits-len.false, c.len.ensures))
    refl refl c.in_ok-extend_from_slice.ensures.items c.in-Some.ensures.rest
