use Rattle.std.proofs.Common.{ℕ, ◌+◌, min, take, ap, ◌∙◌, arith, length-drop}
use Rattle.giop_proxy.specs.PassingPrivate.{entries, framed}
use Rattle.giop_proxy.proofs.PassingBounds.{held-frame, held-nothing}
use Rattle.giop_proxy.proofs.PassingHearing.{frame-is, hears-fault, hears-frame, hears-nothing}
use Rattle.giop_proxy.proofs.passes.hear_once.Goals as goal

pub returns-in-Err-clause-hears : goal.returns-in-Err-clause-hears
returns-in-Err-clause-hears c = λ s stands. hears-fault c.args.frames.now.limits s c.args.piece.now c.in-Err.fault (c.in-Err.ensures.fault s stands.frames)

pub returns-in_default-clause-hears : goal.returns-in_default-clause-hears
returns-in_default-clause-hears c = λ s stands.
    hears-nothing c.args.frames.now c.feed.new.self c.args.place.now (entries c.args.parts.now.items) c.args.passed.now.items s (take c.in-Ok.taken c.args.piece.now) stands c.in-Ok.ensures.limits
    (c.in-Ok.ensures.stands s stands.frames) (c.in-Ok.ensures.frames s stands.frames) c.in_default.ensures

pub returns-clause-hears : goal.returns-clause-hears
returns-clause-hears c = λ s stands.
    let h = c.in-Some.header in
    let f = framed h c.take-octets.result.items in
    hears-frame c.args.frames.now c.feed.new.self c.args.place.now (entries c.args.parts.now.items) c.args.passed.now.items s (take c.in-Ok.taken c.args.piece.now) stands c.in-Ok.ensures.limits
    c.take-octets.new.self c.limits-limits.result f c.in_ok-told.told c.saturating_add.result (entries c.settle.new.parts.items) c.settle.new.passed.items
    (c.in-Ok.ensures.stands s stands.frames) (c.in-Ok.ensures.frames s stands.frames) (frame-is c.feed.new.self.frame h c.take-octets.result.items c.in-Some.ensures c.take-octets.ensures.taken) c.take-octets.ensures.rest c.limits-limits.ensures
    (c.saturating_add.ensures ∙ ap (λ (n : ℕ). min (c.args.place.now + (12 + n)) 18446744073709551615) c.from.ensures) c.in_ok-told.ensures.step

pub returns-in_default-clause-held : goal.returns-in_default-clause-held
returns-in_default-clause-held c = λ within. held-nothing c.args.frames.now c.feed.new.self (entries c.args.parts.now.items) c.in-Ok.ensures.limits c.in-Ok.ensures.held within

pub returns-clause-held : goal.returns-clause-held
returns-clause-held c = λ within.
    let h = c.in-Some.header in
    let octets = c.take-octets.result.items in
    held-frame c.args.frames.now c.feed.new.self c.take-octets.new.self c.limits-limits.result (framed h octets) c.in_ok-told.told c.args.place.now (entries c.args.parts.now.items) (entries c.settle.new.parts.items) c.args.passed.now.items c.settle.new.passed.items
    c.in-Ok.ensures.limits c.take-octets.ensures.rest c.take-octets.ensures.empty c.limits-limits.ensures (omega (arith, c.take-octets.ensures.long.0, c.take-octets.ensures.long.1, length-drop 12 octets)) c.in_ok-told.ensures.step within
