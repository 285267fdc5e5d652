use Rattle.std.proofs.Common.{true, take, ap, ◌∙◌}
use Rattle.giop_proxy.specs.Passing.{Splitting}
use Rattle.giop_proxy.proofs.PassingSteps.{feed-fails, feed-frames, feed-stands, held-within, nothing-held}
use Rattle.giop_proxy.proofs.passes.splitting.Frames.feed.Goals as goal

pub invariant_of-self-in-Err : goal.invariant_of-self-in-Err
invariant_of-self-in-Err c = nothing-held c.self.inside.limits true c.clear.new.self.items c.clear.ensures.items

pub returns-in-Ok-clause-stands : goal.returns-in-Ok-clause-stands
returns-in-Ok-clause-stands c = λ s stands.
    let is = c.self.view_is in
    feed-stands c.args.self.now c.self.inside.limits s (take c.in-Ok.step.taken c.args.piece.now) c.drop_given.new.frame.items c.self.inside.over (ap (λ (v : Splitting). v.limits) is) (c.drop_given.ensures ∙ ap (λ (v : Splitting). v.pending) is) (ap (λ (v : Splitting). v.over) is) stands
    c.self.inside.failed c.if-self.false c.in-Ok.step.complete c.advance.new.frame.items c.advance.new.over c.in-Ok.ensures.passes

pub returns-in-Ok-clause-frames : goal.returns-in-Ok-clause-frames
returns-in-Ok-clause-frames c = λ s stands.
    let is = c.self.view_is in
    feed-frames c.args.self.now c.self.inside.limits s (take c.in-Ok.step.taken c.args.piece.now) c.drop_given.new.frame.items c.self.inside.over (ap (λ (v : Splitting). v.limits) is) (c.drop_given.ensures ∙ ap (λ (v : Splitting). v.pending) is) (ap (λ (v : Splitting). v.over) is) stands
    c.in-Ok.step.complete c.advance.new.frame.items c.advance.new.over c.in-Ok.ensures.passes

pub returns-in-Ok-clause-held : goal.returns-in-Ok-clause-held
returns-in-Ok-clause-held c = held-within c.self.inside.limits c.in-Ok.step.complete c.advance.new.frame.items c.advance.new.needed c.in-Ok.ensures.needed c.in-Ok.ensures.kept

pub returns-in-Err-clause-fault : goal.returns-in-Err-clause-fault
returns-in-Err-clause-fault c = λ s stands.
    let is = c.self.view_is in
    feed-fails c.args.self.now c.self.inside.limits s c.args.piece.now c.drop_given.new.frame.items c.self.inside.over (ap (λ (v : Splitting). v.limits) is) (c.drop_given.ensures ∙ ap (λ (v : Splitting). v.pending) is) (ap (λ (v : Splitting). v.over) is) stands c.in-Err.fault c.in-Err.ensures.passes
