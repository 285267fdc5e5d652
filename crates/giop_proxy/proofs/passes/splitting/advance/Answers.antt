use Rattle.std.proofs.Common.{◌≡◌, ℕ, ◌+◌, ◌++◌, List, take, drop, Option, None, sym, ap, subst, ◌∙◌, arith}
use Rattle.std.proofs.lemmas.List.{take-append-drop}
use Rattle.giop_core.specs.declared.header.Header.{Header}
use Rattle.giop_proxy.specs.PassingPrivate.{IsPassed, IsRefused, Needs, pending_at}
use Rattle.giop_proxy.proofs.PassingSteps.{fault-further, none-is, step-step, take-further}
use Rattle.giop_proxy.proofs.passes.splitting.advance.Goals as goal

-- the next octets of the piece
next : (n m : ℕ) (piece left : List ℕ) → left ≡ drop n piece → take n piece ++ take m left ≡ take (n + m) piece
next n m piece left e = ap (λ (x : List ℕ). take n piece ++ take m x) e ∙ take-further n m piece

pub returns-then-is_some-clause-passes : goal.returns-then-is_some-clause-passes
returns-then-is_some-clause-passes c =
    let n = c.loop-taken.taken in
    let m = c.in-Ok.step.taken in
    let left = c.split_at.result.1.now in
    step-step c.args.limits.now c.args.frame.now.items c.args.over.now (take n c.args.piece.now) (take m left) (take (n + m) c.args.piece.now) c.loop-taken.frame.items c.loop-taken.over c.in-Ok.step.complete c.advance_once.new.frame.items c.advance_once.new.over
    (next n m c.args.piece.now left c.split_at.ensures.back) c.loop-taken.invariant.passes c.in-Ok.ensures.passes

pub returns-in-Err-clause-passes : goal.returns-in-Err-clause-passes
returns-in-Err-clause-passes c =
    let n = c.loop-taken.taken in
    let piece = c.args.piece.now in
    fault-further c.args.limits.now c.args.frame.now.items c.args.over.now (take n piece) (drop n piece) piece c.loop-taken.frame.items c.loop-taken.over c.in-Err.fault (take-append-drop n piece) c.loop-taken.invariant.passes
    (subst (λ (x : List ℕ). IsRefused c.args.limits.now c.loop-taken.frame.items c.loop-taken.over x c.in-Err.fault) c.split_at.ensures.back c.in-Err.ensures.passes)

pub loop-taken-preserved : goal.loop-taken-preserved
loop-taken-preserved c =
    let n = c.loop-taken.taken in
    let m = c.in-Ok.step.taken in
    let limits = c.args.limits.now in
    let left = c.split_at.result.1.now in
    let after = c.advance_once.new.frame.items in
    let none : c.in-Ok.step.complete ≡ None = none-is c.in-Ok.step.complete (sym c.if-is_some.ensures) in
    let whole = step-step limits c.args.frame.now.items c.args.over.now (take n c.args.piece.now) (take m left) (take (n + m) c.args.piece.now) c.loop-taken.frame.items c.loop-taken.over c.in-Ok.step.complete after c.advance_once.new.over
    (next n m c.args.piece.now left c.split_at.ensures.back) c.loop-taken.invariant.passes c.in-Ok.ensures.passes in
    record {
      in_range = omega (arith, c.in-Ok.ensures.taken.1, c.split_at.ensures.back_len);
      needed = subst (λ (o : Option Header). Needs limits (pending_at o after) c.advance_once.new.needed) none c.in-Ok.ensures.needed;
      passes = subst (λ (o : Option Header). IsPassed limits c.args.frame.now.items c.args.over.now (take (n + m) c.args.piece.now) o after c.advance_once.new.over) none whole;
    }
