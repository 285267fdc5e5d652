use Rattle.std.proofs.Common.{◌≡◌, ℕ, ◌+◌, ◌++◌, List, take, drop, None, Option, sym, ap, subst, ◌∙◌, arith}
use Rattle.std.specs.Option.{option_map}
use Rattle.std.proofs.lemmas.List.{take-append-drop}
use Rattle.giop_proxy.specs.declared.passes.coming.Told.{Told}
use Rattle.giop_proxy.specs.PassingMessages.{Hearing, IsFault}
use Rattle.giop_proxy.specs.PassingPrivate.{AreHeld, IsHeard, entries, told_at}
use Rattle.giop_proxy.proofs.PassingHearing.{fault-further, heard-further}
use Rattle.giop_proxy.proofs.PassingSteps.{none-is, take-further}
use Rattle.giop_proxy.proofs.passes.hear.Goals as goal

-- the next octets of the piece
next : (n m : ℕ) (piece left : List ℕ) → left ≡ drop n piece → take n piece ++ take m left ≡ take (n + m) piece
next n m piece left e = ap (λ (x : List ℕ). take n piece ++ take m x) e ∙ take-further n m piece

pub returns-then-is_some-clause-hears : goal.returns-then-is_some-clause-hears
returns-then-is_some-clause-hears c = λ s stands.
    let n = c.loop-taken.taken in
    let m = c.in-Ok.heard.taken in
    let piece = c.args.piece.now in
    let left = c.split_at.result.1.now in
    let l = c.loop-taken in
    let first = c.loop-taken.invariant.hears s stands in
    heard-further c.args.frames.now.limits s (take n piece) (take m left) (take (n + m) piece) c.in-Ok.heard.told
    (record { frames = l.frames; place = l.place; parts = entries l.parts.items; passed = l.passed.items; told = None })
    (record { frames = c.hear_once.new.frames; place = c.hear_once.new.place; parts = entries c.hear_once.new.parts.items; passed = c.hear_once.new.passed.items; told = None })
    (next n m piece left c.split_at.ensures.back) first (c.in-Ok.ensures.hears (s ++ take n piece) first.stands)

pub returns-in-Err-clause-hears : goal.returns-in-Err-clause-hears
returns-in-Err-clause-hears c = λ s stands.
    let n = c.loop-taken.taken in
    let piece = c.args.piece.now in
    let l = c.loop-taken in
    let first = c.loop-taken.invariant.hears s stands in
    fault-further c.args.frames.now.limits s (take n piece) (drop n piece) piece
    (record { frames = l.frames; place = l.place; parts = entries l.parts.items; passed = l.passed.items; told = None }) c.in-Err.fault (take-append-drop n piece) first
    (subst (λ (x : List ℕ). IsFault l.frames.limits (s ++ take n piece) x c.in-Err.fault) c.split_at.ensures.back (c.in-Err.ensures.hears (s ++ take n piece) first.stands))

pub loop-taken-preserved : goal.loop-taken-preserved
loop-taken-preserved c =
    let n = c.loop-taken.taken in
    let m = c.in-Ok.heard.taken in
    let piece = c.args.piece.now in
    let left = c.split_at.result.1.now in
    let l = c.loop-taken in
    let none : c.in-Ok.heard.told ≡ None = none-is c.in-Ok.heard.told (sym c.if-is_some.ensures) in
    let after : Hearing = record { frames = c.hear_once.new.frames; place = c.hear_once.new.place; parts = entries c.hear_once.new.parts.items; passed = c.hear_once.new.passed.items; told = None } in
    record {
      in_range = omega (arith, c.in-Ok.ensures.taken.1, c.split_at.ensures.back_len);
      alone = c.in-Ok.ensures.all;
      held = λ w.
          let h = c.in-Ok.ensures.held (c.loop-taken.invariant.held w).parts in
          subst (λ (o : Option Told). AreHeld c.hear_once.new.frames (option_map told_at o) (entries c.hear_once.new.parts.items)) none h;
      limits = c.in-Ok.ensures.limits ∙ c.loop-taken.invariant.limits;
      hears = λ s stands.
          let first = c.loop-taken.invariant.hears s stands in
          let whole = heard-further c.args.frames.now.limits s (take n piece) (take m left) (take (n + m) piece) c.in-Ok.heard.told
          (record { frames = l.frames; place = l.place; parts = entries l.parts.items; passed = l.passed.items; told = None }) after
          (next n m piece left c.split_at.ensures.back) first (c.in-Ok.ensures.hears (s ++ take n piece) first.stands) in
          subst (λ (o : Option Told). IsHeard c.args.frames.now.limits s (take (n + m) piece) o after) none whole;
    }
