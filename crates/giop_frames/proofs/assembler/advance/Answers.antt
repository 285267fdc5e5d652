use Rattle.std.proofs.Common.{◌≡◌, ℕ, ◌+◌, ◌++◌, List, [], length, take, drop, Option, None, refl, sym, ap, subst, ◌∙◌, arith}
use Rattle.std.proofs.lemmas.List.{take-append-drop}
use Rattle.std.proofs.lemmas.Bool.{eqb-true}
use Rattle.giop_core.specs.declared.header.Header.{Header}
use Rattle.giop_frames.specs.Frames.{frame_size}
use Rattle.giop_frames.specs.Private.{Needs, IsStep}
use Rattle.giop_frames.specs.Standing.{IsFault, pending_at, entries}
use Rattle.giop_frames.proofs.Alone.{goes-whole, keeps-whole, no-items}
use Rattle.giop_frames.proofs.Stepping.{fault-further, step-step, take-further}
use Rattle.giop_frames.proofs.Tables.{none-is}
use Rattle.giop_frames.proofs.assembler.advance.Goals as goal

-- the next octets of the piece
next : (n m : ℕ) (piece left : List ℕ) → left ≡ drop n piece → take n piece ++ take m left ≡ take (n + m) piece
next n m piece left e = ap (λ (x : List ℕ). take n piece ++ take m x) e ∙ take-further n m piece

-- nothing was buffered
nothing : (c : goal.Else-is_err) → c.args.frame.now.items ≡ []
nothing c = no-items c.args.frame.now.items (omega (arith, eqb-true _ 0 (sym c.is_empty.ensures ∙ c.if-is_empty.true)))

-- the octets of the message, copied
copied : (c : goal.Else-is_err) → c.extend_from_slice.new.self.items ≡ c.args.frame.now.items ++ take (frame_size c.in-Some.header) c.args.piece.now
copied c =
    let front = c.split_at.ensures.front ∙ ap (λ (n : ℕ). take n c.args.piece.now) c.frame_size.ensures in
    c.extend_from_slice.ensures.items ∙ rw c.if-is_err.ensures.negation (ap (λ (x : List ℕ). c.args.frame.now.items ++ x) front)

pub returns-in-Some-clause-stands : goal.returns-in-Some-clause-stands
returns-in-Some-clause-stands c = λ s stands.
    let none : c.args.parts.now.items ≡ [] = no-items c.args.parts.now.items (omega (arith, eqb-true _ 0 (sym c.is_empty-then-is_empty.ensures ∙ c.if-is_empty-2.true))) in
    let size : length c.split_at.result.0.now ≡ frame_size c.in-Some.header = omega (arith, c.split_at.ensures.front_len, c.frame_size.ensures) in
    goes-whole c.args.limits.now c.args.piece.now c.in-Some.header c.find_whole.new.places c.in-Some.ensures c.args.frame.now.items c.extend_from_slice.new.self.items (nothing c) (copied c) (length c.split_at.result.0.now) c.args.parts.now.items s none size stands

pub returns-in-Some-clause-kept : goal.returns-in-Some-clause-kept
returns-in-Some-clause-kept c =
    keeps-whole c.args.limits.now c.args.piece.now c.in-Some.header c.find_whole.new.places c.in-Some.ensures c.args.frame.now.items c.extend_from_slice.new.self.items (nothing c) (copied c)

pub returns-in-Err-clause-stands : goal.returns-in-Err-clause-stands
returns-in-Err-clause-stands c = λ s stands.
    let n = c.loop-taken.taken in
    let piece = c.args.piece.now in
    let first = c.loop-taken.invariant.stands s stands in
    fault-further c.args.limits.now s (take n piece) (drop n piece) piece c.loop-taken.frame.items (entries c.loop-taken.parts.items) c.in-Err.fault (take-append-drop n piece) first
    (subst (λ (x : List ℕ). IsFault c.args.limits.now (s ++ take n piece) x c.in-Err.fault) c.split_at-in-loop-taken.ensures.back (c.in-Err.ensures.stands (s ++ take n piece) first.stands))

pub returns-then-is_some-clause-stands : goal.returns-then-is_some-clause-stands
returns-then-is_some-clause-stands c = λ s stands.
    let first = c.loop-taken.invariant.stands s stands in
    let n = c.loop-taken.taken in
    let m = c.in-Ok.step.taken in
    let left = c.split_at-in-loop-taken.result.1.now in
    step-step c.args.limits.now s (take n c.args.piece.now) (take m left) (take (n + m) c.args.piece.now) c.in-Ok.step.complete c.loop-taken.frame.items c.advance_once.new.frame.items (entries c.loop-taken.parts.items) (entries c.advance_once.new.parts.items)
    (next n m c.args.piece.now left c.split_at-in-loop-taken.ensures.back) first (c.in-Ok.ensures.stands (s ++ take n c.args.piece.now) first.stands)

pub loop-taken-preserved : goal.loop-taken-preserved
loop-taken-preserved c =
    let n = c.loop-taken.taken in
    let m = c.in-Ok.step.taken in
    let left = c.split_at-in-loop-taken.result.1.now in
    let none : c.in-Ok.step.complete ≡ None = none-is c.in-Ok.step.complete (sym c.if-is_some.ensures) in
    let limits = c.args.limits.now in
    let after = c.advance_once.new.frame.items in
    record {
      in_range = omega (arith, c.in-Ok.ensures.taken.1, c.split_at-in-loop-taken.ensures.back_len);
      needed = subst (λ (o : Option Header). Needs limits (pending_at o after) c.advance_once.new.needed) none c.in-Ok.ensures.needed;
      stands = λ s stands.
          let first = c.loop-taken.invariant.stands s stands in
          let whole = step-step limits s (take n c.args.piece.now) (take m left) (take (n + m) c.args.piece.now) c.in-Ok.step.complete c.loop-taken.frame.items after (entries c.loop-taken.parts.items) (entries c.advance_once.new.parts.items)
          (next n m c.args.piece.now left c.split_at-in-loop-taken.ensures.back) first (c.in-Ok.ensures.stands (s ++ take n c.args.piece.now) first.stands) in
          subst (λ (o : Option Header). IsStep limits s (take (n + m) c.args.piece.now) o after (entries c.advance_once.new.parts.items)) none whole;
      empty = λ e. absurd (omega (arith, ap length e, c.loop-taken-test.true));
      within = λ w. c.in-Ok.ensures.within (c.loop-taken.invariant.within w);
    }

pub returns-clause-empty : goal.returns-clause-empty
returns-clause-empty c = λ e.
    let same = c.loop-taken.invariant.empty e in
    (tt, (omega (arith, ap length e, c.loop-taken.invariant.in_range), refl), same.0, same.1)
