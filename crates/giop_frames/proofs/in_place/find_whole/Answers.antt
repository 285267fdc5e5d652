use Rattle.std.proofs.Common.{◌≡◌, ℕ, take, drop, sym, ap, ◌∙◌, arith}
use Rattle.giop_frames.specs.Frames.{frame_size}
use Rattle.giop_frames.proofs.Alone.{lies-whole}
use Rattle.giop_frames.proofs.in_place.find_whole.Goals as goal

pub returns-in-Ok-find : goal.returns-in-Ok-find
returns-in-Ok-find c =
    let piece = c.args.piece.now in
    let h = c.in-Ok.header in
    let size = c.frame_size-size.ensures in
    let front = c.split_at.ensures.front ∙ ap (λ (n : ℕ). take n piece) size in
    lies-whole c.args.limits.now piece c.in_ok-head.head.now c.split_at-2.result.1.now h c.find.new.self c.in_ok-head.ensures.cases.same c.in-Ok.ensures (sym c.if-not-is_alone.ensures)
    (omega (arith, size, c.if-size.false)) (omega (arith, size, c.if-piece-size.false)) (c.split_at-2.ensures.back ∙ ap (drop 12) front) c.in-Ok-find.ensures
