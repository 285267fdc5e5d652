use Rattle.std.proofs.Common.{ℕ, ◌+◌, Option, List, take, sym, subst, arith}
use Rattle.ft_log.specs.Shelf.{IsLeast}
use Rattle.ft_log.specs.declared.name.Name.{Name}
use Rattle.ft_log.specs.declared.shelf.Kept.{Kept}
use Rattle.ft_log.proofs.Scanned.{least_more}
use Rattle.ft_log.proofs.shelf.Shelf.least_from.Goals as goal

pub loop-place-preserved : goal.loop-place-preserved
loop-place-preserved c =
    let es : List (Name × Kept) = c.args.self.now.outcomes.entries in
    let more = least_more c.args.now c.loop-place.least es c.loop-place.place (omega (arith, c.loop-place-test.true, c.len-place-end.ensures.len)) c.loop-place.invariant in
    subst (λ (o : Option ℕ). IsLeast c.args.now o (take (c.loop-place.place + 1) es)) (sym c.lesser_at-least.ensures) more
