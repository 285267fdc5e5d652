use Rattle.std.proofs.Common.{ℕ, cond, ap, arith}
use Rattle.ft_log.specs.Shelf.{is_stale}
use Rattle.ft_log.proofs.Placing.{count_more}
use Rattle.ft_log.proofs.shelf.Shelf.stale_of.Goals as goal

pub loop-place-preserved : goal.loop-place-preserved
loop-place-preserved c =
    let more = count_more (is_stale c.args.now c.args.client_id.now) c.args.self.now.outcomes.entries c.loop-place.place (omega (arith, c.loop-place-test.true, c.len-place-end.ensures.len)) in
    let no = ap {B = ℕ} (λ b. cond b 1 0) c.in_default.ensures.none in
    omega (arith, c.loop-place.invariant, more, no)
