use Rattle.std.proofs.Common.{Bool, ℕ, cond, nat_le, ap, sym, ◌∙◌, arith}
use Rattle.ft_log.specs.declared.name.Name.{Name}
use Rattle.ft_log.specs.declared.shelf.Kept.{Kept}
use Rattle.ft_log.proofs.Placing.{count_more}
use Rattle.ft_log.proofs.shelf.Shelf.len_from.Goals as goal
use Rattle.ft_log.proofs.shelf.Shelf.len_from.Goals.{then-is_live_at, else-is_live_at}

pub loop-place-preserved : goal.loop-place-preserved
loop-place-preserved c =
    let passes : Name × Kept → Bool = λ p. nat_le c.args.now p.1.until in
    let more = count_more passes c.args.self.now.outcomes.entries c.loop-place.place (omega (arith, c.loop-place-test.true, c.len-place-end.ensures.len)) in
    elim c.if-is_live_at.branch [
      | then-is_live_at w ↦ let yes = ap {B = ℕ} (λ b. cond b 1 0) (sym c.is_live_at.ensures ∙ w.if-is_live_at.true) in omega (arith, w.live-is, c.loop-place.invariant, more, yes)
      | else-is_live_at w ↦ let no = ap {B = ℕ} (λ b. cond b 1 0) (sym c.is_live_at.ensures ∙ w.if-is_live_at.false) in omega (arith, w.live-is, c.loop-place.invariant, more, no)
    ]
