use Rattle.std.proofs.Common.{Bool, ℕ, ◌&&◌, cond, bytes_eq, nat_le, ap, sym, ◌∙◌, arith}
use Rattle.ft_log.specs.Maps.{key_in}
use Rattle.ft_log.specs.declared.name.Name.{Name}
use Rattle.ft_log.specs.declared.shelf.Kept.{Kept}
use Rattle.ft_log.proofs.Placing.{count_more}
use Rattle.ft_log.proofs.shelf.Shelf.held_by.Goals as goal
use Rattle.ft_log.proofs.shelf.Shelf.held_by.Goals.{then-is_held_at, else-is_held_at}

pub loop-place-preserved : goal.loop-place-preserved
loop-place-preserved c =
    let passes : Name × Kept → Bool = λ p. nat_le c.args.now p.1.until && bytes_eq (key_in p.0).client_id c.args.client_id.now in
    let more = count_more passes c.args.self.now.outcomes.entries c.loop-place.place (omega (arith, c.loop-place-test.true, c.len-place-end.ensures.len)) in
    elim c.if-is_held_at.branch [
      | then-is_held_at w ↦ let yes = ap {B = ℕ} (λ b. cond b 1 0) (sym c.is_held_at.ensures ∙ w.if-is_held_at.true) in omega (arith, w.held-is, c.loop-place.invariant, more, yes)
      | else-is_held_at w ↦ let no = ap {B = ℕ} (λ b. cond b 1 0) (sym c.is_held_at.ensures ∙ w.if-is_held_at.false) in omega (arith, w.held-is, c.loop-place.invariant, more, no)
    ]
