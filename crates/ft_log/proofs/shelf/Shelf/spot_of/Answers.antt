use Rattle.std.proofs.Common.{ℤ, Some, None, option_map, ap, rules}
use mir.Syntax.{w32}
use mir.Val.{SFits}
use Rattle.ft_log.specs.declared.shelf.Kept.{Kept}
use Rattle.ft_log.proofs.Looked.{at_is}
use Rattle.ft_log.proofs.Queued.{if_none}
use Rattle.ft_log.proofs.shelf.Shelf.spot_of.Goals as goal

pub returns-in_err-place-clause-none : goal.returns-in_err-place-clause-none
returns-in_err-place-clause-none c =
    let z : ℤ = c.args.key.now.retention_id in
    let fits : SFits w32 z = search rules in
    if_none c.from_residual.result (at_is c.args.self.now.outcomes c.args.key.now.client_id.items c.as_slice.result.now z fits None c.as_slice.ensures.value c.in_err-place.ensures.value)

pub returns-clause-slot : goal.returns-clause-slot
returns-clause-slot c =
    let z : ℤ = c.args.key.now.retention_id in
    let fits : SFits w32 z = search rules in
    let k : Kept = c.in_ok-place.kept.now in
    ap (option_map (λ k. k.slot)) (at_is c.args.self.now.outcomes c.args.key.now.client_id.items c.as_slice.result.now z fits (Some k) c.as_slice.ensures.value c.in_ok-place.ensures.value)
