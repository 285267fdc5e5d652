use Rattle.std.proofs.Common.{◌≡◌, Bool, true, false, ℕ, ℤ, Option, Some, None, option_map, ap, ◌∙◌, rules, arith}
use Rattle.std.proofs.lemmas.Grind.{common_steps}
use Rattle.std.specs.Option.{option_map_or}
use mir.Syntax.{w32}
use mir.Val.{SFits}
use Rattle.ft_log.specs.Kept.{is_parked}
use Rattle.ft_log.specs.View.{holding_in}
use Rattle.ft_log.specs.declared.shelf.Kept.{Kept}
use Rattle.ft_log.proofs.Looked.{at_is}
use Rattle.ft_log.proofs.Queued.{if_none}
use Rattle.ft_log.proofs.shelf.Shelf.parked_at.Goals as goal

-- whether the call of this number is parked there
abbrev parked : ℕ → Option Kept → Bool
parked number o = option_map_or (λ h. is_parked number (holding_in h)) (option_map (λ k. k.outcome) o) false

pub returns-in_err-place-clause-none : goal.returns-in_err-place-clause-none
returns-in_err-place-clause-none c =
    let z : ℤ = c.args.key.now.retention_id in
    let fits : SFits w32 z = search rules in
    if_none c.from_residual.result (ap (parked c.args.number) (at_is c.args.self.now.outcomes c.args.key.now.client_id.items c.as_slice.result.now z fits None c.as_slice.ensures.value c.in_err-place.ensures.value))

pub returns-clause-none : goal.returns-clause-none
returns-clause-none c =
    let z : ℤ = c.args.key.now.retention_id in
    let fits : SFits w32 z = search rules in
    let k : Kept = c.in_ok-place.kept.now in
    let is : is_parked c.args.number (holding_in k.outcome) ≡ false = grind (arith, common_steps) in
    ap (parked c.args.number) (at_is c.args.self.now.outcomes c.args.key.now.client_id.items c.as_slice.result.now z fits (Some k) c.as_slice.ensures.value c.in_ok-place.ensures.value) ∙ is

pub returns-then-eq-clause-parked : goal.returns-then-eq-clause-parked
returns-then-eq-clause-parked c =
    let z : ℤ = c.args.key.now.retention_id in
    let fits : SFits w32 z = search rules in
    let k : Kept = c.in_ok-place.kept.now in
    let is : is_parked c.args.number (holding_in k.outcome) ≡ true = grind (arith, common_steps) in
    ap (parked c.args.number) (at_is c.args.self.now.outcomes c.args.key.now.client_id.items c.as_slice.result.now z fits (Some k) c.as_slice.ensures.value c.in_ok-place.ensures.value) ∙ is

pub returns-then-eq-clause-slot : goal.returns-then-eq-clause-slot
returns-then-eq-clause-slot c =
    let z : ℤ = c.args.key.now.retention_id in
    let fits : SFits w32 z = search rules in
    let k : Kept = c.in_ok-place.kept.now in
    ap (option_map (λ k. k.slot)) (at_is c.args.self.now.outcomes c.args.key.now.client_id.items c.as_slice.result.now z fits (Some k) c.as_slice.ensures.value c.in_ok-place.ensures.value)
