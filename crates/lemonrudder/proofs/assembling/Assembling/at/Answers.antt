use Rattle.std.proofs.Common.{ℕ, List, Some, None, option_map, ap, sym}
use Rattle.giop_core.specs.Items.{item_at}
use Rattle.lemonrudder.specs.Assembled.{Assembled}
use Rattle.lemonrudder.proofs.Lending.{at_copy, at_index, past_index}
use Rattle.lemonrudder.proofs.assembling.Assembling.at.Goals as goal

pub returns-in_err-id : goal.returns-in_err-id
returns-in_err-id c =
    at_copy c.args.self.now c.self.inside.assembler.message c.in-Some.copies.items c.args.index _ None (sym (ap (λ (s : Assembled). s.assembler.message) c.self.view_is)) (c.self.invariant c.in-Some.copies c.in-Some.is) (past_index _ _ _ c.deref.ensures.value c.in_err-id.ensures.lookup.0) (sym (ap (option_map item_at) c.from_residual.ensures))

pub returns-in-Some : goal.returns-in-Some
returns-in-Some c =
    at_copy c.args.self.now c.self.inside.assembler.message c.in-Some.copies.items c.args.index _ (Some c.in_ok-id.field-0.now) (sym (ap (λ (s : Assembled). s.assembler.message) c.self.view_is)) (c.self.invariant c.in-Some.copies c.in-Some.is) (at_index _ _ _ c.in_ok-id.field-0.now c.deref.ensures.value c.in_ok-id.ensures.lookup.0 c.in_ok-id.ensures.lookup.1) (ap (λ (xs : List ℕ). Some (c.in_ok-id.field-0.now.0, xs)) (sym c.as_slice.ensures.value))
