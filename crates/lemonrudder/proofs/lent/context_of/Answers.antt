use Rattle.std.proofs.Common.{◌∙◌, slice_get, option_map, ap, refl, sym}
use Rattle.std.specs.Option.{option_and_then}
use Rattle.std.proofs.lemmas.Iterator.Consumers.{YieldsList-from_first, nth_from_yields_List}
use Rattle.giop_core.specs.Items.{contexts_left, item_at}
use Rattle.lemonrudder.proofs.lent.context_of.Goals as goal

pub returns : goal.returns
returns c =
    let found = nth_from_yields_List c.nth.result _ c.args.index c.nth.ensures.ran (YieldsList-from_first item_at contexts_left (contexts_left c.in_ok-contexts.contexts) refl) in
    found ∙ ap (option_and_then (λ all. slice_get all c.args.index)) (sym (ap (option_map contexts_left) c.in_ok-contexts.was) ∙ c.contexts_of.ensures)
