use Rattle.std.proofs.Common.{◌≡◌, ◌+◌, ◌<◌, ◌++◌, [], ◌∷◌, length, take, refl, arith, append_assoc}
use Rattle.std.proofs.lemmas.List.{take_more}
use Rattle.giop_run.proofs.Lines.{component_lines_more}
use Rattle.giop_run.proofs.reference.put_components.Goals as goal

pub loop-component-preserved : goal.loop-component-preserved
loop-component-preserved c =
    let i = c.loop-component.component-index in
    let here : i < length c.args.all.now = omega arith in
    let grown : take (i + 1) c.args.all.now ≡ take i c.args.all.now ++ c.component-item.result ∷ [] = rw (take_more c.args.all.now i c.component-item.result here) (rw (← c.component-item.is) refl) in
    rw (grown, component_lines_more, c.in_ok-put_component.ensures, c.loop-component.invariant, append_assoc) refl
