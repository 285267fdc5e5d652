use Rattle.std.proofs.Common.{◌≡◌, ◌+◌, ◌<◌, ◌++◌, [], ◌∷◌, length, take, refl, arith, append_assoc}
use Rattle.std.proofs.lemmas.List.{length-take-le, take_more}
use Rattle.giop_run.proofs.Lines.{lines_from_more}
use Rattle.giop_run.proofs.reference.put_profiles.Goals as goal

pub loop-place-preserved : goal.loop-place-preserved
loop-place-preserved c =
    let i = c.loop-place.place in
    let here : i < length c.args.all.now = omega arith in
    let grown : take (i + 1) c.args.all.now ≡ take i c.args.all.now ++ c.index-all-place.result ∷ [] = rw (take_more c.args.all.now i c.index-all-place.result here) (rw (← c.index-all-place.is) refl) in
    let taken : length (take i c.args.all.now) ≡ i = length-take-le i c.args.all.now (omega arith) in
    let many : 0 + length (take i c.args.all.now) ≡ i = omega (arith, taken) in
    rw (grown, lines_from_more, many, c.in_ok-put_profile.ensures, c.loop-place.invariant, append_assoc) refl
