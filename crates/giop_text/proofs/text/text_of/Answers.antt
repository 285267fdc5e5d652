use Rattle.std.proofs.Common.{◌<◌, length, refl, arith, append-nil}
use Rattle.std.proofs.lemmas.List.{take_more}
use Rattle.std.proofs.lemmas.Grind.{flat_map-append}
use Rattle.giop_text.proofs.text.text_of.Goals as goal

pub loop-octet-preserved : goal.loop-octet-preserved
loop-octet-preserved c =
    let i = c.loop-octet.octet-index in
    let here : i < length c.args.octets.now = omega arith in
    rw (take_more c.args.octets.now i 0 here, flat_map-append, c.in_ok-put_octet.ensures, c.loop-octet.invariant, append-nil) refl
