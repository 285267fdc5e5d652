use Rattle.std.proofs.Common.{[], ◌∷◌}
use Rattle.std.proofs.lemmas.Result.{err_from_is_err_and}
use Rattle.cdr_core.proofs.Appending.{keeps_as, puts_one, puts_then, stands, then_stands}
use Rattle.cdr_core.specs.Parts.{octet_value, ushort_value}
use Rattle.cdr_core.specs.Value as value
use Rattle.cdr_core.specs.Value.{values}
use Rattle.ior_core.proofs.profile.put_head.Goals as goal

pub returns : goal.returns
returns c =
    let w = c.args.writer.now in
    let p = c.args.profile.now in
    let old = c.args.out.now.items in
    let le = c.requires.start in
    let minor = octet_value p.minor in
    let host = value.string p.host.items in
    let port = ushort_value p.port in
    let one = puts_one w (octet_value 1) old c.octet.new.out.items c.in_ok-octet.ensures in
    let two = puts_then w (values (octet_value 1 ∷ [])) minor old c.octet.new.out.items c.octet-2.new.out.items le one c.in_ok-octet-2.ensures in
    let three = puts_then w (values (octet_value 1 ∷ minor ∷ [])) host old c.octet-2.new.out.items c.string.new.out.items le two (rw c.deref.ensures.value at c.in_ok-string.ensures) in
    let four = puts_then w (values (octet_value 1 ∷ minor ∷ host ∷ [])) port old c.string.new.out.items c.ushort.new.out.items le three c.in_ok-ushort.ensures in
    puts_then w (values (octet_value 1 ∷ minor ∷ host ∷ port ∷ [])) (value.octets p.object_key.items) old c.ushort.new.out.items c.octets.new.out.items le four (rw c.deref-2.ensures.value at c.in_ok-octets.ensures)
