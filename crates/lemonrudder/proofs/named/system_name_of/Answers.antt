use Rattle.std.proofs.Common.{◌≤◌, ap, sym, arith}
use Rattle.std.proofs.lemmas.Option.{slice_get_past}
use Rattle.lemonrudder.specs.Naming.{or_range, system_names}
use Rattle.lemonrudder.proofs.named.system_name_of.Goals as goal

pub returns-in_default : goal.returns-in_default
returns-in_default c =
    let past : 40 ≤ c.args.number = omega (arith, c.in_default.in_default-own) in
    ap or_range (sym (slice_get_past system_names c.args.number past))
