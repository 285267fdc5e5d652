use Rattle.std.proofs.Common.{◌+◌, arith}
use Rattle.std.proofs.lemmas.List.{length-drop}
use Rattle.giop_core.proofs.Whole.{front_kept}
use Rattle.giop_core.proofs.writing.put_header.Goals as goal

pub returns-in_default : goal.returns-in_default
returns-in_default c =
    let out = c.args.out.now.items in
    (grind (arith, c.in_default.ensures, c.len.ensures, c.args.out.now.ok.0, length-drop (c.args.start + 12) out), front_kept c.args.start out)
