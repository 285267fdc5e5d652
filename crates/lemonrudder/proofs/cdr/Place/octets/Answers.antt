use Rattle.std.proofs.Common.{rules}
use Rattle.cdr_core.specs.Parts.{raw}
use Rattle.cdr_core.specs.Value as value
use Rattle.lemonrudder.proofs.Finding.{lends, octets_lie}
use Rattle.lemonrudder.proofs.cdr.Place.octets.Goals as goal

pub returns : goal.returns
returns c =
    let p = c.in_ok-cursor.cursor in
    let read = c.in_ok-found.ensures.0 in
    lends value.octets raw _ _ _ p _ _ _ _ (search rules) read c.follow.ensures c.behind_length-start.ensures (octets_lie c.read_is_spelled.ensures _ _ _ _ _ _ read)
