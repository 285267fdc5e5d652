use Rattle.std.proofs.Common.{◌+◌, drop, refl, sym}
use Rattle.cdr_core.specs.Cursor.{Position}
use Rattle.giop_core.proofs.Finding.{other_read}
use Rattle.giop_core.proofs.places.target_again.Goals as goal

pub returns : goal.returns
returns c =
    let octets = c.args.octets.now in
    let at : Position = record { order = c.args.order; place = 12 + c.args.start; rest = drop c.args.start octets } in
    let read = rw (c.skip.ensures.0, c.skip.ensures.1, c.skip.ensures.2, c.new-cursor.ensures) at c.in-Ok.ensures in
    sym (other_read c.args.order octets c.args.start at c.in-Ok.target c.read_any_target.new.cursor.place c.read_any_target.new.cursor.rest refl refl read.0).0
