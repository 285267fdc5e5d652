use Rattle.std.proofs.lemmas.Result.{err_from_is_err_and}
use Rattle.cdr_core.proofs.Appending.{keeps_as, stands, then_stands}
use Rattle.cdr_core.specs.Parts.{ulong_value}
use Rattle.cdr_core.specs.Value as value
use Rattle.ior_core.proofs.Appended.{puts_or_keeps, puts_second}
use Rattle.ior_core.proofs.tagged.put.Goals as goal

pub returns : goal.returns
returns c =
    let one = c.args.one.now in
    let octets = rw c.deref.ensures.value at c.octets.ensures in
    let w = c.args.writer.now in
    let v = value.octets one.octets.items in
    let mid = c.ulong.new.out.items in
    let new = c.octets.new.out.items in
    puts_second w (ulong_value one.tag) c.args.out.now.items mid c.in_ok-ulong.ensures c.requires.start v new c.octets.result (puts_or_keeps w v c.octets.result mid new octets)
