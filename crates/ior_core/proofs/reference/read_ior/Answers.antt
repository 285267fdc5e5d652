use Rattle.std.proofs.Common.{arith}
use Rattle.cdr_core.proofs.Appending.{front_left}
use Rattle.cdr_core.specs.Spelling.{Spells}
use Rattle.ior_core.specs.Grammar.{reference}
use Rattle.ior_core.specs.View.{ior_value}
use Rattle.ior_core.proofs.reference.read_ior.Goals as goal

pub overflow_sub-result : goal.overflow_sub-result
overflow_sub-result c =
    let a = c.args in
    let h = rw c.new-cursor.ensures at c.in_ok-ior.ensures.0 in
    let new = c.read.new.cursor in
    let v = ior_value c.in_ok-ior.ior in
    let t = c.read_is_spelled.ensures reference a.order a.at a.octets.now v new.place new.rest h in
    rw c.rest-left.ensures (front_left (Spells reference a.order v) a.at a.octets.now new.place new.rest t).0

pub returns : goal.returns
returns c =
    let a = c.args in
    let h = rw c.new-cursor.ensures at c.in_ok-ior.ensures.0 in
    let new = c.read.new.cursor in
    let v = ior_value c.in_ok-ior.ior in
    let t = c.read_is_spelled.ensures reference a.order a.at a.octets.now v new.place new.rest h in
    let f = front_left (Spells reference a.order v) a.at a.octets.now new.place new.rest t in
    rw c.rest-left.ensures (omega arith, rw (← f.1, ← f.2) h)
