use Rattle.std.proofs.Common.{pos}
use Rattle.cdr_core.proofs.Appending.{stands, then_stands}
use Rattle.cdr_core.specs.Parts.{short_value, ulong_value}
use Rattle.cdr_core.specs.Value as value
use Rattle.giop_core.specs.Items.{contexts_left, tagged_value}
use Rattle.giop_core.specs.Private.{reference_value}
use Rattle.giop_core.specs.Written.{selected_as}
use Rattle.ior_core.proofs.Appended.{puts_or_keeps, puts_second}
use Rattle.giop_core.proofs.target_address.put_target.Goals as goal

pub octets-requires-clause-long : goal.octets-requires-clause-long
octets-requires-clause-long c = (rw c.in-Key.is at c.requires.writable).1.0

pub returns-in_ok-short-in-Key : goal.returns-in_ok-short-in-Key
returns-in_ok-short-in-Key c =
    let a = c.args in
    let w = a.writer.now in
    let key = value.octets c.in-Key.key.now in
    let mid = c.short.new.out.items in
    let new = c.octets.new.out.items in
    rw c.in-Key.is (puts_second w (short_value (pos 0)) a.out.now.items mid c.in_ok-short-in-Key.ensures c.requires.start key new c.octets.result (puts_or_keeps w key c.octets.result mid new c.octets.ensures))

pub put_tagged-requires-clause-long : goal.put_tagged-requires-clause-long
put_tagged-requires-clause-long c = (rw c.in-Profile.is at c.requires.writable).1.0.1.0

pub returns-in_ok-short-in-Profile : goal.returns-in_ok-short-in-Profile
returns-in_ok-short-in-Profile c =
    let a = c.args in
    let profile = tagged_value (c.in-Profile.tag, c.in-Profile.octets.now) in
    rw c.in-Profile.is (puts_second a.writer.now (short_value (pos 1)) a.out.now.items c.short-in-Profile.new.out.items c.in_ok-short-in-Profile.ensures c.requires.start profile c.put_tagged.new.out.items c.put_tagged.result c.put_tagged.ensures)

pub put_reference-requires-clause-writable : goal.put_reference-requires-clause-writable
put_reference-requires-clause-writable c = (rw c.in-Reference.is at c.requires.writable).1.0.1.0

pub returns-in_ok-ulong-in-Reference : goal.returns-in_ok-ulong-in-Reference
returns-in_ok-ulong-in-Reference c =
    let a = c.args in
    let w = a.writer.now in
    let one = c.in-Reference.reference in
    let index = c.in-Reference.index in
    let mid = c.short-in-Reference.new.out.items in
    let new = c.put_reference.new.out.items in
    let le = (then_stands _ (stands c.requires.start) c.in_ok-short-in-Reference.ensures).0 in
    let both = puts_second w (ulong_value index) mid c.ulong.new.out.items c.in_ok-ulong-in-Reference.ensures le (reference_value one) new c.put_reference.result c.put_reference.ensures in
    rw c.in-Reference.is (puts_second w (short_value (pos 2)) a.out.now.items mid c.in_ok-short-in-Reference.ensures c.requires.start (selected_as index one.type_id.now (contexts_left one.profiles)) new c.put_reference.result both)
