use Rattle.cdr_core.specs.Writing.{Appends}
use Rattle.cdr_core.specs.Value as value
use Rattle.ior_core.specs.View.{list_value}
use Rattle.ior_core.proofs.Appended.{puts_second}
use Rattle.ior_core.proofs.reference.put.Goals as goal

pub returns : goal.returns
returns c =
    let a = c.args in
    let w = a.writer.now in
    let id = value.string a.ior.now.type_id.items in
    let profiles = list_value a.ior.now.profiles.items in
    let old = a.out.now.items in
    let mid = c.string.new.out.items in
    let first : Appends w id old mid = rw (c.deref.ensures.value) at c.in_ok-string.ensures in
    let second = rw (c.deref-2.ensures.value) at c.put_list.ensures in
    puts_second w id old mid first c.requires.start profiles c.put_list.new.out.items c.put_list.result second
