use Rattle.std.proofs.lemmas.Result.{err_from_is_err_and}
use Rattle.cdr_core.proofs.Appending.{enclosed_puts, keeps_all, keeps_as_kept, then_stands}
use Rattle.cdr_core.specs.declared.order.Order.TheVariants.{Big}
use Rattle.cdr_core.specs.Value.{values}
use Rattle.cdr_core.specs.Private.{joined}
use Rattle.ior_core.specs.Private.{head_values}
use Rattle.ior_core.specs.Profiles.{components_of}
use Rattle.ior_core.proofs.Appended.{enclosed_stands, puts_joined}
use Rattle.ior_core.proofs.profile.put.Goals as goal

pub returns : goal.returns
returns c =
    let w = c.in_ok-writer.writer in
    let p = c.args.profile.now in
    let head = head_values 1 p.minor p.host.items p.port p.object_key.items in
    let components = values (components_of p.minor p.components.items) in
    let opened = c.encapsulated.new.out.items in
    let mid = c.put_head.new.out.items in
    let new = c.put_components.new.out.items in
    let ordered = c.in_ok-writer.ensures in
    let le = (enclosed_stands ordered).0 in
    enclosed_puts Big (joined head components) w c.args.out.now.items opened new ordered.0 ordered.1 (puts_joined w head components opened mid new le c.in_ok-put_head.ensures c.in_ok-put_components.ensures)
