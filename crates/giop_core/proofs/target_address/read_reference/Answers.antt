use Rattle.giop_core.specs.Items.{contexts_left}
use Rattle.giop_core.proofs.Steps.{reference_writable}
use Rattle.giop_core.proofs.target_address.read_reference.Goals as goal

pub invariant_of-result : goal.invariant_of-result
invariant_of-result c =
    let old = c.args.cursor.now in
    let mid = c.string.new.self in
    let new = c.read_contexts.new.cursor in
    let first = c.in_ok-type_id.ensures in
    let second = rw first.1 at c.in_ok-profiles.ensures.reads in
    record {
      all_there = c.in_ok-profiles.ensures.all;
      writable = reference_writable c.read_fits.ensures old.order old.place old.rest (rw (← c.rest.ensures) c.are_octets.ensures) c.in_ok-type_id.type_id.now (contexts_left c.in_ok-profiles.profiles) mid.place mid.rest new.place new.rest first.0 second.0;
    }
