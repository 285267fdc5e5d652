use Rattle.std.proofs.Common.{map}
use Rattle.cdr_core.specs.declared.order.Order.TheVariants.{Big}
use Rattle.cdr_core.specs.View.{values_of}
use Rattle.giop_core.specs.Items.{item_at}
use Rattle.ft_orb.proofs.Carried.{short_written}
use Rattle.ft_orb.proofs.answering.Asker.put_results.Goals as goal

pub returns-in_default-clause-err : goal.returns-in_default-clause-err
returns-in_default-clause-err c =
    let a = c.args in
    short_written (map item_at a.contexts.now) a.self.version Big a.self.request_id 0 (values_of a.results.now) c.write_reply.result a.out.now.items c.write_reply.new.out.items c.requires.short c.requires.length c.write_reply.ensures
