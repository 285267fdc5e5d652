use Rattle.cdr_core.specs.View.{values_of}
use Rattle.giop_core.proofs.Whole.{exception_put}
use Rattle.giop_core.proofs.exception.put_members.Goals as goal

pub returns : goal.returns
returns c =
    let a = c.args in
    exception_put a.writer.now a.exception.now (values_of a.members.now) a.out.now.items c.string.new.out.items c.values.new.out.items c.requires.start c.in_ok-string.ensures c.values.result c.values.ensures.ok c.values.ensures.err
