use Rattle.cdr_core.specs.View.{values_of}
use Rattle.giop_core.proofs.Whole.{aligned_put}
use Rattle.giop_core.proofs.exception.put_exception.Goals as goal

pub returns-in_ok-align-in-V12 : goal.returns-in_ok-align-in-V12
returns-in_ok-align-in-V12 c =
    let a = c.args in
    rw c.in-V12.is (aligned_put a.writer.now a.exception.now (values_of a.members.now) a.out.now.items c.align.new.out.items c.put_members-in-V12.new.out.items c.requires.start c.in_ok-align-in-V12.ensures.ok c.put_members-in-V12.result c.put_members-in-V12.ensures)
