use Rattle.std.proofs.Common.{arith}
use Rattle.cdr_core.specs.View.{values_of}
use Rattle.giop_core.proofs.Whole.{aligned_some}
use Rattle.giop_core.proofs.writing.put_aligned.Goals as goal

pub returns-else-len-aligned : goal.returns-else-len-aligned
returns-else-len-aligned c =
    aligned_some c.args.writer.now (values_of c.args.body.now) c.args.out.now.items c.align.new.out.items c.values.new.out.items c.requires.start c.in_ok-align.ensures.ok c.in_ok-values.ensures.ok
    (λ same. c.if-len-aligned.false (omega (arith, same, c.len.ensures, c.len-aligned.ensures, c.values.new.out.ok.0, c.align.new.out.ok.0)))
