use Rattle.std.proofs.Common.{refl, ◌∙◌}
use Rattle.std.proofs.lemmas.Result.{err_from_is_err_and}
use Rattle.cdr_core.proofs.Appending.{begins, keeps_all, keeps_both, keeps_more}
use Rattle.giop_core.proofs.ItemsPut.{context_last, context_long, context_step}
use Rattle.giop_core.proofs.service_context.put_each.Goals as goal

pub returns-in_err-put_context : goal.returns-in_err-put_context
returns-in_err-put_context c =
    let p = err_from_is_err_and c.from_residual.result c.from_residual.ensures.1 in
    rw (p.1) (keeps_both c.args.out.now.items c.loop-one.out.items c.put_context.new.out.items c.loop-one.invariant.keeps c.in_err-put_context.ensures)

pub loop-one-preserved : goal.loop-one-preserved
loop-one-preserved c =
    let i = c.loop-one.invariant in
    let w = c.args.writer.now in
    let all = c.args.all.now in
    let n = c.loop-one.one-index in
    let now = c.loop-one.out.items in
    let new = c.put_context.new.out.items in
    let le = begins w.start c.args.out.now.items now c.requires.start i.keeps in
    let step = context_step w all n _ c.loop-one-test.true now new le c.in_ok-put_context.ensures i.writable in
    record {
      keeps = keeps_more c.args.out.now.items now new _ i.keeps c.in_ok-put_context.ensures;
      writable = step.0;
      whole = step.1 ∙ i.whole;
    }

pub loop-one-init : goal.loop-one-init
loop-one-init c = record {
  keeps = keeps_all c.args.out.now.items c.args.out.now.items refl;
  writable = c.requires.writable;
  whole = refl;
}

pub put_context-requires-clause-start : goal.put_context-requires-clause-start
put_context-requires-clause-start c = begins c.args.writer.now.start c.args.out.now.items c.loop-one.out.items c.requires.start c.loop-one.invariant.keeps

pub put_context-requires-clause-long : goal.put_context-requires-clause-long
put_context-requires-clause-long c = context_long c.args.writer.now c.args.all.now c.loop-one.one-index _ c.loop-one-test.true c.loop-one.invariant.writable

pub returns : goal.returns
returns c = context_last c.args.writer.now c.args.all.now c.loop-one.one-index c.loop-one.out.items c.loop-one-test.false ∙ c.loop-one.invariant.whole
