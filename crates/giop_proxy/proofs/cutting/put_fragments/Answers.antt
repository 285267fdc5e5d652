use Rattle.std.proofs.Common.{[], true, arith, length-drop}
use Rattle.std.proofs.lemmas.Result.{err_from_is_err_and}
use Rattle.giop_frames.specs.Cutting.{fragment_of, frame_octets}
use Rattle.giop_frames.proofs.Chunks.{appended-by, appended-more}
use Rattle.giop_proxy.proofs.Fragmenting.{last-err, last-fragment, last-ok, next-fragment}
use Rattle.giop_proxy.proofs.cutting.put_fragments.Goals as goal

pub returns-in_err-put_fragment-clause-err : goal.returns-in_err-put_fragment-clause-err
returns-in_err-put_fragment-clause-err c =
    let p = err_from_is_err_and c.from_residual.result c.from_residual.ensures.1 in
    rw (p.1) (appended-more c.args.out.now.items c.loop-at.out.items c.put_fragment.new.out.items c.loop-at.invariant.more c.in_err-put_fragment.ensures.err)

pub loop-at-preserved : goal.loop-at-preserved
loop-at-preserved c =
    let i = c.loop-at.invariant in
    let h = c.args.header.now in
    let out = c.loop-at.out.items in
    let after = c.put_fragment.new.out.items in
    let left = c.loop-at.left.now in
    let front = c.split.result.0.now in
    let others = c.split.result.1.now in
    record {
      same = next-fragment h c.args.place c.loop-at.from c.loop-at.at-index c.args.cuts.now left out _ c.loop-at-test.true c.size_to-size.result front others after c.size_to-size.ensures.is c.split.ensures.front c.split.ensures.back c.in_ok-put_fragment.ensures.ok i.same;
      more = appended-more c.args.out.now.items out after i.more (appended-by out after (frame_octets (fragment_of h [] true front)) c.in_ok-put_fragment.ensures.ok);
      near = c.size_to-size.ensures.near i.near;
      small = rw (c.split.ensures.back, length-drop) (omega (arith, i.small));
    }

pub returns-clause-ok : goal.returns-clause-ok
returns-clause-ok c =
    last-ok c.put_fragment-2.result c.put_fragment-2.new.out.items _ _ c.put_fragment-2.ensures.ok
    (last-fragment c.args.header.now c.args.place c.loop-at.from c.loop-at.at-index c.args.cuts.now c.loop-at.left.now c.loop-at.out.items _ c.loop-at-test.false c.loop-at.invariant.same)

pub returns-clause-err : goal.returns-clause-err
returns-clause-err c = last-err c.put_fragment-2.result c.args.out.now.items c.loop-at.out.items c.put_fragment-2.new.out.items c.loop-at.invariant.more c.put_fragment-2.ensures.err
