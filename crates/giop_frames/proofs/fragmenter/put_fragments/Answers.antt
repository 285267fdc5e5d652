use Rattle.std.proofs.Common.{◌++◌, ℕ, List, [], true, sym, ap, ◌∙◌, arith}
use Rattle.std.proofs.lemmas.Result.{err_from_is_err_and}
use Rattle.std.specs.List.{flat_map}
use Rattle.giop_frames.specs.Cutting.{fragment_of, fragments_of, frame_octets, chunks_from}
use Rattle.giop_frames.proofs.Chunks.{appended-by, appended-more, cut-last, cut-more, kept-more}
use Rattle.giop_frames.proofs.fragmenter.put_fragments.Goals as goal

pub loop-left-preserved : goal.loop-left-preserved
loop-left-preserved c =
    let h = c.args.header.now in
    let id = c.args.id.now in
    let n = c.args.payload in
    let front = c.split_at.result.0.now in
    let others = c.split_at.result.1.now in
    let left = c.loop-left.left.now in
    let out = c.loop-left.out.items in
    let after = c.put_fragment.new.out.items in
    let x = frame_octets (fragment_of h id true front) in
    record {
      same = kept-more out after x (flat_map frame_octets (fragments_of h id (chunks_from n [] left))) (flat_map frame_octets (fragments_of h id (chunks_from n [] others))) _
          c.in_ok-put_fragment.ensures.ok (cut-more h id front others left n c.requires.some c.loop-left-test.true c.split_at.ensures.front c.split_at.ensures.back) c.loop-left.invariant.same;
      more = appended-more c.args.out.now.items out after c.loop-left.invariant.more (appended-by out after x c.in_ok-put_fragment.ensures.ok);
      small = omega (arith, c.loop-left.invariant.small, c.split_at.ensures.back_len);
    }

pub returns-clause-ok : goal.returns-clause-ok
returns-clause-ok c =
    let h = c.args.header.now in
    let id = c.args.id.now in
    let n = c.args.payload in
    let left = c.loop-left.left.now in
    let out = c.loop-left.out.items in
    c.in_ok-put_fragment-2.ensures.ok ∙ ap (λ (x : List ℕ). out ++ x) (sym (cut-last h id left n c.loop-left-test.false)) ∙ c.loop-left.invariant.same

pub put_fragment-requires-clause-cuts : goal.put_fragment-requires-clause-cuts
put_fragment-requires-clause-cuts c = c.requires.cuts

pub put_fragment-requires-clause-small : goal.put_fragment-requires-clause-small
put_fragment-requires-clause-small c = omega (arith, c.split_at.ensures.front_len, c.loop-left-test.true, c.loop-left.invariant.small)

pub put_fragment-requires-2-clause-cuts : goal.put_fragment-requires-2-clause-cuts
put_fragment-requires-2-clause-cuts c = c.requires.cuts

pub put_fragment-requires-2-clause-small : goal.put_fragment-requires-2-clause-small
put_fragment-requires-2-clause-small c = c.loop-left.invariant.small

pub returns-in_err-put_fragment-clause-ok : goal.returns-in_err-put_fragment-clause-ok
returns-in_err-put_fragment-clause-ok c =
    let p = err_from_is_err_and c.from_residual.result c.from_residual.ensures.1 in
    rw (p.1) tt

pub returns-in_err-put_fragment-clause-err : goal.returns-in_err-put_fragment-clause-err
returns-in_err-put_fragment-clause-err c =
    let p = err_from_is_err_and c.from_residual.result c.from_residual.ensures.1 in
    rw (p.1) (appended-more c.args.out.now.items c.loop-left.out.items c.put_fragment.new.out.items c.loop-left.invariant.more c.in_err-put_fragment.ensures.err)

pub returns-in_err-put_fragment-2-clause-ok : goal.returns-in_err-put_fragment-2-clause-ok
returns-in_err-put_fragment-2-clause-ok c =
    let p = err_from_is_err_and c.from_residual-in_err-put_fragment-2.result c.from_residual-in_err-put_fragment-2.ensures.1 in
    rw (p.1) tt

pub returns-in_err-put_fragment-2-clause-err : goal.returns-in_err-put_fragment-2-clause-err
returns-in_err-put_fragment-2-clause-err c =
    let p = err_from_is_err_and c.from_residual-in_err-put_fragment-2.result c.from_residual-in_err-put_fragment-2.ensures.1 in
    rw (p.1) (appended-more c.args.out.now.items c.loop-left.out.items c.put_fragment-2.new.out.items c.loop-left.invariant.more c.in_err-put_fragment-2.ensures.err)
