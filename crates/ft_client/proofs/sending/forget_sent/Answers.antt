use Rattle.std.proofs.Common.{◌<◌, length, map, sym, ◌∙◌, add-one, arith}
use Rattle.ft_client.specs.Keeping.{kept_by}
use Rattle.ft_client.proofs.Marking.{length_kept, unmarked_all, unmarked_step}
use Rattle.ft_client.proofs.sending.forget_sent.Goals as goal

pub loop-place-preserved : goal.loop-place-preserved
loop-place-preserved c =
    let ks = map kept_by c.loop-place.pending in
    let lt : c.loop-place.place < length ks = omega (arith, length_kept c.loop-place.pending) in
    record {
      same = c.mark.auto.pending ∙ c.loop-place.invariant.same;
      kept = rw (add-one, c.mark.ensures) (unmarked_step ks c.loop-place.place lt ∙ c.loop-place.invariant.kept);
    }

pub returns-clause-kept : goal.returns-clause-kept
returns-clause-kept c =
    let ks = map kept_by c.loop-place.pending in
    sym (unmarked_all ks c.loop-place.place (omega (arith, length_kept c.loop-place.pending))) ∙ c.loop-place.invariant.kept
