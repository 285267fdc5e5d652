use Rattle.std.proofs.Common.{◌∙◌, [], length, sym, arith, append-nil}
use Rattle.std.proofs.lemmas.Result.{err_from_is_err_and}
use Rattle.lemonrudder.proofs.Reading.{short-only}
use Rattle.lemonrudder.proofs.types.values_of.Goals as goal

pub returns-in_err-values-clause-only : goal.returns-in_err-values-clause-only
returns-in_err-values-clause-only c valid vs spelled =
    let octets = c.args.octets.now in
    let p = err_from_is_err_and c.from_residual.result c.from_residual.ensures.1 in
    let reads = rw c.in_err-values.was at (c.read_list.ensures.only vs octets [] (sym (append-nil octets)) spelled) in
    rw p.1 (p.2 ∙ short-only vs (length octets) _ reads)

pub returns-then-taken-octets-clause-only : goal.returns-then-taken-octets-clause-only
returns-then-taken-octets-clause-only c valid vs spelled =
    let octets = c.args.octets.now in
    let reads = rw c.in_ok-values.was at (c.read_list.ensures.only vs octets [] (sym (append-nil octets)) spelled) in
    let all = reads.1 in
    absurd (omega arith)

pub returns-clause-only : goal.returns-clause-only
returns-clause-only c valid vs spelled =
    let octets = c.args.octets.now in
    let reads = rw c.in_ok-values.was at (c.read_list.ensures.only vs octets [] (sym (append-nil octets)) spelled) in
    reads.0
