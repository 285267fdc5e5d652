-- Values that all of the octets spell would have been read, whatever follows.
use Rattle.std.proofs.Common.{◌≡◌, length, [], sym, subst, arith, Err}
use Rattle.std.proofs.lemmas.List.{append-nil}
use Rattle.cdr_core.specs.Answering.{ListReads}
use Rattle.giop_types.proofs.signature.Signature.values_in.Goals as goal

pub returns-in-Ok-2 : goal.returns-in-Ok-2
returns-in-Ok-2 c =
    λ vs spelled.
    let reads = c.in-Ok.ensures.only vs c.args.octets.now [] (sym (append-nil c.args.octets.now)) (rw c.deref.ensures.value spelled) in
    let all : c.in-Ok.count ≡ length c.args.octets.now = reads.1 in
    omega arith

pub returns-in-Err-Bad : goal.returns-in-Err-Bad
returns-in-Err-Bad c =
    λ vs spelled.
    let reads = c.in-Err-Bad.ensures.only vs c.args.octets.now [] (sym (append-nil c.args.octets.now)) (rw c.deref.ensures.value spelled) in
    subst (λ e. ListReads vs (length c.args.octets.now) (Err e)) c.in-Err-Bad.field-0-is reads
