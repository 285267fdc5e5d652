use Rattle.std.proofs.Common.{[], sym, ◌∙◌}
use Rattle.std.proofs.lemmas.List.{append-nil}
use Rattle.std.proofs.lemmas.Result.{err_from_is_err_and}
use Rattle.giop_frames.proofs.Chunks.{appended-by, appended-more, appended-none, appended-three}
use Rattle.giop_frames.proofs.fragmenter.put_fragment.Goals as goal

pub returns-in_err-extend_from_slice-clause-ok : goal.returns-in_err-extend_from_slice-clause-ok
returns-in_err-extend_from_slice-clause-ok c =
    let p = err_from_is_err_and c.from_residual.result c.from_residual.ensures.1 in
    rw (p.1) tt

pub returns-in_err-extend_from_slice-clause-err : goal.returns-in_err-extend_from_slice-clause-err
returns-in_err-extend_from_slice-clause-err c =
    let p = err_from_is_err_and c.from_residual.result c.from_residual.ensures.1 in
    rw (p.1) (appended-by c.args.out.now.items c.extend_from_slice.new.self.items [] (c.in_err-extend_from_slice.ensures.items ∙ sym (append-nil c.args.out.now.items)))

pub returns-in_err-extend_from_slice-2-clause-ok : goal.returns-in_err-extend_from_slice-2-clause-ok
returns-in_err-extend_from_slice-2-clause-ok c =
    let p = err_from_is_err_and c.from_residual-in_err-extend_from_slice-2.result c.from_residual-in_err-extend_from_slice-2.ensures.1 in
    rw (p.1) tt

pub returns-in_err-extend_from_slice-2-clause-err : goal.returns-in_err-extend_from_slice-2-clause-err
returns-in_err-extend_from_slice-2-clause-err c =
    let p = err_from_is_err_and c.from_residual-in_err-extend_from_slice-2.result c.from_residual-in_err-extend_from_slice-2.ensures.1 in
    rw (p.1) (appended-none c.args.out.now.items c.extend_from_slice.new.self.items c.extend_from_slice-2.new.self.items (appended-by c.args.out.now.items c.extend_from_slice.new.self.items _ c.in_ok-extend_from_slice.ensures.items) c.in_err-extend_from_slice-2.ensures.items)

pub returns-in_err-extend_from_slice-3-clause-ok : goal.returns-in_err-extend_from_slice-3-clause-ok
returns-in_err-extend_from_slice-3-clause-ok c =
    let p = err_from_is_err_and c.from_residual-in_err-extend_from_slice-3.result c.from_residual-in_err-extend_from_slice-3.ensures.1 in
    rw (p.1) tt

pub returns-in_err-extend_from_slice-3-clause-err : goal.returns-in_err-extend_from_slice-3-clause-err
returns-in_err-extend_from_slice-3-clause-err c =
    let p = err_from_is_err_and c.from_residual-in_err-extend_from_slice-3.result c.from_residual-in_err-extend_from_slice-3.ensures.1 in
    rw (p.1) (appended-none c.args.out.now.items c.extend_from_slice-2.new.self.items c.extend_from_slice-3.new.self.items (appended-more c.args.out.now.items c.extend_from_slice.new.self.items c.extend_from_slice-2.new.self.items (appended-by c.args.out.now.items c.extend_from_slice.new.self.items _ c.in_ok-extend_from_slice.ensures.items) (appended-by c.extend_from_slice.new.self.items c.extend_from_slice-2.new.self.items _ c.in_ok-extend_from_slice-2.ensures.items)) c.in_err-extend_from_slice-3.ensures.items)

pub returns-clause-ok : goal.returns-clause-ok
returns-clause-ok c =
    let head = rw c.write.ensures.spelled at c.in_ok-extend_from_slice.ensures.items in
    appended-three c.args.out.now.items c.extend_from_slice.new.self.items c.extend_from_slice-2.new.self.items c.extend_from_slice-3.new.self.items _ c.args.id.now c.args.octets.now head c.in_ok-extend_from_slice-2.ensures.items c.in_ok-extend_from_slice-3.ensures.items
