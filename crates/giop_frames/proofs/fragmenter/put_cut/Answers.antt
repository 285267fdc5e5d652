use Rattle.std.proofs.Common.{[], sym, ◌∙◌, arith}
use Rattle.std.proofs.Math.Facts.{Fits-of_lt}
use Rattle.std.proofs.lemmas.List.{append-nil}
use Rattle.std.proofs.lemmas.Result.{err_from_is_err_and}
use Rattle.std.specs.Int.{w32}
use Rattle.giop_frames.proofs.Chunks.{appended-by, appended-more, appended-none, can-fragment}
use Rattle.giop_frames.proofs.fragmenter.put_cut.Goals as goal

pub split_at-requires-2 : goal.split_at-requires-2
split_at-requires-2 c = omega (arith, c.split_at.ensures.front_len, c.requires.least)

pub overflow_cast-first : goal.overflow_cast-first
overflow_cast-first c = Fits-of_lt {w = w32} (omega (arith, c.split_at.ensures.front_len, c.split_at-2.ensures.back_len, c.if-message-size.false, c.requires.small))

pub returns-in_err-extend_from_slice-clause-ok : goal.returns-in_err-extend_from_slice-clause-ok
returns-in_err-extend_from_slice-clause-ok c =
    let p = err_from_is_err_and c.from_residual.result c.from_residual.ensures.1 in
    rw (p.1) tt

pub returns-in_err-extend_from_slice-clause-err : goal.returns-in_err-extend_from_slice-clause-err
returns-in_err-extend_from_slice-clause-err c =
    let p = err_from_is_err_and c.from_residual.result c.from_residual.ensures.1 in
    rw (p.1) (appended-by c.args.out.now.items c.extend_from_slice.new.self.items [] (c.in_err-extend_from_slice.ensures.items ∙ sym (append-nil c.args.out.now.items)))

pub returns-in_err-extend_from_slice-2-clause-ok : goal.returns-in_err-extend_from_slice-2-clause-ok
returns-in_err-extend_from_slice-2-clause-ok c =
    let p = err_from_is_err_and c.from_residual-in_err-extend_from_slice-2.result c.from_residual-in_err-extend_from_slice-2.ensures.1 in
    rw (p.1) tt

pub returns-in_err-extend_from_slice-2-clause-err : goal.returns-in_err-extend_from_slice-2-clause-err
returns-in_err-extend_from_slice-2-clause-err c =
    let p = err_from_is_err_and c.from_residual-in_err-extend_from_slice-2.result c.from_residual-in_err-extend_from_slice-2.ensures.1 in
    rw (p.1) (appended-by c.args.out.now.items c.extend_from_slice-2.new.self.items [] (c.in_err-extend_from_slice-2.ensures.items ∙ sym (append-nil c.args.out.now.items)))

pub returns-in_err-extend_from_slice-3-clause-ok : goal.returns-in_err-extend_from_slice-3-clause-ok
returns-in_err-extend_from_slice-3-clause-ok c =
    let p = err_from_is_err_and c.from_residual-in_err-extend_from_slice-3.result c.from_residual-in_err-extend_from_slice-3.ensures.1 in
    rw (p.1) tt

pub returns-in_err-extend_from_slice-3-clause-err : goal.returns-in_err-extend_from_slice-3-clause-err
returns-in_err-extend_from_slice-3-clause-err c =
    let p = err_from_is_err_and c.from_residual-in_err-extend_from_slice-3.result c.from_residual-in_err-extend_from_slice-3.ensures.1 in
    rw (p.1) (appended-none c.args.out.now.items c.extend_from_slice-2.new.self.items c.extend_from_slice-3.new.self.items (appended-by c.args.out.now.items c.extend_from_slice-2.new.self.items _ c.in_ok-extend_from_slice-2.ensures.items) c.in_err-extend_from_slice-3.ensures.items)

pub split_at-requires-3 : goal.split_at-requires-3
split_at-requires-3 c = omega (arith, c.id_length.ensures, c.split_at.ensures.front_len, c.split_at-2.ensures.back_len, c.requires.least)

pub overflow_sub-size : goal.overflow_sub-size
overflow_sub-size c = omega (arith, c.id_length.ensures, c.split_at-3.ensures.front_len, c.requires.least)

pub put_fragments-requires-clause-cuts : goal.put_fragments-requires-clause-cuts
put_fragments-requires-clause-cuts c = can-fragment c.args.header.now.version c.args.header.now.kind c.requires.cuts

pub returns-in_err-put_fragments-clause-ok : goal.returns-in_err-put_fragments-clause-ok
returns-in_err-put_fragments-clause-ok c =
    let p = err_from_is_err_and c.from_residual-in_err-put_fragments.result c.from_residual-in_err-put_fragments.ensures.1 in
    rw (p.1) tt

pub returns-in_err-put_fragments-clause-err : goal.returns-in_err-put_fragments-clause-err
returns-in_err-put_fragments-clause-err c =
    let p = err_from_is_err_and c.from_residual-in_err-put_fragments.result c.from_residual-in_err-put_fragments.ensures.1 in
    rw (p.1) (appended-more c.args.out.now.items c.extend_from_slice-3.new.self.items c.put_fragments.new.out.items (appended-more c.args.out.now.items c.extend_from_slice-2.new.self.items c.extend_from_slice-3.new.self.items (appended-by c.args.out.now.items c.extend_from_slice-2.new.self.items _ c.in_ok-extend_from_slice-2.ensures.items) (appended-by c.extend_from_slice-2.new.self.items c.extend_from_slice-3.new.self.items _ c.in_ok-extend_from_slice-3.ensures.items)) c.in_err-put_fragments.ensures.err)
