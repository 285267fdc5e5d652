use Rattle.std.proofs.Common.{ℕ, List, sym, subst, arith}
use Rattle.std.proofs.lemmas.Result.{err_from_is_err_and}
use Rattle.giop_frames.specs.declared.deframer.Seen.TheVariants as seen
use Rattle.giop_frames.specs.declared.reassembly.Settled.TheVariants as settled
use Rattle.giop_frames.specs.Private.{Needs}
use Rattle.giop_frames.specs.Standing.{entries, framed}
use Rattle.giop_frames.proofs.Bounds.{whole-short}
use Rattle.giop_frames.proofs.Needs.{needs-nothing}
use Rattle.giop_frames.proofs.Stepping.{exact-as, fails-frame, fails-header, goes-done, goes-quiet, goes-waiting, keeps-done, needs-as, seen-as, settled-as, stays-done, stays-quiet}
use Rattle.giop_frames.proofs.assembler.advance_once.Goals as goal

pub returns-in_err-taken-clause-stands : goal.returns-in_err-taken-clause-stands
returns-in_err-taken-clause-stands c = λ s stands. let p = err_from_is_err_and c.from_residual.result c.from_residual.ensures.1 in rw (p.1, p.2) tt

pub returns-in_err-taken-clause-taken : goal.returns-in_err-taken-clause-taken
returns-in_err-taken-clause-taken c = let p = err_from_is_err_and c.from_residual.result c.from_residual.ensures.1 in rw p.1 tt

pub returns-in_err-taken-clause-needed : goal.returns-in_err-taken-clause-needed
returns-in_err-taken-clause-needed c = let p = err_from_is_err_and c.from_residual.result c.from_residual.ensures.1 in rw p.1 tt

pub returns-in_err-taken-clause-kept : goal.returns-in_err-taken-clause-kept
returns-in_err-taken-clause-kept c = let p = err_from_is_err_and c.from_residual.result c.from_residual.ensures.1 in rw p.1 tt

pub returns-in_err-taken-clause-within : goal.returns-in_err-taken-clause-within
returns-in_err-taken-clause-within c = λ w. let p = err_from_is_err_and c.from_residual.result c.from_residual.ensures.1 in rw p.1 tt

pub returns-in_err-settle-in-Whole-clause-stands : goal.returns-in_err-settle-in-Whole-clause-stands
returns-in_err-settle-in-Whole-clause-stands c = λ s stands. let p = err_from_is_err_and c.from_residual-in_err-settle-in-Whole.result c.from_residual-in_err-settle-in-Whole.ensures.1 in rw (p.1, p.2) tt

pub returns-in_err-settle-in-Whole-clause-taken : goal.returns-in_err-settle-in-Whole-clause-taken
returns-in_err-settle-in-Whole-clause-taken c = let p = err_from_is_err_and c.from_residual-in_err-settle-in-Whole.result c.from_residual-in_err-settle-in-Whole.ensures.1 in rw p.1 tt

pub returns-in_err-settle-in-Whole-clause-needed : goal.returns-in_err-settle-in-Whole-clause-needed
returns-in_err-settle-in-Whole-clause-needed c = let p = err_from_is_err_and c.from_residual-in_err-settle-in-Whole.result c.from_residual-in_err-settle-in-Whole.ensures.1 in rw p.1 tt

pub returns-in_err-settle-in-Whole-clause-kept : goal.returns-in_err-settle-in-Whole-clause-kept
returns-in_err-settle-in-Whole-clause-kept c = let p = err_from_is_err_and c.from_residual-in_err-settle-in-Whole.result c.from_residual-in_err-settle-in-Whole.ensures.1 in rw p.1 tt

pub returns-in_err-settle-in-Whole-clause-within : goal.returns-in_err-settle-in-Whole-clause-within
returns-in_err-settle-in-Whole-clause-within c = λ w. let p = err_from_is_err_and c.from_residual-in_err-settle-in-Whole.result c.from_residual-in_err-settle-in-Whole.ensures.1 in rw p.1 tt

pub returns-in-Waiting-clause-stands : goal.returns-in-Waiting-clause-stands
returns-in-Waiting-clause-stands c = λ s stands.
    goes-waiting c.args.limits.now c.args.frame.now.items c.gather.new.frame.items c.args.piece.now c.in_ok-taken.field-0.taken c.in_ok-taken.ensures.octets c.in_ok-taken.ensures.taken.1 (entries c.args.parts.now.items) s (seen-as c.args.limits.now c.gather.new.frame.items c.in_ok-taken.field-0.seen (seen.Waiting c.in-Waiting.more) c.in-Waiting.is c.in_ok-taken.ensures.seen) stands

pub returns-in-Waiting-clause-needed : goal.returns-in-Waiting-clause-needed
returns-in-Waiting-clause-needed c = needs-as c.args.limits.now c.gather.new.frame.items c.in_ok-taken.field-0.seen (seen.Waiting c.in-Waiting.more) c.in-Waiting.is c.in_ok-taken.ensures.needed

pub returns-in-Refused-clause-stands : goal.returns-in-Refused-clause-stands
returns-in-Refused-clause-stands c = λ s stands.
    let v = seen.Refused c.in-Refused.fault in
    fails-header c.args.limits.now c.args.frame.now.items c.gather.new.frame.items c.args.piece.now c.in_ok-taken.field-0.taken c.in_ok-taken.ensures.octets c.in_ok-taken.ensures.taken.1 (entries c.args.parts.now.items) s c.in-Refused.fault c.in_ok-taken.ensures.taken.0 (seen-as c.args.limits.now c.gather.new.frame.items c.in_ok-taken.field-0.seen v c.in-Refused.is c.in_ok-taken.ensures.seen) (exact-as c.gather.new.frame.items c.in_ok-taken.field-0.seen v c.in-Refused.is c.in_ok-taken.ensures.exact) stands

pub settle-requires-clause-short : goal.settle-requires-clause-short
settle-requires-clause-short c =
    let v = seen.Whole c.in-Whole.header in
    let b = c.gather.new.frame.items in
    omega (arith, whole-short c.args.limits.now b (framed c.in-Whole.header b) (sym (seen-as c.args.limits.now b c.in_ok-taken.field-0.seen v c.in-Whole.is c.in_ok-taken.ensures.seen)) (exact-as b c.in_ok-taken.field-0.seen v c.in-Whole.is c.in_ok-taken.ensures.exact))

pub returns-in-Quiet-clause-stands : goal.returns-in-Quiet-clause-stands
returns-in-Quiet-clause-stands c = λ s stands.
    let v = seen.Whole c.in-Whole.header in
    goes-quiet c.args.limits.now c.args.frame.now.items c.gather.new.frame.items c.args.piece.now c.in_ok-taken.field-0.taken c.in_ok-taken.ensures.octets c.in_ok-taken.ensures.taken.1 c.in-Whole.header c.in_ok-taken.ensures.taken.0 (seen-as c.args.limits.now c.gather.new.frame.items c.in_ok-taken.field-0.seen v c.in-Whole.is c.in_ok-taken.ensures.seen) (exact-as c.gather.new.frame.items c.in_ok-taken.field-0.seen v c.in-Whole.is c.in_ok-taken.ensures.exact) c.settle.new.frame.items (entries c.args.parts.now.items) (entries c.settle.new.parts.items) s (settled-as c.in_ok-settle-in-Whole.field-0 settled.Quiet c.args.limits.now c.in-Whole.header c.gather.new.frame.items c.settle.new.frame.items (entries c.args.parts.now.items) (entries c.settle.new.parts.items) c.in-Quiet.is c.in_ok-settle-in-Whole.ensures.by) stands

pub returns-in-Quiet-clause-needed : goal.returns-in-Quiet-clause-needed
returns-in-Quiet-clause-needed c = let k = (settled-as c.in_ok-settle-in-Whole.field-0 settled.Quiet c.args.limits.now c.in-Whole.header c.gather.new.frame.items c.settle.new.frame.items (entries c.args.parts.now.items) (entries c.settle.new.parts.items) c.in-Quiet.is c.in_ok-settle-in-Whole.ensures.by) in subst (λ (x : List ℕ). Needs c.args.limits.now x 12) (sym k.1) (needs-nothing c.args.limits.now)

pub returns-in-Quiet-clause-within : goal.returns-in-Quiet-clause-within
returns-in-Quiet-clause-within c = λ w.
    let v = seen.Whole c.in-Whole.header in
    stays-quiet c.args.limits.now c.args.frame.now.items c.gather.new.frame.items c.args.piece.now c.in_ok-taken.field-0.taken c.in_ok-taken.ensures.octets c.in_ok-taken.ensures.taken.1 c.in-Whole.header c.in_ok-taken.ensures.taken.0 (seen-as c.args.limits.now c.gather.new.frame.items c.in_ok-taken.field-0.seen v c.in-Whole.is c.in_ok-taken.ensures.seen) (exact-as c.gather.new.frame.items c.in_ok-taken.field-0.seen v c.in-Whole.is c.in_ok-taken.ensures.exact) c.settle.new.frame.items (entries c.args.parts.now.items) (entries c.settle.new.parts.items) (settled-as c.in_ok-settle-in-Whole.field-0 settled.Quiet c.args.limits.now c.in-Whole.header c.gather.new.frame.items c.settle.new.frame.items (entries c.args.parts.now.items) (entries c.settle.new.parts.items) c.in-Quiet.is c.in_ok-settle-in-Whole.ensures.by) w

pub returns-in-Done-clause-stands : goal.returns-in-Done-clause-stands
returns-in-Done-clause-stands c = λ s stands.
    let v = seen.Whole c.in-Whole.header in
    goes-done c.args.limits.now c.args.frame.now.items c.gather.new.frame.items c.args.piece.now c.in_ok-taken.field-0.taken c.in_ok-taken.ensures.octets c.in_ok-taken.ensures.taken.1 c.in-Whole.header c.in_ok-taken.ensures.taken.0 (seen-as c.args.limits.now c.gather.new.frame.items c.in_ok-taken.field-0.seen v c.in-Whole.is c.in_ok-taken.ensures.seen) (exact-as c.gather.new.frame.items c.in_ok-taken.field-0.seen v c.in-Whole.is c.in_ok-taken.ensures.exact) c.in-Done.joined c.settle.new.frame.items (entries c.args.parts.now.items) (entries c.settle.new.parts.items) s (settled-as c.in_ok-settle-in-Whole.field-0 (settled.Done c.in-Done.joined) c.args.limits.now c.in-Whole.header c.gather.new.frame.items c.settle.new.frame.items (entries c.args.parts.now.items) (entries c.settle.new.parts.items) c.in-Done.is c.in_ok-settle-in-Whole.ensures.by) stands

pub returns-in-Done-clause-needed : goal.returns-in-Done-clause-needed
returns-in-Done-clause-needed c = needs-nothing c.args.limits.now

pub returns-in-Done-clause-kept : goal.returns-in-Done-clause-kept
returns-in-Done-clause-kept c = let v = seen.Whole c.in-Whole.header in
    keeps-done c.args.limits.now c.args.frame.now.items c.gather.new.frame.items c.args.piece.now c.in_ok-taken.field-0.taken c.in_ok-taken.ensures.octets c.in_ok-taken.ensures.taken.1 c.in-Whole.header c.in_ok-taken.ensures.taken.0 (seen-as c.args.limits.now c.gather.new.frame.items c.in_ok-taken.field-0.seen v c.in-Whole.is c.in_ok-taken.ensures.seen) (exact-as c.gather.new.frame.items c.in_ok-taken.field-0.seen v c.in-Whole.is c.in_ok-taken.ensures.exact) c.in-Done.joined c.settle.new.frame.items (entries c.args.parts.now.items) (entries c.settle.new.parts.items) (settled-as c.in_ok-settle-in-Whole.field-0 (settled.Done c.in-Done.joined) c.args.limits.now c.in-Whole.header c.gather.new.frame.items c.settle.new.frame.items (entries c.args.parts.now.items) (entries c.settle.new.parts.items) c.in-Done.is c.in_ok-settle-in-Whole.ensures.by)

pub returns-in-Done-clause-within : goal.returns-in-Done-clause-within
returns-in-Done-clause-within c = λ w.
    let v = seen.Whole c.in-Whole.header in
    stays-done c.args.limits.now c.args.frame.now.items c.gather.new.frame.items c.args.piece.now c.in_ok-taken.field-0.taken c.in_ok-taken.ensures.octets c.in_ok-taken.ensures.taken.1 c.in-Whole.header c.in_ok-taken.ensures.taken.0 (seen-as c.args.limits.now c.gather.new.frame.items c.in_ok-taken.field-0.seen v c.in-Whole.is c.in_ok-taken.ensures.seen) (exact-as c.gather.new.frame.items c.in_ok-taken.field-0.seen v c.in-Whole.is c.in_ok-taken.ensures.exact) c.in-Done.joined c.settle.new.frame.items (entries c.args.parts.now.items) (entries c.settle.new.parts.items) (settled-as c.in_ok-settle-in-Whole.field-0 (settled.Done c.in-Done.joined) c.args.limits.now c.in-Whole.header c.gather.new.frame.items c.settle.new.frame.items (entries c.args.parts.now.items) (entries c.settle.new.parts.items) c.in-Done.is c.in_ok-settle-in-Whole.ensures.by) w

pub returns-in-Bad-clause-stands : goal.returns-in-Bad-clause-stands
returns-in-Bad-clause-stands c = λ s stands.
    let v = seen.Whole c.in-Whole.header in
    fails-frame c.args.limits.now c.args.frame.now.items c.gather.new.frame.items c.args.piece.now c.in_ok-taken.field-0.taken c.in_ok-taken.ensures.octets c.in_ok-taken.ensures.taken.1 c.in-Whole.header c.in_ok-taken.ensures.taken.0 (seen-as c.args.limits.now c.gather.new.frame.items c.in_ok-taken.field-0.seen v c.in-Whole.is c.in_ok-taken.ensures.seen) (exact-as c.gather.new.frame.items c.in_ok-taken.field-0.seen v c.in-Whole.is c.in_ok-taken.ensures.exact) c.settle.new.frame.items (entries c.args.parts.now.items) (entries c.settle.new.parts.items) s c.in-Bad.fault (settled-as c.in_ok-settle-in-Whole.field-0 (settled.Bad c.in-Bad.fault) c.args.limits.now c.in-Whole.header c.gather.new.frame.items c.settle.new.frame.items (entries c.args.parts.now.items) (entries c.settle.new.parts.items) c.in-Bad.is c.in_ok-settle-in-Whole.ensures.by) stands
