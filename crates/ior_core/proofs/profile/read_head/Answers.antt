use Rattle.std.proofs.Common.{◌∙◌}
use Rattle.std.proofs.lemmas.Result.{err_from_is_err_and}
use Rattle.ior_core.proofs.Structures.{member_fails, no_member, structure_fails, structure_read, then_fails, then_members}
use Rattle.ior_core.proofs.profile.read_head.Goals as goal

pub returns-in_err-major : goal.returns-in_err-major
returns-in_err-major c =
    let p = err_from_is_err_and c.from_residual.result c.from_residual.ensures.1 in
    rw (p.1, p.2) (structure_fails (member_fails c.in_err-major.ensures.0))

pub returns-in_err-minor : goal.returns-in_err-minor
returns-in_err-minor c =
    let p = err_from_is_err_and c.from_residual-in_err-minor.result c.from_residual-in_err-minor.ensures.1 in
    rw (p.1, p.2) (structure_fails (then_fails c.in_ok-major.ensures (member_fails c.in_err-minor.ensures.0)))

pub returns-in_err-host : goal.returns-in_err-host
returns-in_err-host c =
    let p = err_from_is_err_and c.from_residual-in_err-host.result c.from_residual-in_err-host.ensures.1 in
    rw (p.1, p.2) (structure_fails (then_fails c.in_ok-major.ensures (then_fails c.in_ok-minor.ensures (member_fails c.in_err-host.ensures.0))))

pub returns-in_err-port : goal.returns-in_err-port
returns-in_err-port c =
    let p = err_from_is_err_and c.from_residual-in_err-port.result c.from_residual-in_err-port.ensures.1 in
    rw (p.1, p.2) (structure_fails (then_fails c.in_ok-major.ensures (then_fails c.in_ok-minor.ensures (then_fails c.in_ok-host.ensures (member_fails c.in_err-port.ensures.0)))))

pub returns-in_err-object_key : goal.returns-in_err-object_key
returns-in_err-object_key c =
    let p = err_from_is_err_and c.from_residual-in_err-object_key.result c.from_residual-in_err-object_key.ensures.1 in
    rw (p.1, p.2) (structure_fails (then_fails c.in_ok-major.ensures (then_fails c.in_ok-minor.ensures (then_fails c.in_ok-host.ensures (then_fails c.in_ok-port.ensures (member_fails c.in_err-object_key.ensures.0))))))

pub returns : goal.returns
returns c = (structure_read (then_members c.in_ok-major.ensures (then_members c.in_ok-minor.ensures (then_members c.in_ok-host.ensures (then_members c.in_ok-port.ensures (then_members c.in_ok-object_key.ensures no_member))))), c.in_ok-object_key.ensures.1 ∙ c.in_ok-port.ensures.1 ∙ c.in_ok-host.ensures.1 ∙ c.in_ok-minor.ensures.1 ∙ c.in_ok-major.ensures.1)
