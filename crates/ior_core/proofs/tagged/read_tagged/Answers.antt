use Rattle.std.proofs.Common.{◌∙◌}
use Rattle.std.proofs.lemmas.Result.{err_from_is_err_and}
use Rattle.ior_core.proofs.Structures.{member_fails, no_member, structure_fails, structure_read, then_fails, then_members}
use Rattle.ior_core.proofs.tagged.read_tagged.Goals as goal

pub returns-in_err-tag : goal.returns-in_err-tag
returns-in_err-tag c =
    let p = err_from_is_err_and c.from_residual.result c.from_residual.ensures.1 in
    rw (p.1, p.2) (structure_fails (member_fails c.in_err-tag.ensures.0))

pub returns-in_err-octets : goal.returns-in_err-octets
returns-in_err-octets c =
    let p = err_from_is_err_and c.from_residual-in_err-octets.result c.from_residual-in_err-octets.ensures.1 in
    rw (p.1, p.2) (structure_fails (then_fails c.in_ok-tag.ensures (member_fails c.in_err-octets.ensures.0)))

pub returns : goal.returns
returns c = (structure_read (then_members c.in_ok-tag.ensures (then_members c.in_ok-octets.ensures no_member)), c.in_ok-octets.ensures.1 ∙ c.in_ok-tag.ensures.1)
