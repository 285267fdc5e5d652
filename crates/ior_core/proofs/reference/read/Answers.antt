use Rattle.std.proofs.Common.{inl, inr, refl, ◌∙◌}
use Rattle.std.proofs.lemmas.Result.{err_from_is_err_and}
use Rattle.cdr_core.specs.Form as form
use Rattle.cdr_core.specs.Parts.{text}
use Rattle.cdr_core.proofs.Memory.{if_memory}
use Rattle.ior_core.specs.Grammar.{tagged_list}
use Rattle.ior_core.proofs.Memory.{reference_stores}
use Rattle.ior_core.proofs.Structures.{member_fails, no_member, second_fails, structure_fails, structure_read, then_members}
use Rattle.ior_core.proofs.reference.read.Goals as goal

pub returns-in_err-string : goal.returns-in_err-string
returns-in_err-string c =
    let p = err_from_is_err_and c.from_residual.result c.from_residual.ensures.1 in
    rw (p.1, p.2) (structure_fails (member_fails c.in_err-string.ensures.0), tt)

pub returns-in_err-type_id : goal.returns-in_err-type_id
returns-in_err-type_id c =
    let p = err_from_is_err_and c.from_residual-in_err-type_id.result c.from_residual-in_err-type_id.ensures.1 in
    rw (p.1, p.2) (tt, reference_stores c.args.cursor.now.order c.args.cursor.now.place c.args.cursor.now.rest _ c.string.new.self.place c.string.new.self.rest c.string.new.self.place c.in_ok-string.ensures.0 (inl refl))

pub returns-in_err-profiles : goal.returns-in_err-profiles
returns-in_err-profiles c =
    let p = err_from_is_err_and c.from_residual-in_err-profiles.result c.from_residual-in_err-profiles.ensures.1 in
    let old = c.args.cursor.now in
    let mid = c.string.new.self in
    let may = rw (c.in_ok-string.ensures.1) at c.in_err-profiles.ensures.1 in
    rw (p.1, p.2) (
      second_fails text tagged_list form.no_forms old.place old.rest c.in_err-profiles.field-0.0 c.in_ok-string.ensures c.in_err-profiles.ensures.0,
      if_memory c.in_err-profiles.field-0.0 (λ h. reference_stores old.order old.place old.rest _ mid.place mid.rest c.read_list.new.cursor.place c.in_ok-string.ensures.0 (inr h)) may,
    )

pub returns : goal.returns
returns c = rw c.in_ok-type_id.ensures.items (structure_read (then_members c.in_ok-string.ensures (then_members c.in_ok-profiles.ensures no_member)), c.in_ok-profiles.ensures.1 ∙ c.in_ok-string.ensures.1)
