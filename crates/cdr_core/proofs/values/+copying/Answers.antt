use Rattle.std.proofs.Common.{◌≡◌, Some, refl, sym, ap, ◌∙◌}
use Rattle.cdr_core.specs.Value as value
use Rattle.cdr_core.specs.View.{value_of}
use Rattle.cdr_core.proofs.Views.{one_more, value_of-Union}
use Rattle.cdr_core.proofs.values.+copying.Goals as goal

pub copied-returns-in_ok-member-in-Some : goal.copied-returns-in_ok-member-in-Some
copied-returns-in_ok-member-in-Some t c =
    let dis = c.in_ok-discriminator-in-Union in
    let mem = c.in_ok-member-in-Some in
    let d : value_of dis.discriminator.value ≡ value_of c.in-Union.discriminator.value = ap value_of dis.ensures.ok ∙ c.in_ok-copied-in-Union.ensures ∙ ap value_of c.deref-in-Union.ensures in
    let m : value_of mem.member.value ≡ value_of c.in-Some.member.value = ap value_of mem.ensures.ok ∙ c.in_ok-copied-in-Some.ensures ∙ ap value_of c.deref-in-Some.ensures in
    let old : value_of c.args.value.now ≡ value.union (value_of c.in-Union.discriminator.value) (value.value (value_of c.in-Some.member.value) value.no_values) =
    ap value_of c.in-Union.is ∙ value_of-Union c.in-Union.discriminator c.in-Union.member ∙ rw c.in-Some.is refl in
    value_of-Union dis.discriminator (Some mem.member) ∙ rw (d, m) (sym old)

pub copied_all-loop-value-preserved : goal.copied_all-loop-value-preserved
copied_all-loop-value-preserved t c =
    rw c.in_ok-push.ensures.items (one_more c.args.all.now c.loop-value.copies.items c.loop-value.value-index c.in_ok-copied.field-0 c.value-item.result c.loop-value-test.true c.value-item.is c.in_ok-copied.ensures c.loop-value.invariant)
