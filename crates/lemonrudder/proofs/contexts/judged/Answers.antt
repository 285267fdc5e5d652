use Rattle.std.proofs.Common.{◌≡◌, ◌∙◌, ◌==◌, true, false, length, Err, ap, sym, subst}
use Rattle.std.proofs.lemmas.Result.{err_from_is_err_and}
use Rattle.lemonrudder.specs.RawCalls.{AreJudged}
use Rattle.lemonrudder.proofs.ContextLists.{at_fault, count_fails, each_fails, left_over, nothing_left}
use Rattle.lemonrudder.proofs.contexts.judged.Goals as goal

pub returns-in_err-count : goal.returns-in_err-count
returns-in_err-count c =
    let octets = c.args.octets.now in
    let order = c.args.order in
    let h = rw c.new-cursor.ensures at c.in_err-count.ensures in
    let p = err_from_is_err_and c.from_residual.result c.from_residual.ensures.1 in
    subst (λ r. AreJudged order octets r) (sym (p.1 ∙ ap Err p.2)) (at_fault order octets c.in_err-count.field-0.0 c.requires.some (count_fails order octets c.in_err-count.field-0.0 h.0))

pub returns-in_err-pass_each : goal.returns-in_err-pass_each
returns-in_err-pass_each c =
    let octets = c.args.octets.now in
    let order = c.args.order in
    let h = rw c.new-cursor.ensures at c.in_ok-count.ensures in
    let e = rw h.1 at c.in_err-pass_each.ensures in
    let p = err_from_is_err_and c.from_residual-in_err-pass_each.result c.from_residual-in_err-pass_each.ensures.1 in
    subst (λ r. AreJudged order octets r) (sym (p.1 ∙ ap Err p.2)) (at_fault order octets c.in_err-pass_each.field-0.0 c.requires.some (each_fails order octets _ _ _ c.in_err-pass_each.field-0.0 h.0 e))

pub returns-then-not-is_empty : goal.returns-then-not-is_empty
returns-then-not-is_empty c =
    let octets = c.args.octets.now in
    let order = c.args.order in
    let h = rw c.new-cursor.ensures at c.in_ok-count.ensures in
    let e = rw h.1 at c.in_ok-pass_each.ensures in
    let left : length c.pass_each.new.cursor.rest == 0 ≡ false = ap (λ xs. length xs == 0) (sym c.rest.ensures) ∙ sym c.is_empty.ensures ∙ c.if-not-is_empty.true in
    left_over order octets _ _ _ e.0 _ _ c.requires.some h.0 e.2 left

pub returns : goal.returns
returns c =
    let octets = c.args.octets.now in
    let order = c.args.order in
    let h = rw c.new-cursor.ensures at c.in_ok-count.ensures in
    let e = rw h.1 at c.in_ok-pass_each.ensures in
    let none : length c.pass_each.new.cursor.rest == 0 ≡ true = ap (λ xs. length xs == 0) (sym c.rest.ensures) ∙ sym c.is_empty.ensures ∙ c.if-not-is_empty.false in
    nothing_left order octets _ _ _ e.0 _ c.pass_each.new.cursor.rest h.0 e.1 e.2 none
