use Rattle.std.proofs.Common.{◌≡◌, ◌∙◌, ◌==◌, false, length, Err, inl, ap, sym, subst}
use Rattle.std.proofs.lemmas.Result.{err_from_is_err_and}
use Rattle.lemonrudder.specs.RawCalls.{ReadsContexts}
use Rattle.lemonrudder.proofs.ContextLists.{again, at_error, at_fault, count_fails, left_after, read_whole}
use Rattle.lemonrudder.proofs.contexts.contexts_of.Goals as goal

pub judged-requires : goal.judged-requires
judged-requires c = record { some = sym c.is_empty.ensures ∙ c.if-is_empty.false }

pub returns-in_err-judged : goal.returns-in_err-judged
returns-in_err-judged c =
    let p = err_from_is_err_and c.from_residual.result c.from_residual.ensures.1 in
    subst (λ r. ReadsContexts c.args.order c.args.octets.now r) (sym (p.1 ∙ ap Err p.2)) (inl c.in_err-judged.ensures)

pub returns-in_err-count : goal.returns-in_err-count
returns-in_err-count c =
    let octets = c.args.octets.now in
    let order = c.args.order in
    let some : length octets == 0 ≡ false = sym c.is_empty.ensures ∙ c.if-is_empty.false in
    let h = rw c.new-cursor.ensures at c.in_err-count.ensures in
    let p = err_from_is_err_and c.from_residual-in_err-count.result c.from_residual-in_err-count.ensures.1 in
    subst (λ r. ReadsContexts order octets r) (sym (p.1 ∙ ap Err p.2)) (inl (at_fault order octets c.in_err-count.field-0.0 some (count_fails order octets c.in_err-count.field-0.0 h.0)))

pub returns-in_err-contexts : goal.returns-in_err-contexts
returns-in_err-contexts c =
    let octets = c.args.octets.now in
    let order = c.args.order in
    let some : length octets == 0 ≡ false = sym c.is_empty.ensures ∙ c.if-is_empty.false in
    let h = rw c.new-cursor.ensures at c.in_ok-count.ensures in
    let e = rw h.1 at c.in_err-contexts.ensures in
    let j = again order octets _ _ _ c.in_ok-judged.ensures h.0 in
    let p = err_from_is_err_and c.from_residual-in_err-contexts.result c.from_residual-in_err-contexts.ensures.1 in
    subst (λ r. ReadsContexts order octets r) (sym (p.1 ∙ ap Err p.2)) (at_error order octets _ _ _ c.in_err-contexts.field-0.0 j.0 j.1 some h.0 j.2 j.3 e.0 e.1)

pub returns : goal.returns
returns c =
    let octets = c.args.octets.now in
    let order = c.args.order in
    let some : length octets == 0 ≡ false = sym c.is_empty.ensures ∙ c.if-is_empty.false in
    let h = rw c.new-cursor.ensures at c.in_ok-count.ensures in
    let e = rw h.1 at c.in_ok-contexts.ensures in
    let j = again order octets _ _ _ c.in_ok-judged.ensures h.0 in
    read_whole order octets _ _ _ c.in_ok-contexts.contexts.items _ c.each_of.new.cursor.rest some h.0 e.0 (left_after _ _ _ _ _ _ j.3 e.0)
