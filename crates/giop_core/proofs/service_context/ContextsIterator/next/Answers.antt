use Rattle.std.proofs.Common.{◌≡◌, ◌-◌, suc, ◌∷◌, ◌<◌, length, ap, arith, rules}
use Rattle.giop_core.specs.Items.{contexts_left, item_at}
use Rattle.giop_core.specs.declared.service_context.Contexts.{Contexts}
use Rattle.giop_core.proofs.Passing.{items_next}
use Rattle.giop_core.proofs.service_context.ContextsIterator.next.Goals as goal

pub returns-in-Ok-clause-steps : goal.returns-in-Ok-clause-steps
returns-in-Ok-clause-steps c =
    let old = c.args.self.now in
    let new = c.read_tagged.new.cursor in
    let read = c.in-Ok.ensures in
    let one : old.left ≡ suc (old.left - 1) = omega (arith, c.if-self-eq0.false) in
    rw read.1 (items_next old.cursor.order old.left (old.left - 1) old.cursor.place old.cursor.rest (item_at c.in-Ok.item) new.place new.rest read.0 one)

pub returns-in-Ok-clause-goes : goal.returns-in-Ok-clause-goes
returns-in-Ok-clause-goes c =
    let old = c.args.self.now in
    let new : Contexts = record { cursor = c.read_tagged.new.cursor; left = old.left - 1 } in
    let steps : contexts_left old ≡ item_at c.in-Ok.item ∷ contexts_left new = returns-in-Ok-clause-steps c in
    let more : length (contexts_left new) < length (contexts_left old) = omega (arith, ap length steps) in
    record { on = λ f. (search rules, search rules, more); keeps = search rules; rests = λ f. search rules }
