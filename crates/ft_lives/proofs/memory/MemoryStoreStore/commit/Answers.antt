use Rattle.std.proofs.Common.{◌≡◌, ◌++◌, ◌≤◌, ℕ, List, [], ◌∷◌, Option, None, Some, false, is_some, refl, sym, ap, ◌∙◌, arith, rules, cond, true}
use Rattle.std.proofs.lemmas.Grind.{common_steps}
use Rattle.ft_log.specs.Kept.{kept_for, unexpired}
use Rattle.ft_log.specs.Performed.{Performed}
use Rattle.ft_log.specs.View.{key_of, performed_in}
use Rattle.ft_orb.specs.Engines.{awaited_lent}
use Rattle.ft_lives.specs.declared.row.Kept.{Kept}
use Rattle.ft_lives.specs.Memory.{row_in, rows_in}
use Rattle.ft_lives.specs.Steps.{Doubt, ask_of}
use Rattle.ft_lives.specs.Stores.{Row}
use Rattle.ft_lives.proofs.Looked.{memory-done, memory-doubtful, nothing-there}
use Rattle.ft_lives.proofs.memory.MemoryStoreStore.commit.Goals as goal

pub returns-in-Ok-copy-clause-commit : goal.returns-in-Ok-copy-clause-commit
returns-in-Ok-copy-clause-commit g c =
    let key = key_of c.args.request.key.now in
    let mark = c.args.self.now.mark in
    let items = c.args.self.now.rows.items in
    let k : Kept = record { key = c.in-Ok.key; expiration = c.args.request.expiration; outcome = c.in-Ok-perform.outcome } in
    let d : Doubt = record { ask = ask_of 0 c.args.asked.now; key = key; expiration = c.args.request.expiration } in
    let now : c.push.new.self.items ≡ items ++ k ∷ [] = grind (arith, common_steps) in
    let same = c.in-Ok-copy.ensures in
    let is : row_in k ≡ record { key = key; expiration = c.args.request.expiration; outcome = performed_in c.in-Ok-copy.answer } =
    λ i. record { key = c.in-Ok.ensures i; expiration = c.args.request.expiration; outcome = sym same i } in
    let free : kept_for key (unexpired mark (rows_in items)) ≡ None =
    nothing-there key mark items c.deref.result.now c.held.result c.deref.ensures.value c.held.ensures (sym c.is_some.ensures ∙ c.if-is_some.false) in
    memory-done _ d mark items k (performed_in c.in-Ok-copy.answer) c.args.self.now.servant c.perform.new.self 0 c.push.new.self.items now is free c.if-request-self.false
    (c.in-Ok-perform.ensures.ok ∙ (λ i. (c.perform.new.self, sym same i)))

pub returns-in-Err-clause-commit : goal.returns-in-Err-clause-commit
returns-in-Err-clause-commit g c =
    let key = key_of c.args.request.key.now in
    let mark = c.args.self.now.mark in
    let items = c.args.self.now.rows.items in
    let k : Kept = record { key = c.in-Ok.key; expiration = c.args.request.expiration; outcome = c.in-Ok-perform.outcome } in
    let d : Doubt = record { ask = ask_of 0 c.args.asked.now; key = key; expiration = c.args.request.expiration } in
    let now : c.push.new.self.items ≡ items ++ k ∷ [] = grind (arith, common_steps) in
    let is : row_in k ≡ record { key = key; expiration = c.args.request.expiration; outcome = performed_in c.in-Ok-perform.outcome } =
    λ i. record { key = c.in-Ok.ensures i; expiration = c.args.request.expiration; outcome = performed_in c.in-Ok-perform.outcome } in
    let free : kept_for key (unexpired mark (rows_in items)) ≡ None =
    nothing-there key mark items c.deref.result.now c.held.result c.deref.ensures.value c.held.ensures (sym c.is_some.ensures ∙ c.if-is_some.false) in
    memory-doubtful _ d mark items k (performed_in c.in-Ok-perform.outcome) c.args.self.now.servant c.perform.new.self 0 c.push.new.self.items now is free c.if-request-self.false
    c.in-Ok-perform.ensures.ok
