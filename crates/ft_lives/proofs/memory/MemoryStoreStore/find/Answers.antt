use Rattle.std.proofs.Common.{◌≡◌, List, Option, None, Some, sym, ap, ◌∙◌}
use Rattle.std.specs.Option.{option_map}
use Rattle.ft_log.specs.Kept.{kept_for, unexpired}
use Rattle.ft_log.specs.Performed.{Performed}
use Rattle.ft_log.specs.View.{key_of}
use Rattle.ft_lives.specs.declared.row.Kept.{Kept}
use Rattle.ft_lives.specs.Memory.{rows_in}
use Rattle.ft_lives.proofs.Looked.{held-twice}
use Rattle.ft_lives.proofs.memory.MemoryStoreStore.find.Goals as goal

pub returns-in_default-clause-found : goal.returns-in_default-clause-found
returns-in_default-clause-found g c =
    let key = key_of c.args.key.now in
    let mark = c.args.self.now.mark in
    let rows : kept_for key (unexpired mark (rows_in c.args.self.now.rows.items)) ≡ kept_for key (unexpired mark (rows_in c.deref.result.now)) =
    ap (λ (l : List Kept). kept_for key (unexpired mark (rows_in l))) (sym c.deref.ensures.value) in
    (c.if-expiration-self.false, held-twice key mark (rows_in c.args.self.now.rows.items) ∙ rows ∙ sym c.in_default.ensures)

pub returns-in-Ok-clause-found : goal.returns-in-Ok-clause-found
returns-in-Ok-clause-found g c =
    let key = key_of c.args.key.now in
    let mark = c.args.self.now.mark in
    let rows : kept_for key (unexpired mark (rows_in c.args.self.now.rows.items)) ≡ kept_for key (unexpired mark (rows_in c.deref.result.now)) =
    ap (λ (l : List Kept). kept_for key (unexpired mark (rows_in l))) (sym c.deref.ensures.value) in
    (c.if-expiration-self.false, held-twice key mark (rows_in c.args.self.now.rows.items) ∙ rows ∙ sym c.in-Some.ensures ∙ ap (λ (p : Performed). Some p) (sym c.in-Ok.ensures))
