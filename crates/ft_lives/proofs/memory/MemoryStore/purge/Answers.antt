use Rattle.std.proofs.Common.{◌≡◌, ◌≤◌, ℕ, List, [], ap, max, arith, ◌∙◌}
use Rattle.ft_log.specs.Kept.{unexpired}
use Rattle.ft_lives.specs.declared.row.Kept.{Kept}
use Rattle.ft_lives.specs.Memory.{rows_in}
use Rattle.ft_lives.specs.Stores.{Row}
use Rattle.ft_lives.proofs.Looked.{purged}
use Rattle.ft_lives.proofs.memory.MemoryStore.purge.Goals as goal

pub returns : goal.returns
returns g c =
    let mark = c.max-mark.result in
    let was = c.args.self.now.mark in
    let items = c.args.self.now.rows.items in
    let is : mark ≡ max was c.args.moment = c.max-mark.ensures in
    let less : was ≤ mark = omega (arith, is) in
    let rows : unexpired mark (rows_in c.take_out.new.rows.items) ≡ unexpired (max was c.args.moment) (unexpired was (rows_in items)) =
    ap (λ (l : List Kept). unexpired mark (rows_in l)) c.take_out.ensures ∙ purged was mark items less ∙ ap (λ (m : ℕ). unexpired m (unexpired was (rows_in items))) is in
    λ i. record { store = record { rows = rows i; mark = is i }; state = c.args.self.now.servant; doubts = [] }
