use Rattle.std.proofs.Common.{◌≡◌, ℕ, List, Some, subst}
use Rattle.ft_objects.specs.Filling.{at, changed}
use Rattle.ft_objects.proofs.Named.{at_changed}
use Rattle.ft_objects.proofs.keyed.put.Goals as goal

pub returns-in-Ok-insert-clause-ok : goal.returns-in-Ok-insert-clause-ok
returns-in-Ok-insert-clause-ok g c = let up = c.in-Ok-insert.ensures.updates in subst (λ (k : List ℕ). at c.insert.new.self ≡ changed k (Some c.args.value) (at c.args.map.now)) c.in-Ok.ensures.items
    (at_changed c.args.map.now c.insert.new.self c.in-Ok.own.items (Some c.args.value) up.1 up.3)
