use Rattle.std.proofs.Common.{◌≡◌, true, subst}
use Rattle.ft_log.specs.Keys.{are_distinct}
use Rattle.ft_log.specs.Kept.{keys_of}
use Rattle.ft_log.specs.Logged.{Logged, logged}
use Rattle.ft_log.specs.Store.{shown}
use Rattle.ft_log.proofs.Seen.{distinct-unexpired, seen}
use Rattle.ft_log.proofs.log.Log.keys_are_distinct.Goals as goal

pub returns : goal.returns
returns c =
    let old = seen c.self.inside.clock c.self.inside.store c.args.self.now c.self.view_is in
    subst (λ (l : Logged). are_distinct (keys_of l.entries) ≡ true) old (distinct-unexpired c.self.inside.clock (logged (shown c.self.inside.store)).entries c.keys_are_distinct.ensures)
