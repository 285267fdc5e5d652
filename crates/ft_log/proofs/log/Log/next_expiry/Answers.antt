use Rattle.std.proofs.Common.{◌≤◌, ℕ, Option, MatchOption, ap, ◌∙◌, subst}
use Rattle.ft_log.specs.Kept.{least_expiration}
use Rattle.ft_log.specs.Logged.{Logged, logged}
use Rattle.ft_log.proofs.Live.{stays_least}
use Rattle.ft_log.proofs.Seen.{seen}
use Rattle.ft_log.proofs.log.Log.next_expiry.Goals as goal

pub returns-clause-least : goal.returns-clause-least
returns-clause-least c =
    let old = seen c.self.inside.clock c.self.inside.store c.args.self.now c.self.view_is in
    c.next_from.ensures ∙ ap (λ (l : Logged). least_expiration l.entries) old

pub returns-clause-stays : goal.returns-clause-stays
returns-clause-stays c = λ now h.
    let old = seen c.self.inside.clock c.self.inside.store c.args.self.now c.self.view_is in
    let least = c.next_from.ensures ∙ ap (λ (l : Logged). least_expiration l.entries) old in
    stays_least now (logged c.args.self.now).entries (subst (λ (o : Option ℕ). MatchOption o (Unit {0}) (λ t. now ≤ t)) least h)
