use Rattle.std.proofs.Common.{ap, ◌∙◌, arith}
use Rattle.ft_log.specs.Keys.{held_of}
use Rattle.ft_log.specs.Kept.{keys_of}
use Rattle.ft_log.specs.Logged.{Logged}
use Rattle.ft_log.proofs.Seen.{seen}
use Rattle.ft_log.proofs.log.Log.held_by.Goals as goal

pub returns-clause-held : goal.returns-clause-held
returns-clause-held c =
    let old = seen c.self.inside.clock c.self.inside.store c.args.self.now c.self.view_is in
    c.held_from.ensures.held ∙ ap (λ (l : Logged). held_of c.args.client_id.now (keys_of l.entries)) old

pub returns-clause-bound : goal.returns-clause-bound
returns-clause-bound c =
    let old = seen c.self.inside.clock c.self.inside.store c.args.self.now c.self.view_is in
    omega (arith, c.held_from.ensures.bound, ap (λ (l : Logged). l.share) old)
