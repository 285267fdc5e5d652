use Rattle.std.proofs.Common.{length, ap, ◌∙◌, arith}
use Rattle.ft_log.specs.Logged.{Logged}
use Rattle.ft_log.proofs.Seen.{seen}
use Rattle.ft_log.proofs.log.Log.len.Goals as goal

pub returns-clause-length : goal.returns-clause-length
returns-clause-length c =
    let old = seen c.self.inside.clock c.self.inside.store c.args.self.now c.self.view_is in
    c.len_from.ensures.length ∙ ap (λ (l : Logged). length l.entries) old

pub returns-clause-bound : goal.returns-clause-bound
returns-clause-bound c =
    let old = seen c.self.inside.clock c.self.inside.store c.args.self.now c.self.view_is in
    omega (arith, c.len_from.ensures.bound, ap (λ (l : Logged). l.capacity) old)
