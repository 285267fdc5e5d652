use Rattle.std.proofs.Common.{ap, ◌∙◌}
use Rattle.ft_log.specs.Kept.{kept_for}
use Rattle.ft_log.specs.Logged.{Logged}
use Rattle.ft_log.specs.View.{key_of}
use Rattle.ft_log.proofs.Seen.{seen}
use Rattle.ft_log.proofs.log.Log.find.Goals as goal

pub returns : goal.returns
returns c =
    let old = seen c.self.inside.clock c.self.inside.store c.args.self.now c.self.view_is in
    c.find.ensures ∙ ap (λ (l : Logged). kept_for (key_of c.args.key.now) l.entries) old
